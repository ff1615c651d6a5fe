pub mod Markets
