pub mod AsBefore
pub mod Tests
pub mod Named
