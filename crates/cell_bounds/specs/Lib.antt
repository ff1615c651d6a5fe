pub mod Word
pub mod Sign
pub mod Tests
