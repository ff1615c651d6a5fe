pub mod JudgesPlan
pub mod Steps
