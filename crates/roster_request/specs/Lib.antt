pub mod Limits
pub mod CommandLine
