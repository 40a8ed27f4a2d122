-- What the words of a command line ask for.
pub mod CommandLine
pub mod CommandTable
pub mod Files
pub mod Options
pub mod Plans
