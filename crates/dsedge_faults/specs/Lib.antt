-- What is told of faults, and how the program ends for them.
pub mod Advised
pub mod Faults
