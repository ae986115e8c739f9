-- Why the system refuses a file. Source: this project's own.
pub mod FileWhys
