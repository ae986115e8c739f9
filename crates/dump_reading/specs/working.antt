-- How a dump is read: its lines, the words of a line, and numbers, bytes and strings in it.
-- Source: this project's own.
pub mod Bytes
pub mod Cutting
pub mod Escapes
pub mod Heads
pub mod Keyed
pub mod Lines
pub mod Names
pub mod Numbers
pub mod Numerals
pub mod Strings
