pub mod Asking
pub mod Exit
pub mod Program
