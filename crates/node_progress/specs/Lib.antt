pub mod Standing
pub mod NodeCycles
pub mod NodeStates
pub mod Restarts
pub mod Ends
pub mod working
