-- What histories are cut by, and the order of ports. Source: this project's own.
pub mod HistoryFronts
pub mod PortOrder
