-- How bytes are read as a POD. Source: SPA POD, "Types".
pub mod PodReading
