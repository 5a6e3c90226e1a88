pub mod Escapes
pub mod Lacking
pub mod LineBytes
pub mod NameBytes
pub mod ReadBack
pub mod Results
pub mod Printed
