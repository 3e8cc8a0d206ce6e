pub mod Books
pub mod Sums
pub mod CommonUnits
pub mod ScaledRows
