pub mod LowerRow
