-- Lemmas on names
mod Plain
mod Narrow
mod Fronts
