mod Guessed
mod Models
mod Needed
mod Parts
mod NotMet
mod SentLines
mod Short
