use Rattle.ps_widening.proofs.Books.{book-bounds}
use Rattle.ps_widening.proofs.laws.books_bound_widenings.Goals as goal

pub returns : goal.returns
returns c = record { bound = book-bounds }
