-- Spent searches: lawful steps, as many as the limit, none of which says less than was known, after which one more is due.
pub use Rattle.ps_clause.specs.Spent.{IsSpentSearch}
