-- Which of a text's items passes a limit first.
use Rattle.std.specs.Prelude.{ℕ, ◌+◌, Bool, true, false, ◌&&◌, nat_lt, nat_le, List, [], ◌∷◌}
use Rattle.std.specs.Prelude.{◌++◌, Option, Some, None, Result, Ok, Err, length, is_some, if◌then◌else◌}
use Rattle.std.specs.List.{list_any}
use Rattle.ps_meaning.specs.Formula.{Formula}
use Rattle.ps_meaning.specs.Formula as formula
use Rattle.ps_meaning.specs.Statements.{Name, Statement, Plain, Linear, Item, Stated, Asked}
use Rattle.ps_formula.specs.declared.limits.TheConstants.{MOST_ATOMS, MOST_NODES}
use Rattle.ps_problem.specs.declared.excess.Excess.{Excess}
use Rattle.ps_problem.specs.declared.excess.Excess.TheVariants.{Atoms, Nodes, Bounds, Queries, Numbers}
use Rattle.ps_problem.specs.declared.limits.TheConstants.{MOST_BOUNDS, MOST_QUERIES}
use Rattle.ps_problem.specs.Numbering.{same_formula, numbered_for, numbered_in, names_among}
use Rattle.ps_problem.specs.Scales.{is_too_large}

-- an excess, and the item at which it comes, from 1 in the order of the text
pub record ItemExcess : Type 0 where
  pub excess : Excess
  pub item : ℕ

-- whether a formula is an atom
abbrev pub is_atom : Formula Name → Bool
is_atom (formula.Atom a) = true
is_atom f = false

-- what a new formula is too much of, where it doesn't fit behind some
abbrev pub excess_with : List (Formula Name) → Formula Name → Option Excess
excess_with fs f = if is_atom f && nat_le MOST_ATOMS (length (names_among fs)) then Some Atoms
    else (if nat_le MOST_NODES (length fs) then Some Nodes else None)

-- an excess, or else what comes without it
abbrev pub unless : {X E : Type 0} → Option E → Result X E → Result X E
unless (Some e) r = Err e
unless None r = r

-- formulas with further ones behind them, each once, up to the first that doesn't fit
abbrev pub with_formulas : List (Formula Name) → List (Formula Name) → Result (List (Formula Name)) Excess
with_formulas fs [] = Ok fs
with_formulas fs (g ∷ gs) = if list_any (same_formula g) fs then with_formulas fs gs
    else unless (excess_with fs g) (with_formulas (fs ++ g ∷ []) gs)

-- how many bounds a statement has
abbrev pub count_bounds : Statement → ℕ
count_bounds (Plain s) = if is_some s.upper then 2 else 1
count_bounds (Linear s) = if is_some s.upper then 2 else 1

-- the numbers of a linear statement are too large
abbrev pub has_large_numbers : Statement → Bool
has_large_numbers (Plain s) = false
has_large_numbers (Linear s) = is_too_large s

-- what a statement is too much of behind so many bounds, before its formulas are gone through
abbrev pub statement_excess : ℕ → Statement → Option Excess
statement_excess bounds s = if has_large_numbers s then Some Numbers
    else (if nat_lt MOST_BOUNDS (bounds + count_bounds s) then Some Bounds else None)

-- the result, or else the excess at an item
abbrev pub at_item : {X Y : Type 0} → ℕ → Result X Excess → (X → Result Y ItemExcess) → Result Y ItemExcess
at_item n (Err e) more = Err (record { excess = e; item = n })
at_item n (Ok x) more = more x

-- the formulas of the statements among items behind some formulas; so many items and bounds come before
abbrev pub with_statements : ℕ → ℕ → List (Formula Name) → List Item → Result (List (Formula Name)) ItemExcess
with_statements before bounds fs [] = Ok fs
with_statements before bounds fs (Asked q ∷ items) = with_statements (before + 1) bounds fs items
with_statements before bounds fs (Stated s ∷ items) = at_item (before + 1)
    (unless (statement_excess bounds s) (with_formulas fs (numbered_in s)))
    (λ gs. with_statements (before + 1) (bounds + count_bounds s) gs items)

-- the formulas of the questions among items behind some formulas; so many items and questions come before
abbrev pub with_questions : ℕ → ℕ → List (Formula Name) → List Item → Result (List (Formula Name)) ItemExcess
with_questions before asked fs [] = Ok fs
with_questions before asked fs (Stated s ∷ items) = with_questions (before + 1) asked fs items
with_questions before asked fs (Asked q ∷ items) = at_item (before + 1)
    (if nat_lt MOST_QUERIES (asked + 1) then Err Queries else with_formulas fs (numbered_for q.formula q.given))
    (λ gs. with_questions (before + 1) (asked + 1) gs items)

-- the first result where it is an excess, and else what follows it
abbrev pub after : {X E : Type 0} → Result X E → (X → Result X E) → Result X E
after (Err e) more = Err e
after (Ok x) more = more x

-- the different formulas of items, or the first excess: all statements are gone through and then all questions, and
-- at each its numbers come first, then the bounds or queries are counted, and then its formulas one by one
abbrev pub counted : List Item → Result (List (Formula Name)) ItemExcess
counted items = after (with_statements 0 0 [] items) (λ fs. with_questions 0 0 fs items)
