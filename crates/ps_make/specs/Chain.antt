-- The problem of a chain of atoms, each of which almost surely implies the next: its items, and their canonical text.
use Rattle.std.specs.Prelude.{ℕ, zero, suc, ◌+◌, List, [], ◌∷◌, ◌++◌, None, codes, decimal}
use Rattle.ps_meaning.specs.Formula.{Formula, Atom, Implies}
use Rattle.ps_meaning.specs.declared.side.Side.TheVariants.{AtLeast}
use Rattle.ps_meaning.specs.Statements.{Name, Plain, Item, Stated, Asked}
use Rattle.ps_text.specs.Canonical.{canonical_text}
use Rattle.ps_problem.specs.Problems.{Parts}
use Rattle.ps_problem.specs.Numbering.{problem_of}

-- the atom of a number: `x0`, `x1` and so on
abbrev pub chain_atom : ℕ → Formula Name
chain_atom i = Atom (codes "x" ++ decimal i)

-- a sentence: the probability of a formula is at least a fraction
abbrev pub at_least : Formula Name → ℕ → ℕ → Item
at_least f num den = Stated (Plain (record {
  formula = f;
  given = None;
  side = AtLeast;
  value = record { num = num; den = den };
  upper = None;
}))

-- the first atom is probable: `P(x0) >= 9/10`
abbrev pub first_item : Item
first_item = at_least (chain_atom 0) 9 10

-- an atom almost surely implies the next: `P(x0 -> x1) >= 99/100`
abbrev pub link : ℕ → Item
link i = at_least (Implies (chain_atom i) (chain_atom (i + 1))) 99 100

-- so many links in order, the first of them from this atom
abbrev pub links_from : ℕ → ℕ → List Item
links_from i zero = []
links_from i (suc n) = link i ∷ links_from (i + 1) n

-- how probable an atom is: `query P(x1)`
abbrev pub asked_of : ℕ → Item
asked_of i = Asked (record { formula = chain_atom i; given = None })

-- the items of a chain with so many links: the first atom, the links, and the query for the last atom
abbrev pub made_items : ℕ → List Item
made_items n = first_item ∷ links_from 0 n ++ asked_of n ∷ []

-- their canonical text
abbrev pub made_text : ℕ → List ℕ
made_text n = canonical_text (made_items n)

-- their problem
abbrev pub made_problem : ℕ → Parts
made_problem n = problem_of (made_items n)
