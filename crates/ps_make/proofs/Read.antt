-- What is read in a chain's text.
use Rattle.std.proofs.Common.{◌≡◌, ℕ, zero, suc, ◌+◌, ◌≤◌, [], ◌∷◌, ◌++◌, length, refl, ap, ◌∙◌}
use Rattle.ps_text.specs.Canonical.{canonical_text, sentences_first}
use Rattle.ps_text.specs.Fronts.{IsTextOf}
use Rattle.ps_text.proofs.Canonicals.{canonical_front}
use Rattle.ps_text.proofs.Meant.{meaning_once}
use Rattle.ps_problem.specs.Problems.{Parts}
use Rattle.ps_problem.specs.Numbering.{problem_of}
use Rattle.ps_problem.specs.Written.{items_from}
use Rattle.ps_problem.proofs.Writing.{items-back}
use Rattle.ps_read.specs.Readings.{SpellsWhole}
use Rattle.ps_make.specs.declared.made.TheConstants.{MOST_LINKS}
use Rattle.ps_make.specs.Chain.{first_item, link, links_from, asked_of, made_items, made_text, made_problem}
use Rattle.ps_make.proofs.Few.{chain_few}
use Rattle.ps_make.proofs.Lawful.{chain_lawful, chain_reduced}

-- the text means the items
chain_front : (n : ℕ) → n ≤ MOST_LINKS → IsTextOf (made_text n) (made_items n)
chain_front n few = canonical_front (made_items n) (chain_lawful n few)

-- all of the text spells the problem of the items
pub spells : (n : ℕ) → n ≤ MOST_LINKS → SpellsWhole (made_text n) (made_problem n)
spells n few =
    let counts = chain_few n few in
    record { items = made_items n; front = chain_front n few; made = record { formulas = counts.formulas; within = counts.within; problem = refl } }

-- and no other
pub spells_one : (n : ℕ) (p : Parts) → n ≤ MOST_LINKS → SpellsWhole (made_text n) p → p ≡ made_problem n
spells_one n p few h =
    h.made.problem ∙ ap problem_of (meaning_once (made_text n) h.items (made_items n) (length (made_text n)) (length (made_text n)) h.front (chain_front n few))

-- the query stands behind the sentences
links_sorted : (n i m : ℕ) → sentences_first (links_from i n ++ asked_of m ∷ []) ≡ links_from i n ++ asked_of m ∷ []
links_sorted zero i m = refl
links_sorted (suc n) i m = ap (λ is. link i ∷ is) (links_sorted n (i + 1) m)

-- the text is the problem's canonical text
pub is_canonical : (n : ℕ) → canonical_text (items_from (made_problem n)) ≡ made_text n
is_canonical n = ap canonical_text (items-back (made_items n) (chain_reduced n) ∙ ap (λ is. first_item ∷ is) (links_sorted n 0 n))
