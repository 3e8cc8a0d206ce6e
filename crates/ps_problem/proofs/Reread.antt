-- The canonical text of a problem's items is read as the problem.
use Rattle.std.proofs.Common.{◌≡◌, ℕ, ◌+◌, ◌≤◌, nat_lt, List, [], ◌∷◌, ◌++◌, map, All, Option, Some, None, IfSome, Result, Ok, Err, refl, sym, ap, subst, ◌∙◌, if◌then◌else◌}
use Rattle.std.proofs.lemmas.List.Elements.{All-head, All-tail}
use Rattle.ps_meaning.specs.Formula.{Formula, Truth, Falsity, Atom, Not, And, Or, Implies, Iff}
use Rattle.ps_meaning.specs.Names.{IsName}
use Rattle.ps_meaning.specs.Statements.{Name, Summand, Statement, Plain, Linear, Question, Item, Stated, Asked, statements_of, questions_of}
use Rattle.ps_text.specs.Canonical.{canonical_nesting, listed, HasNames, IsWritable, IsWritableGiven, IsReducedWeight, AreWritable, IsLawfulItem, AreLawful}
use Rattle.ps_text.proofs.Canonicals.{canonical_front}
use Rattle.ps_text.proofs.Nesting.{nests_canonical}
use Rattle.ps_problem.specs.declared.limits.TheConstants.{MOST_QUERIES, MOST_NESTING}
use Rattle.ps_problem.specs.Problems.{Parts}
use Rattle.ps_problem.specs.Numbering.{same_name, place_in, names_among, numbered_for, numbered_in, formulas_of, problem_of}
use Rattle.ps_problem.specs.declared.excess.Excess.{Excess}
use Rattle.ps_problem.specs.declared.excess.Excess.TheVariants.{Queries}
use Rattle.ps_problem.specs.Counts.{ItemExcess, unless, with_formulas, count_bounds, statement_excess, at_item, with_statements, with_questions, after, counted}
use Rattle.ps_problem.specs.Drafts.{HasReducedValues, IsNested}
use Rattle.ps_problem.specs.Soundness.{IsProblem}
use Rattle.ps_problem.specs.Numbered.{IsAmong, HasQuestion, HasSummand}
use Rattle.ps_problem.specs.Making.{HasStatement}
use Rattle.ps_problem.specs.Written.{items_from}
use Rattle.ps_problem.specs.Rereading.{IsReread}
use Rattle.ps_problem.proofs.NameLists.{same_name-true, same_name-refl}
use Rattle.ps_problem.proofs.Lists.{place-below, place-get}
use Rattle.ps_problem.proofs.Orders.{Ordered, are-numbered}
use Rattle.ps_problem.proofs.Writing.{operands-among, items-back, problem-back}

-- names

module _ (fs : List (Formula Name)) (o : Ordered fs) (named : All IsName (names_among fs)) where
  has-names : (f : Formula Name) → IsAmong fs f → HasNames f
  has-names Truth a = tt
  has-names Falsity a = tt
  has-names (Atom n) a = let r = operands-among fs o (Atom n) a in
      subst IsName (place-get same_name same_name-true same_name-refl (names_among fs) n [] r) (named (place_in same_name (names_among fs) n) [] (place-below same_name (names_among fs) n r))
  has-names (Not f) a = has-names f (operands-among fs o (Not f) a)
  has-names (And f g) a = let r = operands-among fs o (And f g) a in (has-names f r.0, has-names g r.1)
  has-names (Or f g) a = let r = operands-among fs o (Or f g) a in (has-names f r.0, has-names g r.1)
  has-names (Implies f g) a = let r = operands-among fs o (Implies f g) a in (has-names f r.0, has-names g r.1)
  has-names (Iff f g) a = let r = operands-among fs o (Iff f g) a in (has-names f r.0, has-names g r.1)

  writable : (f : Formula Name) → IsAmong fs f → canonical_nesting f ≤ MOST_NESTING → IsWritable f
  writable f a h = record { names = has-names f a; nests = nests_canonical f h }

  given-writable : (g : Option (Formula Name)) → IfSome g (IsAmong fs) → IfSome g (λ f. canonical_nesting f ≤ MOST_NESTING) → IsWritableGiven g
  given-writable None a h = tt
  given-writable (Some g) a h = writable g a h

  questions-lawful : (items : List Item) → All (HasQuestion fs) (questions_of items) → All IsNested items → AreLawful (map Asked (questions_of items))
  questions-lawful [] h n = tt
  questions-lawful (Stated s ∷ items) h n = questions-lawful items h (All-tail IsNested (Stated s) items n)
  questions-lawful (Asked q ∷ items) h n =
      let a = All-head (HasQuestion fs) q (questions_of items) h in
      let k = All-head IsNested (Asked q) items n in
      ((writable q.formula a.formula k.0, given-writable q.given a.given k.1), questions-lawful items (All-tail (HasQuestion fs) q (questions_of items) h) (All-tail IsNested (Asked q) items n))

  are-writable : (ts : List Summand) → All (HasSummand fs) ts → All (λ t. canonical_nesting t.formula ≤ MOST_NESTING) ts → All (λ t. IsReducedWeight t.coefficient) ts → AreWritable ts
  are-writable [] a n v = tt
  are-writable (t ∷ ts) a n v = (
    (All-head (λ u. IsReducedWeight u.coefficient) t ts v, writable t.formula (All-head (HasSummand fs) t ts a) (All-head (λ u. canonical_nesting u.formula ≤ MOST_NESTING) t ts n)),
    are-writable ts (All-tail (HasSummand fs) t ts a) (All-tail (λ u. canonical_nesting u.formula ≤ MOST_NESTING) t ts n) (All-tail (λ u. IsReducedWeight u.coefficient) t ts v),
  )

  statement-lawful : (s : Statement) → HasStatement fs s → IsNested (Stated s) → HasReducedValues (Stated s) → IsLawfulItem (Stated s)
  statement-lawful (Plain s) a m v = (writable s.formula a.formula m.0, given-writable s.given a.given m.1, v.0, v.1)
  statement-lawful (Linear s) a m v = record { some = v.some; few = v.few; terms = are-writable s.terms a m v.coefficients; value = v.value; upper = v.upper }

  statements-lawful : (items more : List Item) → All (HasStatement fs) (statements_of items) → All IsNested items → All HasReducedValues items → AreLawful more → AreLawful (map Stated (statements_of items) ++ more)
  statements-lawful [] more h n l k = k
  statements-lawful (Asked q ∷ items) more h n l k = statements-lawful items more h (All-tail IsNested (Asked q) items n) (All-tail HasReducedValues (Asked q) items l) k
  statements-lawful (Stated s ∷ items) more h n l k = (
    statement-lawful s (All-head (HasStatement fs) s (statements_of items) h) (All-head IsNested (Stated s) items n) (All-head HasReducedValues (Stated s) items l),
    statements-lawful items more (All-tail (HasStatement fs) s (statements_of items) h) (All-tail IsNested (Stated s) items n) (All-tail HasReducedValues (Stated s) items l) k,
  )

-- counts: an order of statements first passes no limit either

at-both : {X Y : Type 0} (n m : ℕ) (r : Result X Excess) (more others : X → Result Y ItemExcess) (y : Y) → at_item n r more ≡ Ok y → ((x : X) → more x ≡ Ok y → others x ≡ Ok y) → at_item m r others ≡ Ok y
at-both n m (Ok x) more others y e h = h x e
at-both n m (Err x) more others y e h = absurd cc

no-statements : (m b : ℕ) (fs : List (Formula Name)) (qs : List Question) → with_statements m b fs (map Asked qs) ≡ Ok fs
no-statements m b fs [] = refl
no-statements m b fs (q ∷ qs) = no-statements (m + 1) b fs qs

statements-counted : (items : List Item) (n m b : ℕ) (fs gs : List (Formula Name)) (qs : List Question) → with_statements n b fs items ≡ Ok gs → with_statements m b fs (map Stated (statements_of items) ++ map Asked qs) ≡ Ok gs
statements-counted [] n m b fs gs qs e = no-statements m b fs qs ∙ e
statements-counted (Asked q ∷ items) n m b fs gs qs e = statements-counted items (n + 1) m b fs gs qs e
statements-counted (Stated s ∷ items) n m b fs gs qs e =
    at-both (n + 1) (m + 1) (unless (statement_excess b s) (with_formulas fs (numbered_in s)))
    (λ xs. with_statements (n + 1) (b + count_bounds s) xs items) (λ xs. with_statements (m + 1) (b + count_bounds s) xs (map Stated (statements_of items) ++ map Asked qs)) gs e
    (λ xs k. statements-counted items (n + 1) (m + 1) (b + count_bounds s) xs gs qs k)

questions-counted : (items : List Item) (n m a : ℕ) (fs gs : List (Formula Name)) → with_questions n a fs items ≡ Ok gs → with_questions m a fs (map Asked (questions_of items)) ≡ Ok gs
questions-counted [] n m a fs gs e = e
questions-counted (Stated s ∷ items) n m a fs gs e = questions-counted items (n + 1) m a fs gs e
questions-counted (Asked q ∷ items) n m a fs gs e =
    at-both (n + 1) (m + 1) (if nat_lt MOST_QUERIES (a + 1) then Err Queries else with_formulas fs (numbered_for q.formula q.given))
    (λ xs. with_questions (n + 1) (a + 1) xs items) (λ xs. with_questions (m + 1) (a + 1) xs (map Asked (questions_of items))) gs e
    (λ xs k. questions-counted items (n + 1) (m + 1) (a + 1) xs gs k)

skipped : (ss : List Statement) (items : List Item) (m a : ℕ) (fs gs : List (Formula Name)) → ((k : ℕ) → with_questions k a fs items ≡ Ok gs) → with_questions m a fs (map Stated ss ++ items) ≡ Ok gs
skipped [] items m a fs gs h = h m
skipped (s ∷ ss) items m a fs gs h = skipped ss items (m + 1) a fs gs h

counted-listed : (items : List Item) (gs : List (Formula Name)) → counted items ≡ Ok gs → counted (listed (statements_of items) (questions_of items)) ≡ Ok gs
counted-listed items gs e = by (with_statements 0 0 [] items) refl e
  where
    by : (r : Result (List (Formula Name)) ItemExcess) → with_statements 0 0 [] items ≡ r → after r (λ fs. with_questions 0 0 fs items) ≡ Ok gs → counted (listed (statements_of items) (questions_of items)) ≡ Ok gs
    by (Err x) s h = absurd cc
    by (Ok fs) s h =
        ap (λ r. after r (λ xs. with_questions 0 0 xs (listed (statements_of items) (questions_of items)))) (statements-counted items 0 0 0 [] fs (questions_of items) s)
        ∙ skipped (statements_of items) (map Asked (questions_of items)) 0 0 fs gs (λ k. questions-counted items 0 k 0 fs gs h)

-- the canonical text of a problem is read as the problem
pub reread : (p : Parts) → IsProblem p → IsReread p
reread p h = subst IsReread (sym h.numbered) made
  where
    named : All IsName (names_among (formulas_of h.items))
    named = subst (λ q. All IsName q.names) h.numbered h.named

    same : items_from (problem_of h.items) ≡ listed (statements_of h.items) (questions_of h.items)
    same = items-back h.items h.reduced

    lawful : AreLawful (items_from (problem_of h.items))
    lawful = let k = are-numbered h.items in subst AreLawful (sym same)
        (statements-lawful (formulas_of h.items) k.order named h.items (map Asked (questions_of h.items)) k.statements h.nested h.reduced (questions-lawful (formulas_of h.items) k.order named h.items k.questions h.nested))

    made : IsReread (problem_of h.items)
    made = record {
      front = canonical_front (items_from (problem_of h.items)) lawful;
      formulas = h.formulas;
      counts = ap counted same ∙ counted-listed h.items h.formulas h.within;
      made = problem-back h.items h.reduced;
    }
