-- What is known of items of which none passes a limit.
use Rattle.std.proofs.Common.{◌≡◌, ℕ, ◌+◌, ◌<◌, ◌≤◌, Bool, true, false, ◌&&◌, nat_lt, nat_le, List, [], ◌∷◌, ◌++◌, length, map, All, Option, Some, None, is_some, Result, Ok, Err, refl, ap, ◌∙◌, if◌then◌else◌, arith}
use Rattle.std.specs.List.{list_any, fold}
use Rattle.std.specs.Option.{option_map}
use Rattle.std.proofs.lemmas.List.{append-nil, length_push, length-append}
use Rattle.std.proofs.lemmas.List.Elements.{All-nil, All-cons}
use Rattle.std.proofs.lemmas.Bool.Decides.{nat_tests}
use Rattle.ps_meaning.specs.Formula.{Formula, Atom}
use Rattle.ps_meaning.specs.declared.side.Side.TheVariants as side
use Rattle.ps_meaning.specs.Statements.{Name, Ratio, SignedRatio, Statement, Plain, Linear, Item, Stated, Asked, statements_of, questions_of}
use Rattle.ps_formula.specs.declared.limits.TheConstants.{MOST_ATOMS, MOST_NODES}
use Rattle.ps_problem.specs.declared.limits.TheConstants.{MOST_BOUNDS, MOST_QUERIES}
use Rattle.ps_problem.specs.declared.sentence.Sentence.TheVariants as sentence
use Rattle.ps_problem.specs.Problems.{LinearIn, bounds_of_sentence, bounds_in}
use Rattle.ps_problem.specs.Scales.{scaled, scale_of}
use Rattle.ps_problem.specs.Numbering.{same_formula, with_new, numbered_for, numbered_in, numbered_in_statements, numbered_in_questions, formulas_of, names_among, bound_in, linear_in, sentence_in}
use Rattle.ps_problem.specs.declared.excess.Excess.{Excess}
use Rattle.ps_problem.specs.declared.excess.Excess.TheVariants.{Atoms, Nodes, Bounds, Queries, Numbers}
use Rattle.ps_problem.specs.Counts.{ItemExcess, is_atom, excess_with, unless, with_formulas, count_bounds, has_large_numbers, statement_excess, at_item, with_statements, with_questions, after, counted}
use Rattle.ps_problem.proofs.Nodes.{names-append}
use Rattle.ps_problem.proofs.Turns.{with-append}

-- where all formulas fit, they are put behind the earlier ones one by one
with-fold : (fs xs gs : List (Formula Name)) → with_formulas fs xs ≡ Ok gs → gs ≡ fold (with_new same_formula) fs xs
with-fold fs [] gs e = cc
with-fold fs (x ∷ xs) gs e = by (list_any (same_formula x) fs) (excess_with fs x) (with-fold fs xs gs) (with-fold (fs ++ x ∷ []) xs gs) e
  where
    by : (b : Bool) (o : Option Excess)
        → (with_formulas fs xs ≡ Ok gs → gs ≡ fold (with_new same_formula) fs xs)
        → (with_formulas (fs ++ x ∷ []) xs ≡ Ok gs → gs ≡ fold (with_new same_formula) (fs ++ x ∷ []) xs)
        → (if b then with_formulas fs xs else unless o (with_formulas (fs ++ x ∷ []) xs)) ≡ Ok gs → gs ≡ fold (with_new same_formula) (if b then fs else fs ++ x ∷ []) xs
    by true o p q e = p e
    by false (Some o) p q e = absurd (cc)
    by false None p q e = q e

-- so many formulas and atoms are within the limits
record AreFew (fs : List (Formula Name)) : Type 0 where
  formulas : length fs ≤ MOST_NODES
  atoms : length (names_among fs) ≤ MOST_ATOMS

few-push : (fs : List (Formula Name)) (x : Formula Name) → AreFew fs → excess_with fs x ≡ None → AreFew (fs ++ x ∷ [])
few-push fs x h e = by (is_atom x && nat_le MOST_ATOMS (length (names_among fs))) refl (nat_le MOST_NODES (length fs)) refl e
  where
    atom : (y : Formula Name) → (is_atom y && nat_le MOST_ATOMS (length (names_among fs))) ≡ false → length (names_among fs ++ names_among (y ∷ [])) ≤ MOST_ATOMS
    atom (Atom a) n = let l = length_push (names_among fs) a in let lt : length (names_among fs) < MOST_ATOMS = grind (arith, nat_tests) in omega arith
    atom y n = let l = ap length (append-nil (names_among fs)) in let m = h.atoms in omega arith

    by : (b : Bool) → (is_atom x && nat_le MOST_ATOMS (length (names_among fs))) ≡ b → (c : Bool) → nat_le MOST_NODES (length fs) ≡ c
        → (if b then Some Atoms else (if c then Some Nodes else None)) ≡ None → AreFew (fs ++ x ∷ [])
    by true p c q e = absurd (cc)
    by false p true q e = absurd (cc)
    by false p false q e = record {
      formulas = (let l = length_push fs x in let lt : length fs < MOST_NODES = grind (arith, nat_tests) in omega arith);
      atoms = (let n = ap length (names-append fs (x ∷ [])) in let m = atom x p in omega arith);
    }

with-few : (fs xs gs : List (Formula Name)) → AreFew fs → with_formulas fs xs ≡ Ok gs → AreFew gs
with-few fs [] gs h e = let p : fs ≡ gs = cc in rw (← p) h
with-few fs (x ∷ xs) gs h e = by (list_any (same_formula x) fs) (excess_with fs x) refl (with-few fs xs gs) (with-few (fs ++ x ∷ []) xs gs) e
  where
    by : (b : Bool) (o : Option Excess) → excess_with fs x ≡ o
        → (AreFew fs → with_formulas fs xs ≡ Ok gs → AreFew gs) → (AreFew (fs ++ x ∷ []) → with_formulas (fs ++ x ∷ []) xs ≡ Ok gs → AreFew gs)
        → (if b then with_formulas fs xs else unless o (with_formulas (fs ++ x ∷ []) xs)) ≡ Ok gs → AreFew gs
    by true o n p q e = p h e
    by false (Some o) n p q e = absurd (cc)
    by false None n p q e = q (few-push fs x h n) e

-- the number of bounds of statements
abbrev bounds_for : List Statement → ℕ
bounds_for [] = 0
bounds_for (s ∷ ss) = count_bounds s + bounds_for ss

pub some-map : {X Y : Type 0} (f : X → Y) (o : Option X) → is_some (option_map f o) ≡ is_some o
some-map f None = refl
some-map f (Some x) = refl

-- a sentence has as many bounds as its statement
pub length-one : (gs : List (Formula Name)) (s : Statement) → length (bounds_of_sentence (sentence_in gs s)) ≡ count_bounds s
length-one gs (Plain s) = by s.upper
  where
    by : (u : Option Ratio) → length (bounds_of_sentence (sentence.Plain (bound_in gs s s.side s.value) (option_map (bound_in gs s side.AtMost) u))) ≡ (if is_some u then 2 else 1)
    by None = refl
    by (Some r) = refl
length-one gs (Linear s) = by s.upper
  where
    by : (u : Option SignedRatio) → length (LinearIn (linear_in gs s) false ∷ (if is_some (option_map (scaled (scale_of s)) u) then LinearIn (linear_in gs s) true ∷ [] else [])) ≡ (if is_some u then 2 else 1)
    by None = refl
    by (Some r) = refl

length-bounds : (gs : List (Formula Name)) (ss : List Statement) → length (bounds_in (map (sentence_in gs) ss)) ≡ bounds_for ss
length-bounds gs [] = refl
length-bounds gs (s ∷ ss) =
    length-append (bounds_of_sentence (sentence_in gs s)) (bounds_in (map (sentence_in gs) ss))
    ∙ (λ i. length-one gs s i + length-bounds gs ss i)

-- a statement's numbers aren't too large
abbrev pub IsSmall : Statement → Type 0
IsSmall s = has_large_numbers s ≡ false

-- what is known of a statement that is too much of nothing
no-excess : (b : ℕ) (s : Statement) → statement_excess b s ≡ None → IsSmall s × (b + count_bounds s ≤ MOST_BOUNDS)
no-excess b s e = by (has_large_numbers s) refl (nat_lt MOST_BOUNDS (b + count_bounds s)) refl e
  where
    by : (l : Bool) → has_large_numbers s ≡ l → (c : Bool) → nat_lt MOST_BOUNDS (b + count_bounds s) ≡ c
        → (if l then Some Numbers else (if c then Some Bounds else None)) ≡ None → IsSmall s × (b + count_bounds s ≤ MOST_BOUNDS)
    by true p c q e = absurd (cc)
    by false p true q e = absurd (cc)
    by false p false q e = (p, grind (arith, nat_tests))

-- the statements, with so many bounds before
statements-are : (n b : ℕ) (fs : List (Formula Name)) (items : List Item) (gs : List (Formula Name)) → b ≤ MOST_BOUNDS → with_statements n b fs items ≡ Ok gs
    → (with_formulas fs (numbered_in_statements (statements_of items)) ≡ Ok gs) × (b + bounds_for (statements_of items) ≤ MOST_BOUNDS) × All IsSmall (statements_of items)
statements-are n b fs [] gs le e = ((cc), omega arith, All-nil IsSmall)
statements-are n b fs (Asked q ∷ items) gs le e = statements-are (n + 1) b fs items gs le e
statements-are n b fs (Stated s ∷ items) gs le e = by (statement_excess b s) refl (with_formulas fs (numbered_in s)) refl (λ hs le h. statements-are (n + 1) (b + count_bounds s) hs items gs le h) e
  where
    by : (o : Option Excess) → statement_excess b s ≡ o → (r : Result (List (Formula Name)) Excess) → with_formulas fs (numbered_in s) ≡ r
        → ((hs : List (Formula Name)) → b + count_bounds s ≤ MOST_BOUNDS → with_statements (n + 1) (b + count_bounds s) hs items ≡ Ok gs
        → (with_formulas hs (numbered_in_statements (statements_of items)) ≡ Ok gs) × (b + count_bounds s + bounds_for (statements_of items) ≤ MOST_BOUNDS) × All IsSmall (statements_of items))
        → at_item (n + 1) (unless o r) (λ hs. with_statements (n + 1) (b + count_bounds s) hs items) ≡ Ok gs
        → (with_formulas fs (numbered_in_statements (s ∷ statements_of items)) ≡ Ok gs) × (b + bounds_for (s ∷ statements_of items) ≤ MOST_BOUNDS) × All IsSmall (s ∷ statements_of items)
    by (Some x) p r q more e = absurd (cc)
    by None p (Err x) q more e = absurd (cc)
    by None p (Ok hs) q more e =
        let small = no-excess b s p in
        let k = more hs small.1 e in (
          with-append fs (numbered_in s) (numbered_in_statements (statements_of items))
              ∙ ap (λ r. after r (λ hs. with_formulas hs (numbered_in_statements (statements_of items)))) q ∙ k.0,
          (let m = k.1 in omega arith),
          All-cons IsSmall s (statements_of items) small.0 k.2,
        )

-- the questions, with so many before
questions-are : (n a : ℕ) (fs : List (Formula Name)) (items : List Item) (gs : List (Formula Name)) → a ≤ MOST_QUERIES → with_questions n a fs items ≡ Ok gs
    → (with_formulas fs (numbered_in_questions (questions_of items)) ≡ Ok gs) × (a + length (questions_of items) ≤ MOST_QUERIES)
questions-are n a fs [] gs le e = ((cc), omega arith)
questions-are n a fs (Stated s ∷ items) gs le e = questions-are (n + 1) a fs items gs le e
questions-are n a fs (Asked s ∷ items) gs le e = by (nat_lt MOST_QUERIES (a + 1)) refl (with_formulas fs (numbered_for s.formula s.given)) refl (λ hs le h. questions-are (n + 1) (a + 1) hs items gs le h) e
  where
    by : (c : Bool) → nat_lt MOST_QUERIES (a + 1) ≡ c → (r : Result (List (Formula Name)) Excess) → with_formulas fs (numbered_for s.formula s.given) ≡ r
        → ((hs : List (Formula Name)) → a + 1 ≤ MOST_QUERIES → with_questions (n + 1) (a + 1) hs items ≡ Ok gs
        → (with_formulas hs (numbered_in_questions (questions_of items)) ≡ Ok gs) × (a + 1 + length (questions_of items) ≤ MOST_QUERIES))
        → at_item (n + 1) (if c then Err Queries else r) (λ hs. with_questions (n + 1) (a + 1) hs items) ≡ Ok gs
        → (with_formulas fs (numbered_in_questions (s ∷ questions_of items)) ≡ Ok gs) × (a + length (s ∷ questions_of items) ≤ MOST_QUERIES)
    by true p r q more e = absurd (cc)
    by false p (Err x) q more e = absurd (cc)
    by false p (Ok hs) q more e =
        let le : a + 1 ≤ MOST_QUERIES = grind (arith, nat_tests) in
        let k = more hs le e in (
          with-append fs (numbered_for s.formula s.given) (numbered_in_questions (questions_of items))
              ∙ ap (λ r. after r (λ hs. with_formulas hs (numbered_in_questions (questions_of items)))) q ∙ k.0,
          (let m = k.1 in omega arith),
        )

-- what is known of items of which none passes a limit
record IsCounted (items : List Item) (fs : List (Formula Name)) : Type 0 where
  formulas : with_formulas [] (numbered_in_statements (statements_of items) ++ numbered_in_questions (questions_of items)) ≡ Ok fs
  bounds : bounds_for (statements_of items) ≤ MOST_BOUNDS
  queries : length (questions_of items) ≤ MOST_QUERIES
  small : All IsSmall (statements_of items)

is-counted : (items : List Item) (fs : List (Formula Name)) → counted items ≡ Ok fs → IsCounted items fs
is-counted items fs e = by (with_statements 0 0 [] items) refl e
  where
    by : (r : Result (List (Formula Name)) ItemExcess) → with_statements 0 0 [] items ≡ r → after r (λ gs. with_questions 0 0 gs items) ≡ Ok fs → IsCounted items fs
    by (Err x) p e = absurd (cc)
    by (Ok gs) p e =
        let s = statements-are 0 0 [] items gs (omega arith) p in
        let q = questions-are 0 0 gs items fs (omega arith) e in
        record {
          formulas = with-append [] (numbered_in_statements (statements_of items)) (numbered_in_questions (questions_of items))
              ∙ ap (λ r. after r (λ hs. with_formulas hs (numbered_in_questions (questions_of items)))) s.0 ∙ q.0;
          bounds = (let m = s.1 in omega arith);
          queries = (let m = q.1 in omega arith);
          small = s.2;
        }

pub counted-formulas : (items : List Item) (fs : List (Formula Name)) → counted items ≡ Ok fs → fs ≡ formulas_of items
counted-formulas items fs e = with-fold [] (numbered_in_statements (statements_of items) ++ numbered_in_questions (questions_of items)) fs (is-counted items fs e).formulas

-- the limits that items keep
pub record AreWithin (items : List Item) (fs : List (Formula Name)) : Type 0 where
  pub formulas : length fs ≤ MOST_NODES
  pub atoms : length (names_among fs) ≤ MOST_ATOMS
  pub bounds : (gs : List (Formula Name)) → length (bounds_in (map (sentence_in gs) (statements_of items))) ≤ MOST_BOUNDS
  pub queries : length (questions_of items) ≤ MOST_QUERIES
  pub small : All IsSmall (statements_of items)

pub counted-limits : (items : List Item) (fs : List (Formula Name)) → counted items ≡ Ok fs → AreWithin items fs
counted-limits items fs e =
    let c = is-counted items fs e in
    let few = with-few [] (numbered_in_statements (statements_of items) ++ numbered_in_questions (questions_of items)) fs (record { formulas = omega arith; atoms = omega arith }) c.formulas in
    record {
      formulas = few.formulas;
      atoms = few.atoms;
      bounds = λ gs. (let l = length-bounds gs (statements_of items) in let m = c.bounds in omega arith);
      queries = c.queries;
      small = c.small;
    }
