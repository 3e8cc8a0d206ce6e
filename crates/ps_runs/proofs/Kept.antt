-- The kept sentences of a problem, and duals with multiplier 0 at the bounds of the others.
use Rattle.std.proofs.Common.{drop, get_or, append_assoc, ◌≡◌, ℕ, zero, suc, ◌+◌, ◌<◌, ◌≤◌, ◌-◌, ℤ, pos, ◌+ℤ◌, ◌-ℤ◌, ◌*ℤ◌, Bool, true, false, cond, Option, List, [], ◌∷◌, ◌++◌, length, map, All, refl, sym, ap, ◌∙◌, subst, arith}
use Rattle.std.specs.Prelude.{◌==◌}
use Rattle.std.proofs.lemmas.Int.{ints}
use Rattle.std.proofs.lemmas.Bool.{true≢false}
use Rattle.std.proofs.lemmas.List.{append-nil, length-append, length-map}
use Rattle.std.proofs.lemmas.Slice.Zip.{AllZip-long}
use Rattle.std.proofs.Math.Seq.{drop-cons}
use Rattle.std.proofs.lemmas.List.Elements.{All-nil, All-cons, All-head, All-tail, All-append}
use Rattle.ps_meaning.specs.declared.side.Side.{Side}
use Rattle.ps_meaning.proofs.Integers.{mul-zero}
use Rattle.ps_meaning.proofs.IntRing.{*ℤ_comm}
use Rattle.ps_meaning.specs.declared.side.Side.TheVariants.{AtLeast, AtMost, Exactly}
use Rattle.ps_pb.specs.Constraints.{Constraint}
use Rattle.ps_pb.specs.Steps.{Refutes}
use Rattle.ps_pb.specs.Assignments.{place}
use Rattle.ps_pb.specs.Weights.{Weighted, constant_of, coefficient_at, term_at, turned, terms_below, sum_below, last_variable, constraint_of}
use Rattle.ps_clause.specs.Forms.{form_of, first_known}
use Rattle.ps_formula.specs.declared.node.Node.{Node}
use Rattle.ps_problem.specs.declared.row.Row.{Row}
use Rattle.ps_problem.specs.declared.sentence.Sentence.{Sentence}
use Rattle.ps_problem.specs.Problems.{Parts, AreParts, bounds_in, bounds_of_sentence, IsBoundIn}
use Rattle.ps_problem.specs.Rows.{row_at, row_of, rows_in}
use Rattle.ps_claims.specs.declared.claim_kind.ClaimKind.{ClaimKind}
use Rattle.ps_claims.specs.declared.claim_kind.ClaimKind.TheVariants.{Nothing, Lower, Upper}
use Rattle.ps_claims.specs.Duals.{Dual, HasSign, HaveSigns, AreZeroElsewhere}
use Rattle.ps_claims.specs.declared.weighted_sum.Combination.{Combination}
use Rattle.ps_claims.specs.Goals.{nothing, plus, term_times, row_times, rows_times, claimed_of, combination_of, goal_of}
use Rattle.ps_claims.specs.Validity.{IsRefuted}
use Rattle.ps_runs.specs.Kept.{kept_of, flags_of, kept_parts, kept_dual, IsChoice, AreAllKept}

-- ---- items
pub length-kept : {T : Type 0} (ks : List Bool) (xs : List T) → length (kept_of ks xs) ≤ length xs
length-kept [] xs = omega arith
length-kept (k ∷ ks) [] = omega arith
length-kept (true ∷ ks) (x ∷ xs) = omega (arith, length-kept ks xs)
length-kept (false ∷ ks) (x ∷ xs) = omega (arith, length-kept ks xs)

-- as many of one list are kept as of another
pub same-count : {T U : Type 0} (ks : List Bool) (xs : List T) (ys : List U) → length xs ≡ length ys → length (kept_of ks xs) ≡ length (kept_of ks ys)
same-count [] xs ys e = refl
same-count (k ∷ ks) [] [] e = refl
same-count (k ∷ ks) [] (y ∷ ys) e = absurd (omega (arith, e))
same-count (k ∷ ks) (x ∷ xs) [] e = absurd (omega (arith, e))
same-count (true ∷ ks) (x ∷ xs) (y ∷ ys) e = ap suc (same-count ks xs ys (omega (arith, e)))
same-count (false ∷ ks) (x ∷ xs) (y ∷ ys) e = same-count ks xs ys (omega (arith, e))

pub all-kept : {T : Type 0} (ks : List Bool) (xs : List T) → length ks ≡ length xs → AreAllKept ks → kept_of ks xs ≡ xs
all-kept [] [] e all = refl
all-kept [] (x ∷ xs) e all = absurd (omega (arith, e))
all-kept (k ∷ ks) [] e all = absurd (omega (arith, e))
all-kept (true ∷ ks) (x ∷ xs) e all = ap (λ ys. x ∷ ys) (all-kept ks xs (omega (arith, e)) (All-tail (λ k. k ≡ true) true ks all))
all-kept (false ∷ ks) (x ∷ xs) e all = absurd (true≢false (sym (All-head (λ k. k ≡ true) false ks all)))

pub each-kept : {T : Type 0} (P : T → Type 0) (ks : List Bool) (xs : List T) → All P xs → All P (kept_of ks xs)
each-kept P [] xs h = All-nil P
each-kept P (k ∷ ks) [] h = All-nil P
each-kept P (true ∷ ks) (x ∷ xs) h = All-cons P x (kept_of ks xs) (All-head P x xs h) (each-kept P ks xs (All-tail P x xs h))
each-kept P (false ∷ ks) (x ∷ xs) h = each-kept P ks xs (All-tail P x xs h)

-- ---- loops
-- what a loop has found grows by a part of what is left
pub part-next : {T : Type 0} (found part left rest all longer : List T) → longer ≡ found ++ part → left ≡ part ++ rest → found ++ left ≡ all → longer ++ rest ≡ all
part-next found part left rest all longer is split h =
    ap (λ xs. xs ++ rest) is ∙ append_assoc found part rest ∙ ap (λ xs. found ++ xs) (sym split) ∙ h

kept-split : {T : Type 0} (k : Bool) (ks : List Bool) (x : T) (xs : List T) → kept_of (k ∷ ks) (x ∷ xs) ≡ kept_of (k ∷ []) (x ∷ []) ++ kept_of ks xs
kept-split true ks x xs = refl
kept-split false ks x xs = refl

flags-split : (k : Bool) (ks : List Bool) (s : Sentence) (ss : List Sentence) → flags_of (k ∷ ks) (s ∷ ss) ≡ flags_of (k ∷ []) (s ∷ []) ++ flags_of ks ss
flags-split k ks s ss = ap (λ fs. fs ++ flags_of ks ss) (sym (append-nil (map (λ b. k) (bounds_of_sentence s))))

module _ (ks : List Bool) (i : ℕ) (k : Bool) (inside : i < length ks) where
  pub kept-left : {T : Type 0} (xs : List T) (x : T) → i < length xs
      → kept_of (drop i ks) (drop i xs) ≡ kept_of (get_or ks i k ∷ []) (get_or xs i x ∷ []) ++ kept_of (drop (suc i) ks) (drop (suc i) xs)
  kept-left xs x there =
      (λ j. kept_of (drop-cons ks i k inside j) (drop-cons xs i x there j)) ∙ kept-split (get_or ks i k) (drop (suc i) ks) (get_or xs i x) (drop (suc i) xs)

  pub flags-left : (ss : List Sentence) (s : Sentence) → i < length ss
      → flags_of (drop i ks) (drop i ss) ≡ flags_of (get_or ks i k ∷ []) (get_or ss i s ∷ []) ++ flags_of (drop (suc i) ks) (drop (suc i) ss)
  flags-left ss s there =
      (λ j. flags_of (drop-cons ks i k inside j) (drop-cons ss i s there j)) ∙ flags-split (get_or ks i k) (drop (suc i) ks) (get_or ss i s) (drop (suc i) ss)

-- ---- bounds and rows
-- items with one truth value for all are kept, all or none
kept-run : {T : Type 0} (k : Bool) (xs ys : List T) (ks : List Bool) → kept_of (map (λ (x : T). k) xs ++ ks) (xs ++ ys) ≡ cond k (xs ++ kept_of ks ys) (kept_of ks ys)
kept-run true [] ys ks = refl
kept-run true (x ∷ xs) ys ks = ap (λ zs. x ∷ zs) (kept-run true xs ys ks)
kept-run false [] ys ks = refl
kept-run false (x ∷ xs) ys ks = kept-run false xs ys ks

kept-map : {T U : Type 0} (f : T → U) (ks : List Bool) (xs : List T) → map f (kept_of ks xs) ≡ kept_of ks (map f xs)
kept-map f [] xs = refl
kept-map f (k ∷ ks) [] = refl
kept-map f (true ∷ ks) (x ∷ xs) = ap (λ ys. f x ∷ ys) (kept-map f ks xs)
kept-map f (false ∷ ks) (x ∷ xs) = kept-map f ks xs

pub bounds-kept : (ks : List Bool) (ss : List Sentence) → bounds_in (kept_of ks ss) ≡ kept_of (flags_of ks ss) (bounds_in ss)
bounds-kept [] ss = refl
bounds-kept (k ∷ ks) [] = refl
bounds-kept (true ∷ ks) (s ∷ ss) =
    ap (λ bs. bounds_of_sentence s ++ bs) (bounds-kept ks ss) ∙ sym (kept-run true (bounds_of_sentence s) (bounds_in ss) (flags_of ks ss))
bounds-kept (false ∷ ks) (s ∷ ss) = bounds-kept ks ss ∙ sym (kept-run false (bounds_of_sentence s) (bounds_in ss) (flags_of ks ss))

pub rows-kept : (ks : List Bool) (ss : List Sentence) → rows_in (kept_of ks ss) ≡ kept_of (flags_of ks ss) (rows_in ss)
rows-kept ks ss = ap (map row_at) (bounds-kept ks ss) ∙ kept-map row_at (flags_of ks ss) (bounds_in ss)

length-both : (ks : List Bool) (ss : List Sentence) → length ks ≡ length ss → length (flags_of ks ss) ≡ length (bounds_in ss)
length-both [] [] e = refl
length-both [] (s ∷ ss) e = absurd (omega (arith, e))
length-both (k ∷ ks) [] e = absurd (omega (arith, e))
length-both (k ∷ ks) (s ∷ ss) e =
    length-append (map (λ b. k) (bounds_of_sentence s)) (flags_of ks ss)
    ∙ (λ i. length-map (bounds_of_sentence s) (λ b. k) i + length-both ks ss (omega (arith, e)) i)
    ∙ sym (length-append (bounds_of_sentence s) (bounds_in ss))

pub length-flags : (ks : List Bool) (ss : List Sentence) → length ks ≡ length ss → length (flags_of ks ss) ≡ length (rows_in ss)
length-flags ks ss e = length-both ks ss e ∙ sym (length-map (bounds_in ss) row_at)

pub flags-all : (ks : List Bool) (ss : List Sentence) → AreAllKept ks → AreAllKept (flags_of ks ss)
flags-all [] ss all = All-nil (λ k. k ≡ true)
flags-all (k ∷ ks) [] all = All-nil (λ k. k ≡ true)
flags-all (k ∷ ks) (s ∷ ss) all =
    All-append (λ k. k ≡ true) (map (λ b. k) (bounds_of_sentence s)) (flags_of ks ss) (each (bounds_of_sentence s) (All-head (λ k. k ≡ true) k ks all))
    (flags-all ks ss (All-tail (λ k. k ≡ true) k ks all))
  where
    each : {T : Type 0} (xs : List T) → k ≡ true → AreAllKept (map (λ (x : T). k) xs)
    each [] own = All-nil (λ k. k ≡ true)
    each (x ∷ xs) own = All-cons (λ k. k ≡ true) k (map (λ y. k) xs) own (each xs own)

-- the kept sentences are a problem's
pub parts-kept : (kept : List Bool) (p : Parts) → AreParts p → AreParts (kept_parts kept p)
parts-kept kept p are = record {
  nodes = are.nodes;
  few_nodes = are.few_nodes;
  few_atoms = are.few_atoms;
  names = are.names;
  atoms = are.atoms;
  bounds =
      subst (All (IsBoundIn p.nodes)) (sym (bounds-kept kept p.sentences)) (each-kept (IsBoundIn p.nodes) (flags_of kept p.sentences) (bounds_in p.sentences) are.bounds);
  few_bounds =
      let same : length (bounds_in (kept_of kept p.sentences)) ≡ length (kept_of (flags_of kept p.sentences) (bounds_in p.sentences)) = ap (λ bs. length bs) (bounds-kept kept p.sentences) in
      let few = are.few_bounds in
      omega (arith, same, few, length-kept (flags_of kept p.sentences) (bounds_in p.sentences));
  queries = are.queries;
  few_queries = are.few_queries;
}

-- where all are kept they are the whole problem
pub parts-all : (kept : List Bool) (p : Parts) → IsChoice kept p → AreAllKept kept → kept_parts kept p ≡ p
parts-all kept p e all = λ i. record { names = p.names; nodes = p.nodes; sentences = all-kept kept p.sentences e all i; queries = p.queries }

-- ---- duals
pub rows-all : (flags : List Bool) (ys : List ℤ) → AreAllKept flags → AreZeroElsewhere flags ys → kept_of flags ys ≡ ys
rows-all flags ys all off = all-kept flags ys (sym (AllZip-long (λ k y. k ≡ false → y ≡ pos 0) flags ys off)) all

zero_signed : (side : Side) (y : ℤ) → y ≡ pos 0 → HasSign side y
zero_signed AtLeast y e = omega (arith, ints, e)
zero_signed AtMost y e = omega (arith, ints, e)
zero_signed Exactly y e = tt

signs-kept : (ns : List Node) (flags : List Bool) (rs : List Row) (ys : List ℤ) → length flags ≡ length rs → AreZeroElsewhere flags ys
    → HaveSigns (map (row_of ns) (kept_of flags rs)) (kept_of flags ys) → HaveSigns (map (row_of ns) rs) ys
signs-kept ns [] [] [] e off h = tt
signs-kept ns [] [] (y ∷ ys) e off h = absurd off
signs-kept ns [] (r ∷ rs) ys e off h = absurd (omega (arith, e))
signs-kept ns (k ∷ ks) [] ys e off h = absurd (omega (arith, e))
signs-kept ns (k ∷ ks) (r ∷ rs) [] e off h = absurd off
signs-kept ns (true ∷ ks) (r ∷ rs) (y ∷ ys) e off h = (h.0, signs-kept ns ks rs ys (omega (arith, e)) off.1 h.1)
signs-kept ns (false ∷ ks) (r ∷ rs) (y ∷ ys) e off h = (zero_signed r.side y (off.0 refl), signs-kept ns ks rs ys (omega (arith, e)) off.1 h)

-- ---- goals
-- weighted literals that give the same constraints
record AreAlike (ts us : Weighted) : Type 0 where
  constant : constant_of ts ≡ constant_of us
  at : (p : ℕ) → coefficient_at ts p ≡ coefficient_at us p

no_term : (x : ℤ) (p : ℕ) → x ≡ pos 0 → term_at p x ≡ []
no_term x p e = ap (term_at p) e

-- past its last variable no coefficient is other than 0
past_last : (ts : Weighted) (p : ℕ) → last_variable ts ≤ p → coefficient_at ts p ≡ pos 0
past_last [] p h = refl
past_last (t ∷ ts) p h =
    let rest = past_last ts p (omega (arith, h)) in
    let other : (place t.0 == p) ≡ false = apart (place t.0) p (omega (arith, h)) in
    rw other (omega (arith, ints, rest))
  where
    apart : (i j : ℕ) → i < j → (i == j) ≡ false
    apart i j h = grind (arith, h)

plus_zero : (n : ℕ) → n + 0 ≡ n
plus_zero n = omega arith

plus_suc : (n k : ℕ) → n + suc k ≡ suc (n + k)
plus_suc n k = omega arith

plus_less : (n m : ℕ) → n ≤ m → n + (m - n) ≡ m
plus_less n m h = omega (arith, h)

-- more variables without coefficients make no difference
terms_more : (n k : ℕ) (f : ℕ → ℤ) → ((p : ℕ) → n ≤ p → f p ≡ pos 0) → terms_below (n + k) f ≡ terms_below n f
terms_more n zero f h = ap (λ m. terms_below m f) (plus_zero n)
terms_more n (suc k) f h =
    ap (λ m. terms_below m f) (plus_suc n k)
    ∙ ap (λ ts. terms_below (n + k) f ++ ts) (no_term (f (n + k)) (n + k) (h (n + k) (omega arith)))
    ∙ append-nil (terms_below (n + k) f)
    ∙ terms_more n k f h

sum_more : (n k : ℕ) (f : ℕ → ℤ) → ((p : ℕ) → n ≤ p → f p ≡ pos 0) → sum_below (n + k) (λ p. turned (f p)) ≡ sum_below n (λ p. turned (f p))
sum_more n zero f h = ap (λ m. sum_below m (λ p. turned (f p))) (plus_zero n)
sum_more n (suc k) f h =
    ap (λ m. sum_below m (λ p. turned (f p))) (plus_suc n k) ∙ last (sum_below (n + k) (λ p. turned (f p))) (turned (f (n + k))) (ap turned (h (n + k) (omega arith))) ∙ sum_more n k f h
  where
    last : (s z : ℤ) → z ≡ pos 0 → (s +ℤ z) ≡ s
    last s z e = omega (arith, ints, e)

terms_same : (n : ℕ) (f g : ℕ → ℤ) → ((p : ℕ) → f p ≡ g p) → terms_below n f ≡ terms_below n g
terms_same zero f g h = refl
terms_same (suc p) f g h = λ i. terms_same p f g h i ++ term_at p (h p i)

sum_same : (n : ℕ) (f g : ℕ → ℤ) → ((p : ℕ) → f p ≡ g p) → sum_below n (λ p. turned (f p)) ≡ sum_below n (λ p. turned (g p))
sum_same zero f g h = refl
sum_same (suc p) f g h = λ i. sum_same p f g h i +ℤ turned (h p i)

-- terms and turned coefficients up to any number of variables that has the last
terms_from : (ts : Weighted) (n : ℕ) → last_variable ts ≤ n → terms_below (last_variable ts) (coefficient_at ts) ≡ terms_below n (coefficient_at ts)
terms_from ts n h =
    sym (terms_more (last_variable ts) (n - last_variable ts) (coefficient_at ts) (past_last ts)) ∙ ap (λ m. terms_below m (coefficient_at ts)) (plus_less (last_variable ts) n h)

sum_from : (ts : Weighted) (n : ℕ) → last_variable ts ≤ n → sum_below (last_variable ts) (λ p. turned (coefficient_at ts p)) ≡ sum_below n (λ p. turned (coefficient_at ts p))
sum_from ts n h =
    sym (sum_more (last_variable ts) (n - last_variable ts) (coefficient_at ts) (past_last ts)) ∙ ap (λ m. sum_below m (λ p. turned (coefficient_at ts p))) (plus_less (last_variable ts) n h)

alike_constraint : (ts us : Weighted) (least : ℤ) → AreAlike ts us → constraint_of ts least ≡ constraint_of us least
unfolding constraint_of
alike_constraint ts us least h =
    let n = last_variable ts + last_variable us in
    let terms = terms_from ts n (omega arith) ∙ terms_same n (coefficient_at ts) (coefficient_at us) h.at ∙ sym (terms_from us n (omega arith)) in
    let sums = sum_from ts n (omega arith) ∙ sum_same n (coefficient_at ts) (coefficient_at us) h.at ∙ sym (sum_from us n (omega arith)) in
    λ i. record { terms = terms i; degree = (least -ℤ h.constant i) +ℤ sums i }

-- combinations that give the same goals
record GiveSame (c d : Combination) : Type 0 where
  base : c.base ≡ d.base
  terms : AreAlike c.terms d.terms

same_goals : (c d : Combination) → GiveSame c d → goal_of c ≡ goal_of d
same_goals c d h = alike_constraint c.terms d.terms (pos 1 -ℤ c.base) h.terms ∙ ap (λ b. constraint_of d.terms (pos 1 -ℤ b)) h.base

constant-append : (ts us : Weighted) → constant_of (ts ++ us) ≡ constant_of ts +ℤ constant_of us
constant-append [] us = omega (arith, ints)
constant-append (t ∷ ts) us = let h = constant-append ts us in omega (arith, ints, h)

coefficient-append : (ts us : Weighted) (p : ℕ) → coefficient_at (ts ++ us) p ≡ coefficient_at ts p +ℤ coefficient_at us p
coefficient-append [] us p = omega (arith, ints)
coefficient-append (t ∷ ts) us p = let h = coefficient-append ts us p in omega (arith, ints, h)

plus_same : (a b c d : Combination) → GiveSame a b → GiveSame c d → GiveSame (plus a c) (plus b d)
plus_same a b c d h k = record {
  base = λ i. h.base i +ℤ k.base i;
  terms = record {
    constant = constant-append a.terms c.terms ∙ (λ i. h.terms.constant i +ℤ k.terms.constant i) ∙ sym (constant-append b.terms d.terms);
    at = λ p. coefficient-append a.terms c.terms p ∙ (λ i. h.terms.at p i +ℤ k.terms.at p i) ∙ sym (coefficient-append b.terms d.terms p);
  };
}

same_self : (c : Combination) → GiveSame c c
same_self c = record { base = refl; terms = record { constant = refl; at = λ p. refl } }

same_through : (a b c : Combination) → GiveSame a b → GiveSame b c → GiveSame a c
same_through a b c h k = record {
  base = h.base ∙ k.base;
  terms = record { constant = h.terms.constant ∙ k.terms.constant; at = λ p. h.terms.at p ∙ k.terms.at p };
}

nothing_plus : (c : Combination) → GiveSame (plus nothing c) c
nothing_plus c = record { base = nothing_more c.base; terms = record { constant = refl; at = λ p. refl } }
  where
    nothing_more : (a : ℤ) → (pos 0 +ℤ a) ≡ a
    nothing_more a = omega (arith, ints)

times_zero : (y z : ℤ) → y ≡ pos 0 → y *ℤ z ≡ pos 0
times_zero y z e = ap (λ x. x *ℤ z) e ∙ *ℤ_comm (pos 0) z ∙ mul-zero z

-- literals of nodes are no part of the constant, and of weight 0 none of a coefficient
constant_zero : (y : ℤ) (ts : List (ℕ × ℤ)) → constant_of (map (term_times y) ts) ≡ pos 0
constant_zero y [] = refl
constant_zero y (t ∷ ts) = let h = constant_zero y ts in omega (arith, ints, h)

coefficient_zero : (y : ℤ) (ts : List (ℕ × ℤ)) (p : ℕ) → y ≡ pos 0 → coefficient_at (map (term_times y) ts) p ≡ pos 0
coefficient_zero y [] p e = refl
coefficient_zero y (t ∷ ts) p e =
    (λ i. cond (place (pos (suc t.0)) == p) (times_zero y t.1 e i) (pos 0) +ℤ coefficient_zero y ts p e i) ∙ either (place (pos (suc t.0)) == p)
  where
    either : (b : Bool) → (cond b (pos 0) (pos 0) +ℤ pos 0) ≡ pos 0
    either true = refl
    either false = refl

row_zero : (y : ℤ) (r : Row) → y ≡ pos 0 → GiveSame (row_times y r) nothing
row_zero y r e = record {
  base = times_zero y r.base e;
  terms = record { constant = constant_zero y r.terms; at = λ p. coefficient_zero y r.terms p e };
}

times_kept : (flags : List Bool) (ys : List ℤ) (rs : List Row) → length flags ≡ length rs → AreZeroElsewhere flags ys
    → GiveSame (rows_times ys rs) (rows_times (kept_of flags ys) (kept_of flags rs))
times_kept [] [] [] e off = same_self nothing
times_kept [] (y ∷ ys) [] e off = absurd off
times_kept [] ys (r ∷ rs) e off = absurd (omega (arith, e))
times_kept (k ∷ ks) ys [] e off = absurd (omega (arith, e))
times_kept (k ∷ ks) [] (r ∷ rs) e off = absurd off
times_kept (true ∷ ks) (y ∷ ys) (r ∷ rs) e off =
    plus_same (row_times y r) (row_times y r) (rows_times ys rs) (rows_times (kept_of ks ys) (kept_of ks rs)) (same_self (row_times y r))
    (times_kept ks ys rs (omega (arith, e)) off.1)
times_kept (false ∷ ks) (y ∷ ys) (r ∷ rs) e off =
    same_through (plus (row_times y r) (rows_times ys rs)) (plus nothing (rows_times (kept_of ks ys) (kept_of ks rs))) (rows_times (kept_of ks ys) (kept_of ks rs))
    (plus_same (row_times y r) nothing (rows_times ys rs) (rows_times (kept_of ks ys) (kept_of ks rs)) (row_zero y r (off.0 refl)) (times_kept ks ys rs (omega (arith, e)) off.1))
    (nothing_plus (rows_times (kept_of ks ys) (kept_of ks rs)))

-- the goal of a dual of the whole problem is that of its kept multipliers
pub goal-kept : (flags : List Bool) (kind : ClaimKind) (given : Option ℕ) (both : ℕ) (rs : List Row) (d : Dual) → length flags ≡ length rs → AreZeroElsewhere flags d.rows
    → goal_of (combination_of kind given both rs d) ≡ goal_of (combination_of kind given both (kept_of flags rs) (kept_dual flags d))
goal-kept flags kind given both rs d e off =
    same_goals (combination_of kind given both rs d) (combination_of kind given both (kept_of flags rs) (kept_dual flags d)) (by_kind kind)
  where
    by_kind : (kind : ClaimKind) → GiveSame (combination_of kind given both rs d) (combination_of kind given both (kept_of flags rs) (kept_dual flags d))
    by_kind kind =
        plus_same (claimed_of kind given both d) (claimed_of kind given both (kept_dual flags d)) (rows_times d.rows rs) (rows_times (kept_of flags d.rows) (kept_of flags rs)) (claims_same kind)
        (times_kept flags d.rows rs e off)
      where
        claims_same : (kind : ClaimKind) → GiveSame (claimed_of kind given both d) (claimed_of kind given both (kept_dual flags d))
        claims_same Nothing = same_self (claimed_of Nothing given both d)
        claims_same Lower = same_self (claimed_of Lower given both d)
        claims_same Upper = same_self (claimed_of Upper given both d)

-- a dual that is refuted over the kept sentences is so over the whole problem, where its other multipliers are 0
pub refuted-kept : (kept : List Bool) (p : Parts) (kind : ClaimKind) (given : Option ℕ) (both : ℕ) (d : Dual) → IsChoice kept p → AreZeroElsewhere (flags_of kept p.sentences) d.rows
    → IsRefuted (kept_parts kept p) kind given both (kept_dual (flags_of kept p.sentences) d) → IsRefuted p kind given both d
refuted-kept kept p kind given both d e off h =
    let flags = flags_of kept p.sentences in
    let long : length flags ≡ length (rows_in p.sentences) = length-flags kept p.sentences e in
    let rows : rows_in (kept_of kept p.sentences) ≡ kept_of flags (rows_in p.sentences) = rows-kept kept p.sentences in
    record {
      signs =
          signs-kept p.nodes flags (rows_in p.sentences) d.rows long off
          (subst (λ (rs : List Row). HaveSigns (map (row_of p.nodes) rs) (kept_of flags d.rows)) rows h.signs);
      steps =
          subst (λ (c : Constraint). Refutes (length p.nodes) (first_known (form_of p.nodes) c) d.steps) (sym (goal-kept flags kind given both (rows_in p.sentences) d long off))
          (subst (λ (rs : List Row). Refutes (length p.nodes) (first_known (form_of p.nodes) (goal_of (combination_of kind given both rs (kept_dual flags d)))) d.steps) rows h.steps);
    }
