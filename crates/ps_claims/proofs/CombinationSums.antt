-- Sums of combinations.
use Rattle.std.proofs.Common.{◌≡◌, ◌≤◌, ◌<◌, ◌+◌, ◌*◌, ◌^◌, ℕ, suc, ℤ, pos, ◌+ℤ◌, ◌*ℤ◌, unsigned_abs, List, [], ◌∷◌, ◌++◌, Option, Some, None, All, length, drop, get_or, Result, Ok, Err, OnOk, IfSome, to_z, of_z, refl, sym, ◌∙◌, ap, arith}
use Rattle.std.specs.Int.{w64, w128}
use Rattle.std.proofs.lemmas.Int.{ints, unsigned_abs-mul, to_z-of_z, fits_signed_from_abs}
use Rattle.std.proofs.lemmas.List.{append_assoc}
use Rattle.std.proofs.lemmas.List.Elements.{All-nil, All-cons, All-head, All-tail}
use Rattle.std.proofs.Math.Seq.{drop-cons}
use Rattle.std.proofs.Math.ListN.{drop_of_length-le}
use Rattle.std.proofs.Math.Nat.{mul-le-mul}
use Rattle.ps_pb.specs.Weights.{Weighted}
use Rattle.ps_formula.specs.declared.node.Node.{Node}
use Rattle.ps_problem.specs.declared.row.Row.{Row}
use Rattle.ps_problem.specs.Problems.{IsTerm, terms_size}
use Rattle.ps_problem.specs.Rows as problem
use Rattle.ps_claims.specs.declared.weighted_sum.Combination.{Combination}
use Rattle.ps_claims.specs.Goals.{plus, nothing, at_node, at_condition, terms_times, row_times, rows_times, claimed_of, combination_of}
use Rattle.ps_claims.specs.Certificates.{IsMultiplier, dual_of}
use Rattle.ps_answer.specs.declared.answer.Dual.{Dual}
use Rattle.ps_claims.specs.declared.claim_kind.ClaimKind.{ClaimKind}
use Rattle.ps_claims.specs.Rows.{IsNode, IsSmall, IsSmallTerm, IsSmallRow}

abbrev made : Weighted → ℤ → Combination
made terms base = record { terms = terms; base = base }

same : (x y : ℤ) (xs ys : Weighted) → x ≡ y → xs ≡ ys → made xs x ≡ made ys y
same x y xs ys p q = rw (p, q) refl

sum_assoc : (a b c : ℤ) → ((a +ℤ b) +ℤ c) ≡ (a +ℤ (b +ℤ c))
sum_assoc a b c = omega (arith, ints)

pub plus_assoc : (a b c : Combination) → plus (plus a b) c ≡ plus a (plus b c)
plus_assoc a b c = same _ _ _ _ (sum_assoc a.base b.base c.base) (append_assoc a.terms b.terms c.terms)

-- the greatest product of a multiplier and a number of a row
abbrev most : ℕ
most = 2 ^ 90 * 2000000

row_base : (y : ℤ) (r : Row) → IsMultiplier y → IsSmallRow r → unsigned_abs (row_times y r).base ≤ most
row_base y r h small = rw (unsigned_abs-mul y r.base) (mul-le-mul h small.base)

-- the first i rows are added
pub record IsAdded (old : Combination) (ys : List ℤ) (rs : List Row) (i : ℕ) (now : Combination) : Type 0 where
  pub rest : plus now (rows_times (drop i ys) (drop i rs)) ≡ plus old (rows_times ys rs)
  pub small : unsigned_abs now.base ≤ 2 ^ 91 + i * most

pub added-none : (old : Combination) (ys : List ℤ) (rs : List Row) → unsigned_abs old.base ≤ 2 ^ 91 → IsAdded old ys rs 0 old
added-none old ys rs h = record { rest = refl; small = omega (arith, h) }

pub added-fits : (old : Combination) (ys : List ℤ) (rs : List Row) (i : ℕ) (now : Combination) → i < length rs → length rs ≤ 100 → IsAdded old ys rs i now → unsigned_abs now.base ≤ 2 ^ 125
added-fits old ys rs i now inside few h = omega (arith, h.small, mul-le-mul (at_most i (length rs) inside few) (refl_le most))
  where
    at_most : (i n : ℕ) → i < n → n ≤ 100 → i ≤ 100
    at_most i n p q = omega (arith, p, q)

    refl_le : (n : ℕ) → n ≤ n
    refl_le n = omega arith

added-turn : (old : Combination) (ys : List ℤ) (rs : List Row) (i : ℕ) (now : Combination) (y : ℤ) (r : Row) → i < length rs → length ys ≡ length rs
    → All IsMultiplier ys → All IsSmallRow rs → IsAdded old ys rs i now
    → IsAdded old ys rs (suc i) (plus now (row_times (get_or ys i y) (get_or rs i r)))
added-turn old ys rs i now y r inside same_length small rows h =
    let j : i < length ys = rw same_length inside in
    let k = get_or ys i y in
    let c = get_or rs i r in
    record {
      rest = plus_assoc now (row_times k c) (rows_times (drop (suc i) ys) (drop (suc i) rs)) ∙ rw (drop-cons ys i y j, drop-cons rs i r inside) at h.rest;
      small = omega (arith, ints, h.small, row_base k c (small i y j) (rows i r inside));
    }

pub added-next : (old : Combination) (ys : List ℤ) (rs : List Row) (i : ℕ) (now next : Combination) (y : ℤ) (r : Row) → next ≡ plus now (row_times (get_or ys i y) (get_or rs i r))
    → i < length rs → length ys ≡ length rs → All IsMultiplier ys → All IsSmallRow rs → IsAdded old ys rs i now → IsAdded old ys rs (i + 1) next
added-next old ys rs i now next y r e inside same_length small rows h = rw (e, one_more i) (added-turn old ys rs i now y r inside same_length small rows h)
  where
    one_more : (n : ℕ) → n + 1 ≡ suc n
    one_more n = omega arith

plus_nothing : (c : Combination) → plus c nothing ≡ c
plus_nothing c = same _ _ _ _ (zero c.base) (append_nil c.terms)
  where
    zero : (a : ℤ) → (a +ℤ pos 0) ≡ a
    zero a = omega (arith, ints)

    append_nil : (xs : Weighted) → xs ++ [] ≡ xs
    append_nil [] = refl
    append_nil (x ∷ xs) = ap (λ l. x ∷ l) (append_nil xs)

pub added-all : (old : Combination) (ys : List ℤ) (rs : List Row) (i : ℕ) (now : Combination) → length rs ≤ i → length ys ≡ length rs → IsAdded old ys rs i now → now ≡ plus old (rows_times ys rs)
added-all old ys rs i now past same_length h =
    let e : rows_times (drop i ys) (drop i rs) ≡ nothing = rw (drop_of_length-le ys {i = i} (rw same_length past), drop_of_length-le rs {i = i} past) refl in
    sym (plus_nothing now) ∙ sym (ap (λ r. plus now r) e) ∙ h.rest

-- a small number is read back from the machine's
pub number-back : (z : ℤ) → IsSmall z → to_z w64 (of_z w64 z) ≡ z
number-back z small = to_z-of_z w64 z (fits_signed_from_abs w64 z (omega (arith, small)))

-- a product with a small number, as the machine has it
pub product-back : (y z p : ℤ) → IsSmall z → unsigned_abs p ≤ most → p ≡ (y *ℤ to_z w64 (of_z w64 z)) → to_z w128 (of_z w128 p) ≡ (y *ℤ z)
product-back y z p small size e = to_z-of_z w128 p (fits_signed_from_abs w128 p (omega (arith, size))) ∙ e ∙ ap (λ n. y *ℤ n) (number-back z small)

-- the first i terms are added
pub record AreTermsAdded (old : Combination) (y : ℤ) (ts : List (ℕ × ℤ)) (i : ℕ) (now : Combination) : Type 0 where
  pub rest : plus now (terms_times y (drop i ts)) ≡ plus old (terms_times y ts)

pub terms-none : (old : Combination) (y : ℤ) (ts : List (ℕ × ℤ)) → AreTermsAdded old y ts 0 old
terms-none old y ts = record { rest = refl }

pub terms-next : (old : Combination) (y : ℤ) (ts : List (ℕ × ℤ)) (i : ℕ) (now next : Combination) (t : ℕ × ℤ) (k : ℤ) → k ≡ y *ℤ (get_or ts i t).1
    → next ≡ plus now (at_node k (get_or ts i t).0) → i < length ts → AreTermsAdded old y ts i now → AreTermsAdded old y ts (i + 1) next
terms-next old y ts i now next t k p e inside h = record {
  rest =
      let u = get_or ts i t in
      let m : i + 1 ≡ suc i = omega arith in
      rw (m, e, p) (plus_assoc now (at_node (y *ℤ u.1) u.0) (terms_times y (drop (suc i) ts)) ∙ rw (drop-cons ts i t inside) at h.rest);
}

pub terms-all : (old : Combination) (y : ℤ) (ts : List (ℕ × ℤ)) (i : ℕ) (now : Combination) → length ts ≤ i → AreTermsAdded old y ts i now → now ≡ plus old (terms_times y ts)
terms-all old y ts i now past h =
    let e : terms_times y (drop i ts) ≡ nothing = rw (drop_of_length-le ts {i = i} past) refl in
    sym (plus_nothing now) ∙ sym (ap (λ r. plus now r) e) ∙ h.rest

-- a row is its base and its terms
row_parts : (y : ℤ) (r : Row) → plus (at_condition (y *ℤ r.base) None) (terms_times y r.terms) ≡ row_times y r
row_parts y r = same _ _ _ _ (zero (y *ℤ r.base)) refl
  where
    zero : (a : ℤ) → (a +ℤ pos 0) ≡ a
    zero a = omega (arith, ints)

-- a row is added by its base and its terms
pub row-added : {T E : Type 0} (o : Result T E) (old mid now : Combination) (y n : ℤ) (r : Row) → n ≡ (y *ℤ r.base)
    → mid ≡ plus old (at_condition n None) → OnOk o (now ≡ plus mid (terms_times y r.terms)) → OnOk o (now ≡ plus old (row_times y r))
row-added (Ok x) old mid now y n r p e h =
    h ∙ ap (λ k. plus k (terms_times y r.terms)) e ∙ plus_assoc old (at_condition n None) (terms_times y r.terms)
    ∙ ap (λ k. plus old (plus (at_condition k None) (terms_times y r.terms))) p ∙ ap (λ k. plus old k) (row_parts y r)
row-added (Err x) old mid now y n r p e h = tt

terms-small : (ns : List Node) (ts : List (ℕ × ℤ)) → All (IsTerm ns) ts → length ns ≤ 1024 → terms_size ts ≤ 2000000 → All IsSmallTerm ts
terms-small ns [] are few small = All-nil IsSmallTerm
terms-small ns (t ∷ ts) are few small =
    let lt : t.0 < length ns = All-head (IsTerm ns) t ts are in
    All-cons IsSmallTerm t ts (record { node = omega (arith, lt, few); number = omega (arith, small) }) (terms-small ns ts (All-tail (IsTerm ns) t ts are) few (omega (arith, small)))

row-small : (ns : List Node) (r : Row) → problem.IsRow ns r → length ns ≤ 1024 → IsSmallRow r
row-small ns r h few = record {
  base = (let s = h.small in omega (arith, s));
  terms = terms-small ns r.terms h.nodes few (let s = h.small in omega (arith, s));
}

-- the rows of a problem of at most 1,024 nodes are small
pub rows-small : (ns : List Node) (rs : List Row) → All (problem.IsRow ns) rs → length ns ≤ 1024 → All IsSmallRow rs
rows-small ns rs are few i r inside = row-small ns (get_or rs i r) (are i r inside) few

pub node-given : (ns : List Node) (g : Option ℕ) → IfSome g (λ n. n < length ns) → length ns ≤ 1024 → IfSome g IsNode
node-given ns None p few = tt
node-given ns (Some n) p few = omega (arith, p, few)

nothing_plus : (c : Combination) → plus nothing c ≡ c
nothing_plus c = same _ _ _ _ (zero c.base) refl
  where
    zero : (a : ℤ) → (pos 0 +ℤ a) ≡ a
    zero a = omega (arith, ints)

-- the claim's part added to nothing, and then the rows
pub sum-whole : (ts : Weighted) (claim rows mid now : Combination) → ts ≡ [] → mid ≡ plus (made ts (pos 0)) claim → now ≡ plus mid rows → now ≡ plus claim rows
sum-whole ts claim rows mid now e p q = q ∙ ap (λ c. plus c rows) (p ∙ ap (λ t. plus (made t (pos 0)) claim) e ∙ nothing_plus claim)

pub node-both : (ns : List Node) (both : ℕ) → both < length ns → length ns ≤ 1024 → IsNode both
node-both ns both p few = omega (arith, p, few)

-- the two sums together are the combination over the rows
pub whole : (rows : List Row) (kind : ClaimKind) (given : Option ℕ) (both : ℕ) (d : Dual) (ts : Weighted) (ys : List ℤ) (mid now : Combination) → ts ≡ [] → ys ≡ d.rows
    → mid ≡ plus (made ts (pos 0)) (claimed_of kind given both (dual_of d)) → now ≡ plus mid (rows_times ys rows) → now ≡ combination_of kind given both rows (dual_of d)
whole rows kind given both d ts ys mid now e y m n = sum-whole ts (claimed_of kind given both (dual_of d)) (rows_times ys rows) mid now e m n ∙ rw y refl
