-- Texts within the limits, one clause on.
use Rattle.std.proofs.Common.{◌≡◌, ℕ, suc, ◌+◌, ◌<◌, ◌≤◌, ◌^◌, max, ℤ, pos, ◌+ℤ◌, ◌≤ℤ◌, ◌<ℤ◌, cond, List, [], ◌∷◌, ◌++◌, length, get_or, arith, refl, ap, ◌⊎◌, inl, inr, length-append}
use Rattle.std.specs.List.{All}
use Rattle.std.proofs.lemmas.Int.{ints}
use Rattle.std.proofs.lemmas.List.{get_or_at}
use Rattle.std.proofs.lemmas.List.Elements.{All-nil, All-push, All-head, All-tail}
use Rattle.ps_clause.specs.Clauses.{Clause}
use Rattle.ps_clause.proofs.Tidy.{by_bool}
use Rattle.ps_wcnf.specs.Costs.{Soft}
use Rattle.ps_wcnf.specs.Limits.{last_in, last_hard, last_soft, weight_sum, IsWeight, IsWithin, IsText}
use Rattle.ps_wcnf.specs.Valued.{is_long, variables_after}
use Rattle.ps_wcnf.specs.Readings.{no_text, with_line}
use Rattle.ps_wcnf.specs.Spelling.{Line, Nothing, Hard, Soft as SoftLine}
use Rattle.ps_wcnf.specs.Counted.{long_count, IsKept, IsLarge}
use Rattle.ps_wcnf.specs.declared.text.WcnfText.{WcnfText}

pub variables-count : (n : ℕ) (ss : List Soft) → variables_after n ss ≡ n + long_count ss
variables-count n [] = omega arith
variables-count n (s ∷ ss) = by_bool (is_long s.1)
    (λ m. rw m (let r = variables-count (suc n) ss in omega (arith, r)))
    (λ f. rw f (let r = variables-count n ss in omega (arith, r)))

hard-push : (cs : List Clause) (c : Clause) → last_hard (cs ++ c ∷ []) ≡ max (last_hard cs) (last_in c)
hard-push [] c = omega arith
hard-push (d ∷ cs) c = let r = hard-push cs c in omega (arith, r)

soft-push : (ss : List Soft) (s : Soft) → last_soft (ss ++ s ∷ []) ≡ max (last_soft ss) (last_in s.1)
soft-push [] s = omega arith
soft-push (d ∷ ss) s = let r = soft-push ss s in omega (arith, r)

sum-push : (ss : List Soft) (s : Soft) → weight_sum (ss ++ s ∷ []) ≡ weight_sum ss +ℤ s.0
sum-push [] s = omega (arith, ints)
sum-push (d ∷ ss) s = let r = sum-push ss s in omega (arith, ints, r)

long-push : (ss : List Soft) (s : Soft) → long_count (ss ++ s ∷ []) ≡ long_count ss + cond (is_long s.1) 1 0
long-push [] s = omega arith
long-push (d ∷ ss) s = let r = long-push ss s in omega (arith, r)

pub sum-some : (ss : List Soft) → All IsWeight ss → pos 0 ≤ℤ weight_sum ss
sum-some [] h = omega (arith, ints)
sum-some (s ∷ ss) h = let w = All-head IsWeight s ss h in let r = sum-some ss (All-tail IsWeight s ss h) in omega (arith, ints, w, r)

pub text-none : IsText no_text
text-none = record {
  named = refl;
  weights = All-nil IsWeight;
  within = record { weights = All-nil (λ (s : Soft). s.0 ≤ℤ pos (2 ^ 62)); sum = omega (arith, ints); clauses = omega arith; variables = omega arith };
}

pub kept-none : IsKept no_text (pos 0) 0
kept-none = record { text = text-none; sum_is = refl; long_is = refl }

-- the sum of the weights is no less than 0, and within its limit
pub record IsSmallSum (sum : ℤ) : Type 0 where
  pub some : pos 0 ≤ℤ sum
  pub most : sum ≤ℤ pos (2 ^ 90)

pub kept-sum : (t : WcnfText) (sum : ℤ) (long : ℕ) → IsKept t sum long → IsSmallSum sum
kept-sum t sum long kept =
    let e = kept.sum_is in let r = sum-some t.soft kept.text.weights in let m = kept.text.within.sum in
    record { some = omega (arith, ints, e, r); most = omega (arith, ints, e, m) }

pub kept-long : (t : WcnfText) (sum : ℤ) (long : ℕ) → IsKept t sum long → t.variables + long ≤ 1024
kept-long t sum long kept =
    let e = kept.long_is in let v = variables-count t.variables t.soft in let m = kept.text.within.variables in omega (arith, e, v, m)

-- ---- a hard clause more
abbrev with_hard : WcnfText → Clause → ℕ → WcnfText
with_hard t lits v = record { variables = v; hard = t.hard ++ lits ∷ []; soft = t.soft }

pub same-hard : (t : WcnfText) (lits : Clause) (v : ℕ) → v ≡ max (last_in lits) t.variables → with_hard t lits v ≡ with_line t (Hard lits)
same-hard t lits v e = let f : v ≡ max t.variables (last_in lits) = omega (arith, e) in ap (λ n. with_hard t lits n) f

pub kept-hard : (t : WcnfText) (lits : Clause) (v : ℕ) (sum : ℤ) (long : ℕ) → IsKept t sum long → v ≡ max (last_in lits) t.variables
    → length t.hard + length t.soft < 1000000 → v + long ≤ 1024 → IsKept (with_hard t lits v) sum long
kept-hard t lits v sum long kept e few most =
    let named = kept.text.named in
    let push = hard-push t.hard lits in
    let longer = length-append t.hard (lits ∷ []) in
    let count = variables-count v t.soft in
    let is = kept.long_is in
    record {
      text = record {
        named = omega (arith, named, push, e);
        weights = kept.text.weights;
        within = record { weights = kept.text.within.weights; sum = kept.text.within.sum; clauses = omega (arith, few, longer); variables = omega (arith, count, is, most) };
      };
      sum_is = kept.sum_is;
      long_is = kept.long_is;
    }

pub many-hard : (t : WcnfText) (lits : Clause) → 1000000 ≤ length t.hard + length t.soft → IsWithin (with_line t (Hard lits)) → ⊥
many-hard t lits many within = let longer = length-append t.hard (lits ∷ []) in let m = within.clauses in omega (arith, many, longer, m)

pub wide-hard : (t : WcnfText) (lits : Clause) (v : ℕ) (sum : ℤ) (long : ℕ) → IsKept t sum long → v ≡ max (last_in lits) t.variables → 1024 < v + long
    → IsWithin (with_line t (Hard lits)) → ⊥
wide-hard t lits v sum long kept e wide within =
    let count = variables-count (max t.variables (last_in lits)) t.soft in let is = kept.long_is in let m = within.variables in
    omega (arith, e, wide, count, is, m)

-- ---- a soft clause more
abbrev with_soft : WcnfText → ℤ → Clause → ℕ → WcnfText
with_soft t k lits v = record { variables = v; hard = t.hard; soft = t.soft ++ (k, lits) ∷ [] }

pub same-soft : (t : WcnfText) (k : ℤ) (lits : Clause) (v : ℕ) → v ≡ max (last_in lits) t.variables → with_soft t k lits v ≡ with_line t (SoftLine k lits)
same-soft t k lits v e = let f : v ≡ max t.variables (last_in lits) = omega (arith, e) in ap (λ n. with_soft t k lits n) f

pub kept-soft : (t : WcnfText) (k : ℤ) (lits : Clause) (v : ℕ) (sum next : ℤ) (long more : ℕ) → IsKept t sum long → pos 1 ≤ℤ k → k ≤ℤ pos (2 ^ 62) → v ≡ max (last_in lits) t.variables
    → more ≡ long + cond (is_long lits) 1 0 → next ≡ sum +ℤ k
    → length t.hard + length t.soft < 1000000 → v + more ≤ 1024 → next ≤ℤ pos (2 ^ 90) → IsKept (with_soft t k lits v) next more
kept-soft t k lits v sum next long more kept some light e m n few most low =
    let named = kept.text.named in
    let push = soft-push t.soft (k, lits) in
    let longer = length-append t.soft ((k, lits) ∷ []) in
    let count = variables-count v (t.soft ++ (k, lits) ∷ []) in
    let is = kept.long_is in
    let long_more = long-push t.soft (k, lits) in
    let total = sum-push t.soft (k, lits) in
    let was = kept.sum_is in
    record {
      text = record {
        named = omega (arith, named, push, e);
        weights = All-push IsWeight t.soft (k, lits) kept.text.weights some;
        within = record {
          weights = All-push (λ (s : Soft). s.0 ≤ℤ pos (2 ^ 62)) t.soft (k, lits) kept.text.within.weights light;
          sum = omega (arith, ints, total, was, n, low);
          clauses = omega (arith, few, longer);
          variables = omega (arith, count, is, long_more, m, most);
        };
      };
      sum_is = omega (arith, ints, total, was, n);
      long_is = omega (arith, is, long_more, m);
    }

pub many-soft : (t : WcnfText) (k : ℤ) (lits : Clause) → 1000000 ≤ length t.hard + length t.soft → IsWithin (with_line t (SoftLine k lits)) → ⊥
many-soft t k lits many within = let longer = length-append t.soft ((k, lits) ∷ []) in let m = within.clauses in omega (arith, many, longer, m)

pub wide-soft : (t : WcnfText) (k : ℤ) (lits : Clause) (v : ℕ) (sum : ℤ) (long more : ℕ) → IsKept t sum long → v ≡ max (last_in lits) t.variables
    → more ≡ long + cond (is_long lits) 1 0 → 1024 < v + more → IsWithin (with_line t (SoftLine k lits)) → ⊥
wide-soft t k lits v sum long more kept e m wide within =
    let count = variables-count (max t.variables (last_in lits)) (t.soft ++ (k, lits) ∷ []) in let is = kept.long_is in let most = within.variables in
    let long_more = long-push t.soft (k, lits) in
    omega (arith, e, m, wide, count, is, most, long_more)

pub heavy-soft : (t : WcnfText) (k : ℤ) (lits : Clause) (sum next : ℤ) (long : ℕ) → IsKept t sum long → next ≡ sum +ℤ k → pos (2 ^ 90) <ℤ next → IsWithin (with_line t (SoftLine k lits)) → ⊥
heavy-soft t k lits sum next long kept n heavy within =
    let total = sum-push t.soft (k, lits) in let was = kept.sum_is in let m = within.sum in
    omega (arith, ints, total, was, n, heavy, m)

-- ---- numbers past their limits
by-either : {A B C : Type 0} → A ⊎ B → (A → C) → (B → C) → C
by-either (inl a) f g = f a
by-either (inr b) f g = g b

pub large-line : (t : WcnfText) (l : Line) → IsLarge l → IsWithin (with_line t l) → ⊥
large-line t Nothing large within = large
large-line t (Hard lits) large within =
    let count = variables-count (max t.variables (last_in lits)) t.soft in let m = within.variables in omega (arith, large, count, m)
large-line t (SoftLine k lits) large within = by-either large
    (λ heavy. let at = within.weights (length t.soft) (k, lits) (let longer = length-append t.soft ((k, lits) ∷ []) in omega (arith, longer)) in
    let here : get_or (t.soft ++ (k, lits) ∷ []) (length t.soft) (k, lits) ≡ (k, lits) = get_or_at t.soft (k, lits) [] (k, lits) (length t.soft) refl in
    let light : k ≤ℤ pos (2 ^ 62) = rw here at at in
    omega (arith, ints, heavy, light))
    (λ wide. let count = variables-count (max t.variables (last_in lits)) (t.soft ++ (k, lits) ∷ []) in let m = within.variables in omega (arith, wide, count, m))
