-- Linear items of a draft, whose numbers are too large or not.
use Rattle.std.proofs.Common.{◌≡◌, ℕ, ℤ, ◌+◌, ◌<◌, ◌≤◌, Bool, true, false, nat_lt, List, [], ◌∷◌, ◌++◌, map, length, All, Option, Some, None, IfSome, option_map, ◌||◌, unwrap_or, unsigned_abs, refl, sym, ap, subst, ◌∙◌, if◌then◌else◌, arith}
use Rattle.std.specs.List.{list_any}
use Rattle.std.proofs.lemmas.Bool.Decides.{nat_tests}
use Rattle.std.proofs.lemmas.List.Elements.{All-weaker}
use Rattle.ps_meaning.specs.Formula.{Formula}
use Rattle.ps_meaning.specs.Statements.{Name, SignedRatio}
use Rattle.ps_meaning.specs.declared.side.Side.{Side}
use Rattle.ps_meaning.specs.declared.side.Side.TheVariants.{AtLeast, AtMost, Exactly}
use Rattle.ps_text.specs.Canonical.{IsReducedWeight, IsSumUpper}
use Rattle.ps_problem.specs.declared.limits.TheConstants.{GREATEST_SCALE, MOST_SIZES}
use Rattle.ps_problem.specs.declared.term.Signed.{Signed}
use Rattle.ps_problem.specs.declared.term.Term.{Term}
use Rattle.ps_problem.specs.declared.draft_item.DraftLinear.{DraftLinear}
use Rattle.ps_problem.specs.Drafts.{signed_of, summand_at, IsDraftTerm}
use Rattle.ps_problem.specs.DraftLists.{IsDraftSum}
use Rattle.ps_problem.specs.Scales.{right_sides, coefficients, lcm_with, scale_of, scaled, size_at, sizes_at, is_wide, is_too_large, small_scale, small_scale_of, IsNumber, IsNumberTerm, AreNumbers, fraction_of, coefficient_of, plain_summand}
use Rattle.ps_problem.specs.Making.{linear_on}
use Rattle.ps_problem.specs.Rows.{HasSmallRights}
use Rattle.ps_problem.specs.declared.sentence.Sentence.TheVariants as sentence
use Rattle.ps_problem.proofs.Growth.{sum_of}
use Rattle.ps_problem.proofs.InLowestTerms.{are_narrow, size-scaled}

is-number : (s : Signed) → IsReducedWeight (signed_of s) → IsNumber s
is-number s h = record { some = h.some; small = h.small; least = h.least }

upper-number : (on : Side) (o : Option Signed) → IsSumUpper on (option_map signed_of o) → IfSome o IsNumber
upper-number on None h = tt
upper-number AtLeast (Some s) h = is-number s h
upper-number AtMost (Some s) h = absurd h
upper-number Exactly (Some s) h = absurd h

pub are-numbers : (n : ℕ) (l : DraftLinear) → IsDraftSum n l → AreNumbers l
are-numbers n l h = record {
  right = is-number l.right h.value;
  upper = upper-number l.side l.upper h.upper;
  terms = All-weaker (IsDraftTerm n) IsNumberTerm (λ t i. is-number t.coefficient i.coefficient) l.terms h.terms;
  few = h.few;
}

-- the scale of these coefficients and right sides, unless it is too large
abbrev scale_for : List SignedRatio → List SignedRatio → Option ℕ
scale_for cs rs = let m = lcm_with 1 (map (λ r. r.den) (rs ++ cs)) in if nat_lt GREATEST_SCALE m || list_any (is_wide m cs) rs then None else Some m

module _ (fs : List (Formula Name)) (l : DraftLinear) where
  coefficients-are : (ts : List Term) → map (λ t. t.coefficient) (map plain_summand ts) ≡ map (λ t. t.coefficient) (map (summand_at fs) ts)
  coefficients-are [] = refl
  coefficients-are (t ∷ ts) = ap (λ cs. signed_of t.coefficient ∷ cs) (coefficients-are ts)

  same-scale : small_scale_of l ≡ small_scale (sum_of fs l)
  same-scale = ap (λ cs. scale_for cs (right_sides (sum_of fs l))) (coefficients-are l.terms)

  -- there is no scale where the numbers are too large
  pub no-scale : small_scale_of l ≡ None → is_too_large (sum_of fs l) ≡ true
  no-scale e = by (is_too_large (sum_of fs l)) refl (sym same-scale ∙ e)
    where
      by : (b : Bool) → is_too_large (sum_of fs l) ≡ b → (if b then None else Some (scale_of (sum_of fs l))) ≡ None → is_too_large (sum_of fs l) ≡ true
      by true p q = p
      by false p q = absurd (cc)

  -- a scale is that of the sum
  pub record IsScale (m : ℕ) : Type 0 where
    pub small : is_too_large (sum_of fs l) ≡ false
    pub is : m ≡ scale_of (sum_of fs l)

  pub some-scale : (m : ℕ) → small_scale_of l ≡ Some m → IsScale m
  some-scale m e = by (is_too_large (sum_of fs l)) refl (sym same-scale ∙ e)
    where
      by : (b : Bool) → is_too_large (sum_of fs l) ≡ b → (if b then None else Some (scale_of (sum_of fs l))) ≡ Some m → IsScale m
      by true p q = absurd (cc)
      by false p q = record { small = p; is = sym cc }

  pub scale-most : (m : ℕ) → small_scale_of l ≡ Some m → m ≤ GREATEST_SCALE
  scale-most m e = let s = some-scale m e in subst (λ n. n ≤ GREATEST_SCALE) (sym s.is) (are_narrow (sum_of fs l) s.small).scale

  right-small : (m : ℕ) (r : SignedRatio) (n : ℕ) → n + size_at m r ≤ MOST_SIZES → unsigned_abs (scaled m r) ≤ MOST_SIZES
  right-small m r n h = let e = size-scaled m r in omega (arith, h, e)

  pub small-rights : (m : ℕ) (ts : List (ℕ × ℤ)) → small_scale_of l ≡ Some m → HasSmallRights (sentence.Linear (linear_on ts m l))
  small-rights m ts e =
      let s = some-scale m e in
      let n = are_narrow (sum_of fs l) s.small in
      let value : unsigned_abs (scaled m (fraction_of l.right)) ≤ MOST_SIZES =
      subst (λ k. unsigned_abs (scaled k (fraction_of l.right)) ≤ MOST_SIZES) (sym s.is) (right-small (scale_of (sum_of fs l)) (signed_of l.right) _ n.value) in
      (value, by l.upper (subst (λ k. IfSome (option_map signed_of l.upper) (λ r. unsigned_abs (scaled k r) ≤ MOST_SIZES)) (sym s.is) (all (option_map signed_of l.upper) n.upper)) value)
    where
      all : (o : Option SignedRatio) → IfSome o (λ r. sizes_at (scale_of (sum_of fs l)) (coefficients (sum_of fs l)) + size_at (scale_of (sum_of fs l)) r ≤ MOST_SIZES)
          → IfSome o (λ r. unsigned_abs (scaled (scale_of (sum_of fs l)) r) ≤ MOST_SIZES)
      all None h = tt
      all (Some r) h = right-small (scale_of (sum_of fs l)) r _ h

      by : (o : Option Signed) → IfSome (option_map signed_of o) (λ r. unsigned_abs (scaled m r) ≤ MOST_SIZES) → unsigned_abs (scaled m (fraction_of l.right)) ≤ MOST_SIZES
          → unsigned_abs (unwrap_or (option_map (λ u. scaled m (fraction_of u)) o) (scaled m (fraction_of l.right))) ≤ MOST_SIZES
      by None h v = v
      by (Some r) h v = h
