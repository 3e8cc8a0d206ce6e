-- Each bound of an answer is a number from 0 to 1, of a small denominator.
use Rattle.std.proofs.Common.{◌≡◌, ℕ, ◌*◌, ◌≤◌, ℤ, pos, negsuc, ◌*ℤ◌, ◌+ℤ◌, ◌≤ℤ◌, unsigned_abs, Bool, true, false, cond, ◌&&◌, List, [], ◌∷◌, All, inl, inr, sym, ap, ◌∙◌, subst, arith}
use Rattle.std.proofs.lemmas.Int.{ints, unsigned_abs-mul}
use Rattle.std.proofs.Math.Nat.{le_trans, le_of_mul-le-mul_right, mul-le-mul_left}
use Rattle.std.proofs.lemmas.List.Elements.{All-cons, All-nil, All-tail}
use Rattle.ps_meaning.specs.Rational.{Rational}
use Rattle.ps_meaning.specs.Formula.{Formula, And, is_true}
use Rattle.ps_meaning.specs.Distribution.{Entry, weight}
use Rattle.ps_meaning.specs.Bounds as meaning
use Rattle.ps_meaning.proofs.Weights.{weight-nonneg}
use Rattle.ps_claims.specs.Queries.{Query, Reaches}
use Rattle.ps_problem.specs.declared.query.Query as stored
use Rattle.ps_problem.specs.Problems.{Parts}
use Rattle.ps_claims.specs.declared.claim_kind.ClaimKind.{ClaimKind}
use Rattle.ps_answer.specs.declared.answer.SideAnswer.{SideAnswer}
use Rattle.ps_answer.specs.declared.answer.SideAnswer.TheVariants as side
use Rattle.ps_answer.specs.declared.answer.QueryAnswer.{QueryAnswer}
use Rattle.ps_answer.specs.declared.answer.QueryAnswer.TheVariants as query
use Rattle.ps_answer.specs.declared.answer.QueryPart.{QueryPart}
use Rattle.ps_claims.specs.declared.claim_kind.ClaimKind.TheVariants.{Lower, Upper}
use Rattle.ps_claims.specs.Certificates.{dual_of}
use Rattle.ps_claims.specs.Validity.{IsValidSide, IsValidPart}
use Rattle.ps_valid.specs.Answers.{side_of, part_of}
use Rattle.ps_claims.specs.Printed.{IsPrintedSide, IsPrintedPart}
use Rattle.ps_query.proofs.Values.{value_low, value_small}
use Rattle.std.specs.Prelude.{◌⊎◌}
use Rattle.ps_guess.specs.Solutions.{IsAnsweredPart}
use Rattle.ps_ask.specs.declared.settings.Settings.{Settings}
use Rattle.ps_ask.specs.Fronts.{AreShownParts, IsLatePart}
use Rattle.ps_ask.specs.Decimals.{HasBoundWithDecimals, HaveBoundsDecimals, BoundsHaveDecimals}

-- ---- a conjunction weighs no more than one of its parts
step_and : (a b : Bool) (w rest more : ℤ) → pos 1 ≤ℤ w → rest ≤ℤ more → (cond (a && b) w (pos 0) +ℤ rest) ≤ℤ (cond b w (pos 0) +ℤ more)
step_and true true w rest more h k = omega (arith, ints)
step_and true false w rest more h k = omega (arith, ints)
step_and false true w rest more h k = omega (arith, ints)
step_and false false w rest more h k = omega (arith, ints)

weight_and-most : (d : List Entry) (f g : Formula ℕ) → All (λ e. pos 1 ≤ℤ e.weight) d → weight d (And f g) ≤ℤ weight d g
weight_and-most [] f g h = omega (arith, ints)
weight_and-most (e ∷ d) f g h =
    step_and (is_true f e.world) (is_true g e.world) e.weight _ _ (h 0 e (omega arith))
    (weight_and-most d f g (All-tail (λ x. pos 1 ≤ℤ x.weight) e d h))

-- ---- what a distribution reaches is at most 1
over_under : (over evidence both : ℤ) (under : ℕ) → pos 1 ≤ℤ evidence → pos 0 ≤ℤ over → pos 0 ≤ℤ both → both ≤ℤ evidence → (pos under *ℤ both) ≡ (over *ℤ evidence) → unsigned_abs over ≤ under
over_under (negsuc n) evidence both under some low least most e = absurd (omega (arith, ints, low))
over_under (pos n) (negsuc m) both under some low least most e = absurd (omega (arith, ints, some))
over_under (pos n) (pos m) (negsuc k) under some low least most e = absurd (omega (arith, ints, least))
over_under (pos n) (pos m) (pos k) under some low least most e =
    let same : under * k ≡ n * m = sym (unsigned_abs-mul (pos under) (pos k)) ∙ ap unsigned_abs e ∙ unsigned_abs-mul (pos n) (pos m) in
    let less : k ≤ m = omega (arith, ints, most) in
    le_of_mul-le-mul_right (subst (λ x. x ≤ under * m) same (mul-le-mul_left under less)) (omega (arith, ints, some))

value_most : (atoms : ℕ) (bounds : List meaning.Bound) (q : Query) (value : Rational) (d : List Entry) → Reaches atoms bounds q value d → unsigned_abs value.over ≤ value.under
value_most atoms bounds q value d h =
    over_under value.over (weight d q.evidence) (weight d (And q.formula q.evidence)) value.under h.allowed.positive
    (value_low atoms bounds q value d h)
    (weight-nonneg d (And q.formula q.evidence) h.allowed.model.distribution.weighed)
    (weight_and-most d q.formula q.evidence h.allowed.model.distribution.weighed) h.equal

-- ---- each bound
side_decimals : (p : Parts) (kind : ClaimKind) (q : stored.Query) (s : SideAnswer) → IsValidSide p kind q (side_of s) → IsPrintedSide s → HasBoundWithDecimals s
side_decimals p kind q (side.Bound value m d) v h = record {
  nonneg = value_low _ _ _ value _ v.reached;
  most = value_most _ _ _ value _ v.reached;
  printed = le_trans (value_small value (dual_of d) v.head).under h.1.numbers.top;
}
side_decimals p kind q (side.Open cause) v h = tt

part_decimals : (p : Parts) (q : stored.Query) (a : QueryAnswer) → IsValidPart p q (part_of a) → IsPrintedPart a → HaveBoundsDecimals a
part_decimals p q (query.Bounds lower lower_trace upper upper_trace) v h = (side_decimals p Lower q lower v.0 h.0, side_decimals p Upper q upper v.1 h.1)
part_decimals p q (query.Impossible d) v h = tt
part_decimals p q (query.Open cause) v h = tt

shown_decimals : (s : Settings) (p : Parts) (q : stored.Query) (part : QueryPart) → IsAnsweredPart s.limits p q part ⊎ IsLatePart s p q part → HaveBoundsDecimals part.answer
shown_decimals s p q part (inl h) = part_decimals p q part.answer h.valid h.printed
shown_decimals s p q part (inr h) = part_decimals p q part.answer h.valid h.printed

parts_decimals : (s : Settings) (p : Parts) (qs : List stored.Query) (parts : List QueryPart) → AreShownParts s p qs parts → All (λ part. HaveBoundsDecimals part.answer) parts
parts_decimals s p [] [] h = All-nil (λ part. HaveBoundsDecimals part.answer)
parts_decimals s p [] (part ∷ parts) h = absurd h
parts_decimals s p (q ∷ qs) [] h = absurd h
parts_decimals s p (q ∷ qs) (part ∷ parts) h = All-cons (λ x. HaveBoundsDecimals x.answer) part parts
    (shown_decimals s p q part (h.0).judged)
    (parts_decimals s p qs parts h.1)

pub bounds_decimals : BoundsHaveDecimals
bounds_decimals s p a h = parts_decimals s p _ a.parts h.parts
