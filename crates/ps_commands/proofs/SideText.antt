-- The text of the bound on a side.
use Rattle.std.proofs.Common.{◌≡◌, ◌<◌, ◌^◌, ℕ, ℤ, pos, List, ◌++◌, String, string_bytes, codes, sym, subst, append_assoc, FitsSigned}
use Rattle.std.specs.Prelude.{decimal}
use Rattle.std.specs.declared.alloc.Global.{Global}
use Rattle.std.specs.Fmt.{signed_decimal}
use Rattle.std.specs.Int.{w128}
use Rattle.std.specs.Int.Signed.{mag}
use Rattle.std.proofs.lemmas.Int.{fits_signed_from_abs}
use Rattle.std.specs.Prelude.{IfOk, Result}
use Rattle.ps_meaning.specs.Rational.{Rational}
use Rattle.ps_answer.specs.declared.answer.Dual.{Dual}
use Rattle.ps_answer.specs.declared.answer.Model.{Model}
use Rattle.ps_answer.specs.declared.answer.SideAnswer.{SideAnswer}
use Rattle.ps_answer.specs.declared.answer.SideAnswer.TheVariants as side
use Rattle.ps_commands.specs.Replies.{IsText}
use Rattle.ps_commands.specs.Summaries.{side_words}

-- a number of 128 bits that isn't negative
pub fits_under : (z : ℤ) (u : ℕ) → z ≡ pos u → mag z < 2 ^ 127 → FitsSigned w128 z
fits_under z u e h = subst (FitsSigned w128) (sym e) (fits_signed_from_abs w128 (pos u) (subst (λ x. mag x < 2 ^ 127) e h))

-- the text of a bound
pub bound_text : {E : Type 0} (r : Result (String Global) E) (s : SideAnswer) (value : Rational) (m : Model) (d : Dual) (over under : ℤ) → s ≡ side.Bound value m d → over ≡ value.over
    → under ≡ pos value.under → IfOk r (λ t. string_bytes t ≡ signed_decimal over ++ (codes "/" ++ signed_decimal under)) → IsText r (side_words s)
unfolding side_words
bound_text r s value m d over under is o u shown =
    subst (λ (x : SideAnswer). IsText r (side_words x)) (sym is)
    (subst (λ (bs : List ℕ). IfOk r (λ t. string_bytes t ≡ bs)) (sym (append_assoc (signed_decimal value.over) (codes "/") (decimal value.under)))
    (subst (λ (z : ℤ). IfOk r (λ t. string_bytes t ≡ signed_decimal z ++ (codes "/" ++ signed_decimal (pos value.under)))) o
    (subst (λ (z : ℤ). IfOk r (λ t. string_bytes t ≡ signed_decimal over ++ (codes "/" ++ signed_decimal z))) u shown)))
