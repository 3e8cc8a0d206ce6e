-- The text of a query of which a side is open.
use Rattle.std.proofs.Common.{◌≡◌, ℕ, Option, refl}
use Rattle.ps_meaning.specs.Rational.{Rational}
use Rattle.ps_answer.specs.declared.answer.Model.{Model}
use Rattle.ps_answer.specs.declared.answer.Dual.{Dual}
use Rattle.ps_answer.specs.declared.answer.Cause.{Cause}
use Rattle.ps_answer.specs.declared.answer.SideAnswer.{SideAnswer}
use Rattle.ps_answer.specs.declared.answer.SideAnswer.TheVariants as side
use Rattle.ps_spoken.specs.declared.reached.Reached.{Reached}
use Rattle.ps_spoken.specs.Spoken.{bounds_text, sides_text}

pub open_lower : (digits : ℕ) (lower upper : SideAnswer) (r : Option Reached) (c : Cause) → lower ≡ side.Open c → bounds_text digits lower upper r ≡ sides_text digits lower upper r
open_lower digits lower upper r c e = rw e refl

pub open_upper : (digits : ℕ) (lower upper : SideAnswer) (r : Option Reached) (c : Cause) (x : Rational) (m : Model) (d : Dual) → lower ≡ side.Bound x m d → upper ≡ side.Open c
    → bounds_text digits lower upper r ≡ sides_text digits lower upper r
open_upper digits lower upper r c x m d e f = rw (e, f) refl
