-- Fractions of a report.
use Rattle.std.proofs.Common.{◌≡◌, ◌^◌, ap, ◌∙◌, arith}
use Rattle.ps_meaning.specs.Rational.{Rational, fraction}
use Rattle.ps_answer.specs.declared.item.Ratio.{Ratio}
use Rattle.ps_answer.specs.Items.{IsReducedWithin, IsRatioWithin}
use Rattle.ps_answer.specs.declared.limits.TheConstants.{MOST_OPERAND}
use Rattle.ps_answer.specs.Answers.{ratio_of}
use Rattle.ps_reader.proofs.LineFractions.{coprime_kept}

-- in lowest terms a fraction keeps its numbers
pub lowest_ratio : (q : Ratio) (x : Rational) → IsReducedWithin MOST_OPERAND q → IsRatioWithin MOST_OPERAND q → x ≡ fraction q.over q.under → ratio_of x ≡ q
lowest_ratio q x r w e =
    let k = coprime_kept q.over q.under r.0 (r.1 w.0 w.1) in
    ap ratio_of e ∙ ap (λ z. record { over = z; under = (fraction q.over q.under).under }) k.0 ∙ ap (λ n. record { over = q.over; under = n }) k.1

-- a value is within an operand's limits
pub value_operand : (q : Ratio) → IsReducedWithin (2 ^ 90) q → IsRatioWithin (2 ^ 90) q → IsReducedWithin MOST_OPERAND q × IsRatioWithin MOST_OPERAND q
value_operand q r w = ((r.0, λ _ _. r.1 w.0 w.1), (omega (arith, w.0), omega (arith, w.1)))
