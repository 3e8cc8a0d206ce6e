use Rattle.std.proofs.Common.{subst, ◌∷◌}
use Rattle.std.specs.Prelude.{[]}
use Rattle.ps_answer.specs.declared.item.LineItem.TheVariants as line
use Rattle.ps_answer.specs.declared.part.Part.TheVariants.{AVerdict, AModel, ADual}
use Rattle.ps_answer.specs.Answers.{verdict_items}
use Rattle.ps_reader.specs.Taken.{Takes}
use Rattle.ps_reader.specs.Reports.{parts_behind}
use Rattle.ps_reader.proofs.Rests.{good_line, value_read}
use Rattle.ps_reader.proofs.PartOpenings.{consistent_due, inconsistent_due, verdict_cause, verdict_opening}
use Rattle.ps_reader.proofs.causes.verdict.Goals as goal

pub open-requires : goal.open-requires
open-requires c = record { fits = verdict_cause c.in_ok-item.item c.in_ok-item.ensures.fits c.in_default.not-Consistent c.in_default.not-Inconsistent; good = good_line c.args.lines.now c.take.new.self c.in_ok-item.item c.in_ok-item.ensures.line }

pub returns-in-Consistent-clause-verdict : goal.returns-in-Consistent-clause-verdict
returns-in-Consistent-clause-verdict c = value_read verdict_items c.args.lines.now c.take.new.self c.consistent.new.lines line.Consistent AVerdict (AModel ∷ []) c.consistent.result (subst (λ i. Takes c.args.lines.now c.take.new.self (i ∷ [])) c.in-Consistent.is c.in_ok-item.ensures.line) consistent_due c.consistent.ensures.verdict

pub returns-in-Inconsistent-clause-verdict : goal.returns-in-Inconsistent-clause-verdict
returns-in-Inconsistent-clause-verdict c = value_read verdict_items c.args.lines.now c.take.new.self c.inconsistent.new.lines line.Inconsistent AVerdict (ADual ∷ []) c.inconsistent.result (subst (λ i. Takes c.args.lines.now c.take.new.self (i ∷ [])) c.in-Inconsistent.is c.in_ok-item.ensures.line) inconsistent_due c.inconsistent.ensures.verdict

pub returns-in_default : goal.returns-in_default
returns-in_default c = record {
  verdict = value_read verdict_items c.args.lines.now c.take.new.self c.open.new.lines c.in_ok-item.item AVerdict (parts_behind c.in_ok-item.item) c.open.result c.in_ok-item.ensures.line (verdict_opening c.in_ok-item.item c.in_ok-item.ensures.fits c.in_default.not-Consistent c.in_default.not-Inconsistent) c.open.ensures.verdict;
  counted = c.open.ensures.counted;
}
