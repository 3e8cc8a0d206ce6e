use Rattle.std.proofs.Common.{true, false, subst, ◌∷◌, ◌++◌}
use Rattle.std.specs.Prelude.{[]}
use Rattle.ps_answer.specs.declared.item.LineItem.TheVariants as line
use Rattle.ps_answer.specs.declared.part.Part.TheVariants.{ADual, ATrace, AnAnswer, ASide}
use Rattle.ps_reader.specs.Taken.{Takes}
use Rattle.ps_reader.specs.Reports.{parts_behind, query_part_items}
use Rattle.ps_reader.proofs.Rests.{good_line, value_read}
use Rattle.ps_reader.proofs.PartOpenings.{bounds_due, impossible_due, answer_cause, answer_opening}
use Rattle.ps_reader.proofs.queries.part.Goals as goal

pub open-requires : goal.open-requires
open-requires c = record { fits = answer_cause c.in_ok-item.item c.in_ok-item.ensures.fits c.in_default.not-Bounds c.in_default.not-Impossible; good = good_line c.args.lines.now c.take.new.self c.in_ok-item.item c.in_ok-item.ensures.line }

pub returns-in-Bounds-clause-part : goal.returns-in-Bounds-clause-part
returns-in-Bounds-clause-part c = value_read query_part_items c.args.lines.now c.take.new.self c.sides.new.lines line.Bounds AnAnswer (ATrace ∷ ASide false ∷ ASide true ∷ []) c.sides.result (subst (λ i. Takes c.args.lines.now c.take.new.self (i ∷ [])) c.in-Bounds.is c.in_ok-item.ensures.line) bounds_due c.sides.ensures.part

pub returns-in-Impossible-clause-part : goal.returns-in-Impossible-clause-part
returns-in-Impossible-clause-part c = value_read query_part_items c.args.lines.now c.take.new.self c.impossible.new.lines line.Impossible AnAnswer (ADual ∷ ATrace ∷ []) c.impossible.result (subst (λ i. Takes c.args.lines.now c.take.new.self (i ∷ [])) c.in-Impossible.is c.in_ok-item.ensures.line) impossible_due c.impossible.ensures.part

pub returns-in_default : goal.returns-in_default
returns-in_default c = record {
  part = value_read query_part_items c.args.lines.now c.take.new.self c.open.new.lines c.in_ok-item.item AnAnswer (parts_behind c.in_ok-item.item ++ ATrace ∷ []) c.open.result c.in_ok-item.ensures.line (answer_opening c.in_ok-item.item c.in_ok-item.ensures.fits c.in_default.not-Bounds c.in_default.not-Impossible) c.open.ensures.part;
  counted = c.open.ensures.counted;
}
