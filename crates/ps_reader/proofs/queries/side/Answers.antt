use Rattle.std.proofs.Common.{subst, ◌∷◌}
use Rattle.std.specs.Prelude.{[]}
use Rattle.ps_answer.specs.declared.item.LineItem.TheVariants as line
use Rattle.ps_answer.specs.declared.part.Part.TheVariants.{AModel, ADual, ACause, ATrace, ASide}
use Rattle.ps_reader.specs.Read.{Fits}
use Rattle.ps_reader.specs.Taken.{Takes}
use Rattle.ps_reader.specs.Reports.{traced_items}
use Rattle.ps_reader.proofs.Passing.{bound_due, open_due}
use Rattle.ps_reader.proofs.Rests.{good_line, value_read}
use Rattle.ps_reader.proofs.PartOpenings.{bound_taken, open_taken, side_only}
use Rattle.ps_reader.proofs.Fractions.{value_operand}
use Rattle.ps_reader.proofs.queries.side.Goals as goal

pub bound-requires-clause-reduced : goal.bound-requires-clause-reduced
bound-requires-clause-reduced c = let g = good_line c.args.lines.now c.take.new.self (line.Bound c.in-Bound.upper c.in-Bound.value) (subst (λ i. Takes c.args.lines.now c.take.new.self (i ∷ [])) c.in-Bound.is c.in_ok-value.ensures.line) in (value_operand c.in-Bound.value g.proper.1 g.within).0

pub returns-in-Bound-clause-side : goal.returns-in-Bound-clause-side
returns-in-Bound-clause-side c = value_read (traced_items c.args.upper) c.args.lines.now c.take.new.self c.bound.new.lines (line.Bound c.args.upper c.in-Bound.value) (ASide c.args.upper) (AModel ∷ ADual ∷ ATrace ∷ []) c.bound.result (bound_taken c.args.upper c.in-Bound.upper c.in-Bound.value c.args.lines.now c.take.new.self (subst (λ i. Fits (ASide c.args.upper) i) c.in-Bound.is c.in_ok-value.ensures.fits) (subst (λ i. Takes c.args.lines.now c.take.new.self (i ∷ [])) c.in-Bound.is c.in_ok-value.ensures.line))
    (bound_due c.args.upper c.in-Bound.value) (c.bound.ensures.side c.args.upper)

pub returns-in-OpenSide-clause-side : goal.returns-in-OpenSide-clause-side
returns-in-OpenSide-clause-side c = value_read (traced_items c.args.upper) c.args.lines.now c.take.new.self c.open_side.new.lines (line.OpenSide c.args.upper) (ASide c.args.upper) (ACause ∷ ATrace ∷ []) c.open_side.result (open_taken c.args.upper c.in-OpenSide.upper c.args.lines.now c.take.new.self (subst (λ i. Fits (ASide c.args.upper) i) c.in-OpenSide.is c.in_ok-value.ensures.fits) (subst (λ i. Takes c.args.lines.now c.take.new.self (i ∷ [])) c.in-OpenSide.is c.in_ok-value.ensures.line))
    (open_due c.args.upper) (c.open_side.ensures.side c.args.upper)

pub unreachable-requires : goal.unreachable-requires
unreachable-requires c = side_only c.args.upper _ c.in_ok-value.ensures.fits c.in_default.not-Bound c.in_default.not-OpenSide
