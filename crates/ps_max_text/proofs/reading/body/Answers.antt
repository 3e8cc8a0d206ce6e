use Rattle.std.proofs.Common.{subst, ◌∷◌}
use Rattle.std.specs.Prelude.{[]}
use Rattle.ps_max_text.specs.declared.item.MaxItem.TheVariants as line
use Rattle.ps_max_text.specs.declared.part.MaxPart.TheVariants as part
use Rattle.ps_max_text.specs.Answered.{body_items}
use Rattle.ps_max_text.specs.Taken.{Takes, IsRestRead}
use Rattle.ps_max_text.proofs.Taking.{value_read}
use Rattle.ps_max_text.proofs.Passing.{only_answer, optimum_next, optimum_kept, unsatisfiable_next, open_next}
use Rattle.ps_max_text.proofs.reading.body.Goals as goal

pub unreachable-requires : goal.unreachable-requires
unreachable-requires c = only_answer c.in_ok-cost.field-0 c.in_ok-cost.ensures.fits c.in_default.not-Optimum c.in_default.not-Unsatisfiable c.in_default.not-OpenConflicts

pub returns-in-Optimum : goal.returns-in-Optimum
returns-in-Optimum c =
    let t = subst (λ i. Takes c.args.lines.now c.take.new.self (i ∷ [])) c.in-Optimum.is c.in_ok-cost.ensures.line in
    value_read body_items c.args.lines.now c.take.new.self c.optimum.new.lines (line.Optimum c.in-Optimum.cost) part.Answer c.optimum.result t (optimum_next c.in-Optimum.cost)
    (subst (λ z. IsRestRead body_items (line.Optimum z) c.take.new.self c.optimum.new.lines c.optimum.result) (optimum_kept c.args.lines.now c.take.new.self c.in-Optimum.cost t) c.optimum.ensures)

pub returns-in-Unsatisfiable : goal.returns-in-Unsatisfiable
returns-in-Unsatisfiable c = value_read body_items c.args.lines.now c.take.new.self c.unsatisfiable.new.lines line.Unsatisfiable part.Answer c.unsatisfiable.result (subst (λ i. Takes c.args.lines.now c.take.new.self (i ∷ [])) c.in-Unsatisfiable.is c.in_ok-cost.ensures.line) unsatisfiable_next c.unsatisfiable.ensures

pub returns-in-OpenConflicts : goal.returns-in-OpenConflicts
returns-in-OpenConflicts c = value_read body_items c.args.lines.now c.take.new.self c.open.new.lines (line.OpenConflicts c.in-OpenConflicts.limit c.in-OpenConflicts.count) part.Answer c.open.result (subst (λ i. Takes c.args.lines.now c.take.new.self (i ∷ [])) c.in-OpenConflicts.is c.in_ok-cost.ensures.line) (open_next c.in-OpenConflicts.limit c.in-OpenConflicts.count) c.open.ensures
