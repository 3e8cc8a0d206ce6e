use Rattle.std.proofs.Common.{subst, ◌∷◌}
use Rattle.std.specs.Prelude.{[]}
use Rattle.ps_max_text.specs.declared.item.MaxItem.TheVariants as line
use Rattle.ps_max_text.specs.declared.part.MaxPart.TheVariants as part
use Rattle.ps_max_text.specs.Answered.{best_items}
use Rattle.ps_max_text.specs.Taken.{Takes, IsRestRead}
use Rattle.ps_max_text.proofs.Taking.{value_read}
use Rattle.ps_max_text.proofs.Passing.{only_best, best_next, best_kept}
use Rattle.ps_max_text.proofs.reading.best.Goals as goal

pub unreachable-requires : goal.unreachable-requires
unreachable-requires c = only_best c.in_ok-take.field-0 c.in_ok-take.ensures.fits c.in_default.not-NoBest c.in_default.not-Best

pub returns-in-Best : goal.returns-in-Best
returns-in-Best c =
    let t = subst (λ i. Takes c.args.lines.now c.take.new.self (i ∷ [])) c.in-Best.is c.in_ok-take.ensures.line in
    value_read best_items c.args.lines.now c.take.new.self c.best_of.new.lines (line.Best c.in-Best.cost) part.Best c.best_of.result t (best_next c.in-Best.cost)
    (subst (λ z. IsRestRead best_items (line.Best z) c.take.new.self c.best_of.new.lines c.best_of.result) (best_kept c.args.lines.now c.take.new.self c.in-Best.cost t) c.best_of.ensures)
