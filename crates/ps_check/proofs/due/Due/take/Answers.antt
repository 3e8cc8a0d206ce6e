use Rattle.std.proofs.Common.{◌≤◌, ◌∷◌, [], Some, sym, ap, ◌∙◌}
use Rattle.std.proofs.lemmas.List.Elements.{All-pop}
use Rattle.ps_check.specs.declared.due.Run.{Run}
use Rattle.ps_check.specs.Runs.{parts_of}
use Rattle.ps_check.proofs.DueParts.{push_run, many_taken}
use Rattle.ps_check.proofs.due.Due.take.Goals as goal

pub returns : goal.returns
returns c =
    let rest = c.pop.new.self in
    let run = c.in-Some.field-0 in
    let least = (All-pop (λ (r : Run). 1 ≤ r.count) c.self.inside.runs rest (Some run) c.in-Some.ensures.last c.self.invariant).1 in
    sym c.self.view_is ∙ ap parts_of c.in-Some.ensures.last ∙ push_run [] rest run ∙ many_taken run.count run.part (parts_of rest) least ∙ ap (λ due. run.part ∷ due) (sym c.in_ok-add.ensures)
