use Rattle.std.proofs.Common.{◌≤◌, All, sym, ap, subst, ◌∙◌, arith}
use Rattle.ps_check.specs.declared.due.Run.{Run}
use Rattle.ps_check.specs.Runs.{first_due, parts_of}
use Rattle.ps_check.proofs.DueParts.{next_of_last}
use Rattle.ps_check.proofs.due.Due.next.Goals as goal

pub returns-in-len1-up : goal.returns-in-len1-up
returns-in-len1-up c = sym (next_of_last c.as_slice.result.now _ (omega (arith, c.in-len1-up.len_at_least)) (subst (All (λ (r : Run). 1 ≤ r.count)) (sym c.as_slice.ensures) c.self.invariant))
    ∙ ap (λ rs. first_due (parts_of rs)) c.as_slice.ensures ∙ ap first_due c.self.view_is
