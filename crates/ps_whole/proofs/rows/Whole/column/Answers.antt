use Rattle.std.proofs.Common.{◌++◌, ◌∷◌, [], ap, ◌∙◌, rules, FitsSigned, w64}
use Rattle.std.proofs.lemmas.Int.{to_z-of_z}
use Rattle.ps_whole.specs.Columns.{IsNumberIn}
use Rattle.ps_whole.proofs.Numbers.{numbers_next}
use Rattle.ps_whole.proofs.rows.Whole.column.Goals as goal

pub loop-i-preserved : goal.loop-i-preserved
loop-i-preserved c =
    let v = c.number.result in
    let f : FitsSigned w64 v = search rules in
    numbers_next (IsNumberIn c.args.self.now c.args.column) c.loop-i.i c.loop-i.made.items c.push.new.self.items v c.loop-i.invariant
    (c.in_ok-push.ensures.items ∙ ap (λ k. c.loop-i.made.items ++ k ∷ []) (to_z-of_z w64 v f)) c.number.ensures.value c.number.ensures.small
