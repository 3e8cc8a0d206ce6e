use Rattle.std.proofs.Common.{◌++◌, ◌∷◌, [], ap, ◌∙◌, append_assoc}
use Rattle.ps_hints.specs.Shown.{spaces}
use Rattle.ps_hints.proofs.Shows.{shown_space, spaces_push}
use Rattle.ps_hints.proofs.caret.push_spaces.Goals as goal

pub loop-space-preserved : goal.loop-space-preserved
loop-space-preserved c =
    let start = c.args.message.now in
    let n = c.loop-space._space in
    c.in_ok-push.ensures ∙ ap (λ bs. c.loop-space.message ++ bs) shown_space ∙ ap (λ bs. bs ++ 32 ∷ []) c.loop-space.invariant
    ∙ append_assoc start (spaces n) (32 ∷ []) ∙ ap (λ bs. start ++ bs) (spaces_push n)
