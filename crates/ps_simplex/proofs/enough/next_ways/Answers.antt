use Rattle.std.proofs.Common.{◌≡◌, ◌+◌, ◌*◌, ◌/◌, suc, ◌∙◌, arith}
use Rattle.ps_simplex.specs.Count.{choose}
use Rattle.ps_simplex.proofs.Ways.{next_is, suc_is}
use Rattle.ps_simplex.proofs.enough.next_ways.Goals as goal

pub returns : goal.returns
returns c =
    let m = c.args.worlds in
    let k = c.args.chosen in
    let up : k + 1 ≡ suc k = omega arith in
    let all : m + k + 1 ≡ suc (m + k) = omega arith in
    (λ z. (c.requires.ways z * all z) / up z) ∙ next_is m k ∙ (λ z. choose (m + suc_is k z) (suc_is k z))
