use Rattle.ps_explain.proofs.Needed.{needed_left}
use Rattle.ps_explain.proofs.irreducible.narrow_at.Goals as goal

pub returns-in-Left : goal.returns-in-Left
returns-in-Left g c =
    let tried = rw c.in-Left.is at c.in_ok-model.ensures in
    (tried.conflict, needed_left c.args.means.now.trials.now c.in-Left.smaller.kept c.args.core.now.kept c.args.place tried.among)
