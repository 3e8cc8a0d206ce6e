use Rattle.ps_guess.proofs.Settled.{solution, short, read_back}
use Rattle.ps_guess.proofs.answering.answer.Goals as goal

pub returns : goal.returns
returns g c =
    let limits = c.args.limits in
    let p = c.args.problem.now in
    let v = c.in_ok-verdict.verdict in
    let first = c.in_ok-verdict.first in
    let parts = c.in_ok-parts.parts in
    let are = c.rows-sound.ensures.parts in
    let found = rw c.in_ok-trials.ensures.problem at c.in_ok-verdict.ensures in
    let each = rw c.in_ok-trials.ensures.problem at c.in_ok-parts.ensures in
    record {
      solution = solution limits p v first parts found each are;
      short = short limits p v first parts found each are c.requires.limits;
      read_back = read_back limits p v first parts found each are c.requires.limits;
    }
