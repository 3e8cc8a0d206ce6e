use Rattle.ps_query.proofs.Answering.{solution, short, read_back}
use Rattle.ps_query.proofs.solving.answer_by.Goals as goal

pub returns : goal.returns
returns c =
    let limits = c.args.limits in
    let p = c.args.problem.now in
    let v = c.in_ok-verdict.verdict in
    let first = c.in_ok-verdict.first in
    let found = c.in_ok-verdict.ensures.verdict limits p c.requires.new in
    record {
      solution = solution limits p v first c.in_ok-parts.parts found c.in_ok-parts.ensures c.rows-sound.ensures.parts;
      short = short limits p v first c.in_ok-parts.parts found c.in_ok-parts.ensures c.rows-sound.ensures.parts c.requires.limits;
      read_back = read_back limits p v first c.in_ok-parts.parts found c.in_ok-parts.ensures c.rows-sound.ensures.parts c.requires.limits;
    }
