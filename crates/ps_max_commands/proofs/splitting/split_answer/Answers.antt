use Rattle.std.proofs.Common.{ap, length, ◌-◌, take}
use Rattle.ps_max_commands.proofs.CutInputs.{answer_within}
use Rattle.ps_max_commands.proofs.splitting.split_answer.Goals as goal

pub returns-clause-clauses : goal.returns-clause-clauses
returns-clause-clauses c = ap (λ r. take (length c.args.bytes.now - length r) c.args.bytes.now) c.answer_in-answer.ensures

pub slice_bounds-result-count : goal.slice_bounds-result-count
slice_bounds-result-count c = rw c.answer_in-answer.ensures (answer_within c.args.bytes.now)
