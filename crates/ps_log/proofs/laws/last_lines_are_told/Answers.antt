use Rattle.ps_log.proofs.LastLines.{bytes-end, bytes-tell}
use Rattle.ps_log.proofs.laws.last_lines_are_told.Goals as goal

pub returns : goal.returns
returns c = λ bytes p. (bytes-end bytes p, bytes-tell bytes p)
