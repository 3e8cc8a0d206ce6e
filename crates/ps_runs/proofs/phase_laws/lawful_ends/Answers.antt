use Rattle.ps_runs.proofs.Ending.{ended, side_ended}
use Rattle.ps_runs.proofs.Alone.{lawful_alone, valid_alone}
use Rattle.ps_runs.proofs.Counted.{answer_counted}
use Rattle.ps_runs.proofs.phase_laws.lawful_ends.Goals as goal

pub returns : goal.returns
returns c = record { lawful = ended; sides = side_ended; counted = answer_counted; alone = record { lawful = lawful_alone; valid = valid_alone } }
