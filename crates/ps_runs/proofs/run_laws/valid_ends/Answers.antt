use Rattle.ps_runs.proofs.Certified as certified
use Rattle.ps_runs.proofs.Tight.{tight_at_end}
use Rattle.ps_runs.proofs.run_laws.valid_ends.Goals as goal

pub returns : goal.returns
returns c = record { valid = record { refuted = certified.refuted_at_rest; nothing = certified.nothing_at_rest; tight = tight_at_end; consistent = certified.consistent_at_end } }
