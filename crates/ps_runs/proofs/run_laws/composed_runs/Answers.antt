use Rattle.ps_runs.proofs.Composed as composed
use Rattle.ps_runs.proofs.run_laws.composed_runs.Goals as goal

pub returns : goal.returns
returns c = record { composed = record { leads = composed.leads_on; pivots = composed.pivots_in-append } }
