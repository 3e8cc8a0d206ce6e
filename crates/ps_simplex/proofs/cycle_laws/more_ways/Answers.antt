use Rattle.ps_simplex.proofs.Ways as ways
use Rattle.ps_simplex.proofs.cycle_laws.more_ways.Goals as goal

pub returns : goal.returns
returns c = record { grow = record { next = ways.choose_next; more = ways.more_things } }
