use Rattle.ps_bland.proofs.DuePlaces.{due_there, due_here}
use Rattle.ps_bland.proofs.laws.due_places.Goals as goal

pub returns : goal.returns
returns c = record { due = λ phase costs t left w. (due_there phase costs t left w, due_here phase costs t left w) }
