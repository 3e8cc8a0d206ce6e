use Rattle.std.proofs.lemmas.Option.{IfSome_then}
use Rattle.ps_max_text.proofs.line.split_line.Goals as goal

pub returns-clause-found : goal.returns-clause-found
returns-clause-found c = IfSome_then c.split_once.result c.split_once.ensures.found (λ r h. record { is = h.0; whole = h.1 })
