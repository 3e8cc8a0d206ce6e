use Rattle.std.proofs.Common.{◌≡◌, take, map}
use Rattle.ps_clause.specs.Forms.{is_other}
use Rattle.ps_clause.proofs.clauses.others_of.Given as goal

abbrev pub invariant-loop-node : goal.invariant-loop-node
invariant-loop-node l = l.others ≡ map is_other (take l.node-index l.nodes)
