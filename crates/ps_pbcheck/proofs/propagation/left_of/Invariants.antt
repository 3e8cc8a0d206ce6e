use Rattle.std.proofs.Common.{◌≡◌, take}
use Rattle.std.specs.Prelude.{option_to_list}
use Rattle.std.specs.List.{filter}
use Rattle.ps_pb.specs.Constraints.{is_open}
use Rattle.ps_pbcheck.proofs.propagation.left_of.Given as goal

abbrev pub invariant-loop-lit : goal.invariant-loop-lit
invariant-loop-lit l = option_to_list l.one ≡ filter (is_open l.a) (take l.lit-index l.lits)
