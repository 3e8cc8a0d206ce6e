use Rattle.std.proofs.Common.{length}
use Rattle.ps_lex.specs.Places.{HasRoom}
use Rattle.ps_lex.specs.Passing.{gap_state, Passes}
use Rattle.ps_lex.proofs.gap.Gap.pass.Given as goal

abbrev pub invariant-loop-left : goal.invariant-loop-left
invariant-loop-left l = record {
  passes : Passes (gap_state l.fn.self.is_comment l.fn.self.began l.fn.self.here) l.bytes (gap_state l.gap.is_comment l.gap.began l.gap.here) l.left;
  room : HasRoom (length l.left) l.gap.here;
}

abbrev pub decreases-loop-left : goal.decreases-loop-left
decreases-loop-left l = length l.left
