use Rattle.std.proofs.Common.{ap}
use Rattle.std.proofs.lemmas.Result.{err_from_is_err_and}
use Rattle.ps_pb.specs.Steps.{end_of}
use Rattle.ps_pb.proofs.Places.{after_hints-stop}
use Rattle.ps_pbcheck.proofs.hints.follow_hints.Goals as goal

pub returns-in_err-conflict : goal.returns-in_err-conflict
returns-in_err-conflict c =
    let p = err_from_is_err_and c.from_residual.result c.from_residual.ensures.1 in
    rw (p.1, p.2) (ap end_of (after_hints-stop _ _ _ _ _ _ c.loop-hint.invariant c.loop-hint-test.true c.in_err-conflict.ensures))
