use Rattle.std.proofs.Common.{length, sym, ap, ◌∙◌}
use Rattle.ps_problem.proofs.BoundRows.{rows-length}
use Rattle.ps_claims.specs.Certificates.{dual_of}
use Rattle.ps_valid.specs.Aims.{aim_of}
use Rattle.ps_valid.proofs.DualFaults.{sign_found}
use Rattle.ps_valid.proofs.refuting.first_in_dual.Goals as goal

pub first_wrong_sign-requires-clause-lengths : goal.first_wrong_sign-requires-clause-lengths
first_wrong_sign-requires-clause-lengths c =
    ap length c.as_slice.ensures ∙ c.requires.rows ∙ sym (rows-length c.args.problem.now.sentences) ∙ sym (ap length c.rows.ensures.rows)

pub returns-in-Some : goal.returns-in-Some
returns-in-Some c =
    sign_found c.args.problem.now (aim_of c.args.kind c.args.given c.args.both) (dual_of c.args.dual.now) c.args.value c.rows.result.now c.in-Some.bound c.rows.ensures.rows
    (c.has_head.ensures.0 c.if-not-has_head.false) (rw c.as_slice.ensures at c.in-Some.ensures)
