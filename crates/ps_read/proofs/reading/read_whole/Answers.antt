use Rattle.std.proofs.Common.{subst, refl}
use Rattle.ps_read.specs.Answers.{IsRight}
use Rattle.ps_read.proofs.Steps.{passed_on}
use Rattle.ps_read.proofs.Returned.{whole_told, reads_each_whole, reads_none_whole, refuses_each_whole, refuses_none_whole, more_told, all_spell}
use Rattle.ps_read.proofs.reading.read_whole.Goals as goal

pub returns-in_err-problem-clause-only : goal.returns-in_err-problem-clause-only
returns-in_err-problem-clause-only c = reads_none_whole c.args.bytes.now c.from_residual.result c.in_err-problem.field-0.0
    (passed_on c.from_residual.result c.in_err-problem.field-0.0 c.from_residual.ensures.0 c.from_residual.ensures.1)
    (whole_told c.args.bytes.now c.in_err-problem.field-0.0 (subst (IsRight c.args.bytes.now) c.in_err-problem.was c.read.ensures))

pub returns-in_err-problem-clause-refused : goal.returns-in_err-problem-clause-refused
returns-in_err-problem-clause-refused c = refuses_each_whole c.args.bytes.now c.from_residual.result c.in_err-problem.field-0.0
    (passed_on c.from_residual.result c.in_err-problem.field-0.0 c.from_residual.ensures.0 c.from_residual.ensures.1)
    (whole_told c.args.bytes.now c.in_err-problem.field-0.0 (subst (IsRight c.args.bytes.now) c.in_err-problem.was c.read.ensures))

pub returns-then-place-bytes-clause-only : goal.returns-then-place-bytes-clause-only
returns-then-place-bytes-clause-only c = reads_none_whole c.args.bytes.now _ c.at.result refl
    (more_told c.args.bytes.now c.in_ok-problem.problem c.in_ok-problem.place c.at.result (subst (IsRight c.args.bytes.now) c.in_ok-problem.was c.read.ensures) c.if-place-bytes.true c.at.ensures)

pub returns-then-place-bytes-clause-refused : goal.returns-then-place-bytes-clause-refused
returns-then-place-bytes-clause-refused c = refuses_each_whole c.args.bytes.now _ c.at.result refl
    (more_told c.args.bytes.now c.in_ok-problem.problem c.in_ok-problem.place c.at.result (subst (IsRight c.args.bytes.now) c.in_ok-problem.was c.read.ensures) c.if-place-bytes.true c.at.ensures)

pub returns-clause-only : goal.returns-clause-only
returns-clause-only c = reads_each_whole c.args.bytes.now c.in_ok-problem.problem
    (all_spell c.args.bytes.now c.in_ok-problem.problem c.in_ok-problem.place (subst (IsRight c.args.bytes.now) c.in_ok-problem.was c.read.ensures) c.if-place-bytes.false)

pub returns-clause-refused : goal.returns-clause-refused
returns-clause-refused c = refuses_none_whole c.args.bytes.now c.in_ok-problem.problem
    (all_spell c.args.bytes.now c.in_ok-problem.problem c.in_ok-problem.place (subst (IsRight c.args.bytes.now) c.in_ok-problem.was c.read.ensures) c.if-place-bytes.false)
