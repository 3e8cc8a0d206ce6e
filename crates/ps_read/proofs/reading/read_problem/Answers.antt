use Rattle.std.proofs.Common.{subst, sym}
use Rattle.std.specs.Prelude.{Ok}
use Rattle.ps_read.specs.Reads.{ReadsEach, RefusesEach}
use Rattle.ps_read.specs.Answers.{IsRight}
use Rattle.ps_read.proofs.Steps.{passed_on}
use Rattle.ps_read.proofs.Returned.{reads_each, reads_none, refuses_each, refuses_none}
use Rattle.ps_read.proofs.reading.read_problem.Goals as goal

pub returns-in_err-problem-clause-only : goal.returns-in_err-problem-clause-only
returns-in_err-problem-clause-only c = reads_none c.args.bytes.now c.from_residual.result c.in_err-problem.field-0.0
    (passed_on c.from_residual.result c.in_err-problem.field-0.0 c.from_residual.ensures.0 c.from_residual.ensures.1) (subst (IsRight c.args.bytes.now) c.in_err-problem.was c.read.ensures)

pub returns-in_err-problem-clause-refused : goal.returns-in_err-problem-clause-refused
returns-in_err-problem-clause-refused c = refuses_each c.args.bytes.now c.from_residual.result c.in_err-problem.field-0.0
    (passed_on c.from_residual.result c.in_err-problem.field-0.0 c.from_residual.ensures.0 c.from_residual.ensures.1) (subst (IsRight c.args.bytes.now) c.in_err-problem.was c.read.ensures)

pub returns-clause-only : goal.returns-clause-only
returns-clause-only c = subst (λ n. ReadsEach c.args.bytes.now (Ok (c.in_ok-problem.problem, n))) (sym c.from.ensures) (reads_each c.args.bytes.now c.in_ok-problem.problem c.in_ok-problem.place.offset (subst (IsRight c.args.bytes.now) c.in_ok-problem.was c.read.ensures).0)

pub returns-clause-refused : goal.returns-clause-refused
returns-clause-refused c = subst (λ n. RefusesEach c.args.bytes.now (Ok (c.in_ok-problem.problem, n))) (sym c.from.ensures) (refuses_none c.args.bytes.now c.in_ok-problem.problem c.in_ok-problem.place.offset (subst (IsRight c.args.bytes.now) c.in_ok-problem.was c.read.ensures).0)
