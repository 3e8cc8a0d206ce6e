use Rattle.std.proofs.Common.{subst, sym}
use Rattle.ps_read.proofs.Steps.{passed_on}
use Rattle.ps_read.specs.Answers.{IsFinished}
use Rattle.ps_read.specs.Stages.{IsRead}
use Rattle.ps_read.proofs.Knowing.{ended_err, ended, ended_whole}
use Rattle.ps_read.proofs.stage.finish.Goals as goal

pub returns-in_err-parser : goal.returns-in_err-parser
returns-in_err-parser c = record {
  read = λ taken bytes at h. subst (IsRead bytes taken)
      (sym (passed_on c.from_residual.result c.in_err-parser.field-0.0 c.from_residual.ensures.0 c.from_residual.ensures.1))
      (ended_err c.args.reader taken bytes at h c.in_err-parser.field-0.0 (subst (IsFinished c.args.reader) c.in_err-parser.was c.finish.ensures));
}

pub problem_of-requires : goal.problem_of-requires
problem_of-requires c = ended_whole c.args.reader c.in_ok-parser.parser c.in_ok-parser._place c.requires.ready (subst (IsFinished c.args.reader) c.in_ok-parser.was c.finish.ensures)

pub returns : goal.returns
returns c = record {
  read = λ taken bytes at h. ended c.args.reader taken bytes at h c.in_ok-parser.parser c.in_ok-parser._place c.problem_of.result c.requires.ready.waits
      (subst (IsFinished c.args.reader) c.in_ok-parser.was c.finish.ensures) c.problem_of.ensures;
}
