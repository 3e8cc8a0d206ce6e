use Rattle.std.proofs.lemmas.Result.{IfOk-weaker}
use Rattle.ps_check.specs.Reports as report
use Rattle.ps_check.specs.Intakes.{IsFound}
use Rattle.ps_check.proofs.InputsSoFar.{found_reading, found_judging}
use Rattle.ps_check.proofs.intake.Intake.finish.Goals as goal

pub returns-in_ok-begin-in-Reading : goal.returns-in_ok-begin-in-Reading
returns-in_ok-begin-in-Reading c = record {
  found =
      IfOk-weaker c.finish.result (report.IsFound c.in_ok-begin-in-Reading.field-0) (IsFound c.args.self)
      (λ checked h.
      found_reading c.args.self c.in-Reading.front c.in-Reading.pushed c.in_ok-begin-in-Reading.field-0 checked c.in-Reading.is c.requires.sound c.in_ok-begin-in-Reading.ensures.begun h)
      c.finish.ensures.found;
}

pub returns-in-Behind : goal.returns-in-Behind
returns-in-Behind c = record {
  found =
      IfOk-weaker c.finish-in-Behind.result (report.IsFound c.in-Behind.report) (IsFound c.args.self) (λ checked h. found_judging c.args.self c.in-Behind.report checked c.in-Behind.is h)
      c.finish-in-Behind.ensures.found;
}
