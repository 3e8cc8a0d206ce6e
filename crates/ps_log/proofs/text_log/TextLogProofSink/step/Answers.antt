use Rattle.std.proofs.Common.{◌∙◌}
use Rattle.ps_log.specs.Texts.{step_line}
use Rattle.ps_log.proofs.Reading.{step-one_line}
use Rattle.ps_log.proofs.Telling.{from_not, plain, plain_prefix, ends_whole-line, step_told, stays_told}
use Rattle.ps_log.proofs.text_log.TextLogProofSink.step.Goals as goal

pub invariant_of-self : goal.invariant_of-self
invariant_of-self g c = record {
  line_empty = c.in-Ok.ensures.empty;
  unmarked = c.in-Ok.ensures.same_mark ∙ c.args.self.now.unmarked;
  whole_lines = λ b. ends_whole-line _ _ (step_line c.args.step.now) (plain _ _ _ _ c.args.self.now.unmarked c.in-Ok.ensures.ok);
}

pub returns-in-Ok-clause-ok : goal.returns-in-Ok-clause-ok
returns-in-Ok-clause-ok g c =
    step_told _ _ c.args.step.now c.requires.within (c.args.self.now.whole_lines (from_not _ c.requires.whole)) (plain _ _ _ _ c.args.self.now.unmarked c.in-Ok.ensures.ok)

pub returns-in-Err-clause-err : goal.returns-in-Err-clause-err
returns-in-Err-clause-err g c =
    stays_told _ _ (step_line c.args.step.now) (step-one_line c.args.step.now c.requires.within) (plain_prefix _ _ _ _ c.args.self.now.unmarked c.in-Err.ensures.prefix)
