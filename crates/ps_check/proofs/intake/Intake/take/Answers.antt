use Rattle.std.proofs.Common.{refl, ap, ◌-◌, length, arith}
use Rattle.std.proofs.lemmas.List.{length-take}
use Rattle.std.proofs.lemmas.Result.{IfOk-weaker}
use Rattle.ps_check.specs.Reports as report
use Rattle.ps_check.specs.Intakes.{HasTakenOn}
use Rattle.ps_check.specs.declared.intake.TheConstants.{MOST_SEARCHED}
use Rattle.ps_check.specs.declared.intake.Intake.TheVariants.{Behind}
use Rattle.ps_check.proofs.InputsSoFar.{read_behind, behind_on}
use Rattle.ps_check.proofs.intake.Intake.take.Goals as goal

pub returns-in_ok-self-in-Reading-clause-taken : goal.returns-in_ok-self-in-Reading-clause-taken
returns-in_ok-self-in-Reading-clause-taken c =
    read_behind c.args.self.now c.in_ok-self-in-Reading.field-0 c.in-Reading.front c.push.new.self c.in-Reading.pushed c.in_ok-count-in-Reading.count c.args.piece.now
    c.at_most-searched.result.now _ c.in-Reading.is c.requires.sound c.at_most-searched.ensures.front c.in_ok-count-in-Reading.ensures.pushed c.in_ok-count-in-Reading.ensures.taken
    (omega (arith, c.if-count-piece.false, c.in_ok-count-in-Reading.ensures.within, ap length c.at_most-searched.ensures.front, length-take (MOST_SEARCHED - c.in-Reading.pushed) c.args.piece.now)) refl
    c.in_ok-self-in-Reading.ensures

pub returns-in-Behind-clause-taken : goal.returns-in-Behind-clause-taken
returns-in-Behind-clause-taken c =
    IfOk-weaker c.take.result (λ _. report.HasTakenOn c.in-Behind.report c.args.piece.now c.take.new.self)
    (λ _. HasTakenOn c.args.self.now c.args.piece.now (Behind c.take.new.self))
    (λ _ h. behind_on c.args.self.now c.in-Behind.report c.take.new.self c.args.piece.now c.in-Behind.is h) c.take.ensures.taken
