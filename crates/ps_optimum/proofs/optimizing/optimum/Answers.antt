use Rattle.std.proofs.Common.{◌≡◌, None, pos}
use Rattle.std.proofs.lemmas.Result.{IfOk-weaker}
use Rattle.ps_max_answer.specs.Answers.{fault_of}
use Rattle.ps_max_answer.specs.Optima.{IsFoundAnswer}
use Rattle.ps_max_answer.specs.declared.answer.MaxAnswer.TheVariants.{Unsatisfiable}
use Rattle.ps_max_answer.proofs.Accepted.{found-unfaulted}
use Rattle.ps_optimum.proofs.Handed.{none-found, sought-refuted}
use Rattle.ps_optimum.proofs.optimizing.optimum.Goals as goal

pub returns-in-Found-clause-accepted : goal.returns-in-Found-clause-accepted
returns-in-Found-clause-accepted c =
    IfOk-weaker c.improve.result (IsFoundAnswer c.args.text.now c.args.conflicts) (λ a. fault_of c.args.text.now a ≡ None) (λ a h. found-unfaulted c.args.text.now c.args.conflicts a h) c.improve.ensures.found

pub returns-in-Refuted-clause-found : goal.returns-in-Refuted-clause-found
returns-in-Refuted-clause-found c =
    none-found c.args.text.now c.args.conflicts c.in-Refuted.steps c.check_text.ensures
    (sought-refuted c.args.text.now c.in_ok-wcnf.wcnf (pos 1) c.args.conflicts c.in_ok-found.field-0 c.in-Refuted.steps c.in_ok-wcnf.ensures.value c.in-Refuted.is c.in_ok-found.ensures.sought)

pub returns-in-Refuted-clause-accepted : goal.returns-in-Refuted-clause-accepted
returns-in-Refuted-clause-accepted c =
    found-unfaulted c.args.text.now c.args.conflicts (Unsatisfiable c.in-Refuted.steps)
    (none-found c.args.text.now c.args.conflicts c.in-Refuted.steps c.check_text.ensures
    (sought-refuted c.args.text.now c.in_ok-wcnf.wcnf (pos 1) c.args.conflicts c.in_ok-found.field-0 c.in-Refuted.steps c.in_ok-wcnf.ensures.value c.in-Refuted.is c.in_ok-found.ensures.sought))
