use Rattle.std.proofs.lemmas.Result.{IfOk-weaker}
use Rattle.ps_query.specs.Parts.{IsPartOf, IsPartOfRun}
use Rattle.ps_query.proofs.solving.query_part.Goals as goal

pub returns : goal.returns
returns c =
    IfOk-weaker c.part_of.result (IsPartOfRun c.in_ok-run.run') (IsPartOf c.args.limits c.args.problem.now c.args.query)
    (λ part h. h c.args.problem.now c.args.query c.args.limits c.in_ok-run.ensures) c.part_of.ensures
