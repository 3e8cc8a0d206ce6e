use Rattle.std.proofs.Common.{◌≡◌, true, false, get_or, rules}
use Rattle.ps_problem.specs.Problems.{AreParts}
use Rattle.ps_explain.proofs.Needed.{not_among}
use Rattle.ps_explain.specs.Explanations.{without}
use Rattle.ps_explain.proofs.Models.{models_more}
use Rattle.ps_explain.proofs.Parts.{kept_inside}
use Rattle.ps_explain.proofs.irreducible.push_model.Goals as goal

pub unreachable-requires : goal.unreachable-requires
unreachable-requires g c =
    let tried = rw c.in-Left.is at c.in_ok-model.ensures in
    let kept : get_or c.args.core.now.kept c.args.place false ≡ true = search rules in
    let are : AreParts c.args.means.now.trials.now = search rules in
    not_among c.args.means.now.trials.now (without c.args.core.now.kept c.args.place) c.in-Left.field-0 are tried.conflict tried.among
    (c.requires.needed.at c.args.place (kept_inside c.args.core.now.kept c.args.place kept) kept)

pub returns-in_ok-push-in-Needed : goal.returns-in_ok-push-in-Needed
returns-in_ok-push-in-Needed g c =
    let tried = rw c.in-Needed.is at c.in_ok-model.ensures in
    let kept : get_or c.args.core.now.kept c.args.place false ≡ true = search rules in
    let pushed = rw c.in_ok-push-in-Needed.was at c.push.ensures.ok in record {
      more = models_more c.args.means.now.trials.now c.args.core.now.kept c.args.place c.args.models.now c.push.new.self c.in-Needed.model kept tried.0 tried.1 pushed;
      early = tt;
    }
