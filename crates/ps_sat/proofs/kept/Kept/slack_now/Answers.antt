use Rattle.std.proofs.Common.{◌≡◌, ◌∙◌, ap, arith}
use Rattle.std.proofs.lemmas.Int.{ints}
use Rattle.ps_pb.specs.Constraints.{slack}
use Rattle.ps_sat.proofs.Sighted.{values-literals}
use Rattle.ps_sat.specs.Keeping.{slack_seen}
use Rattle.ps_sat.proofs.kept.Kept.slack_now.Goals as goal

pub returns : goal.returns
returns c =
    let s = c.self.inside.sight in
    let now : c.slack_now.result ≡ slack_seen c.args.self.now = c.slack_now.ensures ∙ ap (slack s.goal) (values-literals s.seen.variables s.seen.entries) ∙ ap slack_seen c.self.view_is in
    omega (arith, ints, now)
