use Rattle.std.proofs.Common.{rules, ◌≡◌}
use Rattle.std.proofs.lemmas.Result.{IfOk-weaker}
use Rattle.ps_generation.specs.Counts.{StaysBelowBound}
use Rattle.ps_generation.specs.Rounds.{HasEntered, IsPhaseSettled, IsRound}
use Rattle.ps_generation.proofs.Coming.{round_on}
use Rattle.ps_generation.proofs.Counted.{round_few, still_few}
use Rattle.ps_generation.proofs.phases.round.Goals as goal

pub returns-clause-end : goal.returns-clause-end
returns-clause-end c =
    let old = c.args.state.now in
    let priced = c.price_table.new.state in
    let new = c.settle_phase.new.state in
    let entered : HasEntered c.args.kind c.args.setting.now old priced = search rules in
    IfOk-weaker c.settle_phase.result (IsPhaseSettled c.args.kind c.args.setting.now priced new) (IsRound c.args.kind c.args.setting.now old new)
    (λ end h. round_on c.args.kind c.args.setting.now old priced new entered.come entered end c.settle_phase.ensures.pool h) c.settle_phase.ensures.end

pub returns-clause-pivots : goal.returns-clause-pivots
returns-clause-pivots c =
    let old = c.args.state.now in
    let priced = c.price_table.new.state in
    let new = c.settle_phase.new.state in
    let entered : HasEntered c.args.kind c.args.setting.now old priced = search rules in
    let few : StaysBelowBound c.args.setting.now.subject old new = round_few c.args.setting.now.subject old priced new entered.pool entered.left c.settle_phase.ensures.pool c.settle_phase.ensures.fewer in
    IfOk-weaker c.settle_phase.result (IsPhaseSettled c.args.kind c.args.setting.now priced new) (λ _. StaysBelowBound c.args.setting.now.subject old new)
    (λ end h. few) c.settle_phase.ensures.end

pub returns-in-Some-clause-pivots : goal.returns-in-Some-clause-pivots
returns-in-Some-clause-pivots c =
    let old = c.args.state.now in
    let new = c.price_table.new.state in
    let same : new.pool ≡ old.pool = search rules in
    let left : new.left ≡ old.left = search rules in
    still_few c.args.setting.now.subject old new same left
