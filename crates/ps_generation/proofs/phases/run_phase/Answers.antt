use Rattle.std.proofs.Common.{rules, ap, arith, length}
use Rattle.ps_generation.specs.Rounds.{HasRested, HasGoneRound}
use Rattle.ps_generation.specs.Phases.{IsEnd}
use Rattle.ps_generation.specs.Counts.{StaysBelowBound}
use Rattle.ps_generation.proofs.Counted.{first_few, few_at}
use Rattle.ps_generation.proofs.Coming.{come_on, end_on, left_so}
use Rattle.ps_generation.proofs.phases.run_phase.Goals as goal

pub loop-end-init : goal.loop-end-init
loop-end-init c =
    let rested : HasRested c.args.kind c.args.setting.now c.args.state.now c.settle_phase.new.state = search rules in
    let left = c.settle_phase.ensures.left in
    let pool = ap (λ ws. length ws) c.settle_phase.ensures.pool in
    record { come = rested.come; phase = c.settle_phase.ensures.phase; rests = rested.rests; room = omega (arith, left, pool); below = first_few c.args.setting.now.subject c.args.state.now c.settle_phase.new.state c.settle_phase.ensures.pool c.settle_phase.ensures.fewer }

pub round-requires-clause-room : goal.round-requires-clause-room
round-requires-clause-room c = record { room = let a = c.loop-end.invariant.room in let b = c.requires.room.room in omega (arith, a, b) }

pub returns-in-Some-2-clause-end : goal.returns-in-Some-2-clause-end
returns-in-Some-2-clause-end c =
    let end : IsEnd c.args.kind c.args.setting.now c.loop-end.state c.round.new.state c.in-Some-2.end = search rules in
    end_on c.args.kind c.args.setting.now c.args.state.now c.loop-end.state c.round.new.state c.loop-end.invariant.come c.in-Some-2.end end

pub returns-in-Some-2-clause-left : goal.returns-in-Some-2-clause-left
returns-in-Some-2-clause-left c =
    left_so c.args.kind c.args.setting.now.subject c.round.new.costs c.args.state.now c.round.new.state c.in_ok-end-2.ensures.phase
    (let a = c.loop-end.invariant.room in let b = c.in_ok-end-2.ensures.room in omega (arith, a, b))

pub loop-end-smaller : goal.loop-end-smaller
loop-end-smaller c =
    let gone : HasGoneRound c.args.kind c.args.setting.now c.loop-end.state c.round.new.state = search rules in
    gone.fewer

pub loop-end-preserved : goal.loop-end-preserved
loop-end-preserved c =
    let gone : HasGoneRound c.args.kind c.args.setting.now c.loop-end.state c.round.new.state = search rules in
    let stay : StaysBelowBound c.args.setting.now.subject c.loop-end.state c.round.new.state = c.in_ok-end-2.ensures.pivots in
    record {
      come = come_on c.args.kind c.args.setting.now c.args.state.now c.loop-end.state c.round.new.state c.loop-end.invariant.come gone.come;
      phase = c.in_ok-end-2.ensures.phase;
      rests = gone.rests;
      below = stay.stays c.args.state.now.left c.loop-end.invariant.below;
      room = let a = gone.room in let b = c.loop-end.invariant.room in omega (arith, a, b);
    }

pub returns-in-Some-clause-pivots : goal.returns-in-Some-clause-pivots
returns-in-Some-clause-pivots c =
    let end : IsEnd c.args.kind c.args.setting.now c.args.state.now c.settle_phase.new.state c.in-Some.end = search rules in
    few_at c.args.kind c.args.setting.now c.args.state.now c.settle_phase.new.state c.in-Some.end end c.settle_phase.ensures.phase.pool_kept
    (first_few c.args.setting.now.subject c.args.state.now c.settle_phase.new.state c.settle_phase.ensures.pool c.settle_phase.ensures.fewer)

pub returns-in-Some-2-clause-pivots : goal.returns-in-Some-2-clause-pivots
returns-in-Some-2-clause-pivots c =
    let end : IsEnd c.args.kind c.args.setting.now c.loop-end.state c.round.new.state c.in-Some-2.end = search rules in
    let stay : StaysBelowBound c.args.setting.now.subject c.loop-end.state c.round.new.state = c.in_ok-end-2.ensures.pivots in
    few_at c.args.kind c.args.setting.now c.args.state.now c.round.new.state c.in-Some-2.end
    (end_on c.args.kind c.args.setting.now c.args.state.now c.loop-end.state c.round.new.state c.loop-end.invariant.come c.in-Some-2.end end)
    c.in_ok-end-2.ensures.phase.pool_kept (stay.stays c.args.state.now.left c.loop-end.invariant.below)
