use Rattle.std.proofs.Common.{pos, arith, sym, subst}
use Rattle.std.proofs.lemmas.Int.{ints}
use Rattle.ps_maxsat.specs.declared.problem.Wcnf.{Wcnf}
use Rattle.ps_max_answer.specs.Optima.{IsFoundAnswer}
use Rattle.ps_optimum.specs.Searches.{Reaches}
use Rattle.ps_optimum.proofs.Handed.{reached-long, nearer, refuted-found, spent-found, sought-found, sought-refuted, sought-spent}
use Rattle.ps_optimum.proofs.optimizing.improve.Goals as goal

pub hand_of-requires-clause-long : goal.hand_of-requires-clause-long
hand_of-requires-clause-long c =
    reached-long c.args.text.now (pos 1) c.args.found.now (subst (λ (p : Wcnf). Reaches p (pos 1) c.args.found.now) c.requires.wcnf c.requires.found)

pub loop-hand-init : goal.loop-hand-init
loop-hand-init c = (c.in_ok-hand.ensures (pos 1) (subst (λ (p : Wcnf). Reaches p (pos 1) c.args.found.now) c.requires.wcnf c.requires.found)).0

pub hand_of-requires-in-Found-clause-long : goal.hand_of-requires-in-Found-clause-long
hand_of-requires-in-Found-clause-long c =
    reached-long c.args.text.now _ c.in-Found.better
    (sought-found c.args.text.now c.args.wcnf.now _ c.args.conflicts c.in_ok-better.field-0 c.in-Found.better c.requires.wcnf c.in-Found.is c.in_ok-better.ensures.sought)

pub loop-hand-preserved : goal.loop-hand-preserved
loop-hand-preserved c =
    (c.in_ok-hand-in-Found.ensures _
    (sought-found c.args.text.now c.args.wcnf.now _ c.args.conflicts c.in_ok-better.field-0 c.in-Found.better c.requires.wcnf c.in-Found.is c.in_ok-better.ensures.sought)).0

pub loop-hand-smaller : goal.loop-hand-smaller
loop-hand-smaller c =
    let i = c.loop-hand.invariant in
    let new = c.in_ok-hand-in-Found.ensures _
    (sought-found c.args.text.now c.args.wcnf.now _ c.args.conflicts c.in_ok-better.field-0 c.in-Found.better c.requires.wcnf c.in-Found.is c.in_ok-better.ensures.sought) in
    nearer c.loop-hand.hand.gain c.in_ok-hand-in-Found.hand.gain _ (omega (arith, ints, i.some, i.few)) new.1 new.0.few

pub returns-in-Refuted-clause-found : goal.returns-in-Refuted-clause-found
returns-in-Refuted-clause-found c =
    let i = c.loop-hand.invariant in
    subst (IsFoundAnswer c.args.text.now c.args.conflicts) (sym c.into_optimum.ensures)
    (refuted-found c.args.text.now c.args.conflicts c.loop-hand.hand _ c.in-Refuted.steps c.requires.weighed i (omega (arith, ints, i.some, i.few))
    (sought-refuted c.args.text.now c.args.wcnf.now _ c.args.conflicts c.in_ok-better.field-0 c.in-Refuted.steps c.requires.wcnf c.in-Refuted.is c.in_ok-better.ensures.sought))

pub returns-in-Spent-clause-found : goal.returns-in-Spent-clause-found
returns-in-Spent-clause-found c =
    let i = c.loop-hand.invariant in
    subst (IsFoundAnswer c.args.text.now c.args.conflicts) (sym c.into_open.ensures)
    (spent-found c.args.text.now c.args.conflicts c.loop-hand.hand _ c.in-Spent.goal c.in-Spent.steps i (omega (arith, ints, i.some, i.few))
    (sought-spent c.args.text.now c.args.wcnf.now _ c.args.conflicts c.in_ok-better.field-0 c.in-Spent.goal c.in-Spent.steps c.requires.wcnf c.in-Spent.is c.in_ok-better.ensures.sought))
