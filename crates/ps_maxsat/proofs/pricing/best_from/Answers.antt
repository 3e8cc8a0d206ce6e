use Rattle.std.proofs.Common.{◌≡◌, ◌≤◌, ◌^◌, unsigned_abs, ◌∙◌, ◌+ℤ◌, ◌-ℤ◌, ℤ, pos, refl, sym, inl, inr, to_z, of_z, arith}
use mir.Syntax.{w128}
use Rattle.std.proofs.lemmas.Int.{ints}
use Rattle.ps_maxsat.proofs.Halving.{halved-first, halved-next, halved-few, halves-up, halves-down, least-up, few-searches, most-under, below-size, between-fits, between-size, down-one, halves-lower}
use Rattle.ps_maxsat.proofs.Rounds.{refuted-none, none-same, found-of, held-end, spent-is, held-found, held-refutation, held-last, bound-above, later-error, halfway, later-goal, first-error, on-error}
use Rattle.ps_maxsat.proofs.Lowering.{lowered, lowered-none, lowered-most, lowered-below, lowered-next, most-same, below-most}
use Rattle.ps_maxsat.proofs.pricing.best_from.Goals as goal

pub returns-in_err-last-clause-logged : goal.returns-in_err-last-clause-logged
returns-in_err-last-clause-logged g c =
    on-error c.args.wcnf.now c.args.conflicts _ _ c.from_residual.result c.from_residual.ensures.0
    (first-error c.args.wcnf.now c.args.conflicts _ _ c.in_err-last.ensures.logged)

pub returns-in-Refuted-clause-priced : goal.returns-in-Refuted-clause-priced
returns-in-Refuted-clause-priced g c = refuted-none c.args.wcnf.now (pos 1) (pos 0) c.args.conflicts c.in_ok-last.field-0 _ c.in-Refuted.is c.in_ok-last.ensures.outcome refl

pub returns-in-Refuted-clause-logged : goal.returns-in-Refuted-clause-logged
returns-in-Refuted-clause-logged g c = held-end c.args.wcnf.now (pos 1) (pos 1) c.args.conflicts _ _ _ c.in_ok-last.field-0 _ c.in-Refuted.is refl (λ b. b) c.in_ok-last.ensures.logged

pub returns-in-Spent-clause-logged : goal.returns-in-Spent-clause-logged
returns-in-Spent-clause-logged g c = held-end c.args.wcnf.now (pos 1) (pos 1) c.args.conflicts _ _ _ c.in_ok-last.field-0 _ c.in-Spent.is refl (λ b. b) c.in_ok-last.ensures.logged

pub greatest_in_steps-bound-requires-clause-above : goal.greatest_in_steps-bound-requires-clause-above
greatest_in_steps-bound-requires-clause-above g c =
    let v : ℤ = to_z w128 (of_z w128 (to_z w128 (of_z w128 c.value-found.result))) in
    let same : v ≡ c.value-found.result = omega (arith, ints, c.value-found.ensures.size) in
    let b : to_z w128 (of_z w128 c.most_value.result) ≡ c.most_value.result = omega (arith, ints, c.most_value.ensures.size) in
    let found = found-of c.args.wcnf.now (pos 1) c.args.conflicts c.in_ok-last.field-0 c.in-Found.assignment v c.value-found.result c.in-Found.is c.in_ok-last.ensures.outcome c.value-found.ensures.full c.requires.soft same in
    bound-above c.args.wcnf.now c.in-Found.assignment v _ found.own (none-same c.args.wcnf.now c.most_value.result (to_z w128 (of_z w128 c.most_value.result)) c.most_value.ensures.above (sym b))

pub loop-found-init : goal.loop-found-init
loop-found-init g c =
    let v : ℤ = to_z w128 (of_z w128 (to_z w128 (of_z w128 c.value-found.result))) in
    let same : v ≡ c.value-found.result = omega (arith, ints, c.value-found.ensures.size) in
    let most : ℤ = to_z w128 (of_z w128 c.most_value.result) in
    let b : most ≡ c.most_value.result = omega (arith, ints, c.most_value.ensures.size) in
    let found_size : unsigned_abs v ≤ 2 ^ 120 = omega (arith, ints, same, c.value-found.ensures.size) in
    let most_size : unsigned_abs most ≤ 2 ^ 120 = omega (arith, ints, b, c.most_value.ensures.size) in
    let step = c.greatest_in_steps-bound.ensures in
    let low : ℤ = to_z w128 (of_z w128 c.greatest_in_steps-bound.result) in
    let fits = between-fits v c.greatest_in_steps-bound.result most step.from step.within found_size most_size in
    let found = found-of c.args.wcnf.now (pos 1) c.args.conflicts c.in_ok-last.field-0 c.in-Found.assignment v c.value-found.result c.in-Found.is c.in_ok-last.ensures.outcome c.value-found.ensures.full c.requires.soft same in
    let l = lowered c.args.wcnf.now c.in-Found.assignment c.as_slice.result.now c.unit_of-unit.result v most c.greatest_in_steps-bound.result low found.own c.as_slice.ensures c.unit_of-unit.ensures fits step.from step.within step.none_between in
    record {
      own = found.own;
      least = found.up;
      none = lowered-none c.args.wcnf.now v most low l (none-same c.args.wcnf.now c.most_value.result most c.most_value.ensures.above (sym b));
      within = lowered-most c.args.wcnf.now v most low l (most-same c.args.wcnf.now c.most_value.result most b c.most_value.ensures.value);
      some = omega arith;
      halved = halved-first v low found.up (most-under low most l.within most_size);
      found_size = found_size;
      bound_size = between-size v low most l.from l.within found_size most_size;
      logged = inl (held-found c.args.wcnf.now (pos 1) v c.args.conflicts _ _ _ c.in_ok-last.field-0 c.in-Found.assignment c.in-Found.is (inl refl) found.up (λ b. b) c.in_ok-last.ensures.logged);
      telling = c.in_ok-last.ensures.telling;
      whole = c.in_ok-last.ensures.whole;
      same_faults = c.in_ok-last.ensures.counted.ok;
      same_kind = c.search_above.ensures.same_kind;
      same_references = c.search_above.ensures.same_references;
    }

pub loop-found-preserved-in-Refuted-2 : goal.loop-found-preserved-in-Refuted-2
loop-found-preserved-in-Refuted-2 g c =
    let i = c.loop-found.invariant in
    let m = c.middle-goal.ensures in
    let f : ℤ = to_z w128 c.loop-found.found-bits in
    let b : ℤ = to_z w128 c.loop-found.bound-bits in
    let r : ℤ = to_z w128 (of_z w128 c.middle-goal.result) in
    let same : r ≡ c.middle-goal.result = omega (arith, ints) in
    let d : ℤ = to_z w128 (of_z w128 (r -ℤ pos 1)) in
    let down : d +ℤ pos 1 ≡ r = down-one f b c.middle-goal.result r m.above m.within i.found_size i.bound_size same in
    let way = below-size f b c.middle-goal.result r d m.above m.within same down i.found_size i.bound_size in
    let step = c.greatest_in_steps-bound-in-Refuted-2.ensures in
    let low : ℤ = to_z w128 (of_z w128 c.greatest_in_steps-bound-in-Refuted-2.result) in
    let fits = between-fits f c.greatest_in_steps-bound-in-Refuted-2.result d step.from step.within i.found_size way in
    let l = lowered c.args.wcnf.now c.loop-found.assignment c.as_slice.result.now c.unit_of-unit.result f d c.greatest_in_steps-bound-in-Refuted-2.result low i.own c.as_slice.ensures c.unit_of-unit.ensures fits step.from step.within step.none_between in
    let goal_is = later-goal c.args.wcnf.now c.loop-found.assignment f c.middle-goal.result r b same i.own i.least i.none m.above m.within i.within m.half_up m.half_down in
    record {
      own = i.own;
      least = i.least;
      none = lowered-none c.args.wcnf.now f d low l (refuted-none c.args.wcnf.now r d c.args.conflicts c.in_ok-search_above.field-0 _ c.in-Refuted-2.is c.in_ok-search_above.ensures.outcome down);
      within = lowered-most c.args.wcnf.now f d low l (below-most c.args.wcnf.now b c.middle-goal.result r d m.within same down i.within);
      some = omega (arith, i.some);
      halved = halved-next _ _ _ low c.loop-found.searches i.halved (omega (arith, ints, c.loop-found-test.true)) (halves-lower f b d low l.within (halves-down f b c.middle-goal.result r d m.half_down same down));
      found_size = i.found_size;
      bound_size = between-size f low d l.from l.within i.found_size way;
      logged = inr (held-refutation c.args.wcnf.now r low c.args.conflicts _ _ _ c.in_ok-search_above.field-0 _ c.in-Refuted-2.is goal_is (lowered-below c.args.wcnf.now f d low r l down) (lowered-next c.args.wcnf.now f d low r l down) i.telling c.in_ok-search_above.ensures.logged);
      telling = λ t. c.in_ok-search_above.ensures.telling (i.telling t);
      whole = c.in_ok-search_above.ensures.whole;
      same_faults = c.in_ok-search_above.ensures.counted.ok ∙ i.same_faults;
      same_kind = c.search_above-in-loop-found.ensures.same_kind ∙ i.same_kind;
      same_references = c.search_above-in-loop-found.ensures.same_references ∙ i.same_references;
    }

pub loop-found-preserved : goal.loop-found-preserved
loop-found-preserved g c =
    let i = c.loop-found.invariant in
    let m = c.middle-goal.ensures in
    let r : ℤ = to_z w128 (of_z w128 c.middle-goal.result) in
    let same : r ≡ c.middle-goal.result = omega (arith, ints) in
    let v : ℤ = to_z w128 (of_z w128 c.value-found-in-Found-2.result) in
    let value_same : v ≡ c.value-found-in-Found-2.result = omega (arith, ints, c.value-found-in-Found-2.ensures.size) in
    let found = found-of c.args.wcnf.now r c.args.conflicts c.in_ok-search_above.field-0 c.in-Found-2.better v c.value-found-in-Found-2.result c.in-Found-2.is c.in_ok-search_above.ensures.outcome c.value-found-in-Found-2.ensures.full c.requires.soft value_same in
    record {
      own = found.own;
      least = least-up (to_z w128 c.loop-found.found-bits) c.middle-goal.result r v i.least m.above same found.up;
      none = i.none;
      within = i.within;
      some = omega (arith, i.some);
      halved = halved-next _ _ v _ c.loop-found.searches i.halved (omega (arith, ints, c.loop-found-test.true)) (halves-up (to_z w128 c.loop-found.found-bits) (to_z w128 c.loop-found.bound-bits) c.middle-goal.result r v m.half_up same found.up);
      found_size = omega (arith, ints, value_same, c.value-found-in-Found-2.ensures.size);
      bound_size = i.bound_size;
      logged = inl (held-found c.args.wcnf.now r v c.args.conflicts _ _ _ c.in_ok-search_above.field-0 c.in-Found-2.better c.in-Found-2.is (later-goal c.args.wcnf.now c.loop-found.assignment (to_z w128 c.loop-found.found-bits) c.middle-goal.result r (to_z w128 c.loop-found.bound-bits) same i.own i.least i.none m.above m.within i.within m.half_up m.half_down) found.up i.telling c.in_ok-search_above.ensures.logged);
      telling = λ t. c.in_ok-search_above.ensures.telling (i.telling t);
      whole = c.in_ok-search_above.ensures.whole;
      same_faults = c.in_ok-search_above.ensures.counted.ok ∙ i.same_faults;
      same_kind = c.search_above-in-loop-found.ensures.same_kind ∙ i.same_kind;
      same_references = c.search_above-in-loop-found.ensures.same_references ∙ i.same_references;
    }

pub returns-in-Spent-2-clause-priced : goal.returns-in-Spent-2-clause-priced
returns-in-Spent-2-clause-priced g c =
    let i = c.loop-found.invariant in
    let m = c.middle-goal.ensures in
    let r : ℤ = to_z w128 (of_z w128 c.middle-goal.result) in
    let same : r ≡ c.middle-goal.result = omega (arith, ints) in
    let half = halfway c.args.wcnf.now (to_z w128 c.loop-found.found-bits) c.middle-goal.result r (to_z w128 c.loop-found.bound-bits) same i.none m.above m.within m.half_up m.half_down in
    (i.own, i.least, half, (omega (arith, ints, m.within, i.within)), (omega (arith, i.some)), (omega (arith, halved-few _ _ c.loop-found.searches i.halved)))

pub returns-in-Spent-2-clause-logged : goal.returns-in-Spent-2-clause-logged
returns-in-Spent-2-clause-logged g c =
    let r : ℤ = to_z w128 (of_z w128 c.middle-goal.result) in
    held-end c.args.wcnf.now r _ c.args.conflicts _ _ _ c.in_ok-search_above.field-0 _ (spent-is c.args.wcnf.now r c.args.conflicts c.in_ok-search_above.field-0 _ c.in-Spent-2.is c.in_ok-search_above.ensures.outcome) refl c.loop-found.invariant.telling c.in_ok-search_above.ensures.logged

pub loop-found-smaller-in-Refuted-2 : goal.loop-found-smaller-in-Refuted-2
loop-found-smaller-in-Refuted-2 g c = let few : c.loop-found.searches ≤ 121 = halved-few _ _ c.loop-found.searches c.loop-found.invariant.halved in omega (arith, few)

pub loop-found-smaller : goal.loop-found-smaller
loop-found-smaller g c = let few : c.loop-found.searches ≤ 121 = halved-few _ _ c.loop-found.searches c.loop-found.invariant.halved in omega (arith, few)

pub returns-in_err-search_above-clause-logged : goal.returns-in_err-search_above-clause-logged
returns-in_err-search_above-clause-logged g c =
    let i = c.loop-found.invariant in
    let m = c.middle-goal.ensures in
    let r : ℤ = to_z w128 (of_z w128 c.middle-goal.result) in
    let same : r ≡ c.middle-goal.result = omega (arith, ints) in
    on-error c.args.wcnf.now c.args.conflicts _ _ c.from_residual-in_err-search_above.result c.from_residual-in_err-search_above.ensures.0
    (later-error c.args.wcnf.now (to_z w128 c.loop-found.found-bits) (to_z w128 c.loop-found.bound-bits) r c.args.conflicts _ _ _ i.logged i.telling (later-goal c.args.wcnf.now c.loop-found.assignment (to_z w128 c.loop-found.found-bits) c.middle-goal.result r (to_z w128 c.loop-found.bound-bits) same i.own i.least i.none m.above m.within i.within m.half_up m.half_down) c.in_err-search_above.ensures.logged)

pub returns-clause-priced : goal.returns-clause-priced
returns-clause-priced g c =
    let i = c.loop-found.invariant in
    let f : ℤ = to_z w128 c.loop-found.found-bits in
    let b : ℤ = to_z w128 c.loop-found.bound-bits in
    let up = bound-above c.args.wcnf.now c.loop-found.assignment f b i.own i.none in
    let none = none-same c.args.wcnf.now b f i.none (omega (arith, ints, up, c.loop-found-test.false)) in
    (i.own, i.least, none, i.some, few-searches f b c.loop-found.searches i.halved)

pub returns-clause-logged : goal.returns-clause-logged
returns-clause-logged g c =
    let i = c.loop-found.invariant in
    let up = bound-above c.args.wcnf.now c.loop-found.assignment (to_z w128 c.loop-found.found-bits) (to_z w128 c.loop-found.bound-bits) i.own i.none in
    held-last c.args.wcnf.now (to_z w128 c.loop-found.found-bits) (to_z w128 c.loop-found.bound-bits) c.args.conflicts _ _ (omega (arith, ints, up, c.loop-found-test.false)) i.logged
