use Rattle.std.proofs.Common.{◌≡◌, ◌+◌, nat_eq, drop, arith}
use Rattle.ps_problem.specs.Numbering.{place_in}
use Rattle.ps_problem.proofs.Atoms.{place-turn, place-here, place-end}
use Rattle.ps_problem.proofs.building.place_of.Goals as goal

pub returns-then-n-m : goal.returns-then-n-m
returns-then-n-m c =
    let e = place-here c.args.numbers.now c.args.n c.loop-i.i c.loop-i-test.true c.if-n-m.true in
    let h : c.loop-i.i + place_in nat_eq (drop c.loop-i.i c.args.numbers.now) c.args.n ≡ place_in nat_eq c.args.numbers.now c.args.n = c.loop-i.invariant in
    omega arith

pub loop-i-preserved : goal.loop-i-preserved
loop-i-preserved c =
    let e = place-turn c.args.numbers.now c.args.n c.loop-i.i c.loop-i-test.true c.if-n-m.false in
    let h : c.loop-i.i + place_in nat_eq (drop c.loop-i.i c.args.numbers.now) c.args.n ≡ place_in nat_eq c.args.numbers.now c.args.n = c.loop-i.invariant in
    omega arith

pub returns : goal.returns
returns c =
    let e = place-end c.args.numbers.now c.args.n c.loop-i.i c.loop-i-test.false in
    let h : c.loop-i.i + place_in nat_eq (drop c.loop-i.i c.args.numbers.now) c.args.n ≡ place_in nat_eq c.args.numbers.now c.args.n = c.loop-i.invariant in
    let end = c.loop-i.auto.i-end in
    omega arith
