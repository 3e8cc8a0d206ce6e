use Rattle.std.proofs.Common.{◌≡◌, subst, arith, ◌++◌, ◌∷◌, [], ap, ◌∙◌, rules, FitsSigned, w64}
use Rattle.std.proofs.lemmas.Int.{to_z-of_z}
use Rattle.ps_whole.specs.Columns.{IsWholeSum, AreNumbersTo}
use Rattle.ps_whole.proofs.Numbers.{numbers_next, made_column}
use Rattle.ps_whole.proofs.rows.Whole.column_of.Goals as goal

pub loop-i-preserved : goal.loop-i-preserved
loop-i-preserved c =
    let v = c.in-Some.number in
    let f : FitsSigned w64 v = search rules in
    numbers_next (IsWholeSum c.args.self.now c.args.entries.now) c.loop-i.i c.loop-i.made.items c.push.new.self.items v c.loop-i.invariant
    (c.in_ok-push-in-Some.ensures.items ∙ ap (λ k. c.loop-i.made.items ++ k ∷ []) (to_z-of_z w64 v f)) c.in-Some.ensures.sum c.in-Some.ensures.small

pub returns : goal.returns
returns c =
    let w = c.args.self.now in
    let es = c.args.entries.now in
    let all : c.loop-i.i ≡ w.rows = omega (arith, c.loop-i-test.false, c.loop-i.auto, c.rows-i-end.ensures.value) in
    record { made = made_column w c.rows-i-end.ensures.whole es c.loop-i.made.items (subst (λ n. AreNumbersTo (IsWholeSum w es) n c.loop-i.made.items) all c.loop-i.invariant) }
