use Rattle.std.proofs.Common.{◌≡◌, ◌++◌, ◌∷◌, [], ◌<◌, ◌^◌, pos, ◌*ℤ◌, unsigned_abs, int_div, arith, subst, sym, ap, ◌∙◌, rules, FitsSigned, w64}
use Rattle.std.specs.Int.{w128}
use Rattle.std.proofs.lemmas.Int.{to_z-of_z}
use Rattle.ps_meaning.proofs.ExactQuotient.{quot_exact}
use Rattle.ps_whole.specs.Pivots.{raw_number, IsNarrowed}
use Rattle.ps_whole.proofs.Pushed.{pushed_next}
use Rattle.ps_whole.proofs.rows.Whole.push_numbers.Goals as goal

pub loop-column-preserved : goal.loop-column-preserved
loop-column-preserved c =
    let w = c.args.self.now in
    let n = c.loop-column.column in
    let g = c.args.change.now.by in
    let raw = raw_number w c.args.p c.args.i c.args.change.now.times c.args.change.now.less n in
    let fr : FitsSigned w128 c.raw-raw.result = search rules in
    let fd : FitsSigned w128 c.signed_quotient.result = search rules in
    let ft : FitsSigned w64 c.args.change.now.times = search rules in
    let fl : FitsSigned w64 c.args.change.now.less = search rules in
    let r : c.raw-raw.result ≡ raw = simp to_z-of_z at c.raw-raw.ensures.value in
    let d : c.signed_quotient.result ≡ int_div c.raw-raw.result (pos g) = simp to_z-of_z at c.signed_quotient.ensures.value in
    let fn : FitsSigned w64 c.in-Some.number = search rules in
    let kept : IsNarrowed c.signed_quotient.result c.in-Some.number = simp to_z-of_z at c.in-Some.ensures.value in
    let exact : int_div raw (pos g) *ℤ pos g ≡ raw = quot_exact raw g (c.requires.change.content.over n (omega (arith, c.loop-column-test.true, c.width-column-end.ensures.value))) in
    pushed_next (raw_number w c.args.p c.args.i c.args.change.now.times c.args.change.now.less) g c.args.made.now.items c.loop-column.made.items c.push.new.self.items n c.in-Some.number
    c.loop-column.invariant (c.in_ok-push-in-Some.ensures.items ∙ ap (λ v. c.loop-column.made.items ++ v ∷ []) (to_z-of_z w64 c.in-Some.number fn))
    (ap (λ z. z *ℤ pos g) (kept.0 ∙ d ∙ ap (λ z. int_div z (pos g)) r) ∙ exact)
    (subst (λ z. unsigned_abs z < 2 ^ 62) (sym kept.0) kept.1)
