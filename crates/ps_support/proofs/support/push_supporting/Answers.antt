use Rattle.std.proofs.Common.{List, ℤ, ◌<◌, ◌++◌, ◌∷◌, [], ap, ◌∙◌, length, arith, refl, rules, sym, subst}
use Rattle.std.specs.Prelude.{pos, slice_get}
use Rattle.std.specs.Int.RustNames.{FitsSigned}
use Rattle.std.proofs.lemmas.Int.{to_z-of_z}
use mir.Syntax.{w128}
use Rattle.ps_claims.specs.Certificates.{IsMultiplier}
use Rattle.ps_problem.specs.Problems.{bounds_in}
use Rattle.ps_support.specs.declared.support.Supporting.{Supporting}
use Rattle.ps_support.specs.Supports.{line_in, supporting}
use Rattle.ps_support.proofs.Found.{told_of}
use Rattle.ps_support.proofs.support.push_supporting.Goals as goal

pub size_of-size-requires-clause-small : goal.size_of-size-requires-clause-small
size_of-size-requires-clause-small c =
    let fits : FitsSigned w128 c.multiplier_at.result = search rules in
    let lt : c.args.i < length c.args.dual.now.rows = omega arith in
    subst IsMultiplier (sym (to_z-of_z w128 c.multiplier_at.result fits ∙ c.multiplier_at.ensures)) (c.requires.small.rows c.args.i (pos 0) lt)

pub returns : goal.returns
returns c =
    let by : FitsSigned w128 c.multiplier_at.result = search rules in
    let over : FitsSigned w128 c.args.dual.now.top = search rules in
    let fits : FitsSigned w128 c.size_of-size.result = search rules in
    let sized = simp to_z-of_z at c.size_of-size.ensures.value in
    let fast = simp to_z-of_z at c.rate_of-rate.ensures in
    let moves = simp to_z-of_z at c.hundredth_where-hundredth.ensures in
    let bound = slice_get (bounds_in c.args.problem.now.sentences) c.args.i in
    let line = line_in c.args.lines.now c.args.at.sentence in
    let d = c.args.dual.now in
    ◌∙◌ {A = List Supporting} c.in_ok-push.ensures.items (ap (λ (one : Supporting). c.args.into.now.items ++ one ∷ [])
    (told_of c.args.side c.args.query bound c.args.at c.args.lines.now c.multiplier_at.result d.top
    c.unit_at.result c.size_of-size.result c.is_free.result c.line_in.result c.unsigned_abs.result c.rate_of-rate.result c.hundredth_where-hundredth.result
    c.unit_at.ensures.value sized c.is_free.ensures c.line_in.ensures (search rules) fast moves _ refl
    ∙ ap (λ (y : ℤ). supporting c.args.side c.args.query bound c.args.at line (y, d.top)) c.multiplier_at.ensures))
