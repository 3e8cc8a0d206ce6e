use Rattle.std.proofs.Common.{◌≡◌, suc, ◌≤◌, ◌^◌, ℤ, pos, unsigned_abs, List, [], get_or, ◌+◌, ◌∷◌, ◌++◌, ◌∙◌, to_z, of_z, ap, subst, arith}
use Rattle.std.specs.Int.{w128}
use Rattle.std.proofs.lemmas.List.{take_all}
use Rattle.std.proofs.lemmas.List.Elements.{All-get_or}
use Rattle.ps_problem.specs.declared.row.Row.{Row}
use Rattle.ps_claims.specs.Certificates.{IsMultiplier}
use Rattle.ps_generation.specs.Duals.{AreSigned, row_numbers}
use Rattle.ps_generation.proofs.Signed.{next_row, next_small}
use Rattle.ps_generation.proofs.Weighing.{read_back}
use Rattle.ps_generation.proofs.table_dual.bound_rows.Goals as goal

pub loop-i-preserved : goal.loop-i-preserved
loop-i-preserved c =
    let rows = c.args.rows.now in
    let numbers = c.args.numbers.now in
    let i = c.loop-i.i in
    let z = c.multiplier_of.result in
    let y = get_or numbers (i + 1) (pos 0) in
    let next : i + 1 ≡ suc i = omega arith in
    let small : unsigned_abs y ≤ 2 ^ 90 = All-get_or IsMultiplier numbers (i + 1) (pos 0) (omega (arith, c.requires.count, c.loop-i-test.true)) c.requires.small in
    let grown : c.push.new.self ≡ c.loop-i.multipliers ++ z ∷ [] =
    c.in_ok-push.ensures.ok ∙ ap (λ (x : ℤ). c.loop-i.multipliers ++ x ∷ []) (read_back z c.multiplier_of.ensures.small) in
    record {
      rows = next_row rows (row_numbers numbers) i c.loop-i.multipliers c.push.new.self _ (to_z w128 (of_z w128 y)) z c.loop-i-test.true
          c.loop-i.invariant.rows (read_back y small ∙ ap (λ k. get_or numbers k (pos 0)) next) c.multiplier_of.ensures.value grown;
      small = next_small c.loop-i.multipliers c.push.new.self z c.loop-i.invariant.small c.multiplier_of.ensures.small grown;
    }

pub returns-clause-rows : goal.returns-clause-rows
returns-clause-rows c =
    let rows = c.args.rows.now in
    subst (λ (rs : List Row). AreSigned rs (row_numbers c.args.numbers.now) c.loop-i.multipliers) (take_all c.loop-i.i rows (omega (arith, c.loop-i-test.false)))
    c.loop-i.invariant.rows
