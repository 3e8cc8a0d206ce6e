use Rattle.std.proofs.Common.{◌<◌, pos, get_or, unsigned_abs, subst, sym, ◌∙◌, rules, FitsSigned, w64}
use Rattle.std.proofs.lemmas.Int.{to_z-of_z}
use Rattle.ps_whole.specs.Whole.{under_at}
use Rattle.ps_whole.proofs.Changes.{not_zero}
use Rattle.ps_whole.proofs.rows.Whole.pivot_number.Goals as goal

pub returns-clause-not_zero : goal.returns-clause-not_zero
returns-clause-not_zero c =
    let w = c.args.self.now in
    let f : FitsSigned w64 c.entering.result = search rules in
    subst (λ z. 0 < unsigned_abs z) (sym (to_z-of_z w64 c.entering.result f ∙ c.entering.ensures.value))
    (not_zero (get_or c.args.column.now c.args.p (pos 0)) (under_at w c.args.p) c.requires.pivot.not_zero)
