-- The row that tests share, over three nodes.
use Rattle.std.proofs.Common.{◌≡◌, pos, negsuc, Bool, List, [], ◌∷◌, length, All, sym, subst, arith}
use Rattle.std.proofs.lemmas.List.Elements.{All-nil, All-cons}
use Rattle.ps_meaning.specs.declared.side.Side.TheVariants.{AtLeast}
use Rattle.ps_problem.specs.declared.row.Row.{Row}
use Rattle.ps_problem.specs.Rows.{HasTerm}
use Rattle.ps_runs.specs.Columns.{HasValues}

abbrev lower : Row
lower = record { side = AtLeast; unit = 4; base = pos 0; terms = (2, pos 4) ∷ (1, negsuc 0) ∷ [] }

pub has_values : (values : List Bool) (r : Row) → length values ≡ 3 → r ≡ lower → All (HasValues values) (r ∷ [])
has_values values r e is =
    let one : HasValues values lower = record {
      nodes = All-cons (HasTerm values) (2, pos 4) ((1, negsuc 0) ∷ []) (omega (arith, e)) (All-cons (HasTerm values) (1, negsuc 0) [] (omega (arith, e)) (All-nil (HasTerm values)));
      small = omega arith;
    } in
    All-cons (HasValues values) r [] (subst (HasValues values) (sym is) one) (All-nil (HasValues values))
