-- Models of the kept sentences.
use Rattle.std.proofs.Common.{◌≡◌, ◌≤◌, Bool, None, List, length, All, refl, sym, subst, arith}
use Rattle.ps_problem.specs.declared.row.Row.{Row}
use Rattle.ps_problem.specs.declared.limits.TheConstants.{MOST_BOUNDS}
use Rattle.ps_problem.specs.Problems.{Parts, AreParts}
use Rattle.ps_problem.specs.Rows.{IsRow, rows_in}
use Rattle.ps_problem.proofs.BoundRows.{are-rows, rows-length}
use Rattle.ps_answer.specs.declared.answer.Model.{Model}
use Rattle.ps_runs.specs.Kept.{kept_of, kept_parts}
use Rattle.ps_runs.proofs.Kept.{parts-kept}
use Rattle.ps_claims.specs.Printed.{IsPrintedModel}
use Rattle.ps_valid.specs.Judged.{FindsReasonOver}
use Rattle.ps_guess.specs.Trials.{IsFoundModel}

-- the rows of kept sentences are over nodes that are there
pub kept_sound : (p : Parts) (kept : List Bool) (rows : List Row) → AreParts p → rows ≡ rows_in (kept_of kept p.sentences) → All (IsRow p.nodes) rows
kept_sound p kept rows are e = subst (All (IsRow p.nodes)) (sym e) (are-rows p.nodes (kept_of kept p.sentences) (parts-kept kept p are).bounds)

pub kept_few : (p : Parts) (kept : List Bool) (rows : List Row) → AreParts p → rows ≡ rows_in (kept_of kept p.sentences) → length rows ≤ MOST_BOUNDS
kept_few p kept rows are e =
    let few = (parts-kept kept p are).few_bounds in
    let many = rows-length (kept_of kept p.sentences) in
    subst (λ rs. length rs ≤ MOST_BOUNDS) (sym e) (omega (arith, few, many))

-- a model with no reason against it over the rows of kept sentences is one of these
pub kept_model : (p : Parts) (kept : List Bool) (rows : List Row) (m : Model) → AreParts p → rows ≡ rows_in (kept_of kept p.sentences) → FindsReasonOver p rows m None
    → IsPrintedModel m → IsFoundModel (kept_parts kept p) m
kept_model p kept rows m are e found printed = record {
  valid = found (kept_parts kept p) (record { names = refl; nodes = refl; bounds = (parts-kept kept p are).bounds; rows_are = sym e });
  printed = printed;
}
