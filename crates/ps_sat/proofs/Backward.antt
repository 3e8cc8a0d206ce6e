-- The goal's slack, one entry of a trail back.
use Rattle.std.proofs.Common.{◌≡◌, ℕ, ◌+◌, ◌∙◌, ℤ, pos, neg_ℤ, take, get_or, Some, List, ap, sym, subst}
use Rattle.std.specs.Prelude.{slice_get}
use Rattle.ps_pb.specs.Assignments.{with_true}
use Rattle.ps_pb.specs.Constraints.{Constraint, slack}
use Rattle.ps_pb.specs.Weights.{IsNormal, weighted}
use Rattle.ps_learn.specs.Trails.{Trail, TrailEntry, AreFresh, IsFresh}
use Rattle.ps_learn.proofs.Entries.{length-values, values-more}
use Rattle.ps_sat.specs.Watches.{slot_of}
use Rattle.ps_sat.specs.Going.{values_to}
use Rattle.ps_sat.specs.Sights.{AreCoefficients}
use Rattle.ps_sat.proofs.Slacks.{IsMore, seen-more}

pub back-more : (t : Trail) (c : Constraint) (n k : ℕ) (e : TrailEntry) (l s : ℤ) (xs : List ℤ) (p : ℕ) → k ≡ n + 1 → slice_get t.entries n ≡ Some e → l ≡ e.lit → AreFresh t.variables t.entries → IsNormal (weighted c.terms) c.degree → AreCoefficients t.variables c xs → s ≡ slack c (values_to t k) → p ≡ slot_of (neg_ℤ l) → IsMore c (values_to t n) s (get_or xs p (pos 0))
back-more t c n k e l s xs p q at same f normal coefficients h own =
    let fresh : IsFresh t.variables (values_to t n) l = subst (IsFresh t.variables (values_to t n)) (sym same) (f.at n e at) in
    let more : values_to t k ≡ with_true (values_to t n) l = ap (values_to t) q ∙ values-more t.variables t.entries n e at ∙ ap (with_true (values_to t n)) (sym same) in
    seen-more t.variables c (values_to t n) l s xs p (length-values t.variables (take n t.entries)) normal coefficients fresh (h ∙ ap (slack c) more) own
