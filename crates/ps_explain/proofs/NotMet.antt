-- What kept sentences come to.
use Rattle.std.specs.Prelude.{List, Bool}
use Rattle.ps_problem.specs.Problems.{Parts, AreParts}
use Rattle.ps_explain.specs.declared.conflict.Conflict.{Conflict}
use Rattle.ps_explain.specs.Rests.{AreShownNotMet}
use Rattle.ps_explain.specs.Steps.{IsConflictAmong}
use Rattle.ps_explain.proofs.Needed.{not_among}

-- sentences some of which can't be met together can't be met
pub shown_not_met : (p : Parts) (kept : List Bool) (c : Conflict) → AreParts p → IsConflictAmong p kept c → AreShownNotMet p kept c.dual
shown_not_met p kept c are h = record {
  cannot = record { none = λ d m. not_among p kept c are h.conflict h.among (record { distribution = d; model = m }) };
  few = c.kept;
  among = h.among;
  shown = h.conflict.shown;
}
