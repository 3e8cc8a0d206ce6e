use Rattle.std.proofs.Common.{◌≡◌, ℕ, ◌+◌, length}
use Rattle.ps_meaning.specs.Rational.{Rational}
use Rattle.ps_table.specs.Tableau.{IsTableau, IsTableFor}
use Rattle.ps_bland.specs.Runs.{Ran, MadeFewerThanBases, MeetsNoBasisTwice}
use Rattle.ps_bland.specs.Ready.{IsReady}
use Rattle.ps_bland.proofs.settling.settle.Given as goal

abbrev pub invariant-loop-settled : goal.invariant-loop-settled
invariant-loop-settled l = record {
  ran : Ran l.phase l.costs l.fn.table l.table l.fn.trace l.trace;
  counted : l.left + length l.trace ≡ l.fn.left + length l.fn.trace;
  kinds : l.table.kinds ≡ l.fn.table.kinds;
  worlds : l.table.worlds ≡ l.fn.table.worlds;
  ready : IsReady l.phase l.costs l.table;
  stands : (A : ℕ → ℕ → Rational) → IsTableFor A l.fn.table → IsTableFor A l.table;
  tableau : IsTableau l.fn.table;
  fewer : MadeFewerThanBases l.fn.table l.fn.left l.left;
  no_cycle : MeetsNoBasisTwice l.phase l.costs l.fn.table l.fn.trace l.trace;
}

abbrev pub decreases-loop-settled : goal.decreases-loop-settled
decreases-loop-settled l = l.left
