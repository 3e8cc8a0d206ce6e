-- Pivots by the rule meet no basis twice.
use Rattle.std.proofs.Common.{◌≡◌, ℕ, ◌+◌, List, length, sym, ◌∙◌, subst, arith}
use Rattle.std.proofs.lemmas.List.{append_cancel_left}
use Rattle.ps_simplex.specs.declared.phase.Phase.{Phase}
use Rattle.ps_simplex.specs.Cycle.{NoBasisTwice, IsStart}
use Rattle.ps_simplex.proofs.Few as few_of
use Rattle.ps_simplex.proofs.Twice as twice
use Rattle.ps_table.specs.declared.costs.Costs.{Costs}
use Rattle.ps_table.specs.Tableau.{Tableau, IsTableau, rows_of, width_of, basic_at, entry_at}
use Rattle.ps_table.specs.Pricing.{cost_at}
use Rattle.ps_table.specs.declared.event.Event.{Event}
use Rattle.ps_bland.specs.Rules.{simplex_of}
use Rattle.ps_bland.specs.Ready.{IsReady}
use Rattle.ps_bland.specs.Runs.{system_of, pivots_of, Ran, MeetsNoBasisTwice, MadeFewerThanBases}
use Rattle.ps_bland.proofs.Ready.{basic_above, basic_within, zero_artificials}
use Rattle.ps_bland.proofs.Steps.{run_length}
use Rattle.ps_bland.proofs.Counts.{events_counted}

-- a phase may start at a table that is ready for it
started : (phase : Phase) (costs : Costs) (t : Tableau) → IsReady phase costs t → IsStart phase (simplex_of t)
started phase costs t ready = record { values = ready.values; artificials = zero_artificials phase costs t ready.fits }

pub no_cycle : (phase : Phase) (costs : Costs) (s t : Tableau) (trace longer : List Event) → IsTableau s → IsReady phase costs s → Ran phase costs s t trace longer → MeetsNoBasisTwice phase costs s trace longer
no_cycle phase costs s t trace longer ok ready ran = record {
  none = λ events e A stands.
      subst (λ list. NoBasisTwice phase (system_of s.kinds A) (cost_at costs) (width_of s) (basic_at s) (pivots_of (rows_of s) list))
      (append_cancel_left trace ran.events events (sym ran.appended ∙ e))
      (twice.no_basis_twice phase (system_of s.kinds A) (cost_at costs) (width_of s) (basic_at s) (entry_at s) (pivots_of (rows_of s) ran.events)
      (omega arith) (λ i l. basic_within s i ok l) stands (started phase costs s ready));
}

pub fewer : (phase : Phase) (costs : Costs) (s t : Tableau) (trace longer : List Event) (had left : ℕ) → IsTableau s → IsReady phase costs s → Ran phase costs s t trace longer → left + length longer ≡ had + length trace → MadeFewerThanBases s had left
fewer phase costs s t trace longer had left ok ready ran count = record {
  fewer = λ A stands.
      let many = few_of.few_pivots phase (system_of s.kinds A) (cost_at costs) (rows_of s + s.worlds) (basic_at s) (basic_at t) (entry_at s) (pivots_of (rows_of s) ran.events)
      (omega arith) (λ i l. basic_within s i ok l) (λ i l. basic_above s i ok l) stands (started phase costs s ready) (ran.lawful A stands).1 in
      let same = run_length phase costs (rows_of s) s t ran.events ran.run in
      let counted = events_counted trace longer ran.events had left ran.appended count in
      omega (arith, many, same, counted);
}
