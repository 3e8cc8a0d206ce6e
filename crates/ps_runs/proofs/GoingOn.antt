-- A phase that is under way goes on: by the pivots of `settle`, and by worlds that are priced.
use Rattle.std.proofs.Common.{◌≡◌, ◌≢◌, ℕ, zero, suc, ◌+◌, ◌<◌, pos, ◌≤ℤ◌, Some, None, List, [], ◌∷◌, ◌++◌, length, get_or, sym, ap, ◌∙◌, subst, arith}
use Rattle.std.proofs.lemmas.List.{append-nil, append_assoc, get_or_default}
use Rattle.std.proofs.lemmas.Option.{slice_get_within, get_or_from_slice_get}
use Rattle.std.proofs.lemmas.List.Elements.{All-nil, All-append, All-cons}
use Rattle.std.proofs.lemmas.List.Quantifiers.{all_pairs_push}
use Rattle.ps_meaning.specs.Formula.{World}
use Rattle.ps_table.specs.Worlds.{HasNumber}
use Rattle.ps_table.specs.declared.event.Event.{Event}
use Rattle.ps_table.specs.declared.event.Event.TheVariants.{Priced}
use Rattle.ps_table.specs.declared.col.Col.TheVariants as col
use Rattle.ps_table.specs.Tableau.{Tableau, IsTableau, IsAdded, ExtendsSystem, number_in, entry_at, basic_at}
use Rattle.ps_bland.specs.Ready.{HasNoNegativeValue}
use Rattle.ps_bland.specs.Runs as bland
use Rattle.ps_bland.proofs.Counts.{events_counted}
use Rattle.ps_claims.specs.declared.claim_kind.ClaimKind.{ClaimKind}
use Rattle.ps_runs.specs.Programs.{Program}
use Rattle.ps_runs.specs.Rows.{phase_of, entries_of}
use Rattle.ps_runs.specs.Subjects.{Subject, setting_of, atoms_of, frame_of, program_of}
use Rattle.ps_runs.specs.Runs.{Stage, IsPool, gain_at, IsPricedBy, LeadsTo, still, priced}
use Rattle.ps_runs.proofs.Composed.{pivots_in-append, leads_on}
use Rattle.ps_runs.proofs.Pricing.{priced_is_new}
use Rattle.ps_runs.specs.Tables.{costs_for, IsRunTable, stage_at, IsUnderWay, standing}
use Rattle.ps_runs.proofs.Shapes.{run_table}
use Rattle.ps_runs.proofs.Adding.{added_world}
use Rattle.ps_runs.proofs.Settling.{LedBy, settled_leads}

-- what `settle` leaves is a table of the run
pub settled_table : (kind : ClaimKind) (s : Subject) (conflicts : ℕ) (pool : List World) (t u : Tableau) (events : List Event) → IsRunTable (frame_of s) pool t
    → LedBy kind s conflicts pool t events u → IsTableau u → HasNoNegativeValue u → IsRunTable (frame_of s) pool u
settled_table kind s conflicts pool t u events run led tableau values = record { kinds = led.kinds; worlds = led.worlds; entries = led.entries ∙ run.entries; tableau = tableau; stands = led.stands; values = values }

module _ (p : Program) (conflicts : ℕ) where
  pub begun : (pool : List World) (t : Tableau) (trace : List Event) (left : ℕ) → IsRunTable p.frame pool t → IsPool p.atoms pool
      → IsUnderWay p conflicts (stage_at pool t) left trace (standing pool t trace left)
  begun pool t trace left run pooled = record {
    table = run;
    pool_kept = pooled;
    events = [];
    appended = sym (append-nil trace);
    leads = still (stage_at pool t);
    counted = omega arith;
  }

module _ (kind : ClaimKind) (s : Subject) (conflicts : ℕ) where
  pub settled_goes_on : (from : Stage) (had : ℕ) (before : List Event) (pool : List World) (t u : Tableau) (trace longer : List Event) (left now : ℕ)
      → IsUnderWay (program_of kind s) conflicts from had before (standing pool t trace left)
      → bland.Ran (phase_of kind) (costs_for kind (setting_of s) pool) t u trace longer → now + length longer ≡ left + length trace → IsTableau u → HasNoNegativeValue u
      → IsUnderWay (program_of kind s) conflicts from had before (standing pool u longer now)
  settled_goes_on from had before pool t u trace longer left now way ran count tableau values =
      let led : LedBy kind s conflicts pool t ran.events u = settled_leads kind s conflicts pool t ran.events u way.table.kinds way.table.worlds way.table.stands ran.run in
      record {
        table = settled_table kind s conflicts pool t u ran.events way.table led tableau values;
        pool_kept = way.pool_kept;
        events = way.events ++ ran.events;
        appended = ran.appended ∙ ap (λ es. es ++ ran.events) way.appended ∙ append_assoc before way.events ran.events;
        leads = leads_on (program_of kind s) conflicts from (stage_at pool t) (stage_at pool u) way.events ran.events way.leads led.leads;
        counted =
            let a = way.counted in
            let b = events_counted trace longer ran.events left now ran.appended count in
            let c = led.counted in
            let d = pivots_in-append way.events ran.events in
            omega (arith, a, b, c, d);
      }

  -- a world that is priced at a run's table isn't in the pool
  pub priced_apart : (pool : List World) (t : Tableau) (w : World) → IsRunTable (frame_of s) pool t → IsPricedBy (program_of kind s) conflicts (stage_at pool t) (entry_at t) w
      → (k : ℕ) → k < length pool → get_or pool k [] ≡ w → ⊥
  priced_apart pool t w run is k l e =
      priced_is_new kind (setting_of s) pool (basic_at t) (entry_at t) k (run_table (setting_of s) pool t run) is.rests.resting l
      (subst (λ v. pos 1 ≤ℤ gain_at (program_of kind s) (stage_at pool t) (entry_at t) v) (sym e) is.above)

  pub priced_fresh : (pool : List World) (t : Tableau) (w : World) (number : ℕ) → IsRunTable (frame_of s) pool t
      → IsPricedBy (program_of kind s) conflicts (stage_at pool t) (entry_at t) w → HasNumber pool w number → ⊥
  priced_fresh pool t w zero run is e = absurd (is_some w e)
    where
      is_some : (x : World) → None ≡ Some x → ⊥
      is_some x k = cc
  priced_fresh pool t w (suc i) run is e = priced_apart pool t w run is i (slice_get_within pool i w e) (get_or_from_slice_get pool i w [] e)

  pub priced_goes_on : (from : Stage) (had : ℕ) (before : List Event) (pool : List World) (t u : Tableau) (trace : List Event) (left : ℕ) (w : World)
      → IsUnderWay (program_of kind s) conflicts from had before (standing pool t trace left)
      → IsPricedBy (program_of kind s) conflicts (stage_at pool t) (entry_at t) w
      → IsAdded (entries_of (setting_of s) w) t u → ExtendsSystem (entries_of (setting_of s) w) t u → IsTableau u
      → IsUnderWay (program_of kind s) conflicts from had before (standing (pool ++ w ∷ []) u (trace ++ Priced w ∷ []) left)
  priced_goes_on from had before pool t u trace left w way is added stands tableau = record {
    table = added_world (setting_of s) pool w t way.table u added stands tableau;
    pool_kept = record {
      different = all_pairs_push (λ a b. a ≢ b) pool w way.pool_kept.different (λ k d l e. priced_apart pool t w way.table is k l (same_item pool k d l ∙ e));
      sized = All-append (λ v. length v ≡ atoms_of s) pool (w ∷ []) way.pool_kept.sized (All-cons (λ v. length v ≡ atoms_of s) w [] is.sized (All-nil (λ (v : World). length v ≡ atoms_of s)));
    };
    events = way.events ++ Priced w ∷ [];
    appended = ap (λ es. es ++ Priced w ∷ []) way.appended ∙ append_assoc before way.events (Priced w ∷ []);
    leads =
        subst (λ b. LeadsTo (program_of kind s) conflicts from (way.events ++ Priced w ∷ []) (record { pool = pool ++ w ∷ []; basis = b })) same_basis
        (priced from (stage_at pool t) way.events w way.leads (record { table = entry_at t; priced = is }));
    counted =
        let a = way.counted in
        let d = pivots_in-append way.events (Priced w ∷ []) in
        omega (arith, a, d);
  }
    where
      same_item : (xs : List World) (k : ℕ) (d : World) → k < length xs → get_or xs k [] ≡ get_or xs k d
      same_item xs k d l = get_or_default xs k [] d l

      same_basis : basic_at t ≡ basic_at u
      same_basis = λ j i. number_in (length (sym added.kinds j)) (get_or (sym added.basic j) i (col.Home 0))
