-- How many worlds the events of a phase price: at most one more than they have pivots.
use Rattle.std.proofs.Common.{◌≡◌, ℕ, suc, ◌+◌, ◌<◌, ◌≤◌, List, [], ◌∷◌, ◌++◌, length, inl, inr, refl, ◌∙◌, subst, arith}
use Rattle.std.specs.Prelude.{◌⊎◌}
use Rattle.std.specs.List.{AllByRecursion}
use Rattle.std.proofs.lemmas.List.{length-append}
use Rattle.ps_meaning.specs.Formula.{World}
use Rattle.ps_meaning.specs.Rational.{Rational}
use Rattle.ps_table.specs.declared.col.Col.{Col}
use Rattle.ps_table.specs.declared.col.Col.TheVariants as col
use Rattle.ps_table.specs.declared.event.Event.{Event}
use Rattle.ps_table.specs.declared.event.Event.TheVariants.{Pivot, Priced}
use Rattle.ps_table.specs.Tableau.{number_in, IsInside}
use Rattle.ps_claims.specs.declared.claim_kind.ClaimKind.{ClaimKind}
use Rattle.ps_claims.specs.declared.claim_kind.ClaimKind.TheVariants.{Nothing}
use Rattle.ps_runs.specs.Rows.{rows_of}
use Rattle.ps_runs.specs.Subjects.{Subject, setting_of, atoms_of, frame_of, program_of}
use Rattle.ps_runs.specs.Runs.{Stage, LeadsTo, still, pivoted, priced}
use Rattle.ps_runs.specs.Runs.{pivots_in, IsFeasibleAt, IsPricedAt}
use Rattle.ps_runs.proofs.Composed.{pivots_in-append}
use Rattle.ps_query.proofs.All.{both, each}
use Rattle.ps_query.proofs.Stages.{HasTable, pivot_table, more_table, leaving_row, none_twice, not_feasible}

-- how many worlds events price
abbrev pub worlds_in : List Event → ℕ
worlds_in [] = 0
worlds_in (Pivot enter leave ∷ events) = worlds_in events
worlds_in (Priced world ∷ events) = suc (worlds_in events)

pub worlds_in-append : (before after : List Event) → worlds_in (before ++ after) ≡ worlds_in before + worlds_in after
worlds_in-append [] after = omega arith
worlds_in-append (Pivot enter leave ∷ events) after = worlds_in-append events after
worlds_in-append (Priced world ∷ events) after = let e = worlds_in-append events after in omega (arith, e)

-- each event is a pivot or a priced world
pub all_counted : (events : List Event) → length events ≡ pivots_in events + worlds_in events
all_counted [] = omega arith
all_counted (Pivot enter leave ∷ events) = let e = all_counted events in omega (arith, e)
all_counted (Priced world ∷ events) = let e = all_counted events in omega (arith, e)

-- an event is over these rows and worlds, of so many atoms
abbrev pub IsEventUnder : ℕ → ℕ → ℕ → Event → Type 0
IsEventUnder rows most atoms (Pivot enter leave) = IsInside rows most enter × (leave < rows)
IsEventUnder rows most atoms (Priced world) = length world ≡ atoms

pub col_more : (rows more few most : ℕ) (c : Col) → rows ≤ more → few ≤ most → IsInside rows few c → IsInside more most c
col_more rows more few most (col.Home i) h k l = omega (arith, h, l)
col_more rows more few most (col.World n) h k l = (l.0, omega (arith, k, l.1))

event_more : (rows few most atoms : ℕ) → few ≤ most → (e : Event) → IsEventUnder rows few atoms e → IsEventUnder rows most atoms e
event_more rows few most atoms h (Pivot enter leave) k = (col_more rows rows few most enter (omega arith) h k.0, k.1)
event_more rows few most atoms h (Priced world) k = k

pub events_more : (rows few most atoms : ℕ) (events : List Event) → few ≤ most → AllByRecursion (IsEventUnder rows few atoms) events → AllByRecursion (IsEventUnder rows most atoms) events
events_more rows few most atoms events h k = each (IsEventUnder rows few atoms) (IsEventUnder rows most atoms) events (event_more rows few most atoms h) k

-- at a stage no world is priced, nor does phase one end
pub record IsSettling (kind : ClaimKind) (s : Subject) (conflicts : ℕ) (g : Stage) : Type 0 where
  pub none : (w : World) → IsPricedAt (program_of kind s) conflicts g w → ⊥
  pub unfinished : kind ≡ Nothing → (X : ℕ → ℕ → Rational) → IsFeasibleAt (frame_of s) g X → ⊥

-- at most as many worlds as pivots, or one more where a pivot is to follow
abbrev pub AreBalanced : ClaimKind → Subject → ℕ → Stage → ℕ → ℕ → Type 0
AreBalanced kind s conflicts g worlds pivots = (worlds ≤ pivots) ⊎ ((worlds ≤ pivots + 1) × IsSettling kind s conflicts g)

-- what is so of the events that lead from one stage to another
pub record HasCome (kind : ClaimKind) (s : Subject) (conflicts : ℕ) (a : Stage) (events : List Event) (b : Stage) : Type 0 where
  pub table : HasTable (setting_of s) b.pool b.basis
  pub pool : length b.pool ≡ length a.pool + worlds_in events
  pub balanced : AreBalanced kind s conflicts b (worlds_in events) (pivots_in events)
  pub under : AllByRecursion (IsEventUnder (rows_of (setting_of s)) (length a.pool + pivots_in events) (atoms_of s)) events

pub few_priced : (kind : ClaimKind) (s : Subject) (conflicts : ℕ) (g : Stage) (worlds pivots : ℕ) → AreBalanced kind s conflicts g worlds pivots → worlds ≤ pivots + 1
few_priced kind s conflicts g worlds pivots h = elim h [
  | inl few ↦ omega (arith, few)
  | inr one ↦ one.0
]

-- a pivot more
module _ (kind : ClaimKind) (s : Subject) (conflicts : ℕ) (a b : Stage) (events : List Event) (come : HasCome kind s conflicts a events b) where
  pub with_pivot : (enter : Col) (leave : ℕ) (basis : ℕ → ℕ) → HasTable (setting_of s) b.pool basis → IsInside (rows_of (setting_of s)) (length b.pool) enter → leave < rows_of (setting_of s)
      → HasCome kind s conflicts a (events ++ Pivot enter leave ∷ []) (record { pool = b.pool; basis = basis })
  with_pivot enter leave basis table there row =
      let rows = rows_of (setting_of s) in
      let few = few_priced kind s conflicts b (worlds_in events) (pivots_in events) come.balanced in
      let more : worlds_in (events ++ Pivot enter leave ∷ []) ≡ worlds_in events = worlds_in-append events (Pivot enter leave ∷ []) ∙ omega arith in
      let up : pivots_in (events ++ Pivot enter leave ∷ []) ≡ pivots_in events + 1 = pivots_in-append events (Pivot enter leave ∷ []) in
      let pool = come.pool in
      record {
        table = table;
        pool = omega (arith, pool, more);
        balanced = inl (omega (arith, few, more, up));
        under =
            both (IsEventUnder rows (length a.pool + pivots_in (events ++ Pivot enter leave ∷ [])) (atoms_of s)) events (Pivot enter leave ∷ [])
            (events_more rows (length a.pool + pivots_in events) (length a.pool + pivots_in (events ++ Pivot enter leave ∷ [])) (atoms_of s) events (omega (arith, up)) come.under)
            ((col_more rows rows (length b.pool) (length a.pool + pivots_in (events ++ Pivot enter leave ∷ [])) enter (omega arith) (omega (arith, pool, few, up)) there, row), tt);
      }

  -- where a world is priced there are at most as many as pivots
  pub few_before : (w : World) → IsPricedAt (program_of kind s) conflicts b w → worlds_in events ≤ pivots_in events
  few_before w is = elim come.balanced [
    | inl few ↦ few
    | inr one ↦ absurd (one.1.none w is)
  ]

  -- a world more
  pub with_world : (w : World) → IsPricedAt (program_of kind s) conflicts b w → HasCome kind s conflicts a (events ++ Priced w ∷ []) (record { pool = b.pool ++ w ∷ []; basis = b.basis })
  with_world w is =
      let rows = rows_of (setting_of s) in
      let few = few_before w is in
      let more : worlds_in (events ++ Priced w ∷ []) ≡ worlds_in events + 1 = worlds_in-append events (Priced w ∷ []) in
      let same : pivots_in (events ++ Priced w ∷ []) ≡ pivots_in events = pivots_in-append events (Priced w ∷ []) ∙ omega arith in
      let pool = come.pool in
      record {
        table = more_table (setting_of s) b.pool w b.basis come.table;
        pool = omega (arith, pool, more, length-append b.pool (w ∷ []));
        balanced = inr (
          omega (arith, few, more, same),
          record {
            none = λ v again. none_twice kind s conflicts b w v come.table is again;
            unfinished = λ e X feasible. not_feasible s conflicts b w X come.table (subst (λ k. IsPricedAt (program_of k s) conflicts b w) e is) feasible;
          },
        );
        under =
            both (IsEventUnder rows (length a.pool + pivots_in (events ++ Priced w ∷ [])) (atoms_of s)) events (Priced w ∷ [])
            (events_more rows (length a.pool + pivots_in events) (length a.pool + pivots_in (events ++ Priced w ∷ [])) (atoms_of s) events (omega (arith, same)) come.under)
            (is.priced.sized, tt);
      }

pub has_come : (kind : ClaimKind) (s : Subject) (conflicts : ℕ) (a b : Stage) (events : List Event) → HasTable (setting_of s) a.pool a.basis → LeadsTo (program_of kind s) conflicts a events b
    → HasCome kind s conflicts a events b
has_come kind s conflicts a b events h (still c) = record { table = h; pool = omega arith; balanced = inl (omega arith); under = tt }
has_come kind s conflicts a b events h (pivoted c d before enter leave basis leads is based) =
    let come = has_come kind s conflicts c d before h leads in
    with_pivot kind s conflicts c d before come enter leave basis
    (pivot_table kind (setting_of s) d.pool d.basis basis ((program_of kind s).cost d.pool) (number_in (rows_of (setting_of s)) enter) leave come.table is.lawful based)
    is.there (leaving_row kind (setting_of s) d.pool d.basis ((program_of kind s).cost d.pool) (number_in (rows_of (setting_of s)) enter) leave is.lawful)
has_come kind s conflicts a b events h (priced c d before world leads is) =
    with_world kind s conflicts c d before (has_come kind s conflicts c d before h leads) world is

-- with that the pool grows by at most one world more than pivots
pub few_more : (kind : ClaimKind) (s : Subject) (conflicts : ℕ) (a b : Stage) (events : List Event) → HasCome kind s conflicts a events b
    → length b.pool ≤ length a.pool + pivots_in events + 1
few_more kind s conflicts a b events come =
    let few = few_priced kind s conflicts b (worlds_in events) (pivots_in events) come.balanced in
    let pool = come.pool in
    omega (arith, pool, few)

-- where phase one ends feasible there are at most as many worlds as pivots
pub ended_few : (s : Subject) (conflicts : ℕ) (a b : Stage) (events : List Event) (X : ℕ → ℕ → Rational) → HasCome Nothing s conflicts a events b → IsFeasibleAt (frame_of s) b X
    → worlds_in events ≤ pivots_in events
ended_few s conflicts a b events X come feasible = elim come.balanced [
  | inl few ↦ few
  | inr one ↦ absurd (one.1.unfinished refl X feasible)
]
