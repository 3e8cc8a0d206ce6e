-- Ratios, rays and runs.
use Rattle.std.proofs.Common.{◌≡◌, inl, inr, ℕ, suc, ◌+◌, ◌<◌, ◌≤◌, ℤ, ◌*ℤ◌, ◌<ℤ◌, pos, List, [], ◌∷◌, ◌++◌, length, Less, Equal, Greater, refl, sym, ap, ◌∙◌, subst, arith}
use Rattle.std.specs.Ordering.{int_cmp, MatchOrdering}
use Rattle.std.specs.Cmp.{int_ranks}
use Rattle.std.proofs.lemmas.Bool.{cases_eq}
use Rattle.ps_meaning.specs.Rational.{Rational, neg}
use Rattle.ps_meaning.specs.Order.{IsNonneg, AtMost, IsAbove, IsLess}
use Rattle.ps_meaning.proofs.Cross.{same_from_cross}
use Rattle.ps_meaning.proofs.Order.{at_most_trans, at_most_from_less, at_most_refl, at_most_antisym, not_self_less}
use Rattle.ps_simplex.specs.Rule.{SimplexTable, Enters, GoesBefore, Precedes, ratio, IsRising}
use Rattle.ps_simplex.proofs.Signs.{above_or_not}
use Rattle.ps_table.specs.declared.costs.Costs.{Costs}
use Rattle.ps_table.specs.declared.col.Col.{Col}
use Rattle.std.proofs.Common.{append-nil, append_assoc, length-append}
use Rattle.ps_table.specs.declared.event.Event.{Event}
use Rattle.ps_table.specs.declared.event.Event.TheVariants.{Pivot, Priced}
use Rattle.ps_table.specs.Tableau.{Tableau, HasColumn, basic_at, entry_at, IsPivot, number_in, IsTableFor}
use Rattle.ps_table.specs.Pricing.{cost_at, HasCosts}
use Rattle.ps_table.specs.Places.{PivotPlaces, of_column, of_homes, IsRefusedAt}
use Rattle.ps_table.specs.declared.place.WideAt.{WideAt}
use Rattle.ps_table.proofs.Operations.{operation_of}
use Rattle.ps_bland.specs.Rules.{simplex_of, IsLawful, IsDueToEndIn}
use Rattle.ps_bland.specs.Runs.{system_of, pivots_of, ArePivots, Ran, Run}
use Rattle.ps_bland.specs.Ends.{IsDueRefusal, IsDueWide}
use Rattle.ps_bland.specs.Rounds.{IsLeastBefore, IsStep, IsLeavingWide}
use Rattle.ps_bland.specs.Rounds.IsLeavingWide.{of_column as leaving_column, of_ratio as leaving_ratio}
use Rattle.ps_simplex.specs.Table.{Based}
use Rattle.ps_simplex.specs.Pivots.{linear_program, Pivots, IsLawfulAt}
use Rattle.ps_simplex.specs.Pivots.Pivots.{still as no_moves, more as one_move}
use Rattle.ps_table.specs.declared.home.Home.{Home}
use Rattle.ps_simplex.specs.declared.phase.Phase.{Phase}
use Rattle.ps_bland.specs.Ends.IsDueWide.{at_column, at_ratio, at_pivot}
use Rattle.ps_table.specs.declared.error.TableError.{TableError}
use Rattle.ps_table.specs.declared.error.TableError.TheVariants.{Wide, NoMemory}
use Rattle.ps_bland.specs.Runs.Run.{still, more}

less_of : (a b : ℤ) → Less ≡ int_cmp a b → a <ℤ b
less_of a b e = subst (λ r. MatchOrdering r (a <ℤ b) (a ≡ b) (b <ℤ a)) (sym e) (int_ranks a b)

equal_of : (a b : ℤ) → Equal ≡ int_cmp a b → a ≡ b
equal_of a b e = subst (λ r. MatchOrdering r (a <ℤ b) (a ≡ b) (b <ℤ a)) (sym e) (int_ranks a b)

greater_of : (a b : ℤ) → Greater ≡ int_cmp a b → b <ℤ a
greater_of a b e = subst (λ r. MatchOrdering r (a <ℤ b) (a ≡ b) (b <ℤ a)) (sym e) (int_ranks a b)

before_less : (x : Rational) (b : ℕ) (y : Rational) (c : ℕ) → IsLess x y → GoesBefore x b y c
before_less x b y c h = record {
  at_most = at_most_from_less x y h;
  tie = λ e. absurd (not_self_less x (subst (IsLess x) (sym e) h));
}

pub before_tie : (x : Rational) (b : ℕ) (y : Rational) (c : ℕ) → x ≡ y → b ≤ c → GoesBefore x b y c
before_tie x b y c e h = record { at_most = subst (AtMost x) e (at_most_refl x); tie = λ _. h }

pub less_first : (x : Rational) (b : ℕ) (y : Rational) (c : ℕ) → Less ≡ int_cmp (x.over *ℤ pos y.under) (y.over *ℤ pos x.under) → GoesBefore x b y c
less_first x b y c e = before_less x b y c (less_of _ _ e)

pub greater_last : (x : Rational) (b : ℕ) (y : Rational) (c : ℕ) → Greater ≡ int_cmp (x.over *ℤ pos y.under) (y.over *ℤ pos x.under) → GoesBefore y c x b
greater_last x b y c e = before_less y c x b (greater_of _ _ e)

pub same_ratio : (x y : Rational) → Equal ≡ int_cmp (x.over *ℤ pos y.under) (y.over *ℤ pos x.under) → x ≡ y
same_ratio x y e = same_from_cross x y (equal_of _ _ e)

-- rows by the numbers that were computed as their ratios
pub precedes_by : (f : SimplexTable) (q p i : ℕ) (x y : Rational) → x ≡ ratio f q p → y ≡ ratio f q i → GoesBefore x (f.basic p) y (f.basic i) → Precedes f q p i
precedes_by f q p i x y ex ey h =
    subst (λ s. GoesBefore (ratio f q p) (f.basic p) s (f.basic i)) ey (subst (λ r. GoesBefore r (f.basic p) y (f.basic i)) ex h)

pub precedes_trans : (f : SimplexTable) (q a b c : ℕ) → Precedes f q a b → Precedes f q b c → Precedes f q a c
precedes_trans f q a b c h k = record {
  at_most = at_most_trans (ratio f q a) (ratio f q b) (ratio f q c) h.at_most k.at_most;
  tie = λ e.
      let ab : ratio f q a ≡ ratio f q b = at_most_antisym (ratio f q a) (ratio f q b) h.at_most (subst (AtMost (ratio f q b)) (sym e) k.at_most) in
      let hab = h.tie ab in
      let hbc = k.tie (sym ab ∙ e) in
      omega (arith, hab, hbc);
}

pub precedes_itself : (f : SimplexTable) (q a : ℕ) → Precedes f q a a
precedes_itself f q a = before_tie (ratio f q a) (f.basic a) (ratio f q a) (f.basic a) refl (omega arith)

pub not_above : (x : Rational) → (IsAbove x → ⊥) → IsNonneg (neg x)
not_above x h = elim (above_or_not x) [ inl a ↦ absurd (h a) | inr n ↦ n ]

-- the best row so far, with one row more
pub next_kept : (t : Tableau) (q n p : ℕ) → IsLeastBefore t q n p → (IsRising (simplex_of t) q n → Precedes (simplex_of t) q p n) → IsLeastBefore t q (suc n) p
next_kept t q n p h k = record {
  rising = h.rising;
  least = λ i l r. elim (cases_eq i n) [ inl e ↦ subst (Precedes (simplex_of t) q p) (sym e) (k (subst (IsRising (simplex_of t) q) e r)) | inr ne ↦ h.least i (omega arith) r ];
}

pub next_better : (t : Tableau) (q n p : ℕ) → IsLeastBefore t q n p → IsRising (simplex_of t) q n → Precedes (simplex_of t) q n p → IsLeastBefore t q (suc n) n
next_better t q n p h r k = record {
  rising = r;
  least = λ i l s. elim (cases_eq i n) [ inl e ↦ subst (Precedes (simplex_of t) q n) (sym e) (precedes_itself (simplex_of t) q n) | inr ne ↦ precedes_trans (simplex_of t) q n p i k (h.least i (omega arith) s) ];
}

pub first_least : (t : Tableau) (q p : ℕ) → IsRising (simplex_of t) q p → ((i : ℕ) → i < p → IsRising (simplex_of t) q i → ⊥) → IsLeastBefore t q (p + 1) p
first_least t q p r h = record {
  rising = r;
  least = λ i l s. elim (cases_eq i p) [ inl e ↦ subst (Precedes (simplex_of t) q p) (sym e) (precedes_itself (simplex_of t) q p) | inr ne ↦ absurd (h i (omega arith) s) ];
}

-- the kinds and the worlds stay
run_kinds : (phase : Phase) (costs : Costs) (s t : Tableau) (events : List Event) → Run phase costs s events t → t.kinds ≡ s.kinds
run_kinds phase costs s t events (still _) = refl
run_kinds phase costs s t events (more _ r _ es enter leave run lawful pivot keeps) = pivot.kinds ∙ run_kinds phase costs s r es run

run_worlds : (phase : Phase) (costs : Costs) (s t : Tableau) (events : List Event) → Run phase costs s events t → t.worlds ≡ s.worlds
run_worlds phase costs s t events (still _) = refl
run_worlds phase costs s t events (more _ r _ es enter leave run lawful pivot keeps) = pivot.worlds ∙ run_worlds phase costs s r es run

abbrev LawfulIn : (phase : Phase) (costs : Costs) (A : ℕ → ℕ → Rational) (t : Tableau) (enter : Col) (leave : ℕ) → List Home → ℕ → Type 0
LawfulIn phase costs A t enter leave k v = IsLawfulAt (linear_program phase (system_of k A) (cost_at costs) (suc (length k + v))) (basic_at t) (number_in (length k) enter) leave

lawful_at : (phase : Phase) (costs : Costs) (A : ℕ → ℕ → Rational) (t : Tableau) (enter : Col) (leave : ℕ) → IsLawful phase costs t enter leave → IsTableFor A t → LawfulIn phase costs A t enter leave t.kinds t.worlds
lawful_at phase costs A t enter leave lawful stands = record {
  table = entry_at t;
  belongs = stands.belongs;
  unfinished = lawful.unfinished;
  enters = lawful.enters;
  leaves = lawful.leaves;
}

pivots_of-append : (n : ℕ) (events : List Event) (enter : Col) (leave : ℕ) → pivots_of n (events ++ Pivot enter leave ∷ []) ≡ pivots_of n events ++ record { enter = number_in n enter; leave = leave } ∷ []
pivots_of-append n [] enter leave = refl
pivots_of-append n (Pivot q p ∷ events) enter leave = ap (λ ps. record { enter = number_in n q; leave = p } ∷ ps) (pivots_of-append n events enter leave)
pivots_of-append n (Priced world ∷ events) enter leave = pivots_of-append n events enter leave

-- each event of a run is a pivot
pub run_length : (phase : Phase) (costs : Costs) (n : ℕ) (s t : Tableau) (events : List Event) → Run phase costs s events t → length (pivots_of n events) ≡ length events
run_length phase costs n s t events (still _) = refl
run_length phase costs n s t events (more _ r _ es enter leave run lawful pivot keeps) =
    let before = run_length phase costs n s r es run in
    let a = length-append (pivots_of n es) (record { enter = number_in n enter; leave = leave } ∷ []) in
    let b = length-append es (Pivot enter leave ∷ []) in
    ap length (pivots_of-append n es enter leave) ∙ omega (arith, a, b, before)

pub are_pivots : (phase : Phase) (costs : Costs) (s t : Tableau) (events : List Event) → Run phase costs s events t → ArePivots phase costs s events t
are_pivots phase costs s t events (still _) = λ A h. (h, no_moves (basic_at s))
are_pivots phase costs s t events (more _ r _ es enter leave run lawful pivot keeps) = λ A h.
    let before = are_pivots phase costs s r es run A h in
    let ek = run_kinds phase costs s r es run in
    let ew = run_worlds phase costs s r es run in
    let at : LawfulIn phase costs A r enter leave s.kinds s.worlds = subst (λ k. LawfulIn phase costs A r enter leave k s.worlds) ek (subst (λ v. LawfulIn phase costs A r enter leave r.kinds v) ew (lawful_at phase costs A r enter leave lawful before.0)) in
    let based : Based (length s.kinds) leave (number_in (length s.kinds) enter) (basic_at r) (basic_at t) = subst (λ k. Based (length k) leave (number_in (length k) enter) (basic_at r) (basic_at t)) ek pivot.based in (
      keeps A before.0,
      subst (λ pivots. Pivots (linear_program phase (system_of s.kinds A) (cost_at costs) (suc (length s.kinds + s.worlds))) (basic_at s) pivots (basic_at t)) (sym (pivots_of-append (length s.kinds) es enter leave))
          (one_move (basic_at s) (basic_at r) (basic_at t) (pivots_of (length s.kinds) es) (number_in (length s.kinds) enter) leave before.1 at based),
    )

pub ran_none : (phase : Phase) (costs : Costs) (t : Tableau) (trace : List Event) → Ran phase costs t t trace trace
ran_none phase costs t trace = record { events = []; run = still t; lawful = are_pivots phase costs t t [] (still t); appended = sym (append-nil trace) }

pub ran_more : (phase : Phase) (costs : Costs) (s t u : Tableau) (trace now longer : List Event) → Ran phase costs s t trace now → IsStep phase costs t u now longer → Ran phase costs s u trace longer
ran_more phase costs s t u trace now longer ran step = record {
  events = ran.events ++ Pivot step.enter step.leave ∷ [];
  run = more s t u ran.events step.enter step.leave ran.run step.lawful step.pivot step.stands;
  lawful = are_pivots phase costs s u (ran.events ++ Pivot step.enter step.leave ∷ []) (more s t u ran.events step.enter step.leave ran.run step.lawful step.pivot step.stands);
  appended = step.appended ∙ ap (λ k. k ++ Pivot step.enter step.leave ∷ []) ran.appended ∙ append_assoc trace ran.events (Pivot step.enter step.leave ∷ []);
}

pub costs_kept : (costs : Costs) (enter : Col) (leave : ℕ) (t u : Tableau) → IsPivot leave enter t u → HasCosts costs t → HasCosts costs u
costs_kept costs enter leave t u pivot h = record {
  homes = h.homes ∙ ap length (sym pivot.kinds);
  worlds = subst (λ k. k ≤ length costs.worlds) (sym pivot.worlds) h.worlds;
  small = h.small;
}

pub due_refusal : (phase : Phase) (costs : Costs) (t : Tableau) (left : ℕ) (q : Col) (p : ℕ) → 0 < left → IsLawful phase costs t q p → (e : TableError) → IsRefusedAt (PivotPlaces t p q) e → IsDueRefusal phase costs t left e
due_refusal phase costs t left q p some lawful (Wide w) h = by_place h.at
  where
    by_place : PivotPlaces t p q (operation_of w) → IsDueWide phase costs t left w
    by_place (of_column i hi at) =
        at_column q lawful.unfinished some lawful.inside lawful.enters (record { row = i; within = hi; wide = record { at = at; wide = h.wide } })
    by_place (of_homes at) = at_pivot q p some lawful (record { at = at; wide = h.wide })
due_refusal phase costs t left q p some lawful NoMemory h = record { enter = q; leave = p; lawful = lawful; some_left = some }

-- a refusal as the leaving row is looked for
pub leaving_due : (phase : Phase) (costs : Costs) (t : Tableau) (left : ℕ) (q : Col) (w : WideAt) → (IsDueToEndIn phase t → ⊥) → 0 < left → HasColumn t q
    → Enters (simplex_of t) (cost_at costs) (number_in (length t.kinds) q) → IsLeavingWide phase t q w → IsDueWide phase costs t left w
leaving_due phase costs t left q w unfinished some inside enters (leaving_column h) = at_column q unfinished some inside enters h
leaving_due phase costs t left q w unfinished some inside enters (leaving_ratio ratios h) = at_ratio q unfinished some inside enters ratios h
