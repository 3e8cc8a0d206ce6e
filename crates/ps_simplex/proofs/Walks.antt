-- Lawful pivots one after the other, by number, with the table at each basis.
use Rattle.std.proofs.Common.{◌≡◌, ◌≢◌, ℕ, zero, suc, ◌+◌, ◌<◌, ◌≤◌, List, [], ◌∷◌, ◌++◌, length, length-append, cond, eqb, eq-eqb, refl, sym, ap, ◌∙◌, subst, arith}
use Rattle.std.proofs.lemmas.Bool.{ne_eqb}
use Rattle.ps_meaning.specs.Rational.{Rational, mul, sub, div}
use Rattle.ps_simplex.specs.Table.{IsBasisTable, IsBasis, Pivoted, Based}
use Rattle.ps_simplex.proofs.OneTable as tables
use Rattle.ps_simplex.proofs.PivotKeeps.{stands_kept}
use Rattle.ps_simplex.specs.declared.phase.Phase.{Phase}
use Rattle.ps_simplex.specs.Rule.{Enters, Leaves}
use Rattle.ps_simplex.specs.Pivots.{linear_program, System, simplex_table, IsLawfulAt, Pivot, Pivots, still, more}
use Rattle.ps_simplex.specs.RuleLaws.{priced_columns, AreAlike}
use Rattle.ps_simplex.proofs.Alike as alike
use Rattle.ps_simplex.specs.Cycle.{IsStart}
use Rattle.ps_simplex.proofs.Values.{start_kept, how, row_within, entry_filled}

-- a basis and a table
pub record Stage : Type 0 where
  pub basic : ℕ → ℕ
  pub table : ℕ → ℕ → Rational

abbrev pub stage_of : (ℕ → ℕ) → (ℕ → ℕ → Rational) → Stage
stage_of basic table = record { basic = basic; table = table }

-- the table is that of the basis, and the phase may start there
pub record IsSound (phase : Phase) (s : System) (w : ℕ) (x : Stage) : Type 0 where
  pub basis : IsBasis s.rows w x.basic
  pub stands : IsBasisTable s.rows w s.columns x.basic x.table
  pub start : IsStart phase (simplex_table s w x.basic x.table)

-- a lawful pivot from x to y
pub record IsStep (phase : Phase) (s : System) (cost : ℕ → Rational) (w : ℕ) (x : Stage) (q p : ℕ) (y : Stage) : Type 0 where
  pub enters : Enters (simplex_table s w x.basic x.table) cost q
  pub leaves : Leaves phase (simplex_table s w x.basic x.table) q p
  pub based : Based s.rows p q x.basic y.basic
  pub pivoted : Pivoted s.rows w p q x.table y.table

-- that many lawful pivots, from each table to the next
pub record IsWalk (phase : Phase) (s : System) (cost : ℕ → Rational) (w steps : ℕ) (stage : ℕ → Stage) (enter leave : ℕ → ℕ) : Type 0 where
  pub sound : (k : ℕ) → k ≤ steps → IsSound phase s w (stage k)
  pub step : (k : ℕ) → k < steps → IsStep phase s cost w (stage k) (enter k) (leave k) (stage (suc k))

-- that many lawful pivots from x to z
pub record Walk (phase : Phase) (s : System) (cost : ℕ → Rational) (w steps : ℕ) (x z : Stage) : Type 0 where
  pub stage : ℕ → Stage
  pub enter : ℕ → ℕ
  pub leave : ℕ → ℕ
  pub walk : IsWalk phase s cost w steps stage enter leave
  pub first : stage 0 ≡ x
  pub last : stage steps ≡ z

-- x, and then the others
abbrev before : {T : Type 0} → T → (ℕ → T) → ℕ → T
before x f zero = x
before x f (suc k) = f k

-- ---- the table after a pivot
abbrev pivoted_table : ℕ → ℕ → (ℕ → ℕ → Rational) → ℕ → ℕ → Rational
pivoted_table p q X i j = cond (eqb i p) (div (X p j) (X p q)) (sub (X i j) (mul (X i q) (div (X p j) (X p q))))

own_row : (p q : ℕ) (X : ℕ → ℕ → Rational) (j : ℕ) → pivoted_table p q X p j ≡ div (X p j) (X p q)
own_row p q X j = ap (λ b. cond b (div (X p j) (X p q)) (sub (X p j) (mul (X p q) (div (X p j) (X p q))))) (eq-eqb p p refl)

other_row : (p q : ℕ) (X : ℕ → ℕ → Rational) (i j : ℕ) → i ≢ p → pivoted_table p q X i j ≡ sub (X i j) (mul (X i q) (pivoted_table p q X p j))
other_row p q X i j ne =
    ap (λ b. cond b (div (X p j) (X p q)) (sub (X i j) (mul (X i q) (div (X p j) (X p q))))) (ne_eqb i p ne)
    ∙ ap (λ k. sub (X i j) (mul (X i q) k)) (sym (own_row p q X j))

is_pivoted : (n w p q : ℕ) (X : ℕ → ℕ → Rational) → Pivoted n w p q X (pivoted_table p q X)
is_pivoted n w p q X = record { row = λ j l. own_row p q X j; others = λ i j h l ne. other_row p q X i j ne }

module _ (phase : Phase) (s : System) (cost : ℕ → Rational) (w : ℕ) (hn : s.rows < w) where
  -- what is lawful at a basis is lawful at its table
  lawful_step : (x : Stage) (q p : ℕ) (c : ℕ → ℕ) → IsSound phase s w x → IsLawfulAt (linear_program phase s cost w) x.basic q p → Based s.rows p q x.basic c → IsStep phase s cost w x q p (stage_of c (pivoted_table p q x.table))
  lawful_step x q p c sound h based =
      let like : AreAlike s.rows w x.basic (priced_columns s.artificial cost h.table) (priced_columns s.artificial cost x.table) =
      record {
        some = omega arith;
        basis = sound.basis;
        artificials = record { same = λ j l. refl };
        costs = record { same = λ j l. refl };
        entries = record { same = λ i j k l. sym (tables.one_table s.rows w s.columns x.table h.table x.basic hn sound.basis sound.stands h.belongs i j k l) };
      } in
      let enters = alike.enters s.rows w x.basic s.artificial s.artificial cost cost h.table x.table like q h.enters in
      record {
        enters = enters;
        leaves = alike.leaves s.rows w x.basic s.artificial s.artificial cost cost h.table x.table like phase q p enters.improves.within h.leaves;
        based = based;
        pivoted = is_pivoted s.rows w p q x.table;
      }

  -- after it the table is that of its basis, and the phase may start there
  sound_kept : (x y : Stage) (q p : ℕ) → IsSound phase s w x → IsStep phase s cost w x q p y → IsSound phase s w y
  sound_kept x y q p sound step =
      let some : 0 < w = omega arith in
      let within = step.enters.improves.within in
      let by = how s.rows w s.artificial x.basic y.basic x.table y.table q p some within step.based step.pivoted phase sound.start.artificials step.leaves in
      let row = row_within s.rows w s.artificial x.basic y.basic x.table y.table q p some within step.based step.pivoted by in
      let filled = entry_filled s.rows w s.artificial x.basic y.basic x.table y.table q p some within step.based step.pivoted by in
      record {
        basis = alike.basis_kept s.rows w p q x.basic y.basic sound.basis within step.based;
        stands = stands_kept s.rows w p q s.columns x.table y.table x.basic y.basic hn sound.basis row within filled step.pivoted step.based sound.stands;
        start = start_kept s.rows w s.artificial x.basic y.basic x.table y.table q p some within step.based step.pivoted phase sound.start step.enters.improves.real step.leaves;
      }

  stop : (x : Stage) → IsSound phase s w x → Walk phase s cost w 0 x x
  stop x sound = record {
    stage = λ _. x;
    enter = λ _. 0;
    leave = λ _. 0;
    walk = record { sound = λ k l. sound; step = λ k l. absurd (omega arith) };
    first = refl;
    last = refl;
  }

  first_sound : (x y z : Stage) (steps : ℕ) → IsSound phase s w x → (rest : Walk phase s cost w steps y z) → (k : ℕ) → k ≤ suc steps → IsSound phase s w (before x rest.stage k)
  first_sound x y z steps sound rest zero l = sound
  first_sound x y z steps sound rest (suc k) l = rest.walk.sound k (omega arith)

  first_step : (x y z : Stage) (q p steps : ℕ) → IsStep phase s cost w x q p y → (rest : Walk phase s cost w steps y z) → (k : ℕ) → k < suc steps
      → IsStep phase s cost w (before x rest.stage k) (before q rest.enter k) (before p rest.leave k) (before x rest.stage (suc k))
  first_step x y z q p steps step rest zero l = subst (λ y. IsStep phase s cost w x q p y) (sym rest.first) step
  first_step x y z q p steps step rest (suc k) l = rest.walk.step k (omega arith)

  longer : (x y z : Stage) (q p steps : ℕ) → IsSound phase s w x → IsStep phase s cost w x q p y → Walk phase s cost w steps y z → Walk phase s cost w (suc steps) x z
  longer x y z q p steps sound step rest = record {
    stage = before x rest.stage;
    enter = before q rest.enter;
    leave = before p rest.leave;
    walk = record { sound = first_sound x y z steps sound rest; step = first_step x y z q p steps step rest };
    first = refl;
    last = rest.last;
  }

  -- lawful pivots as they lead on from a table, for any walk after them
  pub record Arrives (a b : ℕ → ℕ) (X : ℕ → ℕ → Rational) (many : ℕ) : Type 0 where
    pub table : ℕ → ℕ → Rational
    pub sound : IsSound phase s w (stage_of b table)
    pub before : (steps : ℕ) (z : Stage) → Walk phase s cost w steps (stage_of b table) z → Walk phase s cost w (many + steps) (stage_of a X) z

  pub arrives : (a b : ℕ → ℕ) (X : ℕ → ℕ → Rational) (pivots : List Pivot) → IsSound phase s w (stage_of a X) → Pivots (linear_program phase s cost w) a pivots b → Arrives a b X (length pivots)
  arrives a b X pivots sound (still z) = record { table = X; sound = sound; before = λ steps y rest. subst (λ k. Walk phase s cost w k (stage_of a X) y) (omega arith) rest }
  arrives a b X pivots sound (more z m c ps q p first at based) =
      let here = arrives a m X ps sound first in
      let step = lawful_step (stage_of m here.table) q p c here.sound at based in
      let next = stage_of c (pivoted_table p q here.table) in
      let many : (steps : ℕ) → length ps + suc steps ≡ length (ps ++ record { enter = q; leave = p } ∷ []) + steps = λ steps. let e = length-append ps (record { enter = q; leave = p } ∷ []) in omega (arith, e) in
      record {
        table = pivoted_table p q here.table;
        sound = sound_kept (stage_of m here.table) next q p here.sound step;
        before = λ steps y rest. subst (λ k. Walk phase s cost w k (stage_of a X) y) (many steps) (here.before (suc steps) y (longer (stage_of m here.table) next y q p steps here.sound step rest));
      }

  -- lawful pivots make a walk of as many steps
  pub walk_of : (a b : ℕ → ℕ) (X : ℕ → ℕ → Rational) (pivots : List Pivot) → IsSound phase s w (stage_of a X) → Pivots (linear_program phase s cost w) a pivots b
      → (Y : ℕ → ℕ → Rational) × Walk phase s cost w (length pivots) (stage_of a X) (stage_of b Y)
  walk_of a b X pivots sound there =
      let here = arrives a b X pivots sound there in
      let y = stage_of b here.table in
      (here.table, subst (λ k. Walk phase s cost w k (stage_of a X) y) (omega arith) (here.before 0 y (stop y here.sound)))
