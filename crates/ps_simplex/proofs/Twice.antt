-- On the way of lawful pivots no basis comes twice.
use Rattle.std.proofs.Common.{◌≡◌, ℕ, ◌<◌, List, [], ◌∷◌, length, refl, sym, subst, arith}
use Rattle.ps_meaning.specs.Rational.{Rational}
use Rattle.ps_simplex.specs.Table.{IsBasisTable, IsBasis}
use Rattle.ps_simplex.specs.declared.phase.Phase.{Phase}
use Rattle.ps_simplex.specs.Pivots.{linear_program, System, simplex_table, Pivot, Pivots}
use Rattle.ps_simplex.specs.Cycle.{IsStart, HaveSameColumns, NoBasisTwice}
use Rattle.ps_simplex.proofs.Walks.{stage_of, arrives, walk_of, IsSound}
use Rattle.ps_simplex.proofs.NoCycle.{no_cycle}

-- pivots that lead to the columns that they began with are none
none_from_length : (pivots : List Pivot) → (0 < length pivots → ⊥) → pivots ≡ []
none_from_length [] h = refl
none_from_length (p ∷ ps) h = absurd (h (omega arith))

no_return : (phase : Phase) (s : System) (cost : ℕ → Rational) (w : ℕ) (x y : ℕ → ℕ) (X : ℕ → ℕ → Rational) (pivots : List Pivot) → s.rows < w → IsSound phase s w (stage_of x X) → Pivots (linear_program phase s cost w) x pivots y → HaveSameColumns s.rows x y → pivots ≡ []
no_return phase s cost w x y X pivots hn sound there same =
    let ends = walk_of phase s cost w hn x y X pivots sound there in
    let h = ends.1 in
    none_from_length pivots
    (no_cycle phase s cost w (length pivots) h.stage h.enter h.leave (omega arith) h.walk
    (subst (λ z. HaveSameColumns s.rows (h.stage 0).basic z.basic) (sym h.last) (subst (λ z. HaveSameColumns s.rows z.basic y) (sym h.first) same)))

pub no_basis_twice : (phase : Phase) (s : System) (cost : ℕ → Rational) (w : ℕ) (a : ℕ → ℕ) (X : ℕ → ℕ → Rational) (pivots : List Pivot)
    → s.rows < w → IsBasis s.rows w a → IsBasisTable s.rows w s.columns a X → IsStart phase (simplex_table s w a X)
    → NoBasisTwice phase s cost w a pivots
no_basis_twice phase s cost w a X pivots hn basis stands start x y before between after split to_x to_y same =
    let here = arrives phase s cost w hn a x X before (record { basis = basis; stands = stands; start = start }) to_x in
    no_return phase s cost w x y here.table between hn here.sound to_y same
