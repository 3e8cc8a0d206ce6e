-- What is said of bases that come twice.
use Rattle.std.specs.Prelude.{◌≡◌, ℕ, ◌<◌, List, [], ◌++◌}
use Rattle.ps_meaning.specs.Rational.{Rational, sub}
use Rattle.ps_meaning.specs.Order.{IsNonneg}
use Rattle.ps_simplex.specs.Table.{carried_by}
use Rattle.ps_simplex.specs.declared.phase.Phase.{Phase}
use Rattle.ps_simplex.specs.declared.phase.Phase.TheVariants.{One, Lower, Upper}
use Rattle.ps_simplex.specs.Rule.{SimplexTable, IsFeasible}
use Rattle.ps_simplex.specs.Pivots.{linear_program, System, Pivot, Pivots}

-- what column j carries above its cost: the reduced cost, turned round
abbrev pub gain : ℕ → (ℕ → Rational) → (ℕ → ℕ) → (ℕ → ℕ → Rational) → ℕ → Rational
gain n cost basic X j = sub (carried_by n cost basic X j) (cost j)

-- column c is basic in one of n rows
abbrev pub IsBasicIn : ℕ → (ℕ → ℕ) → ℕ → Type 0
IsBasicIn n basic c = (i : ℕ) × (i < n) × (basic i ≡ c)

-- the same columns are basic, in whatever rows
pub record HaveSameColumns (n : ℕ) (a b : ℕ → ℕ) : Type 0 where
  pub there : (i : ℕ) → i < n → IsBasicIn n b (a i)
  pub back : (i : ℕ) → i < n → IsBasicIn n a (b i)

-- phase two starts where each basic artificial has value 0
abbrev pub HasZeroArtificials : Phase → SimplexTable → Type 0
HasZeroArtificials One t = Unit {0}
HasZeroArtificials Lower t = IsFeasible t
HasZeroArtificials Upper t = IsFeasible t

-- a table at which a phase may start
pub record IsStart (phase : Phase) (t : SimplexTable) : Type 0 where
  pub values : (i : ℕ) → i < t.rows → IsNonneg (t.entry i 0)
  pub artificials : HasZeroArtificials phase t

-- from basis a on these pivots meet no basis twice, not even with the same columns in other rows
abbrev pub NoBasisTwice : Phase → System → (ℕ → Rational) → ℕ → (ℕ → ℕ) → List Pivot → Type 0
NoBasisTwice phase s cost w a pivots = (x y : ℕ → ℕ) (before between after : List Pivot) → pivots ≡ before ++ (between ++ after)
    → Pivots (linear_program phase s cost w) a before x → Pivots (linear_program phase s cost w) x between y
    → HaveSameColumns s.rows x y → between ≡ []
