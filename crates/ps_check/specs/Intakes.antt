-- What is known of an input so far.
use Rattle.std.specs.Prelude.{◌≡◌, ◌≤◌, ℕ, List, ◌++◌, length, Option}
use Rattle.std.specs.Io.KnownBytes.{Consumes}
use Rattle.ps_io.specs.Transfer.{ReadAll}
use Rattle.ps_read.specs.Stages.{FrontState, HasPushed}
use Rattle.ps_check.specs.declared.intake.TheConstants.{MOST_SEARCHED}
use Rattle.ps_check.specs.declared.checked.Checked.{Checked}
use Rattle.ps_check.specs.declared.intake.Intake.{Intake}
use Rattle.ps_check.specs.declared.intake.Intake.TheVariants.{Reading, Behind}
use Rattle.ps_check.specs.Checks.{IsFoundIn, searched_in}
use Rattle.ps_check.specs.Reports as report

-- while the problem part may go on, so many bytes were pushed, all within those that are searched
pub record IsWithin (f : FrontState) (pushed : ℕ) : Type 0 where
  pub taken : f.taken ≡ pushed
  pub room : pushed ≤ MOST_SEARCHED

-- what is kept can go on
abbrev pub IsSound : Intake → Type 0
IsSound (Reading f pushed) = IsWithin f pushed
IsSound (Behind r) = report.IsSound r

-- these bytes were pushed, and they are so many
pub record IsReading (f : FrontState) (pushed : ℕ) (bytes : List ℕ) : Type 0 where
  pub known : HasPushed f bytes
  pub all : pushed ≡ length bytes

-- what is known of the bytes that came, whatever follows them
abbrev pub Knows : Intake → List ℕ → Type 0
Knows (Reading f pushed) bytes = IsReading f pushed bytes
Knows (Behind r) bytes = (more : List ℕ) → report.Knows (searched_in (bytes ++ more)) bytes r

-- the report behind a problem part begins with these bytes
abbrev pub IsBehind : FrontState → List ℕ → Intake → Type 0
IsBehind f rest (Behind r) = report.IsSound r × report.HasBegun f rest r
IsBehind f rest (Reading g pushed) = ⊥

-- the bytes of a piece came behind those before them
pub record HasTakenOn (old : Intake) (piece : List ℕ) (new : Intake) : Type 0 where
  pub known : (bytes : List ℕ) → Knows old bytes → Knows new (bytes ++ piece)

-- this is found of the bytes that came
pub record IsFound (i : Intake) (checked : Checked) : Type 0 where
  pub found : (bytes : List ℕ) → Knows i bytes → IsFoundIn bytes checked

-- so many known bytes were taken of a source, and of them this is known
pub record HasCome (i : Intake) (taken : ℕ) (old new : Option (List ℕ)) : Type 0 where
  pub bytes : List ℕ
  pub consumed : Consumes old new bytes
  pub all : taken ≡ length bytes
  pub known : Knows i bytes

-- all bytes that were left in a source were taken, they are at most `limit`, and of them this is known
pub record HasTakenAll (i : Intake) (limit : ℕ) (old new : Option (List ℕ)) : Type 0 where
  pub bytes : List ℕ
  pub read : ReadAll limit old new bytes
  pub known : Knows i bytes
