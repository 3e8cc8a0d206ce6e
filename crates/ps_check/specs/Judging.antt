-- What is known of the bytes of a report that were taken.
use Rattle.std.specs.Prelude.{◌≡◌, ℕ, List, ◌++◌}
use Rattle.ps_log.specs.FirstLines.{IsOneLine}
use Rattle.ps_check.specs.States as stream
use Rattle.ps_check.specs.Reading.{bytes_of}
use Rattle.ps_check.specs.declared.judge.Judge.{Judge}

-- these bytes were taken: lines that were judged, and behind them a part of a line
pub record HasTaken (j : Judge) (bytes : List ℕ) : Type 0 where
  pub lines : List (List ℕ)
  pub judged : stream.HasTaken j.check lines
  pub bytes_are : bytes ≡ bytes_of lines j.partial.items

-- the bytes of a piece were taken behind those before them, on the same problem
pub record HasTakenOn (old : Judge) (piece : List ℕ) (new : Judge) : Type 0 where
  pub taken : (bytes : List ℕ) → HasTaken old bytes → HasTaken new (bytes ++ piece)
  pub problem : new.check.problem ≡ old.check.problem

-- bytes at the front of a piece were taken, and these are left
pub record HasPassed (piece : List ℕ) (old : Judge) (left : List ℕ) (new : Judge) : Type 0 where
  pub passed : List ℕ
  pub piece_is : piece ≡ passed ++ left
  pub taken : HasTakenOn old passed new
  pub whole : IsOneLine new.partial.items
