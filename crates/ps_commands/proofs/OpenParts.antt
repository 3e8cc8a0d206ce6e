-- How much is open in the parts of an answer.
use Rattle.std.proofs.Common.{ℕ, List, map}
use Rattle.std.specs.Prelude.{sum}
use Rattle.ps_answer.specs.declared.answer.QueryPart.{QueryPart}
use Rattle.ps_claims.specs.Claims.{open_in_part}
use Rattle.ps_valid.specs.Answers.{parts_of}

-- how much is open in these parts
abbrev pub parts_open : List QueryPart → ℕ
parts_open ps = sum (map open_in_part (parts_of ps))
