-- The object of an answer.
use Rattle.std.specs.Prelude.{ℕ, ℤ, pos, List, ◌++◌, codes, Option}
use Rattle.std.specs.Fmt.{signed_decimal}
use Rattle.ps_problem.specs.Problems.{Parts}
use Rattle.ps_answer.specs.declared.answer.Answer.{Answer}
use Rattle.ps_answer.specs.declared.answer.Cause.{Cause}
use Rattle.ps_answer.specs.declared.answer.Verdict.{Verdict}
use Rattle.ps_answer.specs.declared.answer.Verdict.TheVariants.{Consistent, Inconsistent, Open}
use Rattle.ps_spoken.specs.declared.clash.Clash.{Clash}
use Rattle.ps_spoken.specs.Spoken.{cause_text}
use Rattle.ps_spoken.specs.declared.object.Told.{Told}
use Rattle.ps_spoken.specs.declared.details.Details.{Details}
use Rattle.ps_spoken.specs.Unused.{unused_member}
use Rattle.ps_spoken.specs.JsonClashes.{clash_member}
use Rattle.ps_spoken.specs.Counts.{counts_object}
use Rattle.ps_spoken.specs.Queries.{queries_text}
use Rattle.ps_spoken.specs.Strings.{string_text}
use Rattle.ps_spoken.specs.Warned.{warned_member}
use Rattle.ps_spoken.specs.declared.warned.Warned.{Warned}

-- what is told beside an answer: how many digits decimals have, the file's name, what is told of each query, which sentences
-- clash, on which no bound rests, the lines of sentences, warnings about the problem, how much is open, and the status
pub record Beside : Type 0 where
  pub digits : ℕ
  pub file : List ℕ
  pub details : List Details
  pub clash : Option Clash
  pub unused : Option (List ℕ)
  pub lines : List ℕ
  pub warnings : List Warned
  pub unfinished : ℤ
  pub status : ℕ

-- what is told beside an answer, out of references
abbrev pub facts : Told → Beside
facts t = record {
  digits = t.digits;
  file = t.file.now;
  details = t.details.now;
  clash = t.clash.now;
  unused = t.unused.now;
  lines = t.lines.now;
  warnings = t.warnings.now;
  unfinished = t.unfinished;
  status = t.status;
}

-- the members of an open verdict
abbrev pub open_members : Cause → List ℕ
open_members c = codes ",\"verdict\":\"open\",\"why\":\"" ++ (cause_text c ++ codes "\"")

-- the members of a verdict
abbrev pub verdict_members : Verdict → List ℕ
verdict_members (Consistent m) = codes ",\"verdict\":\"consistent\",\"why\":null"
verdict_members (Inconsistent d) = codes ",\"verdict\":\"inconsistent\",\"why\":null"
verdict_members (Open c) = open_members c

-- the status, and the end of the object
unfoldable pub status_member : ℕ → List ℕ
status_member status = codes ",\"status\":" ++ (signed_decimal (pos status) ++ codes "}\n")

-- the members behind the queries
unfoldable pub end_text : Parts → Beside → List ℕ
end_text p t =
    codes "],\"clash\":" ++ (clash_member p t.lines t.clash
    ++ (unused_member p t.lines t.unused
    ++ (codes ",\"counts\":" ++ (counts_object p t.unfinished
    ++ (warned_member t.warnings ++ status_member t.status)))))

-- the object of an answer to a problem, on one line
unfoldable pub object : Parts → Answer → Beside → List ℕ
object p a t =
    codes "{\"file\":" ++ (string_text t.file
    ++ (verdict_members a.verdict ++ (codes ",\"queries\":[" ++ (queries_text t.digits p a.parts t.details ++ end_text p t))))
