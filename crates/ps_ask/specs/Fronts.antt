-- An answer as it goes: its verdict, and the parts that are there.
use Rattle.std.specs.Prelude.{◌≡◌, ◌⊎◌, ℕ, true, false, List, [], length, take, Option}
use Rattle.std.specs.List.{AllZip}
use Rattle.ps_problem.specs.declared.query.Query.{Query}
use Rattle.ps_problem.specs.Problems.{Parts, bounds_of}
use Rattle.ps_table.specs.declared.event.Event.{Event}
use Rattle.ps_answer.specs.declared.answer.Answer.{Answer}
use Rattle.ps_answer.specs.declared.answer.QueryPart.{QueryPart}
use Rattle.ps_answer.specs.declared.answer.SideAnswer.{SideAnswer}
use Rattle.ps_answer.specs.declared.answer.Verdict.{Verdict}
use Rattle.ps_answer.specs.declared.answer.Verdict.TheVariants.{Open}
use Rattle.ps_claims.specs.Answers.{IsRightVerdict, IsRightPart}
use Rattle.ps_claims.specs.Validity.{IsValid, IsValidPart, query_of}
use Rattle.ps_valid.specs.Answers.{answer_of, part_of, verdict_of, IsRightOf}
use Rattle.ps_runs.specs.Verdicts.{asked_after}
use Rattle.ps_claims.specs.Printed.{IsPrintedPart}
use Rattle.ps_guess.specs.Known.{AreFound}
use Rattle.ps_guess.specs.Solutions.{IsAnsweredPart, IsAnsweredVerdict, IsSettledSolution}
use Rattle.ps_spoken.specs.declared.details.Details.{Details}
use Rattle.ps_ask.specs.Details.{AreToldAsAsked, AreTrueOf}
use Rattle.ps_spoken.specs.Spoken.{spoken, out_of_time, verdict_text, part_text, parts_text}
use Rattle.ps_spoken.specs.Exact.{exact_of, query_exact, parts_exact}
use Rattle.ps_spoken.specs.Quiet.{values_of, verdict_value, query_values, parts_values}
use Rattle.ps_ask.specs.declared.settings.Settings.{Settings}
use Rattle.ps_ask.specs.declared.settings.Style.{Style}
use Rattle.ps_ask.specs.declared.settings.Style.TheVariants.{Words, Values, Exact, Json, Report}
use Rattle.ps_ask.specs.Late.{is_late, is_late_answer, IsOpenByTime}

-- ---- what is judged
-- time is limited, and the verdict is shown as not finished within it
pub record IsLateVerdict (s : Settings) (v : Verdict) : Type 0 where
  pub timed : s.is_timed ≡ true
  pub over : v ≡ Open out_of_time

-- a verdict that is shown: it is right, and was answered within the limits; or it is shown as not finished in time
pub record IsShownVerdict (s : Settings) (p : Parts) (v : Verdict) (events : List Event) : Type 0 where
  pub right : IsRightVerdict (length p.names) (bounds_of p) (verdict_of v)
  pub judged : IsAnsweredVerdict s.limits p v events ⊎ IsLateVerdict s v

-- time is limited, and the part is shown as not finished within it, and nothing in it as open for another cause; what it claims
-- is valid all the same, and can be printed
pub record IsLatePart (s : Settings) (p : Parts) (q : Query) (part : QueryPart) : Type 0 where
  pub timed : s.is_timed ≡ true
  pub late : is_late_answer part.answer ≡ true
  pub only : IsOpenByTime part.answer
  pub valid : IsValidPart p q (part_of part.answer)
  pub printed : IsPrintedPart part.answer

-- so a part is judged: it was answered within the limits; or it is shown as not finished in time
abbrev pub IsJudgedPart : Settings → Parts → Query → QueryPart → Type 0
IsJudgedPart s p q part = IsAnsweredPart s.limits p q part ⊎ IsLatePart s p q part

-- of every problem and query, of whose sides these were found: where time is limited, the part is judged so
abbrev pub IsJudgedBeside : Option SideAnswer → Option SideAnswer → QueryPart → Type 0
IsJudgedBeside lower upper part = (s : Settings) (p : Parts) (q : Query) → s.is_timed ≡ true → AreFound p q lower upper
    → IsJudgedPart s p q part

-- a part that is shown: it is right, and was answered within the limits; or it is shown as not finished in time
pub record IsShownPart (s : Settings) (p : Parts) (q : Query) (part : QueryPart) : Type 0 where
  pub right : IsRightPart (length p.names) (bounds_of p) (query_of p.nodes q) (part_of part.answer)
  pub judged : IsJudgedPart s p q part

-- a part that is shown for each of these queries
abbrev pub AreShownParts : Settings → Parts → List Query → List QueryPart → Type 0
AreShownParts s p qs parts = AllZip (IsShownPart s p) qs parts

-- so it is of the queries that are asked behind a verdict
abbrev pub AreShownAfter : Settings → Parts → Verdict → List QueryPart → Type 0
AreShownAfter s p v parts = AreShownParts s p (asked_after v p.queries) parts

-- an answer as it goes: its verdict, and parts for the first of the queries that are asked behind it
pub record IsUnderWay (s : Settings) (p : Parts) (a : Answer) : Type 0 where
  pub verdict : IsShownVerdict s p a.verdict a.first
  pub parts : AreShownParts s p (take (length a.parts) (asked_after a.verdict p.queries)) a.parts

-- a whole answer: its verdict, and a part for each query that is asked behind it. It is valid and right, and unless something is
-- shown as not finished in time, each part of it has its certificates or comes of a lawful run within the limits
pub record IsWhole (s : Settings) (p : Parts) (a : Answer) : Type 0 where
  pub verdict : IsShownVerdict s p a.verdict a.first
  pub parts : AreShownParts s p (asked_after a.verdict p.queries) a.parts
  pub valid : IsValid p (answer_of a)
  pub right : IsRightOf p a
  pub settled : is_late s.is_timed a ≡ false → IsSettledSolution s.limits p a

-- ---- what is shown as it goes
-- the text of an answer as far as it goes: in words, with what is told of each query, or by its values. An object and a report
-- are shown whole, at the end
abbrev pub begun_text : Style → ℕ → Parts → Answer → List Details → List ℕ
begun_text Words digits p a ts = spoken digits p a ts
begun_text Values digits p a ts = values_of digits a
begun_text Exact digits p a ts = exact_of a
begun_text Json digits p a ts = []
begun_text Report digits p a ts = []

-- the piece of it that is the verdict's
abbrev pub verdict_piece : Style → Verdict → List ℕ
verdict_piece Words v = verdict_text v
verdict_piece Values v = verdict_value v
verdict_piece Exact v = verdict_value v
verdict_piece Json v = []
verdict_piece Report v = []

-- the piece of it that is a part's, with what is told of its query
abbrev pub part_piece : Style → ℕ → Parts → Query → QueryPart → Details → List ℕ
part_piece Words digits p q part t = part_text digits p q part t
part_piece Values digits p q part t = query_values digits part.answer
part_piece Exact digits p q part t = query_exact part.answer
part_piece Json digits p q part t = []
part_piece Report digits p q part t = []

-- the pieces of the parts of the first queries, with what is told of each
abbrev pub parts_pieces : Style → ℕ → Parts → List QueryPart → List Details → List ℕ
parts_pieces Words digits p parts ts = parts_text digits p p.queries parts ts
parts_pieces Values digits p parts ts = parts_values digits parts
parts_pieces Exact digits p parts ts = parts_exact parts
parts_pieces Json digits p parts ts = []
parts_pieces Report digits p parts ts = []

-- the same by the settings: the piece of the verdict, that of a part, those of parts, and the text of an answer
abbrev pub verdict_shown : Settings → Verdict × List Event → List ℕ
verdict_shown s v = verdict_piece s.style v.0

abbrev pub piece_of : Settings → Parts → Query → QueryPart × Details → List ℕ
piece_of s p q x = part_piece s.style s.digits p q x.0 x.1

abbrev pub pieces_of : Settings → Parts → List QueryPart × List Details → List ℕ
pieces_of s p x = parts_pieces s.style s.digits p x.0 x.1

abbrev pub begun_of : Settings → Parts → Answer × List Details → List ℕ
begun_of s p x = begun_text s.style s.digits p x.0 x.1

-- what is told of the first of these queries, so many, is true
abbrev pub AreTrueTo : Parts → List Query → ℕ → List Details → Type 0
AreTrueTo p qs n ts = AreTrueOf p (take n qs) ts

-- what is told of the queries that are asked behind a verdict is true
abbrev pub AreTrueAfter : Parts → Verdict → List Details → Type 0
AreTrueAfter p v ts = AreTrueOf p (asked_after v p.queries) ts

-- the text of an answer to a problem, as far as it goes, with what is told of each query: that is true, and what was asked for
pub record IsBegunText (s : Settings) (p : Parts) (text : List ℕ) : Type 0 where
  pub answer : Answer
  pub details : List Details
  pub under_way : IsUnderWay s p answer
  pub told : AreTrueTo p (asked_after answer.verdict p.queries) (length answer.parts) details
  pub asked : AreToldAsAsked s answer.parts details
  pub is : text ≡ begun_text s.style s.digits p answer details
