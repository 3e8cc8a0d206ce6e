-- What is known of a report behind a piece more, and at its end.
use Rattle.std.proofs.Common.{◌≡◌, ℕ, List, ◌++◌, drop, Result, Ok, Err, sym, subst, arith}
use Rattle.std.proofs.lemmas.List.{length-append, drop-append-le}
use Rattle.ps_problem.specs.Problems.{Parts}
use Rattle.ps_read.specs.declared.read_error.ReadError.{ReadError}
use Rattle.ps_read.specs.declared.read_error.ReadError.TheVariants.{At}
use Rattle.ps_text.specs.declared.kind.ReadKind.{ReadKind}
use Rattle.ps_answer.specs.declared.error.LineKind.{LineKind}
use Rattle.ps_read.specs.Readings.{SpellsProblem}
use Rattle.ps_valid.specs.declared.refusal.Accepted.{Accepted}
use Rattle.ps_valid.specs.declared.refusal.Refusal.{Refusal}
use Rattle.ps_check.specs.declared.end.StreamEnd.{StreamEnd}
use Rattle.ps_check.specs.declared.end.StreamEnd.TheVariants as end
use Rattle.ps_check.specs.Ends.{AnswersReport}
use Rattle.ps_read.specs.Stages.{FrontState, HasPushed, IsRead}
use Rattle.ps_read.specs.Fronts.{FindsUpTo, ReadsFront, TellsUnread}
use Rattle.ps_check.specs.declared.checked.Checked.{Checked}
use Rattle.ps_check.specs.declared.checked.Checked.TheVariants as found
use Rattle.ps_check.specs.declared.judge.Judge.{Judge}
use Rattle.ps_check.specs.declared.report.Report.{Report}
use Rattle.ps_check.specs.declared.report.Report.TheVariants.{Judging, Refused}
use Rattle.ps_check.specs.Checks.{IsReportJudged, IsFoundBy}
use Rattle.ps_check.specs.Judging as judging
use Rattle.ps_check.specs.Reports.{HasJudged, IsJudging, IsBehind, Knows, IsRest, HasBegun, HasTakenOn, IsFound}
use Rattle.ps_check.proofs.SearchedBytes.{searched_read}

-- the report behind a problem begins with these bytes
begun_judging : (f : FrontState) (p : Parts) (rest pushed searched bytes : List ℕ) (judge : Judge) → HasJudged p judge rest
    → SpellsProblem searched p f.taken → IsRest f.taken bytes rest → IsBehind searched bytes judge
begun_judging f p rest pushed searched bytes judge h spells r = record {
  place = f.taken;
  within = r.within;
  spells = subst (λ (x : Parts). SpellsProblem searched x f.taken) (sym h.problem) spells;
  taken = subst (judging.HasTaken judge) (sym r.rest_is) h.taken;
}

begun : (f : FrontState) (p : Parts) (rest pushed searched bytes : List ℕ) (r : Report) → IsJudging p rest r → SpellsProblem searched p f.taken
    → IsRest f.taken bytes rest → Knows searched bytes r
begun f p rest pushed searched bytes (Judging judge) h spells r = begun_judging f p rest pushed searched bytes judge h spells r
begun f p rest pushed searched bytes (Refused kind line column) h spells r = absurd h

pub problem_known : (f : FrontState) (p : Parts) (rest : List ℕ) (r : Report) → ((bytes : List ℕ) → HasPushed f bytes → FindsUpTo bytes f.taken (Ok p))
    → ((bytes : List ℕ) → HasPushed f bytes → ReadsFront bytes (Ok p)) → ((bytes : List ℕ) → HasPushed f bytes → TellsUnread bytes (Ok p))
    → IsJudging p rest r → HasBegun f rest r
problem_known f p rest r found only told h = record {
  known = λ pushed searched bytes s at.
      begun f p rest pushed searched bytes r h (searched_read f pushed searched (Ok p) s (found pushed s.known) (only pushed s.known) (told pushed s.known)) at;
}

-- no problem is read
pub refusal_known : (f : FrontState) (e : ReadError) (kind : ReadKind) (line column : ℕ) (rest : List ℕ) → e ≡ At kind line column
    → ((bytes : List ℕ) → HasPushed f bytes → FindsUpTo bytes f.taken (Err e)) → ((bytes : List ℕ) → HasPushed f bytes → ReadsFront bytes (Err e))
    → ((bytes : List ℕ) → HasPushed f bytes → TellsUnread bytes (Err e)) → HasBegun f rest (Refused kind line column)
refusal_known f e kind line column rest is found only told = record {
  known = λ pushed searched bytes s at.
      subst (λ (x : ReadError). IsRead searched f.taken (Err x)) is
      (searched_read f pushed searched (Err e) s (found pushed s.known) (only pushed s.known) (told pushed s.known));
}

-- the bytes of a piece are behind those of the problem part
behind_more : (searched bytes piece : List ℕ) (old new : Judge) → judging.HasTakenOn old piece new → IsBehind searched bytes old
    → IsBehind searched (bytes ++ piece) new
behind_more searched bytes piece old new h b = record {
  place = b.place;
  within = omega (arith, b.within, length-append bytes piece);
  spells = subst (λ (x : Parts). SpellsProblem searched x b.place) (sym h.problem) b.spells;
  taken = subst (judging.HasTaken new) (sym (drop-append-le b.place bytes piece b.within)) (h.taken (drop b.place bytes) b.taken);
}

pub judging_on : (self : Report) (old new : Judge) (piece : List ℕ) → self ≡ Judging old → judging.HasTakenOn old piece new → HasTakenOn self piece (Judging new)
judging_on self old new piece is h = record {
  taken = λ searched bytes k. behind_more searched bytes piece old new h (subst (Knows searched bytes) is k);
}

-- at the end of the report
judged : (judge : Judge) (result : Result Accepted StreamEnd)
    → ((bytes : List ℕ) → judging.HasTaken judge bytes → AnswersReport judge.check.problem bytes result)
    → (searched bytes : List ℕ) → IsBehind searched bytes judge → IsReportJudged searched bytes result
judged judge result answers searched bytes b = record {
  problem = judge.check.problem;
  place = b.place;
  spells = b.spells;
  answers = answers (drop b.place bytes) b.taken;
}

pub found_judged : (self : Report) (judge : Judge) (result : Result Accepted StreamEnd) (checked : Checked) → self ≡ Judging judge
    → ((bytes : List ℕ) → judging.HasTaken judge bytes → AnswersReport judge.check.problem bytes result)
    → ((searched bytes : List ℕ) → IsReportJudged searched bytes result → IsFoundBy searched bytes checked) → IsFound self checked
found_judged self judge result checked is answers so = record {
  found = λ searched bytes k. so searched bytes (judged judge result answers searched bytes (subst (Knows searched bytes) is k));
}

pub found_line : (self : Report) (judge : Judge) (e : StreamEnd) (kind : LineKind) (line : ℕ) → self ≡ Judging judge → e ≡ end.Line kind line
    → ((bytes : List ℕ) → judging.HasTaken judge bytes → AnswersReport judge.check.problem bytes (Err e)) → IsFound self (found.RefusedLine kind line)
found_line self judge e kind line is at answers =
    found_judged self judge (Err (end.Line kind line)) (found.RefusedLine kind line) is
    (subst (λ (x : StreamEnd). (bytes : List ℕ) → judging.HasTaken judge bytes → AnswersReport judge.check.problem bytes (Err x)) at answers) (λ searched bytes h. h)

pub found_refusal : (self : Report) (judge : Judge) (e : StreamEnd) (r : Refusal) → self ≡ Judging judge → e ≡ end.Refused r
    → ((bytes : List ℕ) → judging.HasTaken judge bytes → AnswersReport judge.check.problem bytes (Err e)) → IsFound self (found.Refused r)
found_refusal self judge e r is at answers =
    found_judged self judge (Err (end.Refused r)) (found.Refused r) is
    (subst (λ (x : StreamEnd). (bytes : List ℕ) → judging.HasTaken judge bytes → AnswersReport judge.check.problem bytes (Err x)) at answers) (λ searched bytes h. h)
