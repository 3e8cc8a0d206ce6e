-- Replies that show the end of an answer, by their style.
use Rattle.std.proofs.Common.{◌≡◌, ℕ, pos, List, [], None, refl, sym, ap, ◌∙◌, subst}
use Rattle.std.specs.Prelude.{Option}
use Rattle.ps_problem.specs.Problems.{Parts}
use Rattle.ps_answer.specs.declared.answer.Answer.{Answer}
use Rattle.ps_spoken.specs.declared.clash.Clash.{Clash}
use Rattle.ps_spoken.specs.declared.object.Told.{Told}
use Rattle.ps_spoken.specs.declared.details.Details.{Details}
use Rattle.ps_spoken.specs.Objects.{Beside, facts, object}
use Rattle.ps_ask.specs.declared.settings.Settings.{Settings}
use Rattle.ps_ask.specs.declared.settings.Style.{Style}
use Rattle.ps_ask.specs.declared.settings.Style.TheVariants.{Words, Values, Exact, Json, Report}
use Rattle.ps_ask.specs.declared.reply.Reply.{Reply}
use Rattle.ps_ask.specs.Clashes.{IsClashAt}
use Rattle.ps_ask.specs.Statuses.{open_in, status_after, status_number}
use Rattle.ps_ask.specs.Shown.{IsClashFor, IsToldFor, end_words, last_text, report_of}
use Rattle.ps_ask.specs.Unused.{unused_for, unused_in}
use Rattle.ps_ask.specs.Replies.{IsOf, IsShownFor, last_of}

shown-as : (s : Settings) (name : List ℕ) (p : Parts) (a : Answer) (r : Reply) (t : Beside) (style : Style) → s.style ≡ style → IsToldFor s name p a t
    → last_of s.is_timed r ≡ last_text style s.is_timed p a t → IsOf a r → IsShownFor s name p a t.details r
shown-as s name p a r t style e told is of = record {
  beside = t;
  told = told;
  details_is = refl;
  last_is = subst (λ (x : Style). last_of s.is_timed r ≡ last_text x s.is_timed p a t) (sym e) is;
  answer_is = of;
}

-- what goes with an answer, beside what is told of queries, sentences that clash or on which no bound rests, and their lines
abbrev beside-of : Settings → List ℕ → Answer → List Details → List ℕ → Option Clash × Option (List ℕ) → Beside
beside-of s name a ts lines x = record {
  digits = s.digits;
  file = name;
  details = ts;
  clash = x.0;
  unused = x.1;
  lines = lines;
  warnings = [];
  unfinished = pos (open_in a);
  status = status_number (status_after s.is_timed a);
}

module _ (s : Settings) (name : List ℕ) (p : Parts) (a : Answer) (ts : List Details) (r : Reply) where
  beside-told : (style : Style) (lines : List ℕ) (clash : Option Clash) (unused : Option (List ℕ)) → s.style ≡ style → IsClashFor style s p a.verdict clash
      → unused ≡ unused_for style s.tells_support p a.verdict ts → IsToldFor s name p a (beside-of s name a ts lines (clash, unused))
  beside-told style lines clash unused e c u = record {
    digits = refl;
    file = refl;
    unfinished = refl;
    status = refl;
    clash = subst (λ (x : Style). IsClashFor x s p a.verdict clash) (sym e) c;
    unused = subst (λ (x : Style). unused ≡ unused_for x s.tells_support p a.verdict ts) (sym e) u;
  }

  plain : (style : Style) → s.style ≡ style → IsClashFor style s p a.verdict None → None ≡ unused_for style s.tells_support p a.verdict ts
      → last_of s.is_timed r ≡ last_text style s.is_timed p a (beside-of s name a ts [] (None, None)) → IsOf a r → IsShownFor s name p a ts r
  plain style e c u is of = shown-as s name p a r (beside-of s name a ts [] (None, None)) style e (beside-told style [] None None e c u) is of

  pub words_shown : (lines : List ℕ) (clash : Option Clash) (unused : Option (List ℕ)) → s.style ≡ Words → IsClashAt s p a.verdict clash
      → unused ≡ unused_in s.tells_support p a.verdict ts → last_of s.is_timed r ≡ end_words p lines clash unused → IsOf a r → IsShownFor s name p a ts r
  words_shown lines clash unused e c u is of =
      shown-as s name p a r (beside-of s name a ts lines (clash, unused)) Words e (beside-told Words lines clash unused e c u) is of

  pub values_shown : s.style ≡ Values → last_of s.is_timed r ≡ [] → IsOf a r → IsShownFor s name p a ts r
  values_shown e is of = plain Values e refl refl is of

  pub exact_shown : s.style ≡ Exact → last_of s.is_timed r ≡ [] → IsOf a r → IsShownFor s name p a ts r
  exact_shown e is of = plain Exact e refl refl is of

  pub report_shown : s.style ≡ Report → last_of s.is_timed r ≡ report_of s.is_timed a → IsOf a r → IsShownFor s name p a ts r
  report_shown e is of = plain Report e refl refl is of

  pub object_shown : (t : Told) → s.style ≡ Json → t.digits ≡ s.digits → t.file.now ≡ name → t.details.now ≡ ts → t.unfinished ≡ pos (open_in a)
      → t.status ≡ status_number (status_after s.is_timed a) → IsClashAt s p a.verdict t.clash.now → t.unused.now ≡ unused_in s.tells_support p a.verdict ts
      → last_of s.is_timed r ≡ object p a (facts t) → IsOf a r → IsShownFor s name p a ts r
  object_shown t e d f same u k c none is of =
      subst (λ (x : List Details). IsShownFor s name p a x r) same
      (shown-as s name p a r (facts t) Json e (record {
        digits = d;
        file = f;
        unfinished = u;
        status = k;
        clash = subst (λ (x : Style). IsClashFor x s p a.verdict t.clash.now) (sym e) c;
        unused = subst (λ (x : Style). t.unused.now ≡ unused_for x s.tells_support p a.verdict t.details.now) (sym e)
            (none ∙ ap (λ (x : List Details). unused_in s.tells_support p a.verdict x) (sym same));
      }) is of)
