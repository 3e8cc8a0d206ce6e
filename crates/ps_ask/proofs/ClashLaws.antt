-- What an explanation tells of sentences that clash.
use Rattle.std.proofs.Common.{◌≡◌, true, ℕ, List, All, Some, None, length, map, refl, sym, subst, inl, inr}
use Rattle.ps_problem.specs.Problems.{Parts, bounds_of}
use Rattle.ps_table.specs.declared.event.Event.{Event}
use Rattle.ps_answer.specs.declared.answer.Cause.{Cause}
use Rattle.ps_answer.specs.declared.answer.Dual.{Dual}
use Rattle.ps_answer.specs.declared.answer.Model.{Model}
use Rattle.ps_answer.specs.declared.answer.Answer.{Answer}
use Rattle.ps_answer.specs.declared.answer.Verdict.{Verdict}
use Rattle.ps_answer.specs.declared.answer.Verdict.TheVariants as verdict
use Rattle.ps_claims.specs.Answers.{ShowsConsistent, IsRightVerdict}
use Rattle.ps_claims.specs.Certificates.{model_of}
use Rattle.ps_valid.specs.Answers.{IsRightOf, verdict_of}
use Rattle.ps_runs.specs.declared.limits.Limits.{Limits}
use Rattle.ps_explain.specs.declared.explained.Explained.{Explained}
use Rattle.ps_explain.specs.declared.explained.Explained.TheVariants as explained
use Rattle.ps_explain.specs.Explanations.{IsRightExplanation}
use Rattle.ps_spoken.specs.declared.clash.Clash.{Clash}
use Rattle.ps_spoken.specs.declared.clash.Clash.TheVariants as clash
use Rattle.ps_spoken.specs.declared.clash.Clashing.{Clashing}
use Rattle.ps_explain.specs.Rests.{IsVerdictWithout}
use Rattle.ps_ask.specs.declared.cores.Core.{Core}
use Rattle.ps_ask.specs.declared.cores.Core.TheVariants as core
use Rattle.ps_ask.specs.Clashes.{AreIrreducible, IsClashAt, IsFoundClash, IsCoreWithin, IsCoreFor, IsShownInconsistent}
use Rattle.ps_ask.specs.Clashes.{IsRestOf, IsRestFor, number_of}
use Rattle.ps_spoken.specs.Spoken.{out_of_time}
use Rattle.ps_ask.specs.declared.settings.Settings.{Settings}

-- sentences that an explanation names
pub core_found : (limits : Limits) (p : Parts) (e : Explained) (ns : List ℕ) (d : Dual) (ms : List Model) → e ≡ explained.Core ns d ms → IsRightExplanation limits p e
    → IsCoreWithin limits p (core.Found ns)
core_found limits p e ns d ms is right = record { dual = d; models = ms; core = subst (IsRightExplanation limits p) is right }

-- a search that was stopped
pub open_found : (limits : Limits) (p : Parts) (e : Explained) (ns : List ℕ) (cause : Cause) (events : List Event) → e ≡ explained.Open ns cause events
    → IsRightExplanation limits p e → IsCoreWithin limits p (core.Open cause)
open_found limits p e ns cause events is right = record { sentences = ns; events = events; open_over = subst (IsRightExplanation limits p) is right }

-- where no distribution meets the sentences, no explanation shows one that does
pub none_consistent : (limits : Limits) (p : Parts) (e : Explained) (m : Model) → e ≡ explained.Consistent m → IsRightExplanation limits p e → IsShownInconsistent p → ⊥
none_consistent limits p e m is right h =
    let shown : ShowsConsistent (length p.names) (bounds_of p) (model_of m) = subst (IsRightExplanation limits p) is right in
    h.none (model_of m).worlds shown.model

-- an answer that says so is right
pub inconsistent_is : (p : Parts) (a : Answer) (d : Dual) → a.verdict ≡ verdict.Inconsistent d → IsRightOf p a → IsShownInconsistent p
inconsistent_is p a d is right = subst (λ (v : Verdict). IsRightVerdict (length p.names) (bounds_of p) (verdict_of v)) is right.verdict

-- what is shown by the verdict
pub clash_at : (s : Settings) (p : Parts) (a : Answer) (d : Dual) (c : Clash) → a.verdict ≡ verdict.Inconsistent d → IsFoundClash s p c
    → IsClashAt s p a.verdict (Some c)
clash_at s p a d c is found = subst (λ (v : Verdict). IsClashAt s p v (Some c)) (sym is) found

pub no_clash_consistent : (s : Settings) (p : Parts) (a : Answer) (m : Model) → a.verdict ≡ verdict.Consistent m → IsClashAt s p a.verdict None
no_clash_consistent s p a m is = subst (λ (v : Verdict). IsClashAt s p v None) (sym is) refl

pub no_clash_open : (s : Settings) (p : Parts) (a : Answer) (c : Cause) → a.verdict ≡ verdict.Open c → IsClashAt s p a.verdict None
no_clash_open s p a c is = subst (λ (v : Verdict). IsClashAt s p v None) (sym is) refl

-- what is found within the settings' limits is found
pub core_by : (s : Settings) (p : Parts) (c : Core) → IsCoreWithin s.limits p c → IsCoreFor s p c
core_by s p (core.Found ns) h = h
core_by s p (core.Open cause) h = inl h

-- sentences that can't be met together can't whatever the limits
pub core_whatever : (s : Settings) (limits : Limits) (p : Parts) (ns : List ℕ) → IsCoreWithin limits p (core.Found ns) → IsCoreFor s p (core.Found ns)
core_whatever s limits p ns h = h

-- time was over before any were found
pub core_late : (s : Settings) (p : Parts) → s.is_timed ≡ true → IsCoreFor s p (core.Open out_of_time)
core_late s p timed = inr (record { timed = timed; over = refl })

-- what the problem comes to without a sentence, within the settings' limits
pub rest_by : (s : Settings) (p : Parts) (n : ℕ) (v : Verdict) → IsVerdictWithout s.limits p n v → IsRestOf s p n v
rest_by s p n (verdict.Consistent m) h = h
rest_by s p n (verdict.Inconsistent d) h = h
rest_by s p n (verdict.Open cause) h = inl h

-- it is met, or isn't, whatever the limits
pub rest_met : (s : Settings) (limits : Limits) (p : Parts) (n : ℕ) (v : Verdict) (m : Model) → v ≡ verdict.Consistent m → IsVerdictWithout limits p n v
    → IsRestOf s p n (verdict.Consistent m)
rest_met s limits p n v m is h = subst (IsVerdictWithout limits p n) is h

pub rest_not_met : (s : Settings) (limits : Limits) (p : Parts) (n : ℕ) (v : Verdict) (d : Dual) → v ≡ verdict.Inconsistent d → IsVerdictWithout limits p n v
    → IsRestOf s p n (verdict.Inconsistent d)
rest_not_met s limits p n v d is h = subst (IsVerdictWithout limits p n) is h

-- time was over before it was found out
pub rest_late : (s : Settings) (p : Parts) (n : ℕ) → s.is_timed ≡ true → IsRestOf s p n (verdict.Open out_of_time)
rest_late s p n timed = inr (record { timed = timed; over = refl })

-- sentences with their rests clash
pub clash_found : (s : Settings) (p : Parts) (c : Core) (ns : List ℕ) (cs : List Clashing) → c ≡ core.Found ns → IsCoreFor s p c → map number_of cs ≡ ns
    → All (IsRestFor s p) cs → IsFoundClash s p (clash.Irreducible cs)
clash_found s p c ns cs is found same rests =
    let irreducible : AreIrreducible p ns = subst (IsCoreFor s p) is found in
    record { irreducible = subst (AreIrreducible p) (sym same) irreducible; rests = rests }

pub clash_open : (s : Settings) (p : Parts) (c : Core) (cause : Cause) → c ≡ core.Open cause → IsCoreFor s p c → IsFoundClash s p (clash.Open cause)
clash_open s p c cause is found = subst (IsCoreFor s p) is found
