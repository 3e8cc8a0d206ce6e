-- Where there is no query the verdict is the whole answer.
use Rattle.ps_runs.specs.declared.limits.Limits.{Limits}
use Rattle.std.proofs.Common.{◌≡◌, List, [], sym, subst}
use Rattle.std.specs.List.{AllZip}
use Rattle.ps_problem.specs.Problems.{Parts}
use Rattle.ps_table.specs.declared.event.Event.{Event}
use Rattle.ps_answer.specs.declared.answer.Verdict.{Verdict}
use Rattle.ps_answer.specs.declared.answer.Verdict.TheVariants.{Consistent, Inconsistent, Open}
use Rattle.ps_claims.specs.Answers as claimed
use Rattle.ps_claims.specs.Duals.{Dual}
use Rattle.ps_claims.specs.Validity.{IsValidVerdict, IsValidPart, IsValid}
use Rattle.ps_runs.specs.Verdicts.{IsLawfulVerdict, IsLawfulPart, IsLawfulAnswer, asked_after}

no_parts : (p : Parts) (limits : Limits) (v : Verdict) → AllZip (IsLawfulPart p limits) (asked_after v []) []
no_parts p limits (Consistent m) = tt
no_parts p limits (Inconsistent d) = tt
no_parts p limits (Open cause) = tt

pub lawful_alone : (p : Parts) (limits : Limits) (v : Verdict) (events : List Event) → p.queries ≡ [] → IsLawfulVerdict p limits v events
    → IsLawfulAnswer p limits (record { verdict = v; first = events; parts = [] })
lawful_alone p limits v events e h = record {
  verdict = h;
  parts = subst (λ qs. AllZip (IsLawfulPart p limits) (asked_after v qs) []) (sym e) (no_parts p limits v);
}

no_claims : (p : Parts) (v : claimed.Verdict Dual) → AllZip (IsValidPart p) (claimed.asked_under v []) []
no_claims p (claimed.Consistent m) = tt
no_claims p (claimed.Inconsistent d) = tt
no_claims p claimed.OpenVerdict = tt

pub valid_alone : (p : Parts) (v : claimed.Verdict Dual) → p.queries ≡ [] → IsValidVerdict p v → IsValid p (record { verdict = v; parts = [] })
valid_alone p v e h = record {
  verdict = h;
  parts = subst (λ qs. AllZip (IsValidPart p) (claimed.asked_under v qs) []) (sym e) (no_claims p v);
}
