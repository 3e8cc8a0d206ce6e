-- What the claims of an answer come to, one after another.
use Rattle.std.proofs.Common.{◌≡◌, ℕ, ◌+◌, ◌≤◌, Bool, true, Option, Some, None, Result, Ok, Err, List, [], ◌∷◌, ◌++◌, length, refl, sym, ap, subst, ◌∙◌, arith}
use Rattle.std.specs.Prelude.{nat_le, if◌then◌else◌}
use Rattle.std.specs.List.{AllByRecursion}
use Rattle.std.proofs.lemmas.List.{length-append}
use Rattle.std.proofs.lemmas.List.Elements.{All-append, All-cons, All-nil}
use Rattle.ps_problem.specs.Problems.{Parts}
use Rattle.ps_answer.specs.declared.item.LineItem.{LineItem}
use Rattle.ps_claims.specs.declared.claim.Claim.{Claim}
use Rattle.ps_claims.specs.declared.reason.Reason.{Reason}
use Rattle.ps_claims.specs.Claims.{Assertion, IsValidClaim}
use Rattle.ps_valid.specs.declared.refusal.Accepted.{Accepted}
use Rattle.ps_valid.specs.declared.refusal.Refusal.{Refusal}
use Rattle.ps_valid.specs.declared.refusal.CheckError.{CheckError}
use Rattle.ps_valid.specs.declared.refusal.CheckError.TheVariants.{Refused}
use Rattle.ps_valid.specs.Judged.{FindsReason}
use Rattle.ps_valid.specs.ClaimLists.{AreAccepted, AreJudged}
use Rattle.ps_valid.proofs.ClaimsInOrder.{judged_one, refused_front, refused_back}
use Rattle.ps_check.specs.declared.subject.Subject.{Subject}
use Rattle.ps_check.specs.Subjects.{claim_on}
use Rattle.ps_check.specs.declared.stage.Stage.TheVariants.{Idle, Begun}
use Rattle.ps_check.specs.declared.progress.Progress.{Progress}
use Rattle.ps_check.specs.Progress.{with_stage, begun, HasOpen, HasEnded, HaveTaken}
use Rattle.ps_check.proofs.TakenLines.{IsInner, idle_lines}
use Rattle.ps_check.proofs.CertificateLines.{HasFound, ended_back}

-- what is answered so far
abbrev pub so_far : Option Refusal → Accepted → Result Accepted CheckError
so_far None accepted = Ok accepted
so_far (Some r) accepted = Err (Refused r)

-- these claims are judged, beside which so much is open, and no certificate is in hand
pub record Stands (p : Parts) (cs : List (Claim × Assertion)) (n : ℕ) (g : Progress) : Type 0 where
  pub idle : g.stage ≡ Idle
  pub judged : AreJudged p cs n (so_far g.first g.accepted)

-- the same claims, and as much open
pub stands_same : (p : Parts) (cs ds : List (Claim × Assertion)) (m n : ℕ) (g h : Progress) → cs ≡ ds → m ≡ n → h ≡ g → Stands p cs m g → Stands p ds n h
stands_same p cs ds m n g h claims opens same s =
    subst (λ (x : Progress). Stands p ds n x) (sym same) (subst (λ (k : ℕ). Stands p ds k g) opens (subst (λ (xs : List (Claim × Assertion)). Stands p xs m g) claims s))

module _ (p : Parts) (cs : List (Claim × Assertion)) (n : ℕ) (g : Progress) (stands : Stands p cs n g) where
  accepted_here : g.first ≡ None → AreAccepted p cs n g.accepted
  accepted_here none = subst (λ (o : Option Refusal). AreJudged p cs n (so_far o g.accepted)) none stands.judged

  -- one claim more ends
  ended_stands : (claim : Claim) (c : Assertion) (found : Option Reason) (h : Progress) → g.first ≡ None → length cs ≤ 100 → FindsReason p c found → HasEnded claim found g h → Stands p (cs ++ (claim, c) ∷ []) n h
  ended_stands claim c None h none few finds ended =
      let a = accepted_here none in
      let long = length-append cs ((claim, c) ∷ []) in
      let count = ended.claims (omega (arith, a.claims, few)) in
      let all : AreAccepted p (cs ++ (claim, c) ∷ []) n h.accepted = record {
        valid = All-append (λ x. IsValidClaim p x.1) cs ((claim, c) ∷ []) a.valid (All-cons (λ x. IsValidClaim p x.1) (claim, c) [] finds (All-nil (λ x. IsValidClaim p x.1)));
        claims = omega (arith, count, long, a.claims);
        unfinished = ended.unfinished ∙ a.unfinished;
      } in
      record {
        idle = ended.stage;
        judged = subst (λ (o : Option Refusal). AreJudged p (cs ++ (claim, c) ∷ []) n (so_far o h.accepted)) (sym (ended.first ∙ none)) all;
      }
  ended_stands claim c (Some r) h none few finds ended =
      let refusal : Refusal = record { claim = claim; reason = r } in
      let a = accepted_here none in
      let one = judged_one p claim c (Some r) (Err (Refused refusal)) finds refl in
      let all = refused_back p cs ((claim, c) ∷ []) n 0 n g.accepted (Refused refusal) a one in
      subst (λ (x : Progress). Stands p (cs ++ (claim, c) ∷ []) n x) (sym ended) (record { idle = refl; judged = all })

  -- where a claim is refused, those behind it change nothing
  refused_stands : (more : List (Claim × Assertion)) (o : ℕ) (r : Refusal) → g.first ≡ Some r → Stands p (cs ++ more) o g
  refused_stands more o r some =
      let here : AreJudged p cs n (Err (Refused r)) = subst (λ (x : Option Refusal). AreJudged p cs n (so_far x g.accepted)) some stands.judged in
      record {
        idle = stands.idle;
        judged = subst (λ (x : Option Refusal). AreJudged p (cs ++ more) o (so_far x g.accepted)) (sym some) (refused_front p cs more n o (Refused r) here);
      }

  begun_now : (subject : Subject) → g.first ≡ None → nat_le g.parts g.asked ≡ true → begun subject g.first g ≡ with_stage (Begun subject) g
  begun_now subject none asked = ap (λ (o : Option Refusal). begun subject o g) none ∙ ap (λ (b : Bool). if b then with_stage (Begun subject) g else g) asked

  -- a claim begins, and ends behind the lines of its certificate
  pub claim_stands : (subject : Subject) (c : Assertion) (is : List LineItem) (k h : Progress) → length cs ≤ 100 → nat_le g.parts g.asked ≡ true → k ≡ begun subject g.first g → AllByRecursion IsInner is
      → HaveTaken p is k h → (k.stage ≡ Begun subject → HasFound p subject c k h) → Stands p (cs ++ (claim_on subject, c) ∷ []) n h
  claim_stands subject c is k h few asked begins inner t found = by g.first refl
    where
      by : (o : Option Refusal) → g.first ≡ o → Stands p (cs ++ (claim_on subject, c) ∷ []) n h
      by None none =
          let now : k ≡ with_stage (Begun subject) g = begins ∙ begun_now subject none asked in
          let f = found (ap (λ (x : Progress). x.stage) now) in
          let ended = ended_back (claim_on subject) f.found (Begun subject) g h (subst (λ (x : Progress). HasEnded (claim_on subject) f.found x h) now f.ended) in
          ended_stands (claim_on subject) c f.found h none few f.finds ended
      by (Some r) some =
          let same : k ≡ g = begins ∙ ap (λ (o : Option Refusal). begun subject o g) some in
          let over : h ≡ g = idle_lines p is k h inner (ap (λ (x : Progress). x.stage) same ∙ stands.idle) t ∙ same in
          subst (λ (x : Progress). Stands p (cs ++ (claim_on subject, c) ∷ []) n x) (sym over) (refused_stands ((claim_on subject, c) ∷ []) n r some)

  -- one part more is open
  pub open_stands : (h : Progress) → n ≤ 100 → HasOpen g h → Stands p cs (n + 1) h
  open_stands h few opened = by g.first refl
    where
      by : (o : Option Refusal) → g.first ≡ o → Stands p cs (n + 1) h
      by None none =
          let a = accepted_here none in
          let count = opened.unfinished (omega (arith, a.unfinished, few)) in
          let all : AreAccepted p cs (n + 1) h.accepted = record { valid = a.valid; claims = opened.claims ∙ a.claims; unfinished = omega (arith, count, a.unfinished) } in
          record {
            idle = opened.stage ∙ stands.idle;
            judged = subst (λ (o : Option Refusal). AreJudged p cs (n + 1) (so_far o h.accepted)) (sym (opened.first ∙ none)) all;
          }
      by (Some r) some =
          let here : AreJudged p cs n (Err (Refused r)) = subst (λ (x : Option Refusal). AreJudged p cs n (so_far x g.accepted)) some stands.judged in
          record {
            idle = opened.stage ∙ stands.idle;
            judged = subst (λ (o : Option Refusal). AreJudged p cs (n + 1) (so_far o h.accepted)) (sym (opened.first ∙ some)) here;
          }
