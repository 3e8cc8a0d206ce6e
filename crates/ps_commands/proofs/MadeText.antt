-- The answer to a chain's problem is small enough for the check, and due with its text and summary.
use Rattle.std.proofs.Common.{◌≡◌, ℕ, zero, suc, ◌≤◌, ◌^◌, ℤ, pos, ◌≤ℤ◌, unsigned_abs, List, [], ◌∷◌, ◌++◌, length, map, All, IfSome, Option, Some, None, refl, sym, ap, subst, ◌∙◌, arith, append_assoc}
use Rattle.std.specs.List.{AllZip, AllByRecursion}
use Rattle.std.proofs.lemmas.Int.{ints}
use Rattle.std.proofs.lemmas.List.{length-map}
use Rattle.std.proofs.lemmas.List.Elements.{All-cons, All-nil, All-head, All-tail}
use Rattle.ps_problem.specs.Problems.{Parts, AreParts, bound_of, bounds_in, bounds_of}
use Rattle.ps_problem.specs.declared.query.Query.{Query}
use Rattle.ps_meaning.specs.Distribution.{IsDistribution}
use Rattle.ps_text.specs.declared.kind.ReadKind.{ReadKind}
use Rattle.ps_read.specs.declared.read_error.ReadError.{ReadError}
use Rattle.ps_read.specs.declared.read_error.ReadError.TheVariants as unread
use Rattle.ps_read.specs.Readings.{SpellsWhole, IsUnreadWhole, Read, Unread}
use Rattle.ps_read.specs.Reads.{Tells}
use Rattle.ps_read.proofs.OneReading.{one_whole_reading}
use Rattle.ps_claims.specs.Answers as claimed
use Rattle.ps_claims.specs.Answers.{asked_under}
use Rattle.ps_answer.specs.declared.answer.Weighted.{Weighted}
use Rattle.ps_answer.specs.declared.answer.Model.{Model}
use Rattle.ps_answer.specs.declared.answer.Answer.{Answer}
use Rattle.ps_answer.specs.declared.answer.QueryPart.{QueryPart}
use Rattle.ps_answer.specs.declared.answer.QueryAnswer.{QueryAnswer}
use Rattle.ps_answer.specs.declared.answer.QueryAnswer.TheVariants as query
use Rattle.ps_answer.specs.declared.answer.SideAnswer.{SideAnswer}
use Rattle.ps_answer.specs.declared.answer.SideAnswer.TheVariants as side
use Rattle.ps_answer.specs.declared.answer.Verdict.{Verdict}
use Rattle.ps_answer.specs.declared.answer.Verdict.TheVariants as verdict
use Rattle.ps_answer.specs.Items.{IsProper, IsWithin}
use Rattle.ps_answer.specs.Answers.{entry_item, model_items}
use Rattle.ps_claims.specs.Certificates.{entries, model_of}
use Rattle.ps_claims.specs.Printed.{IsPrintedModel, IsPrintedPart, IsPrintedSide, IsPrintedVerdict}
use Rattle.ps_query.proofs.Models.{fit_model}
use Rattle.ps_claims.specs.declared.claim_kind.ClaimKind.{ClaimKind}
use Rattle.ps_claims.specs.Claims.{claims_of, unfinished_of}
use Rattle.ps_claims.proofs.Claims.{valid_accepted}
use Rattle.ps_claims.specs.Validity.{IsValid, IsValidPart, IsValidSide, IsValidVerdict}
use Rattle.ps_valid.specs.Answers.{answer_of, parts_of, part_of, side_of, verdict_of}
use Rattle.ps_valid.specs.Judged.{IsAccepted, IsJudged}
use Rattle.ps_valid.specs.declared.refusal.Refusal.{Refusal}
use Rattle.ps_valid.specs.declared.refusal.CheckError.{CheckError}
use Rattle.ps_valid.specs.declared.refusal.CheckError.TheVariants.{Refused}
use Rattle.std.specs.Prelude.{Err}
use Rattle.ps_valid.specs.Limits.{IsAmount, IsSmallModel, IsSmallVerdict, IsSmallSide, IsSmallPart, IsSmallAnswer}
use Rattle.ps_valid.specs.declared.refusal.Accepted.{Accepted}
use Rattle.ps_runs.specs.declared.limits.Limits.{Limits}
use Rattle.ps_query.specs.Solutions.{AreShortLines, IsSolution}
use Rattle.ps_make.specs.Chain.{made_problem, made_text}
use Rattle.ps_commands.specs.declared.made.MadeProblem.{MadeProblem}
use Rattle.ps_commands.specs.Statuses.{EndsMake}
use Rattle.ps_commands.specs.Summaries.{summary, summary_with}
use Rattle.ps_commands.specs.Due.{DueMade, behind_summary, status_made}
use Rattle.ps_commands.specs.Replies.{IsMadeOf, made_bytes, open_report, status_by_open}

-- ---- small answers
small : (z : ℤ) → pos 0 ≤ℤ z → unsigned_abs z ≤ 2 ^ 90 → IsAmount z
small z low size = record { low = low; high = omega (arith, ints, low, size) }

small_entries : (ws : List Weighted) → AllByRecursion (λ i. IsProper i × IsWithin i) (map entry_item ws) → All (λ w. IsAmount w.weight) ws
small_entries [] h = All-nil (λ w. IsAmount w.weight)
small_entries (w ∷ ws) h = All-cons (λ w. IsAmount w.weight) w ws (small w.weight h.0.0 h.0.1.0) (small_entries ws h.1)

small_items : (m : Model) → AllByRecursion (λ i. IsProper i × IsWithin i) (model_items m) → IsSmallModel m
small_items m h = record { total = small m.total h.0.0 h.0.1.0; worlds = record { few = h.0.1.1; weights = small_entries m.worlds h.1 } }

module _ (p : Parts) (parts : AreParts p) where
  small_model : (m : Model) → IsDistribution (length p.names) (entries m.worlds) → claimed.IsBasicModel (bounds_of p) (model_of m) → IsPrintedModel m → IsSmallModel m
  small_model m distribution basic printed =
      let few = parts.few_bounds in
      let same = length-map (bounds_in p.sentences) (bound_of p.nodes) in
      small_items m (fit_model (length p.names) (bounds_of p) m parts.few_atoms (omega (arith, few, same)) distribution basic printed)

  small_verdict : (v : Verdict) → IsValidVerdict p (verdict_of v) → IsPrintedVerdict v → IsSmallVerdict v
  small_verdict (verdict.Consistent m) valid printed = small_model m valid.model.distribution valid.basic printed
  small_verdict (verdict.Inconsistent d) valid printed = printed.numbers
  small_verdict (verdict.Open cause) valid printed = tt

  small_side : (kind : ClaimKind) (q : Query) (s : SideAnswer) → IsValidSide p kind q (side_of s) → IsPrintedSide s → IsSmallSide s
  small_side kind q (side.Bound value m d) valid printed = (small_model m valid.reached.allowed.model.distribution valid.basic printed.0, printed.1.numbers)
  small_side kind q (side.Open cause) valid printed = tt

  small_part : (q : Query) (a : QueryAnswer) → IsValidPart p q (part_of a) → IsPrintedPart a → IsSmallPart a
  small_part q (query.Bounds lower t upper u) valid printed = (small_side _ q lower valid.0 printed.0, small_side _ q upper valid.1 printed.1)
  small_part q (query.Impossible d) valid printed = printed.numbers
  small_part q (query.Open cause) valid printed = tt

  small_parts : (qs : List Query) (xs : List QueryPart) → AllZip (IsValidPart p) qs (parts_of xs) → All (λ x. IsPrintedPart x.answer) xs → All (λ x. IsSmallPart x.answer) xs
  small_parts qs [] valid printed = All-nil (λ x. IsSmallPart x.answer)
  small_parts [] (x ∷ xs) valid printed = absurd valid
  small_parts (q ∷ qs) (x ∷ xs) valid printed = All-cons (λ x. IsSmallPart x.answer) x xs
      (small_part q x.answer valid.0 (All-head (λ x. IsPrintedPart x.answer) x xs printed))
      (small_parts qs xs valid.1 (All-tail (λ x. IsPrintedPart x.answer) x xs printed))

pub solution_small : (limits : Limits) (p : Parts) (a : Answer) → AreParts p → IsSolution limits p a → IsSmallAnswer a
solution_small limits p a parts h = record {
  verdict = small_verdict p parts a.verdict h.valid.verdict h.printed.verdict;
  parts = small_parts p parts (asked_under (verdict_of a.verdict) p.queries) a.parts h.valid.parts h.printed.parts;
}

-- ---- the text and the summary
open_none : (a : Answer) (n : ℕ) → n ≡ 0 → [] ≡ behind_summary a n
open_none a zero e = refl
open_none a (suc n) e = absurd (omega (arith, e))

open_some : (a : Answer) (n : ℕ) → (n ≡ 0 → ⊥) → open_report (Some a) ≡ behind_summary a n
open_some a zero e = absurd (e refl)
open_some a (suc n) e = refl

done_none : (n : ℕ) → n ≡ 0 → status_by_open None ≡ status_made n
done_none zero e = refl
done_none (suc n) e = absurd (omega (arith, e))

open_status : (a : Answer) (n : ℕ) → (n ≡ 0 → ⊥) → status_by_open (Some a) ≡ status_made n
open_status a zero e = absurd (e refl)
open_status a (suc n) e = refl

-- the summary with the counts of the check is that of the answer
counted : (p : Parts) (a : Answer) (c : Accepted) → IsAccepted p a c → summary_with a c.claims c.unfinished ≡ summary p a
counted p a c is =
    ap (λ (n : ℕ). summary_with a n c.unfinished) is.claims ∙ ap (λ (n : ℕ). summary_with a (length (claims_of p (answer_of a))) n) is.unfinished

pub made_closed : (text : List ℕ) (limits : Limits) (p : Parts) (a : Answer) (c : Accepted) (m : MadeProblem) (line : List ℕ) → IsSolution limits p a → IsAccepted p a c → line ≡ summary_with a c.claims c.unfinished
    → m.text.items ≡ text ++ line → m.unfinished ≡ None → c.unfinished ≡ 0 → IsMadeOf text limits p m
made_closed text limits p a c m line solution is shown written none zero_is =
    let open_is : unfinished_of (answer_of a) ≡ 0 = sym is.unfinished ∙ zero_is in record {
      answer = a;
      solution = solution;
      text_is = written ∙ ap (λ (x : List ℕ). text ++ x) (shown ∙ counted p a c is);
      open_is = ap open_report none ∙ open_none a (unfinished_of (answer_of a)) open_is;
      status_is = ap status_by_open none ∙ done_none (unfinished_of (answer_of a)) open_is;
      short = subst (λ (o : Option Answer). IfSome o AreShortLines) (sym none) tt;
    }

pub made_open : (text : List ℕ) (limits : Limits) (p : Parts) (a : Answer) (c : Accepted) (m : MadeProblem) (line : List ℕ) → IsSolution limits p a → AreShortLines a → IsAccepted p a c
    → line ≡ summary_with a c.claims c.unfinished → m.text.items ≡ text ++ line → m.unfinished ≡ Some a → (c.unfinished ≡ 0 → ⊥) → IsMadeOf text limits p m
made_open text limits p a c m line solution short is shown written some not =
    let open_is : (unfinished_of (answer_of a) ≡ 0 → ⊥) = λ e. not (is.unfinished ∙ e) in record {
      answer = a;
      solution = solution;
      text_is = written ∙ ap (λ (x : List ℕ). text ++ x) (shown ∙ counted p a c is);
      open_is = ap open_report some ∙ open_some a (unfinished_of (answer_of a)) open_is;
      status_is = ap status_by_open some ∙ open_status a (unfinished_of (answer_of a)) open_is;
      short = subst (λ (o : Option Answer). IfSome o AreShortLines) (sym some) short;
    }

pub made_due : (n : ℕ) (limits : Limits) (text : List ℕ) (p : Parts) (m : MadeProblem) → text ≡ made_text n → p ≡ made_problem n → IsMadeOf text limits p m
    → DueMade n limits (record { text = made_bytes m; status = status_by_open m.unfinished })
made_due n limits text p m same problem h = (
  h.answer,
  record {
    solution = subst (λ (x : Parts). IsSolution limits x h.answer) problem h.solution;
    text_is =
        ap (λ (x : List ℕ). x ++ open_report m.unfinished) h.text_is ∙ append_assoc text (summary p h.answer) (open_report m.unfinished)
        ∙ ap (λ (x : List ℕ). x ++ (summary p h.answer ++ open_report m.unfinished)) same
        ∙ ap (λ (x : Parts). made_text n ++ (summary x h.answer ++ open_report m.unfinished)) problem
        ∙ ap (λ (x : List ℕ). made_text n ++ (summary (made_problem n) h.answer ++ x)) h.open_is;
    status_is = h.status_is;
  },
)

pub made_status : (o : Option Answer) → EndsMake (status_by_open o)
made_status None = tt
made_status (Some a) = tt

-- the text of a chain is read
pub never_unread : (n : ℕ) (text : List ℕ) (e : ReadError) (kind : ReadKind) (l k : ℕ) → e ≡ unread.At kind l k → Tells (IsUnreadWhole text) e → text ≡ made_text n
    → SpellsWhole (made_text n) (made_problem n) → ⊥
never_unread n text e kind l k is told same spells =
    let at = rw is at told in
    let whole = subst (λ (x : List ℕ). SpellsWhole x (made_problem n)) (sym same) spells in
    let one = one_whole_reading text (Read (made_problem n) (length text)) (Unread kind (record { line = l; column = k })) (whole, refl) at in absurd (cc)

-- an answer that is valid is refused for nothing
pub never_refused : (p : Parts) (a : Answer) (e : CheckError) (r : Refusal) → e ≡ Refused r → IsJudged p a (Err e) → IsValid p (answer_of a) → ⊥
never_refused p a e r is judged valid = let first = rw is at judged in valid_accepted p (answer_of a) r.claim r.reason valid first
