-- What the lines of a whole answer come to is what is answered of it as a whole.
use Rattle.std.proofs.Common.{◌≡◌, inl, inr, ℕ, suc, ◌+◌, ◌*◌, ◌≤◌, ◌<◌, Bool, true, Option, Some, None, Result, Err, List, [], ◌∷◌, ◌++◌, length, map, sum, All, refl, sym, ap, subst, ◌∙◌, append_assoc, arith}
use Rattle.std.specs.Prelude.{nat_eq, nat_le, if◌then◌else◌, slice_get}
use Rattle.std.proofs.lemmas.Bool.{le-leb, cases_Bool, eqb-true, eqb-false}
use Rattle.std.proofs.lemmas.List.{append-nil, length-append, length-map}
use Rattle.std.proofs.lemmas.List.Sums.{sum_by-cons}
use Rattle.std.proofs.lemmas.List.Elements.{All-head, All-tail}
use Rattle.ps_problem.specs.declared.query.Query.{Query}
use Rattle.ps_problem.specs.Problems.{Parts}
use Rattle.ps_table.specs.declared.event.Event.{Event}
use Rattle.ps_answer.specs.declared.item.LineItem.TheVariants as line
use Rattle.ps_answer.specs.declared.answer.Verdict.{Verdict}
use Rattle.ps_answer.specs.declared.answer.Verdict.TheVariants.{Consistent, Inconsistent, Open}
use Rattle.ps_answer.specs.declared.answer.QueryPart.{QueryPart}
use Rattle.ps_answer.specs.declared.answer.Answer.{Answer}
use Rattle.ps_answer.specs.Answers.{model_items, dual_items, trace_items, cause_items, verdict_items, query_items, part_items, answer_items}
use Rattle.ps_claims.specs.Certificates.{model_of, dual_of}
use Rattle.ps_claims.specs.Answers.{asked_under}
use Rattle.ps_claims.specs.declared.claim.Claim.{Claim}
use Rattle.ps_claims.specs.declared.claim.Claim.TheVariants.{Report}
use Rattle.ps_claims.specs.declared.reason.Reason.TheVariants.{WrongShape}
use Rattle.ps_claims.specs.Claims.{Assertion, Modelled, Excluded, verdict_claims, part_claims, claims_from, open_in_verdict, open_in_part}
use Rattle.ps_valid.specs.declared.refusal.Accepted.{Accepted}
use Rattle.ps_valid.specs.declared.refusal.Refusal.{Refusal}
use Rattle.ps_valid.specs.declared.refusal.CheckError.{CheckError}
use Rattle.ps_valid.specs.Answers.{verdict_of, part_of, parts_of}
use Rattle.ps_valid.specs.Limits.{IsSmallVerdict, IsSmallPart, IsSmallAnswer}
use Rattle.ps_valid.specs.Judged.{IsJudged}
use Rattle.ps_valid.proofs.ClaimsInOrder.{few_in_part, few_open, few_in_verdict, judged_answer, parts_wrong}
use Rattle.ps_check.specs.declared.subject.Subject.TheVariants.{OfVerdict}
use Rattle.ps_check.specs.Subjects.{query_at}
use Rattle.ps_check.specs.declared.stage.Stage.TheVariants.{Begun}
use Rattle.ps_check.specs.declared.progress.Progress.{Progress}
use Rattle.ps_check.specs.Progress.{at_first, with_asked, with_parts, refused_or_accepted, ending, HaveTaken}
use Rattle.ps_check.specs.Laws.{of_whole}
use Rattle.ps_check.proofs.TakenLines.{taken_apart, taken_both, inner_append, inner_model, inner_dual, inner_trace}
use Rattle.ps_check.proofs.TakenCounts.{counts_begun, counts_then, counts_lines, uncounted_inners, uncounted_cause, uncounted_trace, uncounted_query, parts_counted}
use Rattle.ps_check.proofs.CertificateLines.{model_found, dual_found}
use Rattle.ps_check.proofs.JudgedLines.{so_far, Stands, stands_same, claim_stands}
use Rattle.ps_check.proofs.AnswerLines.{few_worlds, caused_stands, query_stands}

-- ---- parts in order
parts_stand : (p : Parts) (asked : ℕ) (qs : List Query) (xs : List QueryPart) (before : ℕ) (cs : List (Claim × Assertion)) (n : ℕ) (g h : Progress) → length xs ≡ length qs
    → ((i : ℕ) → i < length qs → slice_get p.queries (before + i) ≡ slice_get qs i) → Stands p cs n g → g.parts ≡ before → g.asked ≡ asked → before + length xs ≤ asked
    → length cs + 2 * length xs ≤ 100 → n + 2 * length xs ≤ 100 → All (λ part. IsSmallPart part.answer) xs
    → HaveTaken p (part_items (suc before) xs) g h → Stands p (cs ++ claims_from (suc before) qs (parts_of xs)) (n + sum (map open_in_part (parts_of xs))) h
parts_stand p asked [] [] before cs n g h long there stands parts asks most few opens small t =
    stands_same p cs (cs ++ []) n (n + 0) g h (sym (append-nil cs)) (omega arith) t stands
parts_stand p asked [] (x ∷ xs) before cs n g h long there stands parts asks most few opens small t = absurd (omega arith)
parts_stand p asked (q ∷ qs) [] before cs n g h long there stands parts asks most few opens small t = absurd (omega arith)
parts_stand p asked (q ∷ qs) (x ∷ xs) before cs n g h long there stands parts asks most few opens small t =
    let split = taken_apart p (query_items x.answer x.first) (part_items (suc (suc before)) xs) t.0 h t.2 in
    let k = t.0 in
    let numbered : Stands p cs n (with_parts (suc before) g) = record { idle = stands.idle; judged = stands.judged } in
    let begins : Stands p cs n k = subst (λ (y : Progress). Stands p cs n y) (sym t.1) numbered in
    let number : k.parts ≡ suc before = ap (λ (y : Progress). y.parts) t.1 in
    let asks_now : k.asked ≡ asked = ap (λ (y : Progress). y.asked) t.1 ∙ asks in
    let due : nat_le k.parts k.asked ≡ true = rw (number, asks_now) (le-leb (suc before) asked (omega (arith, most))) in
    let zeroth : before + 0 ≡ before = omega arith in
    let this : query_at p.queries (suc before) ≡ Some q = subst (λ (i : ℕ). slice_get p.queries i ≡ Some q) zeroth (there 0 (omega arith)) in
    let ps = part_claims (suc before) q (part_of x.answer) in
    let here = query_stands p cs n x.answer x.first q (suc before) k split.0 begins (omega (arith, few)) (omega (arith, opens)) (All-head (λ (y : QueryPart). IsSmallPart y.answer) x xs small) number due this split.1 in
    let counts = counts_lines p (query_items x.answer x.first) k split.0 (uncounted_query x.answer x.first) split.1 in
    let e = length-append cs ps in
    let claims = few_in_part (suc before) q (part_of x.answer) in
    let open_here = few_open (part_of x.answer) in
    let later = parts_stand p asked qs xs (suc before) (cs ++ ps) (n + open_in_part (part_of x.answer)) split.0 h (omega (arith, long))
    (λ i lt. (let at : before + suc i ≡ suc before + i = omega arith in subst (λ (j : ℕ). slice_get p.queries j ≡ slice_get qs i) at (there (suc i) (omega (arith, lt)))))
    here (counts.parts ∙ number) (counts.asked ∙ asks_now) (omega (arith, most)) (omega (arith, few, e, claims)) (omega (arith, opens, open_here)) (All-tail (λ (y : QueryPart). IsSmallPart y.answer) x xs small) split.2 in
    let rest = claims_from (suc (suc before)) qs (parts_of xs) in
    let sums : sum (map open_in_part (parts_of (x ∷ xs))) ≡ open_in_part (part_of x.answer) + sum (map open_in_part (parts_of xs)) = sum_by-cons (λ (j : ℕ). j) (open_in_part (part_of x.answer)) (map open_in_part (parts_of xs)) in
    stands_same p ((cs ++ ps) ++ rest) (cs ++ (ps ++ rest)) ((n + open_in_part (part_of x.answer)) + sum (map open_in_part (parts_of xs))) (n + sum (map open_in_part (parts_of (x ∷ xs)))) h h
    (append_assoc cs ps rest) (omega (arith, sums)) refl later

-- ---- the verdict
record IsVerdictTaken (p : Parts) (v : Verdict) (h : Progress) : Type 0 where
  stands : Stands p (verdict_claims (verdict_of v)) (open_in_verdict (verdict_of v)) h
  asked : h.asked ≡ length (asked_under (verdict_of v) p.queries)
  parts : h.parts ≡ 0

none_yet : (p : Parts) (n : ℕ) → Stands p [] 0 (with_asked n at_first)
none_yet p n = record { idle = refl; judged = record { valid = λ k x lt. absurd (omega (arith, lt)); claims = refl; unfinished = refl } }

verdict_taken : (p : Parts) (v : Verdict) (first : List Event) (h : Progress) → IsSmallVerdict v → HaveTaken p (verdict_items v ++ trace_items first) at_first h → IsVerdictTaken p v h
verdict_taken p (Consistent m) first h small t =
    let is = model_items m ++ trace_items first in
    let g = with_asked (length p.queries) at_first in
    let inner = inner_append (model_items m) (trace_items first) (inner_model m) (inner_trace first) in
    let counts = counts_then g t.0 h (counts_begun OfVerdict None g t.0 t.1) (counts_lines p is t.0 h (uncounted_inners is inner) t.2) in
    record {
      stands = claim_stands p [] 0 g (none_yet p (length p.queries)) OfVerdict (Modelled (model_of m)) is t.0 h (omega arith) (le-leb 0 (length p.queries) (omega arith)) t.1 inner t.2
          (λ e. model_found p OfVerdict m first t.0 h (few_worlds m small) e t.2);
      asked = counts.asked;
      parts = counts.parts;
    }
verdict_taken p (Inconsistent d) first h small t =
    let is = dual_items d ++ trace_items first in
    let inner = inner_append (dual_items d) (trace_items first) (inner_dual d) (inner_trace first) in
    let counts = counts_then at_first t.0 h (counts_begun OfVerdict None at_first t.0 t.1) (counts_lines p is t.0 h (uncounted_inners is inner) t.2) in
    record {
      stands = claim_stands p [] 0 at_first (none_yet p 0) OfVerdict (Excluded None (dual_of d)) is t.0 h (omega arith) (le-leb 0 0 (omega arith)) t.1 inner t.2
          (λ e. dual_found p OfVerdict (Excluded None (dual_of d)) None d (Begun OfVerdict) first t.0 h tt tt tt refl refl refl e t.2);
      asked = counts.asked;
      parts = counts.parts;
    }
verdict_taken p (Open c) first h small t =
    let split = taken_apart p (cause_items c) (trace_items first) at_first h t in
    let counts = counts_then at_first split.0 h (counts_lines p (cause_items c) at_first split.0 (uncounted_cause c) split.1) (counts_lines p (trace_items first) split.0 h (uncounted_trace first) split.2) in
    record {
      stands = caused_stands p [] 0 c first at_first h (none_yet p 0) (omega arith) t;
      asked = counts.asked;
      parts = counts.parts;
    }

-- ---- the answer
few_asked : (p : Parts) (v : Verdict) → length (asked_under (verdict_of v) p.queries) ≤ length p.queries
few_asked p (Consistent m) = omega arith
few_asked p (Inconsistent d) = omega arith
few_asked p (Open c) = omega arith

asked_there : (p : Parts) (v : Verdict) (i : ℕ) → i < length (asked_under (verdict_of v) p.queries) → slice_get p.queries (0 + i) ≡ slice_get (asked_under (verdict_of v) p.queries) i
asked_there p (Consistent m) i lt = (let e : 0 + i ≡ i = omega arith in ap (λ (j : ℕ). slice_get p.queries j) e)
asked_there p (Inconsistent d) i lt = absurd (omega (arith, lt))
asked_there p (Open c) i lt = absurd (omega (arith, lt))

same_so_far : (first : Option Refusal) (accepted : Accepted) → so_far first accepted ≡ of_whole (refused_or_accepted first accepted)
same_so_far None accepted = refl
same_so_far (Some r) accepted = refl

module _ (p : Parts) (a : Answer) (few : length p.queries ≤ 16) (small : IsSmallAnswer a) where
  abbrev asked : List Query
  asked = asked_under (verdict_of a.verdict) p.queries

  whole_judged : (k g : Progress) → IsVerdictTaken p a.verdict k → HaveTaken p (part_items 1 a.parts ++ line.End ∷ []) k g → IsJudged p a (of_whole (ending g))
  whole_judged k g begun t =
      let split = taken_apart p (part_items 1 a.parts) (line.End ∷ []) k g t in
      let s = split.0 in
      let over : g ≡ s = split.2.2 ∙ split.2.1 in
      let counted = parts_counted p a.parts 0 k s begun.parts split.1 in
      let e = length-map a.parts (λ part. part_of part.answer) in
      let s_parts : s.parts ≡ length a.parts = (let n = counted.1 in omega (arith, n)) in
      let s_asked : s.asked ≡ length asked = counted.0 ∙ begun.asked in
      subst (λ (x : Progress). IsJudged p a (of_whole (ending x))) (sym over) (elim (cases_Bool (nat_eq s.parts s.asked)) [
        | inl same ↦ (let has : length a.parts ≡ length asked = sym s_parts ∙ eqb-true s.parts s.asked same ∙ s_asked in
            let few_claims = few_in_verdict (verdict_of a.verdict) in
            let most = few_asked p a.verdict in
            let stands = parts_stand p (length asked) asked a.parts 0 (verdict_claims (verdict_of a.verdict)) (open_in_verdict (verdict_of a.verdict)) k s has (asked_there p a.verdict) begun.stands begun.parts begun.asked (omega (arith, has)) (omega (arith, few_claims.0, has, most, few)) (omega (arith, few_claims.1, has, most, few)) small.parts split.1 in
            let judged = judged_answer p a (so_far s.first s.accepted) (e ∙ has) stands.judged in
            subst (λ (b : Bool). IsJudged p a (of_whole (if b then refused_or_accepted s.first s.accepted else Err (record { claim = Report; reason = WrongShape })))) (sym same)
            (subst (λ (r : Result Accepted CheckError). IsJudged p a r) (same_so_far s.first s.accepted) judged))
        | inr other ↦ subst (λ (b : Bool). IsJudged p a (of_whole (if b then refused_or_accepted s.first s.accepted else Err (record { claim = Report; reason = WrongShape })))) (sym other)
            (parts_wrong p a (λ has. eqb-false s.parts s.asked other (s_parts ∙ sym e ∙ has ∙ sym s_asked)))
      ])

  -- behind the lines of an answer, what is answered is what is answered of the whole
  pub lines_judged : (g : Progress) → HaveTaken p (answer_items a) at_first g → IsJudged p a (of_whole (ending g))
  unfolding answer_items
  lines_judged g t =
      let rest = part_items 1 a.parts ++ line.End ∷ [] in
      let verdict = taken_apart p (verdict_items a.verdict) (trace_items a.first ++ rest) t.0 g t.2 in
      let trace = taken_apart p (trace_items a.first) rest verdict.0 g verdict.2 in
      let both = taken_both p (verdict_items a.verdict) (trace_items a.first) t.0 verdict.0 trace.0 verdict.1 trace.1 in
      let begun = verdict_taken p a.verdict a.first trace.0 small.verdict (subst (λ (x : Progress). HaveTaken p (verdict_items a.verdict ++ trace_items a.first) x trace.0) t.1 both) in
      whole_judged trace.0 g begun trace.2
