-- What the lines of an answer come to: its verdict, its sides, its queries and its parts.
use Rattle.std.proofs.Common.{◌≡◌, ℕ, ◌+◌, ◌≤◌, Bool, true, false, Option, Some, None, List, [], ◌∷◌, ◌++◌, length, map, refl, sym, ap, subst, ◌∙◌, append_assoc, arith}
use Rattle.std.specs.Prelude.{nat_le}
use Rattle.std.specs.List.{AllByRecursion}
use Rattle.std.proofs.lemmas.List.{append-nil, length-append, length-map}
use Rattle.ps_meaning.specs.Rational.{Rational, fraction}
use Rattle.ps_claims.proofs.Tight.{ratio-quotient}
use Rattle.ps_problem.specs.declared.query.Query.{Query}
use Rattle.ps_problem.specs.Problems.{Parts}
use Rattle.ps_table.specs.declared.event.Event.{Event}
use Rattle.ps_answer.specs.declared.limits.TheConstants.{MOST_ENTRIES}
use Rattle.ps_answer.specs.declared.item.LineItem.{LineItem}
use Rattle.ps_answer.specs.declared.item.LineItem.TheVariants as line
use Rattle.ps_answer.specs.declared.answer.Model.{Model}
use Rattle.ps_answer.specs.declared.answer.Dual.{Dual}
use Rattle.ps_answer.specs.declared.answer.Cause.{Cause}
use Rattle.ps_answer.specs.declared.answer.Cause.TheVariants.{Pivots, Conflicts, Wide}
use Rattle.ps_answer.specs.declared.answer.SideAnswer.{SideAnswer}
use Rattle.ps_answer.specs.declared.answer.SideAnswer.TheVariants as side
use Rattle.ps_answer.specs.declared.answer.QueryAnswer.{QueryAnswer}
use Rattle.ps_answer.specs.declared.answer.QueryAnswer.TheVariants as query
use Rattle.ps_answer.specs.Answers.{model_items, dual_items, trace_items, cause_items, side_items, query_items}
use Rattle.ps_claims.specs.Certificates.{entry_of, entries, model_of, dual_of}
use Rattle.ps_claims.specs.declared.claim.Claim.{Claim}
use Rattle.ps_claims.specs.declared.claim.Claim.TheVariants as claim
use Rattle.ps_claims.specs.declared.claim_kind.ClaimKind.TheVariants.{Lower, Upper}
use Rattle.ps_claims.specs.Claims.{Assertion, Excluded, Bounded, side_claims, part_claims, open_in_side, open_in_part}
use Rattle.ps_valid.specs.Answers.{side_of, part_of}
use Rattle.ps_valid.specs.Limits.{IsSmallModel, IsSmallSide, IsSmallPart}
use Rattle.ps_valid.proofs.ModelFaults.{low_weights}
use Rattle.ps_valid.proofs.ClaimsInOrder.{few_in_side}
use Rattle.ps_check.specs.declared.subject.Subject.TheVariants.{OfQuery, OfSide}
use Rattle.ps_check.specs.Subjects.{side_claim, kind_of, query_at, excluded_by, bounded_by, asserted, without_steps}
use Rattle.ps_check.specs.LaterSteps.{stepless}
use Rattle.ps_check.specs.declared.stage.Stage.TheVariants.{Begun, Modelling}
use Rattle.ps_check.specs.declared.progress.Progress.{Progress}
use Rattle.ps_check.specs.Progress.{with_stage, begun, HaveTaken}
use Rattle.ps_check.proofs.TakenLines.{IsInner, taken_apart, idle_lines, inner_append, inner_steps, inner_model, inner_dual, inner_trace}
use Rattle.ps_check.proofs.TakenCounts.{counts_lines, uncounted_side}
use Rattle.ps_check.proofs.CertificateLines.{HasFound, found_back, model_taken, dual_found}
use Rattle.ps_check.proofs.JudgedLines.{Stands, stands_same, claim_stands, open_stands}

-- a fraction that is read back
fraction_same : (q : Rational) → fraction q.over q.under ≡ q
fraction_same q = ratio-quotient q q.over q.under q.lowest.positive refl

pub few_worlds : (m : Model) → IsSmallModel m → length (entries m.worlds) ≤ MOST_ENTRIES
few_worlds m small = let e = length-map m.worlds entry_of in omega (arith, e, small.worlds.few)

-- ---- what is open
module _ (p : Parts) (cs : List (Claim × Assertion)) (n : ℕ) (g : Progress) (stands : Stands p cs n g) where
  -- lines inside certificates change nothing behind a claim's end
  quiet_stands : (is : List LineItem) (h : Progress) → AllByRecursion IsInner is → HaveTaken p is g h → Stands p cs n h
  quiet_stands is h inner t = subst (λ (x : Progress). Stands p cs n x) (sym (idle_lines p is g h inner stands.idle t)) stands

-- a cause is one thing more that is open
pub cause_stands : (p : Parts) (cs : List (Claim × Assertion)) (n : ℕ) (c : Cause) (g h : Progress) → Stands p cs n g → n ≤ 100 → HaveTaken p (cause_items c) g h → Stands p cs (n + 1) h
cause_stands p cs n (Pivots limit) g h stands few t = subst (λ (x : Progress). Stands p cs (n + 1) x) (sym t.2) (open_stands p cs n g stands t.0 few t.1)
cause_stands p cs n (Conflicts limit goal steps) g h stands few t =
    quiet_stands p cs (n + 1) t.0 (open_stands p cs n g stands t.0 few t.1) (line.GoalLine goal ∷ map line.StepLine steps) h (tt, inner_steps steps) t.2
cause_stands p cs n (Wide at) g h stands few t = subst (λ (x : Progress). Stands p cs (n + 1) x) (sym t.2) (open_stands p cs n g stands t.0 few t.1)

-- a cause and a trace
pub caused_stands : (p : Parts) (cs : List (Claim × Assertion)) (n : ℕ) (c : Cause) (trace : List Event) (g h : Progress) → Stands p cs n g → n ≤ 100 → HaveTaken p (cause_items c ++ trace_items trace) g h
    → Stands p (cs ++ []) (n + 1) h
caused_stands p cs n c trace g h stands few t =
    let split = taken_apart p (cause_items c) (trace_items trace) g h t in
    let here = cause_stands p cs n c g split.0 stands few split.1 in
    let over = quiet_stands p cs (n + 1) split.0 here (trace_items trace) h (inner_trace trace) split.2 in
    stands_same p cs (cs ++ []) (n + 1) (n + 1) h h (sym (append-nil cs)) refl refl over

-- ---- a side
-- a value, its model and its dual are one claim more
bound_stands : (p : Parts) (cs : List (Claim × Assertion)) (n : ℕ) (upper : Bool) (value : Rational) (m : Model) (d : Dual) (trace : List Event) (q : Query) (number : ℕ) (g k h : Progress) → Stands p cs n g → length cs ≤ 100
    → IsSmallModel m → g.parts ≡ number → nat_le g.parts g.asked ≡ true → query_at p.queries number ≡ Some q → k ≡ begun (OfSide g.parts upper (fraction value.over value.under)) g.first g
    → HaveTaken p (model_items m ++ (dual_items d ++ trace_items trace)) k h → Stands p (cs ++ (side_claim number upper, Bounded (kind_of upper) q value (model_of m) (dual_of d)) ∷ []) n h
bound_stands p cs n upper value m d trace q number g k h stands few small parts asked there begins t =
    let subject = OfSide number upper value in
    let c = Bounded (kind_of upper) q value (model_of m) (dual_of d) in
    let bare = without_steps d.top d.head d.rows in
    let now : k ≡ begun subject g.first g =
    begins ∙ ap (λ (v : Rational). begun (OfSide g.parts upper v) g.first g) (fraction_same value) ∙ ap (λ (i : ℕ). begun (OfSide i upper value) g.first g) parts in
    let asserts : asserted p subject (Some m) bare ≡ Some (stepless c) = ap (λ (o : Option Query). bounded_by upper value bare (Some m) o) there in
    claim_stands p cs n g stands subject c (model_items m ++ (dual_items d ++ trace_items trace)) k h few asked now
    (inner_append (model_items m) (dual_items d ++ trace_items trace) (inner_model m) (inner_append (dual_items d) (trace_items trace) (inner_dual d) (inner_trace trace))) t (λ e.
    let split = taken_apart p (model_items m) (dual_items d ++ trace_items trace) k h t in
    let made : split.0 ≡ with_stage (Modelling subject m) k = model_taken p subject m k split.0 e split.1 in
    let f = dual_found p subject c (Some m) d (Modelling subject m) trace split.0 h tt (low_weights m small) (few_worlds m small) refl asserts refl (ap (λ (x : Progress). x.stage) made) split.2 in
    found_back p subject c (Modelling subject m) k h (subst (λ (x : Progress). HasFound p subject c x h) made f))

pub side_stands : (p : Parts) (cs : List (Claim × Assertion)) (n : ℕ) (upper : Bool) (s : SideAnswer) (trace : List Event) (q : Query) (number : ℕ) (g h : Progress) → Stands p cs n g → length cs ≤ 100 → n ≤ 100
    → IsSmallSide s → g.parts ≡ number → nat_le g.parts g.asked ≡ true → query_at p.queries number ≡ Some q
    → HaveTaken p (side_items upper s trace) g h → Stands p (cs ++ side_claims (side_claim number upper) (kind_of upper) q (side_of s)) (n + open_in_side (side_of s)) h
side_stands p cs n upper (side.Bound value m d) trace q number g h stands few opens small parts asked there t =
    let done = bound_stands p cs n upper value m d trace q number g t.0 h stands few small.0 parts asked there t.1 t.2 in
    let none : n ≡ n + 0 = omega arith in
    subst (λ (k : ℕ). Stands p (cs ++ (side_claim number upper, Bounded (kind_of upper) q value (model_of m) (dual_of d)) ∷ []) k h) none done
side_stands p cs n upper (side.Open c) trace q number g h stands few opens small parts asked there t =
    caused_stands p cs n c trace t.0 h (subst (λ (x : Progress). Stands p cs n x) (sym t.1) stands) opens t.2

-- ---- a query
-- that its evidence is impossible, with a dual, is one claim more
impossible_stands : (p : Parts) (cs : List (Claim × Assertion)) (n : ℕ) (d : Dual) (trace : List Event) (q : Query) (number : ℕ) (g k h : Progress) → Stands p cs n g → length cs ≤ 100
    → g.parts ≡ number → nat_le g.parts g.asked ≡ true → query_at p.queries number ≡ Some q → k ≡ begun (OfQuery g.parts) g.first g
    → HaveTaken p (dual_items d ++ trace_items trace) k h → Stands p (cs ++ (claim.Query number, Excluded q.given (dual_of d)) ∷ []) n h
impossible_stands p cs n d trace q number g k h stands few parts asked there begins t =
    let subject = OfQuery number in
    let c = Excluded q.given (dual_of d) in
    let bare = without_steps d.top d.head d.rows in
    let now : k ≡ begun subject g.first g = begins ∙ ap (λ (i : ℕ). begun (OfQuery i) g.first g) parts in
    let asserts : asserted p subject None bare ≡ Some (stepless c) = ap (λ (o : Option Query). excluded_by bare o) there in
    claim_stands p cs n g stands subject c (dual_items d ++ trace_items trace) k h few asked now (inner_append (dual_items d) (trace_items trace) (inner_dual d) (inner_trace trace)) t
    (λ e. dual_found p subject c None d (Begun subject) trace k h tt tt tt refl asserts refl e t)

pub query_stands : (p : Parts) (cs : List (Claim × Assertion)) (n : ℕ) (a : QueryAnswer) (first : List Event) (q : Query) (number : ℕ) (g h : Progress) → Stands p cs n g → length cs + 2 ≤ 100 → n + 2 ≤ 100
    → IsSmallPart a → g.parts ≡ number → nat_le g.parts g.asked ≡ true → query_at p.queries number ≡ Some q
    → HaveTaken p (query_items a first) g h → Stands p (cs ++ part_claims number q (part_of a)) (n + open_in_part (part_of a)) h
query_stands p cs n (query.Bounds lower lower_trace upper upper_trace) first q number g h stands few opens small parts asked there t =
    let after = taken_apart p (trace_items first) (side_items false lower lower_trace ++ side_items true upper upper_trace) t.0 h t.2 in
    let split = taken_apart p (side_items false lower lower_trace) (side_items true upper upper_trace) after.0 h after.2 in
    let k = after.0 in
    let same : k ≡ g = idle_lines p (trace_items first) t.0 k (inner_trace first) (ap (λ (x : Progress). x.stage) t.1 ∙ stands.idle) after.1 ∙ t.1 in
    let here : Stands p cs n k = subst (λ (x : Progress). Stands p cs n x) (sym same) stands in
    let number_is : k.parts ≡ number = ap (λ (x : Progress). x.parts) same ∙ parts in
    let asks : nat_le k.parts k.asked ≡ true = subst (λ (x : Progress). nat_le x.parts x.asked ≡ true) (sym same) asked in
    let ls = side_claims (claim.Lower number) Lower q (side_of lower) in
    let us = side_claims (claim.Upper number) Upper q (side_of upper) in
    let below : Stands p (cs ++ ls) (n + open_in_side (side_of lower)) split.0 =
    side_stands p cs n false lower lower_trace q number k split.0 here (omega (arith, few)) (omega (arith, opens)) small.0 number_is asks there split.1 in
    let counts = counts_lines p (side_items false lower lower_trace) k split.0 (uncounted_side false lower lower_trace) split.1 in
    let l = few_in_side (claim.Lower number) Lower q (side_of lower) in
    let long = length-append cs ls in
    let asks_above : nat_le split.0.parts split.0.asked ≡ true = rw (counts.parts, counts.asked) asks in
    let above : Stands p ((cs ++ ls) ++ us) ((n + open_in_side (side_of lower)) + open_in_side (side_of upper)) h =
    side_stands p (cs ++ ls) (n + open_in_side (side_of lower)) true upper upper_trace q number split.0 h below (omega (arith, few, long, l.0)) (omega (arith, opens, l.1)) small.1 (counts.parts ∙ number_is) asks_above there split.2 in
    stands_same p ((cs ++ ls) ++ us) (cs ++ (ls ++ us)) ((n + open_in_side (side_of lower)) + open_in_side (side_of upper)) (n + (open_in_side (side_of lower) + open_in_side (side_of upper))) h h
    (append_assoc cs ls us) (omega arith) refl above
query_stands p cs n (query.Impossible d) first q number g h stands few opens small parts asked there t =
    let done = impossible_stands p cs n d first q number g t.0 h stands (omega (arith, few)) parts asked there t.1 t.2 in
    let none : n ≡ n + 0 = omega arith in
    subst (λ (k : ℕ). Stands p (cs ++ (claim.Query number, Excluded q.given (dual_of d)) ∷ []) k h) none done
query_stands p cs n (query.Open c) first q number g h stands few opens small parts asked there t =
    caused_stands p cs n c first g h stands (omega (arith, opens)) t
