-- What is answered of claims one after another, up to the first that isn't valid.
use Rattle.std.proofs.Common.{inl, inr, ◌≡◌, ℕ, zero, suc, ◌+◌, ◌*◌, ◌<◌, ◌≤◌, Option, Some, None, Result, Ok, Err, List, [], ◌∷◌, ◌++◌, length, map, take, drop, get_or, sum, refl, sym, ap, subst, ◌∙◌, append_assoc, add-zero, arith}
use Rattle.std.specs.Prelude.{slice_get, IsSomeAnd}
use Rattle.std.proofs.lemmas.List.{append-nil, length-append, length-map, length-take, map-append, take-append-drop, take_more}
use Rattle.std.proofs.lemmas.List.Sums.{sum_by-cons, sum_by_push}
use Rattle.std.proofs.Math.Seq.{drop-cons}
use Rattle.std.proofs.lemmas.List.Elements.{All-append, All-cons, All-head, All-nil, All-tail}
use Rattle.ps_problem.specs.declared.query.Query.{Query}
use Rattle.ps_problem.specs.Problems.{Parts}
use Rattle.ps_answer.specs.declared.answer.QueryPart.{QueryPart}
use Rattle.ps_answer.specs.declared.answer.Answer.{Answer}
use Rattle.ps_claims.specs.Answers as claimed
use Rattle.ps_claims.specs.Answers.{asked_under}
use Rattle.ps_claims.specs.declared.claim_kind.ClaimKind.{ClaimKind}
use Rattle.ps_claims.specs.declared.claim_kind.ClaimKind.TheVariants.{Lower, Upper}
use Rattle.ps_claims.specs.Duals.{Dual}
use Rattle.ps_claims.specs.declared.claim.Claim.{Claim}
use Rattle.ps_claims.specs.declared.claim.Claim.TheVariants as claim
use Rattle.ps_claims.specs.declared.claim.Claim.TheVariants.{Report}
use Rattle.ps_claims.specs.declared.reason.Reason.{Reason}
use Rattle.ps_claims.specs.declared.reason.Reason.TheVariants.{WrongShape}
use Rattle.ps_claims.specs.Claims.{Assertion, verdict_claims, side_claims, part_claims, claims_from, claims_of, open_in_verdict, open_in_side, open_in_part, unfinished_of, IsValidClaim, AreValid, HasParts, IsFirstIn}
use Rattle.ps_claims.proofs.Claims.{claims-valid}
use Rattle.ps_valid.specs.declared.refusal.Refusal.{Refusal}
use Rattle.ps_valid.specs.declared.refusal.Accepted.{Accepted}
use Rattle.ps_valid.specs.declared.refusal.CheckError.{CheckError}
use Rattle.ps_valid.specs.declared.refusal.CheckError.TheVariants.{Refused, NoMemory}
use Rattle.ps_valid.specs.Answers.{verdict_of, part_of, parts_of, answer_of}
use Rattle.ps_valid.specs.Judged.{FindsReason, IsAccepted, IsJudged}
use Rattle.ps_valid.specs.ClaimLists.{AreAccepted, IsFirstOf, AreJudged, IsAnswerTo}

-- ---- one claim, or none
pub judged_one : (p : Parts) (claim : Claim) (c : Assertion) (found : Option Reason) (result : Result Accepted CheckError) → FindsReason p c found → IsAnswerTo claim found result
    → AreJudged p ((claim, c) ∷ []) 0 result
judged_one p claim c None result valid e = rw e (record { valid = All-cons (λ x. IsValidClaim p x.1) (claim, c) [] valid (All-nil (λ x. IsValidClaim p x.1)); claims = refl; unfinished = refl })
judged_one p claim c (Some r) result first e = rw e (record { before = 0; valid = All-nil (λ x. IsValidClaim p x.1); fault = (refl, first) })

pub accepted_none : (p : Parts) (n : ℕ) → AreAccepted p [] n (record { claims = 0; unfinished = n })
accepted_none p n = record { valid = All-nil (λ x. IsValidClaim p x.1); claims = refl; unfinished = refl }

-- ---- one list behind another
pub accepted_both : (p : Parts) (front back : List (Claim × Assertion)) (m n : ℕ) (a b s : Accepted) → AreAccepted p front m a → AreAccepted p back n b → s.claims ≡ a.claims + b.claims → s.unfinished ≡ a.unfinished + b.unfinished
    → AreAccepted p (front ++ back) (m + n) s
accepted_both p front back m n a b s f g claims unfinished = record {
  valid = All-append (λ x. IsValidClaim p x.1) front back f.valid g.valid;
  claims = claims ∙ rw (f.claims, g.claims) (sym (length-append front back));
  unfinished = unfinished ∙ rw (f.unfinished, g.unfinished) refl;
}

first_later : (p : Parts) (c : Claim × Assertion) (cs : List (Claim × Assertion)) (r : Refusal) → IsValidClaim p c.1 → IsFirstOf p cs r → IsFirstOf p (c ∷ cs) r
first_later p c cs r valid first = record { before = suc first.before; valid = All-cons (λ x. IsValidClaim p x.1) c (take first.before cs) valid first.valid; fault = first.fault }

first_in_back : (p : Parts) (front back : List (Claim × Assertion)) (r : Refusal) → AreValid p front → IsFirstOf p back r → IsFirstOf p (front ++ back) r
first_in_back p [] back r valid first = first
first_in_back p (c ∷ cs) back r valid first =
    first_later p c (cs ++ back) r (All-head (λ x. IsValidClaim p x.1) c cs valid) (first_in_back p cs back r (All-tail (λ x. IsValidClaim p x.1) c cs valid) first)

first_in_front : (p : Parts) (front back : List (Claim × Assertion)) (r : Refusal) (i : ℕ) → AreValid p (take i front) → IsSomeAnd (slice_get front i) (λ c. (c.0 ≡ r.claim) × IsFirstIn p c.1 r.reason)
    → IsFirstOf p (front ++ back) r
first_in_front p [] back r i valid fault = absurd fault
first_in_front p (c ∷ cs) back r zero valid fault = record { before = 0; valid = All-nil (λ x. IsValidClaim p x.1); fault = fault }
first_in_front p (c ∷ cs) back r (suc i) valid fault =
    first_later p c (cs ++ back) r (All-head (λ x. IsValidClaim p x.1) c (take i cs) valid) (first_in_front p cs back r i (All-tail (λ x. IsValidClaim p x.1) c (take i cs) valid) fault)

pub refused_front : (p : Parts) (front back : List (Claim × Assertion)) (m n : ℕ) (e : CheckError) → AreJudged p front m (Err e) → AreJudged p (front ++ back) n (Err e)
refused_front p front back m n (Refused r) first = first_in_front p front back r first.before first.valid first.fault
refused_front p front back m n NoMemory first = tt

pub refused_back : (p : Parts) (front back : List (Claim × Assertion)) (m n o : ℕ) (a : Accepted) (e : CheckError) → AreAccepted p front m a → AreJudged p back n (Err e) → AreJudged p (front ++ back) o (Err e)
refused_back p front back m n o a (Refused r) f first = first_in_back p front back r f.valid first
refused_back p front back m n o a NoMemory f first = tt

-- ---- parts in order
pub claims_from-append : (n : ℕ) (qs more : List Query) (xs others : List (claimed.QueryAnswer Dual)) → length xs ≡ length qs → claims_from n (qs ++ more) (xs ++ others) ≡ claims_from n qs xs ++ claims_from (n + length qs) more others
claims_from-append n [] more [] others e = rw add-zero refl
claims_from-append n [] more (x ∷ xs) others e = absurd (omega arith)
claims_from-append n (q ∷ qs) more [] others e = absurd (omega arith)
claims_from-append n (q ∷ qs) more (x ∷ xs) others e =
    let later = claims_from-append (suc n) qs more xs others (omega arith) in
    let at : suc n + length qs ≡ n + suc (length qs) = omega arith in
    ap (λ cs. part_claims n q x ++ cs) later ∙ sym (append_assoc (part_claims n q x) (claims_from (suc n) qs xs) (claims_from (suc n + length qs) more others)) ∙ ap (λ k. (part_claims n q x ++ claims_from (suc n) qs xs) ++ claims_from k more others) at

pub few_in_side : (claim : Claim) (kind : ClaimKind) (q : Query) (s : claimed.SideAnswer Dual) → (length (side_claims claim kind q s) ≤ 1) × (open_in_side s ≤ 1)
few_in_side claim kind q (claimed.Value value m d) = (omega arith, omega arith)
few_in_side claim kind q claimed.OpenSide = (omega arith, omega arith)

-- a part has at most two claims, and at most two of it are open
pub few_in_part : (n : ℕ) (q : Query) (a : claimed.QueryAnswer Dual) → length (part_claims n q a) ≤ 2
few_in_part n q (claimed.Interval lower upper) =
    let l = few_in_side (claim.Lower n) Lower q lower in
    let u = few_in_side (claim.Upper n) Upper q upper in
    let e = length-append (side_claims (claim.Lower n) Lower q lower) (side_claims (claim.Upper n) Upper q upper) in
    omega (arith, l.0, u.0, e)
few_in_part n q (claimed.Impossible d) = omega arith
few_in_part n q claimed.OpenQuery = omega arith

open_in_sides : (s : claimed.SideAnswer Dual) → open_in_side s ≤ 1
open_in_sides (claimed.Value value m d) = omega arith
open_in_sides claimed.OpenSide = omega arith

pub few_open : (a : claimed.QueryAnswer Dual) → open_in_part a ≤ 2
few_open (claimed.Interval lower upper) = (let l = open_in_sides lower in let u = open_in_sides upper in omega (arith, l, u))
few_open (claimed.Impossible d) = omega arith
few_open claimed.OpenQuery = omega arith

few_from : (n : ℕ) (qs : List Query) (xs : List (claimed.QueryAnswer Dual)) → length (claims_from n qs xs) ≤ 2 * length qs
few_from n [] xs = omega arith
few_from n (q ∷ qs) [] = omega arith
few_from n (q ∷ qs) (x ∷ xs) =
    let e = length-append (part_claims n q x) (claims_from (suc n) qs xs) in
    let here = few_in_part n q x in
    let later = few_from (suc n) qs xs in
    omega (arith, e, here, later)

few_open_from : (xs : List (claimed.QueryAnswer Dual)) → sum (map open_in_part xs) ≤ 2 * length xs
few_open_from [] = omega arith
few_open_from (x ∷ xs) =
    let e : sum (map open_in_part (x ∷ xs)) ≡ open_in_part x + sum (map open_in_part xs) = sum_by-cons (λ k. k) (open_in_part x) (map open_in_part xs) in
    let here = few_open x in
    let later = few_open_from xs in
    omega (arith, e, here, later)

pub few_in_verdict : (v : claimed.Verdict Dual) → (length (verdict_claims v) ≤ 1) × (open_in_verdict v ≤ 1)
few_in_verdict (claimed.Consistent m) = (omega arith, omega arith)
few_in_verdict (claimed.Inconsistent d) = (omega arith, omega arith)
few_in_verdict claimed.OpenVerdict = (omega arith, omega arith)

-- the parts before this place are accepted
pub record HasAccepted (p : Parts) (qs : List Query) (parts : List QueryPart) (i : ℕ) (all : Accepted) : Type 0 where
  pub accepted : AreAccepted p (claims_from 1 (take i qs) (parts_of (take i parts))) (sum (map open_in_part (parts_of (take i parts)))) all
  pub claims : all.claims ≤ 2 * i
  pub unfinished : all.unfinished ≤ 2 * i

pub accepted_at_first : (p : Parts) (qs : List Query) (parts : List QueryPart) → HasAccepted p qs parts 0 (record { claims = 0; unfinished = 0 })
accepted_at_first p qs parts = record { accepted = accepted_none p 0; claims = omega arith; unfinished = omega arith }

length_front : {X Y : Type 0} (xs : List X) (ys : List Y) (i : ℕ) → length ys ≡ length xs → length (take i ys) ≡ length (take i xs)
length_front xs ys i e = length-take i ys ∙ (rw e (sym (length-take i xs)))

pub accepted_more : (p : Parts) (qs : List Query) (parts : List QueryPart) (i : ℕ) (q : Query) (x : QueryPart) (all part s : Accepted) → length parts ≡ length qs → i < length qs → HasAccepted p qs parts i all → x ≡ get_or parts i x
    → AreAccepted p (part_claims (i + 1) (get_or qs i q) (part_of x.answer)) (open_in_part (part_of x.answer)) part → s.claims ≡ all.claims + part.claims → s.unfinished ≡ all.unfinished + part.unfinished → HasAccepted p qs parts (i + 1) s
accepted_more p qs parts i q x all part s long lt before is one claims unfinished =
    let g = get_or qs i q in
    let a = part_of x.answer in
    let front = parts_of (take i parts) in
    let opens = sum (map open_in_part front) in
    let fronts : length front ≡ length (take i qs) = length-map (take i parts) (λ part. part_of part.answer) ∙ length_front qs parts i long in
    let n : 1 + length (take i qs) ≡ i + 1 = (let e = length-take i qs in omega (arith, e, lt)) in
    let more : parts_of (take (i + 1) parts) ≡ front ++ (a ∷ []) =
    ap parts_of (take_more parts i x (omega (arith, lt, long))) ∙ map-append (λ part. part_of part.answer) (take i parts) (get_or parts i x ∷ []) ∙ ap (λ (y : QueryPart). front ++ (part_of y.answer ∷ [])) (sym is) in
    let all_claims : claims_from 1 (take i qs) front ++ part_claims (i + 1) g a ≡ claims_from 1 (take (i + 1) qs) (parts_of (take (i + 1) parts)) =
    sym (
    ap (λ (ys : List Query). claims_from 1 ys (parts_of (take (i + 1) parts))) (take_more qs i q lt)
    ∙ ap (λ (xs : List (claimed.QueryAnswer Dual)). claims_from 1 (take i qs ++ (g ∷ [])) xs) more
    ∙ claims_from-append 1 (take i qs) (g ∷ []) front (a ∷ []) fronts
    ∙ ap (λ (k : ℕ). claims_from 1 (take i qs) front ++ (part_claims k g a ++ [])) n
    ∙ ap (λ (cs : List (Claim × Assertion)). claims_from 1 (take i qs) front ++ cs) (append-nil (part_claims (i + 1) g a))
    ) in
    let all_open : opens + open_in_part a ≡ sum (map open_in_part (parts_of (take (i + 1) parts))) =
    sym (ap (λ (xs : List (claimed.QueryAnswer Dual)). sum (map open_in_part xs)) more ∙ ap sum (map-append open_in_part front (a ∷ [])) ∙ sum_by_push (λ k. k) (map open_in_part front) (open_in_part a)) in
    let both = accepted_both p (claims_from 1 (take i qs) front) (part_claims (i + 1) g a) opens (open_in_part a) all part s before.accepted one claims unfinished in
    let few = few_in_part (i + 1) g a in
    let opened = few_open a in
    record {
      accepted = subst (λ (k : ℕ). AreAccepted p (claims_from 1 (take (i + 1) qs) (parts_of (take (i + 1) parts))) k s) all_open (subst (λ (cs : List (Claim × Assertion)). AreAccepted p cs (opens + open_in_part a) s) all_claims both);
      claims = omega (arith, claims, before.claims, one.claims, few);
      unfinished = omega (arith, unfinished, before.unfinished, one.unfinished, opened);
    }

-- the part at this place is refused
pub refused_at : (p : Parts) (qs : List Query) (parts : List QueryPart) (i : ℕ) (q : Query) (x : QueryPart) (all : Accepted) (e : CheckError) → length parts ≡ length qs → i < length qs → HasAccepted p qs parts i all → x ≡ get_or parts i x
    → AreJudged p (part_claims (i + 1) (get_or qs i q) (part_of x.answer)) (open_in_part (part_of x.answer)) (Err e) → AreJudged p (claims_from 1 qs (parts_of parts)) (sum (map open_in_part (parts_of parts))) (Err e)
refused_at p qs parts i q x all e long lt before is one =
    let g = get_or qs i q in
    let a = part_of x.answer in
    let front = parts_of (take i parts) in
    let back = parts_of (drop (suc i) parts) in
    let later = drop (suc i) qs in
    let opens = sum (map open_in_part (parts_of parts)) in
    let fronts : length front ≡ length (take i qs) = length-map (take i parts) (λ part. part_of part.answer) ∙ length_front qs parts i long in
    let n : 1 + length (take i qs) ≡ i + 1 = (let e = length-take i qs in omega (arith, e, lt)) in
    let asked : take i qs ++ (g ∷ later) ≡ qs = ap (λ (ys : List Query). take i qs ++ ys) (sym (drop-cons qs i q lt)) ∙ take-append-drop i qs in
    let answered : take i parts ++ (get_or parts i x ∷ drop (suc i) parts) ≡ parts = ap (λ (ys : List QueryPart). take i parts ++ ys) (sym (drop-cons parts i x (omega (arith, lt, long)))) ∙ take-append-drop i parts in
    let parts_are : front ++ (a ∷ back) ≡ parts_of parts =
    ap (λ (y : QueryPart). front ++ (part_of y.answer ∷ back)) is ∙ sym (map-append (λ part. part_of part.answer) (take i parts) (get_or parts i x ∷ drop (suc i) parts)) ∙ ap parts_of answered in
    let here = part_claims (i + 1) g a ++ claims_from (suc (i + 1)) later back in
    let split : claims_from 1 (take i qs) front ++ here ≡ claims_from 1 qs (parts_of parts) =
    sym (
    ap (λ (ys : List Query). claims_from 1 ys (parts_of parts)) (sym asked)
    ∙ ap (λ (xs : List (claimed.QueryAnswer Dual)). claims_from 1 (take i qs ++ (g ∷ later)) xs) (sym parts_are)
    ∙ claims_from-append 1 (take i qs) (g ∷ later) front (a ∷ back) fronts
    ∙ ap (λ (k : ℕ). claims_from 1 (take i qs) front ++ (part_claims k g a ++ claims_from (suc k) later back)) n
    ) in
    let refused = refused_front p (part_claims (i + 1) g a) (claims_from (suc (i + 1)) later back) (open_in_part a) opens e one in
    subst (λ (cs : List (Claim × Assertion)). AreJudged p cs opens (Err e)) split (refused_back p (claims_from 1 (take i qs) front) here (sum (map open_in_part front)) opens opens all e before.accepted refused)

-- ---- the whole answer
pub judged_answer : (p : Parts) (a : Answer) (result : Result Accepted CheckError) → HasParts p (answer_of a) → AreJudged p (claims_of p (answer_of a)) (unfinished_of (answer_of a)) result → IsJudged p a result
judged_answer p a (Ok accepted) has all = record { valid = claims-valid p (answer_of a) has all.valid; claims = all.claims; unfinished = all.unfinished }
judged_answer p a (Err (Refused r)) has first = inr (has, (first.before, first.valid, first.fault))
judged_answer p a (Err NoMemory) has first = tt

pub parts_wrong : (p : Parts) (a : Answer) → ¬ HasParts p (answer_of a) → IsJudged p a (Err (Refused (record { claim = Report; reason = WrongShape })))
parts_wrong p a other = inl (refl, refl, other)

pub verdict_refused : (p : Parts) (a : Answer) (e : CheckError) → HasParts p (answer_of a) → AreJudged p (verdict_claims (verdict_of a.verdict)) (open_in_verdict (verdict_of a.verdict)) (Err e) → IsJudged p a (Err e)
verdict_refused p a e has front =
    let v = verdict_of a.verdict in
    judged_answer p a (Err e) has (refused_front p (verdict_claims v) (claims_from 1 (asked_under v p.queries) (parts_of a.parts)) (open_in_verdict v) (unfinished_of (answer_of a)) e front)

module _ (p : Parts) (a : Answer) (qs : List Query) (parts : List QueryPart) (first : Accepted) (asked : qs ≡ asked_under (verdict_of a.verdict) p.queries) (are : parts ≡ a.parts) where
  others_are : (result : Result Accepted CheckError) → AreJudged p (claims_from 1 qs (parts_of parts)) (sum (map open_in_part (parts_of parts))) result
      → AreJudged p (claims_from 1 (asked_under (verdict_of a.verdict) p.queries) (parts_of a.parts)) (sum (map open_in_part (parts_of a.parts))) result
  others_are result h =
      let one = subst (λ (ys : List Query). AreJudged p (claims_from 1 ys (parts_of parts)) (sum (map open_in_part (parts_of parts))) result) asked h in
      subst (λ (xs : List QueryPart). AreJudged p (claims_from 1 (asked_under (verdict_of a.verdict) p.queries) (parts_of xs)) (sum (map open_in_part (parts_of xs))) result) are one

  pub others_refused : (e : CheckError) → HasParts p (answer_of a) → AreAccepted p (verdict_claims (verdict_of a.verdict)) (open_in_verdict (verdict_of a.verdict)) first
      → AreJudged p (claims_from 1 qs (parts_of parts)) (sum (map open_in_part (parts_of parts))) (Err e) → IsJudged p a (Err e)
  others_refused e has front back =
      let v = verdict_of a.verdict in
      judged_answer p a (Err e) has
      (refused_back p (verdict_claims v) (claims_from 1 (asked_under v p.queries) (parts_of a.parts)) (open_in_verdict v) (sum (map open_in_part (parts_of a.parts))) (unfinished_of (answer_of a)) first e front (others_are (Err e) back))

  pub all_accepted : (others s : Accepted) → HasParts p (answer_of a) → AreAccepted p (verdict_claims (verdict_of a.verdict)) (open_in_verdict (verdict_of a.verdict)) first
      → AreAccepted p (claims_from 1 qs (parts_of parts)) (sum (map open_in_part (parts_of parts))) others → s.claims ≡ first.claims + others.claims → s.unfinished ≡ first.unfinished + others.unfinished → IsAccepted p a s
  all_accepted others s has front back claims unfinished =
      let v = verdict_of a.verdict in
      judged_answer p a (Ok s) has
      (accepted_both p (verdict_claims v) (claims_from 1 (asked_under v p.queries) (parts_of a.parts)) (open_in_verdict v) (sum (map open_in_part (parts_of a.parts))) first others s front (others_are (Ok others) back) claims unfinished)

  -- there are few claims, and little is open
  pub few_in_all : (others : Accepted) → length qs ≤ 16 → length parts ≡ length qs → AreAccepted p (verdict_claims (verdict_of a.verdict)) (open_in_verdict (verdict_of a.verdict)) first
      → AreAccepted p (claims_from 1 qs (parts_of parts)) (sum (map open_in_part (parts_of parts))) others → (first.claims + others.claims ≤ 100) × (first.unfinished + others.unfinished ≤ 100)
  few_in_all others few long front back =
      let v = few_in_verdict (verdict_of a.verdict) in
      let o = few_from 1 qs (parts_of parts) in
      let u = few_open_from (parts_of parts) in
      let e = length-map parts (λ part. part_of part.answer) in
      (omega (arith, v.0, o, few, front.claims, back.claims), omega (arith, v.1, u, e, few, long, front.unfinished, back.unfinished))
