-- An answer is valid where it has its parts and each claim is valid, and a valid claim has no fault.
use Rattle.std.proofs.Common.{inl, inr, ◌≡◌, ◌≢◌, ℕ, zero, suc, ◌<◌, pos, Option, Some, None, List, [], ◌∷◌, ◌++◌, length, get_or, take, All, refl, sym, ap, ◌∙◌, arith}
use Rattle.std.specs.Prelude.{slice_get, IsSomeAnd, Any}
use Rattle.std.specs.List.{AllZip}
use Rattle.std.specs.Option.{IfSome}
use Rattle.std.proofs.lemmas.Int.{ints}
use Rattle.std.proofs.lemmas.List.{length-take, get_or_default}
use Rattle.std.proofs.lemmas.List.Elements.{All-head, All-tail, All-append, All-cons, All-nil}
use Rattle.ps_meaning.specs.Distribution.{Entry, total, IsDistribution}
use Rattle.ps_meaning.specs.Bounds.{MeetsBound, MeetsAll}
use Rattle.ps_meaning.proofs.Weights.{total-positive}
use Rattle.ps_problem.specs.declared.query.Query as stored
use Rattle.ps_problem.specs.Problems.{Parts, bounds_of}
use Rattle.ps_claims.specs.Answers.{Model, Verdict, Consistent, Inconsistent, OpenVerdict, SideAnswer, Value, OpenSide, QueryAnswer, Interval, Impossible, OpenQuery, Answer, asked_under}
use Rattle.ps_claims.specs.Duals.{Dual, ClaimKind, Nothing, Lower, Upper, HasSign}
use Rattle.ps_claims.specs.declared.claim.Claim.{Claim}
use Rattle.ps_claims.specs.declared.claim.Claim.TheVariants as claim
use Rattle.ps_claims.specs.declared.reason.Reason.{Reason}
use Rattle.ps_claims.specs.declared.reason.Reason.TheVariants.{WrongShape, TooManyWorlds, WeightZero, WorldTwice, TotalWrong, BoundMissed, EvidenceZero, ValueMissed, HeadWrong, MultiplierSign, StepRefused, NotRefuted}
use Rattle.ps_claims.specs.Rows.{problem_rows}
use Rattle.ps_claims.proofs.ProblemRows.{rows_many}
use Rattle.ps_claims.specs.Faults.{start_for}
use Rattle.ps_claims.proofs.Faults.{no_fault}
use Rattle.ps_claims.specs.Validity.{IsValidVerdict, IsValidSide, IsValidPart, IsValid}
use Rattle.ps_claims.specs.Claims.{Assertion, Modelled, Excluded, Bounded, verdict_claims, side_claims, part_claims, claims_from, claims_of, IsValidClaim, HasParts, AreValid, claimed_model, AreProperEntries, IsRepeated, AreFew, HasTotal, IsModelRight, IsDualWrong, IsFirstIn, IsFirstAt, IsRefused}

-- what all of two lists have
front : {X : Type 0} (P : X → Type 0) (xs ys : List X) → All P (xs ++ ys) → All P xs
front P [] ys h = All-nil P
front P (x ∷ xs) ys h = All-cons P x xs (All-head P x (xs ++ ys) h) (front P xs ys (All-tail P x (xs ++ ys) h))

back : {X : Type 0} (P : X → Type 0) (xs ys : List X) → All P (xs ++ ys) → All P ys
back P [] ys h = h
back P (x ∷ xs) ys h = back P xs ys (All-tail P x (xs ++ ys) h)

one : (p : Parts) (claim : Claim) (c : Assertion) → IsValidClaim p c → AreValid p ((claim, c) ∷ [])
one p claim c h = All-cons (λ x. IsValidClaim p x.1) (claim, c) [] h (All-nil (λ x. IsValidClaim p x.1))

verdict-claims : (p : Parts) (v : Verdict Dual) → IsValidVerdict p v → AreValid p (verdict_claims v)
verdict-claims p (Consistent m) h = one p claim.Verdict (Modelled m) h
verdict-claims p (Inconsistent d) h = one p claim.Verdict (Excluded None d) h
verdict-claims p OpenVerdict h = All-nil (λ x. IsValidClaim p x.1)

claims-verdict : (p : Parts) (v : Verdict Dual) → AreValid p (verdict_claims v) → IsValidVerdict p v
claims-verdict p (Consistent m) h = h 0 (claim.Verdict, Modelled m) (omega arith)
claims-verdict p (Inconsistent d) h = h 0 (claim.Verdict, Excluded None d) (omega arith)
claims-verdict p OpenVerdict h = tt

side-claims : (p : Parts) (claim : Claim) (kind : ClaimKind) (q : stored.Query) (s : SideAnswer Dual) → IsValidSide p kind q s → AreValid p (side_claims claim kind q s)
side-claims p claim kind q (Value value m d) h = one p claim (Bounded kind q value m d) h
side-claims p claim kind q OpenSide h = All-nil (λ x. IsValidClaim p x.1)

claims-side : (p : Parts) (claim : Claim) (kind : ClaimKind) (q : stored.Query) (s : SideAnswer Dual) → AreValid p (side_claims claim kind q s) → IsValidSide p kind q s
claims-side p claim kind q (Value value m d) h = h 0 (claim, Bounded kind q value m d) (omega arith)
claims-side p claim kind q OpenSide h = tt

part-claims : (p : Parts) (n : ℕ) (q : stored.Query) (a : QueryAnswer Dual) → IsValidPart p q a → AreValid p (part_claims n q a)
part-claims p n q (Interval lower upper) h =
    All-append (λ x. IsValidClaim p x.1) (side_claims (claim.Lower n) Lower q lower) (side_claims (claim.Upper n) Upper q upper) (side-claims p (claim.Lower n) Lower q lower h.0) (side-claims p (claim.Upper n) Upper q upper h.1)
part-claims p n q (Impossible d) h = one p (claim.Query n) (Excluded q.given d) h
part-claims p n q OpenQuery h = All-nil (λ x. IsValidClaim p x.1)

claims-part : (p : Parts) (n : ℕ) (q : stored.Query) (a : QueryAnswer Dual) → AreValid p (part_claims n q a) → IsValidPart p q a
claims-part p n q (Interval lower upper) h =
    let ls = side_claims (claim.Lower n) Lower q lower in
    let us = side_claims (claim.Upper n) Upper q upper in
    (claims-side p (claim.Lower n) Lower q lower (front (λ x. IsValidClaim p x.1) ls us h), claims-side p (claim.Upper n) Upper q upper (back (λ x. IsValidClaim p x.1) ls us h))
claims-part p n q (Impossible d) h = h 0 (claim.Query n, Excluded q.given d) (omega arith)
claims-part p n q OpenQuery h = tt

parts-claims : (p : Parts) (n : ℕ) (qs : List stored.Query) (xs : List (QueryAnswer Dual)) → AllZip (IsValidPart p) qs xs → AreValid p (claims_from n qs xs)
parts-claims p n [] xs h = All-nil (λ x. IsValidClaim p x.1)
parts-claims p n (q ∷ qs) [] h = All-nil (λ x. IsValidClaim p x.1)
parts-claims p n (q ∷ qs) (a ∷ xs) h = All-append (λ x. IsValidClaim p x.1) (part_claims n q a) (claims_from (suc n) qs xs) (part-claims p n q a h.0) (parts-claims p (suc n) qs xs h.1)

claims-parts : (p : Parts) (n : ℕ) (qs : List stored.Query) (xs : List (QueryAnswer Dual)) → length xs ≡ length qs → AreValid p (claims_from n qs xs) → AllZip (IsValidPart p) qs xs
claims-parts p n [] [] e h = tt
claims-parts p n [] (a ∷ xs) e h = absurd (omega arith)
claims-parts p n (q ∷ qs) [] e h = absurd (omega arith)
claims-parts p n (q ∷ qs) (a ∷ xs) e h =
    let here = part_claims n q a in
    let later = claims_from (suc n) qs xs in
    (claims-part p n q a (front (λ x. IsValidClaim p x.1) here later h), claims-parts p (suc n) qs xs (omega arith) (back (λ x. IsValidClaim p x.1) here later h))

length-zip : {X Y : Type 0} (R : X → Y → Type 0) (xs : List X) (ys : List Y) → AllZip R xs ys → length ys ≡ length xs
length-zip R [] [] h = refl
length-zip R [] (y ∷ ys) h = absurd h
length-zip R (x ∷ xs) [] h = absurd h
length-zip R (x ∷ xs) (y ∷ ys) h = ap suc (length-zip R xs ys h.1)

pub valid-claims : (p : Parts) (a : Answer Dual) → IsValid p a → HasParts p a × AreValid p (claims_of p a)
valid-claims p a h =
    let qs = asked_under a.verdict p.queries in (
      length-zip (IsValidPart p) qs a.parts h.parts,
      All-append (λ x. IsValidClaim p x.1) (verdict_claims a.verdict) (claims_from 1 qs a.parts) (verdict-claims p a.verdict h.verdict) (parts-claims p 1 qs a.parts h.parts),
    )

pub claims-valid : (p : Parts) (a : Answer Dual) → HasParts p a → AreValid p (claims_of p a) → IsValid p a
claims-valid p a long h =
    let qs = asked_under a.verdict p.queries in
    let first = verdict_claims a.verdict in
    let others = claims_from 1 qs a.parts in
    record {
      verdict = claims-verdict p a.verdict (front (λ x. IsValidClaim p x.1) first others h);
      parts = claims-parts p 1 qs a.parts long (back (λ x. IsValidClaim p x.1) first others h);
    }

-- what a place of a list has, where all have it
not_there : {X : Type 0} (P : X → Type 0) (xs : List X) (i : ℕ) → All P xs → IsSomeAnd (slice_get xs i) (λ x. ¬ P x) → ⊥
not_there P [] i h s = s
not_there P (x ∷ xs) zero h s = s (All-head P x xs h)
not_there P (x ∷ xs) (suc i) h s = not_there P xs i (All-tail P x xs h) s

both_some : {X : Type 0} (o : Option X) (P Q : X → Type 0) → IfSome o P → IsSomeAnd o Q → ((x : X) → P x → Q x → ⊥) → ⊥
both_some None P Q h s n = s
both_some (Some x) P Q h s n = n x h s

standing : {X : Type 0} (Q : X → Type 0) (xs : List X) (i : ℕ) → IsSomeAnd (slice_get xs i) Q → (x : X) × (i < length xs) × (get_or xs i x ≡ x) × Q x
standing Q [] i s = absurd s
standing Q (x ∷ xs) zero s = (x, omega arith, refl, s)
standing Q (x ∷ xs) (suc i) s = let f = standing Q xs i s in (f.0, omega (arith, f.1), f.2, f.3)

taken_before : (d : List Entry) (i k : ℕ) (x : Entry) → k < length (take i d) → (k < i) × (get_or (take i d) k x ≡ get_or d k x)
taken_before [] i k x lt = absurd (omega (arith, length-take {A = Entry} i []))
taken_before (e ∷ d) zero k x lt = absurd (omega arith)
taken_before (e ∷ d) (suc i) zero x lt = (omega arith, refl)
taken_before (e ∷ d) (suc i) (suc k) x lt = let f = taken_before d i k x (omega arith) in (omega (arith, f.0), f.1)

not_repeated : (d : List Entry) (n : ℕ) → AreProperEntries d → IsRepeated d n → ⊥
not_repeated d n proper f =
    let i = f.0 in
    let e = standing (λ x. (x.weight ≢ pos 0) × Any (λ y. y.world ≡ x.world) (take i d)) d i f.3 in
    let a = e.3.1 in
    let before = taken_before d i a.0 a.1 a.2 in
    proper.different a.0 i a.1 before.0 e.1 (ap (λ y. y.world) (sym before.1 ∙ a.3) ∙ a.4 ∙ ap (λ y. y.world) (sym e.2 ∙ get_or_default d i e.0 a.1 e.1))

pub no_model_fault : (p : Parts) (c : Assertion) (r : Reason) → IsModelRight p c → (IsDualWrong p c r → ⊥) → IsFirstIn p c r → ⊥
no_model_fault p c WrongShape r dual f = f r.shape
no_model_fault p c TooManyWorlds r dual f = both_some (claimed_model c) (AreFew p) _ r.few f.1 (λ m h g. g h)
no_model_fault p c (WeightZero n) r dual f = both_some (claimed_model c) (λ m. AreProperEntries m.worlds) _ r.proper f.1 (λ m h g. not_there (λ e. e.weight ≢ pos 0) m.worlds g.1.0 h.weighed (weightless m.worlds g.1.0 g.1.3))
  where
    weightless : (d : List Entry) (i : ℕ) → IsSomeAnd (slice_get d i) (λ e. e.weight ≡ pos 0) → IsSomeAnd (slice_get d i) (λ e. ¬ (e.weight ≢ pos 0))
    weightless [] i s = s
    weightless (e ∷ d) zero s = λ n. n s
    weightless (e ∷ d) (suc i) s = weightless d i s
no_model_fault p c (WorldTwice n) r dual f = both_some (claimed_model c) (λ m. AreProperEntries m.worlds) _ r.proper f.1 (λ m h g. not_repeated m.worlds n h g.1)
no_model_fault p c TotalWrong r dual f = both_some (claimed_model c) HasTotal _ r.total f.1 (λ m h g. g.2 h)
no_model_fault p c (BoundMissed n) r dual f = both_some (claimed_model c) (λ m. MeetsAll (bounds_of p) m.worlds) _ r.met f.1 (λ m h g. not_there (λ b. MeetsBound b m.worlds) (bounds_of p) g.3.0 h g.3.3)
no_model_fault p c EvidenceZero r dual f = f.2 r.evidence
no_model_fault p c ValueMissed r dual f = f.3 r.value
no_model_fault p c other r dual f = dual f.1

-- where nothing is wrong with the model of a claim, the first reason against its dual is the first against the claim
pub first_of_dual : (p : Parts) (c : Assertion) (r : Reason) → IsModelRight p c → IsDualWrong p c r → IsFirstIn p c r
first_of_dual p (Modelled m) r right wrong = absurd wrong
first_of_dual p (Excluded given d) HeadWrong right wrong = (right, wrong)
first_of_dual p (Excluded given d) (MultiplierSign n) right wrong = (right, wrong)
first_of_dual p (Excluded given d) (StepRefused id why) right wrong = (right, wrong)
first_of_dual p (Excluded given d) NotRefuted right wrong = (right, wrong)
first_of_dual p (Excluded given d) other right wrong = absurd wrong
first_of_dual p (Bounded kind q value m d) HeadWrong right wrong = (right, wrong)
first_of_dual p (Bounded kind q value m d) (MultiplierSign n) right wrong = (right, wrong)
first_of_dual p (Bounded kind q value m d) (StepRefused id why) right wrong = (right, wrong)
first_of_dual p (Bounded kind q value m d) NotRefuted right wrong = (right, wrong)
first_of_dual p (Bounded kind q value m d) other right wrong = absurd wrong

entries-proper : (atoms : ℕ) (d : List Entry) → IsDistribution atoms d → AreProperEntries d
entries-proper atoms d h = record { weighed = λ k e lt z. (let w = h.weighed k e lt in omega (arith, ints, w, z)); different = h.different }

model-total : (atoms : ℕ) (m : Model) → IsDistribution atoms m.worlds → m.total ≡ total m.worlds → HasTotal m
model-total atoms m h e = ((λ z. (let t = total-positive atoms m.worlds h in omega (arith, ints, t, z, e))), e)

-- nothing is wrong with the model of a valid claim
valid-model : (p : Parts) (c : Assertion) → IsValidClaim p c → IsModelRight p c
valid-model p (Modelled m) h = record {
  shape = record { worlds = h.model.distribution.worlds; rows = tt };
  few = h.basic.few;
  proper = entries-proper (length p.names) m.worlds h.model.distribution;
  total = model-total (length p.names) m h.model.distribution h.basic.total;
  met = h.model.met;
  evidence = tt;
  value = tt;
}
valid-model p (Excluded given d) h = record {
  shape = record { worlds = tt; rows = length-zip (λ r y. HasSign r.side y) (problem_rows p) d.rows h.refuted.signs ∙ rows_many p };
  few = tt;
  proper = tt;
  total = tt;
  met = tt;
  evidence = tt;
  value = tt;
}
valid-model p (Bounded kind q value m d) h = record {
  shape = record { worlds = h.reached.allowed.model.distribution.worlds; rows = length-zip (λ r y. HasSign r.side y) (problem_rows p) d.rows h.refuted.signs ∙ rows_many p };
  few = h.basic.few;
  proper = entries-proper (length p.names) m.worlds h.reached.allowed.model.distribution;
  total = model-total (length p.names) m h.reached.allowed.model.distribution h.basic.total;
  met = h.reached.allowed.model.met;
  evidence = λ z. (let e = h.reached.allowed.positive in omega (arith, ints, e, z));
  value = h.reached.equal;
}

-- nor with its dual
valid-dual : (p : Parts) (c : Assertion) → IsValidClaim p c → (r : Reason) → IsDualWrong p c r → ⊥
valid-dual p (Modelled m) h r f = f
valid-dual p (Excluded given d) h r f = no_fault p (start_for p Nothing given 0 d) None d r (record { head = h.head; signs = h.refuted.signs; steps = h.refuted.steps }) f
valid-dual p (Bounded kind q value m d) h r f = no_fault p (start_for p kind q.given q.both d) (Some value) d r (record { head = h.head; signs = h.refuted.signs; steps = h.refuted.steps }) f

pub valid_faultless : (p : Parts) (c : Assertion) (r : Reason) → IsValidClaim p c → IsFirstIn p c r → ⊥
valid_faultless p c r h first = no_model_fault p c r (valid-model p c h) (valid-dual p c h r) first

at_claim : (p : Parts) (a : Answer Dual) (claim : Claim) (r : Reason) → IsValid p a → IsFirstAt p a claim r → ⊥
at_claim p a claim r h first =
    let at = standing (λ c. (c.0 ≡ claim) × IsFirstIn p c.1 r) (claims_of p a) first.1.0 first.1.2 in
    let valid : IsValidClaim p (get_or (claims_of p a) first.1.0 at.0).1 = (valid-claims p a h).1 first.1.0 at.0 at.1 in
    valid_faultless p at.0.1 r (rw at.2 at valid) at.3.1

-- a valid answer isn't refused
pub valid_accepted : (p : Parts) (a : Answer Dual) (claim : Claim) (r : Reason) → IsValid p a → IsRefused p a claim r → ⊥
valid_accepted p a claim r h (inl other) = other.2 (valid-claims p a h).0
valid_accepted p a claim r h (inr first) = at_claim p a claim r h first
