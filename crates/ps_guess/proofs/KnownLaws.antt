-- What is known of a query.
use Rattle.std.proofs.Common.{List, [], Option, Some, None, IfSome, IsSome, ◌≡◌, ◌⊎◌, refl, sym, subst, inl, inr}
use Rattle.ps_meaning.specs.Rational.{Rational}
use Rattle.ps_problem.specs.declared.query.Query.{Query}
use Rattle.ps_problem.specs.Problems.{Parts}
use Rattle.ps_table.specs.declared.event.Event.{Event}
use Rattle.ps_answer.specs.declared.answer.Cause.{Cause}
use Rattle.ps_answer.specs.declared.answer.Dual.{Dual}
use Rattle.ps_answer.specs.declared.answer.Model.{Model}
use Rattle.ps_answer.specs.declared.answer.QueryAnswer.{QueryAnswer}
use Rattle.ps_answer.specs.declared.answer.QueryAnswer.TheVariants as query
use Rattle.ps_answer.specs.declared.answer.SideAnswer.{SideAnswer}
use Rattle.ps_answer.specs.declared.answer.SideAnswer.TheVariants as side
use Rattle.ps_answer.specs.declared.answer.Verdict.TheVariants.{Consistent, Inconsistent}
use Rattle.ps_claims.specs.declared.claim_kind.ClaimKind.{ClaimKind}
use Rattle.ps_claims.specs.declared.claim_kind.ClaimKind.TheVariants.{Lower, Upper}
use Rattle.ps_runs.specs.declared.limits.Limits.{Limits}
use Rattle.ps_query.specs.Parts.{IsPartOf, IsVerdictOf}
use Rattle.ps_guess.specs.Solutions.{IsAnsweredVerdict}
use Rattle.ps_guess.specs.Trials.{IsFoundDual, IsFoundSide}
use Rattle.ps_query.specs.Settled.{IsClosed}
use Rattle.ps_guess.specs.declared.known.Known.{Known}
use Rattle.ps_guess.specs.declared.known.Known.TheVariants.{Answered, Sides}
use Rattle.ps_guess.specs.Known.{HasAnswer, IsLeftSide, KeepsKnown, KeepsSides, ShowsSides, TakesBounds}

-- a bound that a run left has its certificates
pub closed_side : (p : Parts) (kind : ClaimKind) (q : Query) (value : Rational) (m : Model) (d : Dual) → IsLeftSide p kind q (side.Bound value m d)
    → IsFoundSide p kind q (side.Bound value m d)
closed_side p kind q value m d h = (h.0, h.1.0, h.1.1)

-- the dual of a run that ends with nothing is as one that was found
pub left_dual : (own : Limits) (p : Parts) (q : Query) (d : Dual) (first : List Event) → IsPartOf own p q (record { answer = query.Impossible d; first = first })
    → IsFoundDual p (Some q) d
left_dual own p q d first h = record { valid = h.valid; printed = h.printed }

-- a verdict of a run has its certificates
pub run_consistent : (limits own : Limits) (p : Parts) (m : Model) (events : List Event) → IsVerdictOf own p (Consistent m) events → IsAnsweredVerdict limits p (Consistent m) []
run_consistent limits own p m events h = record { settled = inl refl; valid = h.valid; printed = h.printed }

pub run_inconsistent : (limits own : Limits) (p : Parts) (d : Dual) (events : List Event) → IsVerdictOf own p (Inconsistent d) events → IsAnsweredVerdict limits p (Inconsistent d) []
run_inconsistent limits own p d events h = record { settled = inl refl; valid = h.valid; printed = h.printed }

-- the sides that a run left
pub left_below : (own : Limits) (p : Parts) (q : Query) (lower upper : SideAnswer) (les ues first : List Event)
    → IsPartOf own p q (record { answer = query.Bounds lower les upper ues; first = first }) → IsLeftSide p Lower q lower
left_below own p q lower upper les ues first h = (h.valid.0, h.printed.0)

pub left_above : (own : Limits) (p : Parts) (q : Query) (lower upper : SideAnswer) (les ues first : List Event)
    → IsPartOf own p q (record { answer = query.Bounds lower les upper ues; first = first }) → IsLeftSide p Upper q upper
left_above own p q lower upper les ues first h = (h.valid.1, h.printed.1)

-- ---- what is known keeps what was found, and takes what a run left
-- the answer is known, or both sides as they are
pub answer_or_sides : (l u : Option SideAnswer) (known : Known) → (l ≡ None ⊎ u ≡ None → known ≡ Sides l u) → (IsSome l → IsSome u → HasAnswer known)
    → HasAnswer known ⊎ (known ≡ Sides l u)
answer_or_sides None u known sides both = inr (sides (inl refl))
answer_or_sides (Some a) None known sides both = inr (sides (inr refl))
answer_or_sides (Some a) (Some b) known sides both = inl (both refl refl)

-- what holds of a side that is known holds of the one that was found before
still : (P : SideAnswer → Type 0) (found o : Option SideAnswer) → IfSome found (λ a. o ≡ Some a) → IfSome o P → IfSome found P
still P None o h k = tt
still P (Some a) o h k = subst (λ (x : Option SideAnswer). IfSome x P) h k

shows_still : (lower upper l u : Option SideAnswer) (answer : QueryAnswer) → IfSome lower (λ a. l ≡ Some a) → IfSome upper (λ a. u ≡ Some a)
    → ShowsSides l u answer → ShowsSides lower upper answer
shows_still lower upper l u (query.Bounds below lows above highs) h k shown = (still (λ a. below ≡ a) lower l h shown.0, still (λ a. above ≡ a) upper u k shown.1)
shows_still lower upper l u (query.Impossible d) h k shown = tt
shows_still lower upper l u (query.Open cause) h k shown = (still (λ a. ⊥) lower l h shown.0, still (λ a. ⊥) upper u k shown.1)

-- what keeps the sides that are known keeps those that were found before
pub keeps_still : (lower upper l u : Option SideAnswer) (known : Known) → IfSome lower (λ a. l ≡ Some a) → IfSome upper (λ a. u ≡ Some a)
    → KeepsSides l u known → KeepsSides lower upper known
keeps_still lower upper l u (Answered part) h k kept = shows_still lower upper l u part.answer h k kept
keeps_still lower upper l u (Sides x y) h k kept = (still (λ a. x ≡ Some a) lower l h kept.0, still (λ a. y ≡ Some a) upper u k kept.1)

-- evidence that is impossible needs no side
pub shows_none : (lower upper : Option SideAnswer) (answer : QueryAnswer) (d : Dual) → answer ≡ query.Impossible d → ShowsSides lower upper answer
shows_none lower upper answer d of = subst (λ (a : QueryAnswer). ShowsSides lower upper a) (sym of) tt

kept_side : (o : Option SideAnswer) → IfSome o (λ a. o ≡ Some a)
kept_side None = tt
kept_side (Some a) = refl

pub keeps_same : (lower upper : Option SideAnswer) → KeepsSides lower upper (Sides lower upper)
keeps_same lower upper = (kept_side lower, kept_side upper)

-- sides that are known as they were found are kept
pub keeps_these : (lower upper : Option SideAnswer) (known : Known) → known ≡ Sides lower upper → KeepsSides lower upper known
keeps_these lower upper known is = subst (λ (k : Known). KeepsSides lower upper k) (sym is) (keeps_same lower upper)

pub keeps_known : (found : Known) → KeepsKnown found found
keeps_known (Answered part) = tt
keeps_known (Sides lower upper) = keeps_same lower upper

pub keeps_on : (found : Known) (l u : Option SideAnswer) (known : Known) → KeepsKnown found (Sides l u) → KeepsSides l u known → KeepsKnown found known
keeps_on (Answered part) l u known h k = absurd h
keeps_on (Sides lower upper) l u known h k = keeps_still lower upper l u known h.0 h.1 k

-- where a run left a bound, a side is known
pub taken_side : (found : Option SideAnswer) (left : SideAnswer) (known : Option SideAnswer) → IfSome found (λ a. known ≡ Some a) → (found ≡ None → IsClosed left → known ≡ Some left)
    → IsClosed left → IsSome known
taken_side None left known kept taken closed = subst (λ (o : Option SideAnswer). IsSome o) (sym (taken refl closed)) refl
taken_side (Some a) left known kept taken closed = subst (λ (o : Option SideAnswer). IsSome o) (sym kept) refl

pub takes_bounds : (run : QueryAnswer) (lower upper : SideAnswer) (les ues : List Event) (l u : Option SideAnswer) (known : Known) → run ≡ query.Bounds lower les upper ues
    → (IsClosed lower → IsSome l) → (IsClosed upper → IsSome u) → HasAnswer known ⊎ (known ≡ Sides l u) → TakesBounds run known
takes_bounds run lower upper les ues l u (Answered part) of a b is = tt
takes_bounds run lower upper les ues l u (Sides x y) of a b (inl h) = absurd h
takes_bounds run lower upper les ues l u (Sides x y) of a b (inr e) =
    subst (λ (r : QueryAnswer). TakesBounds r (Sides x y)) (sym of)
    (subst (λ (k : Known). TakesBounds (query.Bounds lower les upper ues) k) (sym e) (a, b))

pub takes_none : (run : QueryAnswer) (cause : Cause) (l u : Option SideAnswer) → run ≡ query.Open cause → TakesBounds run (Sides l u)
takes_none run cause l u of = subst (λ (r : QueryAnswer). TakesBounds r (Sides l u)) (sym of) tt
