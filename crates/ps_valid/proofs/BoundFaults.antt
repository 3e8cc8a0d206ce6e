-- The first reason against a bound of a query, and the claim that it makes.
use Rattle.std.proofs.Common.{◌≡◌, ◌≢◌, ℤ, pos, ◌≤ℤ◌, ◌*ℤ◌, Option, Some, None, Result, Ok, Err, List, length, All, refl, sym, ap, subst, ◌∙◌}
use Rattle.std.specs.Prelude.{◌↔◌, IfOk}
use Rattle.std.proofs.lemmas.List.{length-map}
use Rattle.ps_meaning.specs.Formula.{Atom}
use Rattle.ps_meaning.specs.Distribution.{weight}
use Rattle.ps_problem.specs.declared.query.Query.{Query}
use Rattle.ps_problem.specs.Problems.{Parts, bound_of, bounds_in, HasNodes}
use Rattle.ps_meaning.specs.Rational.{Rational}
use Rattle.ps_meaning.proofs.IntRing.{*ℤ_comm}
use Rattle.ps_claims.specs.Answers as claimed
use Rattle.ps_answer.specs.declared.answer.Model.{Model}
use Rattle.ps_claims.specs.Certificates.{entries, model_of}
use Rattle.ps_claims.specs.declared.claim_kind.ClaimKind.{ClaimKind}
use Rattle.ps_claims.specs.Duals.{Dual}
use Rattle.ps_claims.specs.Faults.{start_for, IsFirstFault, IsFaultless}
use Rattle.ps_claims.specs.Validity.{ShowsTight}
use Rattle.ps_claims.specs.declared.reason.Reason.{Reason}
use Rattle.ps_claims.specs.declared.reason.Reason.TheVariants.{WrongShape, EvidenceZero, ValueMissed}
use Rattle.ps_claims.specs.Claims.{Assertion, Bounded, HasShape, IsModelRight, IsSound}
use Rattle.ps_claims.proofs.Claims.{first_of_dual}
use Rattle.ps_claims.proofs.Decided.{bounded-valid}
use Rattle.ps_valid.specs.Judged.{FindsReason}
use Rattle.ps_valid.specs.declared.truth.Valuation.{Valuation}
use Rattle.ps_valid.specs.Valuations.{IsTableOf, node_at, valued_entries}
use Rattle.ps_valid.specs.Aims.{aim_of}
use Rattle.ps_valid.specs.DualTests.{FindsInDual}
use Rattle.ps_valid.specs.Tests.{HaveShape, IsFirstAgainst, evidence_weight, GivesValue}
use Rattle.ps_valid.proofs.DualFaults.{start_is}
use Rattle.ps_valid.proofs.ModelFaults.{first_in_model}
use Rattle.ps_valid.proofs.Tables.{weight-node, weight-given, weight-both}

-- the weight of a query's evidence in a model, by the truth of each node
pub evidence_is : (p : Parts) (q : Query) (m : Model) (vs : List Valuation) (e : ℤ) → HasNodes p.nodes q.formula q.given q.both → IsTableOf p.nodes (entries m.worlds) vs → e ≡ weight (valued_entries vs) (node_at q.given)
    → e ≡ evidence_weight p q (model_of m)
evidence_is p q m vs e nodes table is = is ∙ ap (λ d. weight d (node_at q.given)) table.entries ∙ weight-given p.nodes (entries m.worlds) q.given nodes.given_there

-- a value over the evidence's weight, by the truth of each node
pub value_is : (p : Parts) (q : Query) (value : Rational) (m : Model) (vs : List Valuation) (b e : ℤ) → HasNodes p.nodes q.formula q.given q.both → IsTableOf p.nodes (entries m.worlds) vs → b ≡ weight (valued_entries vs) (Atom q.both)
    → e ≡ evidence_weight p q (model_of m) → ((b *ℤ pos value.under) ≡ (value.over *ℤ e)) ↔ GivesValue p q value (model_of m)
value_is p q value m vs b e nodes table is evidence =
    let ns = p.nodes in
    let d = entries m.worlds in
    let same = is ∙ ap (λ r. weight r (Atom q.both)) table.entries ∙ weight-node ns d q.both nodes.both_there ∙ weight-both ns d q.formula q.given q.both nodes.both_is in (
      λ h. ap (λ x. pos value.under *ℤ x) (sym same) ∙ *ℤ_comm (pos value.under) b ∙ h ∙ ap (λ x. value.over *ℤ x) evidence,
      λ h. *ℤ_comm b (pos value.under) ∙ ap (λ x. pos value.under *ℤ x) same ∙ h ∙ ap (λ x. value.over *ℤ x) (sym evidence),
    )

module _ (p : Parts) (kind : ClaimKind) (q : Query) (value : Rational) (m : claimed.Model) (d : Dual) where
  abbrev claim : Assertion
  claim = Bounded kind q value m d

  -- worlds of another shape, or multipliers of another number
  pub worlds_wrong : ¬ HaveShape (length p.names) m.worlds → FindsReason p claim (Some WrongShape)
  worlds_wrong other = λ shape. other shape.worlds

  pub multipliers_wrong : length d.rows ≢ length (bounds_in p.sentences) → FindsReason p claim (Some WrongShape)
  multipliers_wrong other = λ shape. other (shape.rows ∙ length-map (bounds_in p.sentences) (bound_of p.nodes))

  bound_shape : HaveShape (length p.names) m.worlds → length d.rows ≡ length (bounds_in p.sentences) → HasShape p claim
  bound_shape worlds rows = record { worlds = worlds; rows = rows ∙ sym (length-map (bounds_in p.sentences) (bound_of p.nodes)) }

  pub model_wrong : (r : Reason) → HaveShape (length p.names) m.worlds → length d.rows ≡ length (bounds_in p.sentences) → IsFirstAgainst p m r → FindsReason p claim (Some r)
  model_wrong r worlds rows f = first_in_model p claim m r refl (bound_shape worlds rows) f

  pub evidence_wrong : HaveShape (length p.names) m.worlds → length d.rows ≡ length (bounds_in p.sentences) → IsSound p m → evidence_weight p q m ≡ pos 0 → FindsReason p claim (Some EvidenceZero)
  evidence_wrong worlds rows sound none = (bound_shape worlds rows, (sound.few, sound.proper, sound.total, sound.met), λ some. some none)

  pub value_wrong : HaveShape (length p.names) m.worlds → length d.rows ≡ length (bounds_in p.sentences) → IsSound p m → evidence_weight p q m ≢ pos 0 → ¬ GivesValue p q value m → FindsReason p claim (Some ValueMissed)
  value_wrong worlds rows sound some other = (bound_shape worlds rows, (sound.few, sound.proper, sound.total, sound.met), some, other)

  model_right : HasShape p claim → IsSound p m → evidence_weight p q m ≢ pos 0 → GivesValue p q value m → IsModelRight p claim
  model_right shape sound some gives = record { shape = shape; few = sound.few; proper = sound.proper; total = sound.total; met = sound.met; evidence = some; value = gives }

  tight : All (λ e. pos 0 ≤ℤ e.weight) m.worlds → IsModelRight p claim → IsFaultless p (start_for p kind q.given q.both d) (Some value) d → IsSound p m → ShowsTight p kind q value m d
  tight low right faultless sound = bounded-valid p kind q value m d low right.shape sound right.evidence right.value faultless

  -- what is found against the dual of a bound whose model is right is found against its claim
  pub judged_bound : (found : Option Reason) → All (λ e. pos 0 ≤ℤ e.weight) m.worlds → HaveShape (length p.names) m.worlds → length d.rows ≡ length (bounds_in p.sentences) → IsSound p m
      → evidence_weight p q m ≢ pos 0 → GivesValue p q value m → FindsInDual p (aim_of kind q.given q.both) (Some value) d found → FindsReason p claim found
  judged_bound None low worlds rows sound some gives faultless =
      tight low (model_right (bound_shape worlds rows) sound some gives) (subst (λ k. IsFaultless p k (Some value) d) (sym (start_is p kind q.given q.both d)) faultless) sound
  judged_bound (Some r) low worlds rows sound some gives first =
      first_of_dual p claim r (model_right (bound_shape worlds rows) sound some gives) (subst (λ k. IsFirstFault p k (Some value) d r) (sym (start_is p kind q.given q.both d)) first)

  pub bound_found : {E : Type 0} (result : Result (Option Reason) E) → All (λ e. pos 0 ≤ℤ e.weight) m.worlds → HaveShape (length p.names) m.worlds → length d.rows ≡ length (bounds_in p.sentences) → IsSound p m
      → evidence_weight p q m ≢ pos 0 → GivesValue p q value m → IfOk result (FindsInDual p (aim_of kind q.given q.both) (Some value) d) → IfOk result (FindsReason p claim)
  bound_found (Ok found) low worlds rows sound some gives h = judged_bound found low worlds rows sound some gives h
  bound_found (Err e) low worlds rows sound some gives h = tt
