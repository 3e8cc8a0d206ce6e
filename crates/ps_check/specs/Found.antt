-- What is found against a claim before the steps of its dual, and the checker of its steps.
use Rattle.std.specs.Prelude.{ℕ, ◌≡◌, ◌<◌, Option, Some, None, IfSome, length, ⊤}
use Rattle.ps_meaning.specs.Rational.{Rational}
use Rattle.ps_problem.specs.declared.query.Query.{Query}
use Rattle.ps_problem.specs.Problems.{Parts, HasNodes, bounds_in}
use Rattle.ps_problem.specs.Rows.{rows_in}
use Rattle.ps_answer.specs.declared.answer.Model.{Model}
use Rattle.ps_answer.specs.declared.answer.Dual.{Dual}
use Rattle.ps_answer.specs.declared.item.LineItem.{LineItem}
use Rattle.ps_answer.specs.declared.item.LineItem.TheVariants.{Entry, Rows}
use Rattle.ps_pbcheck.specs.Checked.{Checked}
use Rattle.ps_claims.specs.declared.claim_kind.ClaimKind.{ClaimKind}
use Rattle.ps_claims.specs.declared.reason.Reason.{Reason}
use Rattle.ps_claims.specs.declared.reason.Reason.TheVariants.{WrongShape, NotRefuted}
use Rattle.ps_claims.specs.Duals as claimed
use Rattle.ps_claims.specs.Goals.{combination_of}
use Rattle.ps_claims.specs.Claims.{Assertion, Bounded}
use Rattle.ps_claims.specs.Certificates.{model_of, dual_of, HasQuery}
use Rattle.ps_valid.specs.Judged.{FindsReason}
use Rattle.ps_check.specs.declared.subject.Subject.{Subject}
use Rattle.ps_check.specs.declared.stage.Stage.{Stage}
use Rattle.ps_check.specs.Progress.{IsWeighed}
use Rattle.ps_check.specs.Subjects.{HasFewWorlds, asserted, checker_for, combination_for}

-- this is found against a claim, if its model hasn't too many worlds; there is none without its query or its model
abbrev pub Finds : Parts → Option Assertion → Option Reason → Type 0
Finds p None found = found ≡ Some WrongShape
Finds p (Some c) found = HasFewWorlds c → FindsReason p c found

-- this is found against what a model and a dual are to show
abbrev pub FindsFor : Parts → Subject → Option Model → Dual → Option Reason → Type 0
FindsFor p s m d found = Finds p (asserted p s m (dual_of d)) found

-- that a value is a query's bound, by a model and a dual
abbrev pub tight : ClaimKind → Query → Rational → Model → Dual → Option Assertion
tight kind q value m d = Some (Bounded kind q value (model_of m) (dual_of d))

-- a query has nodes of the problem
abbrev pub IsQueryOf : Parts → Query → Type 0
IsQueryOf p q = HasNodes p.nodes q.formula q.given q.both

-- the stage behind the multipliers of a dual, which is to show this with a model or without one
abbrev pub IsBehindRows : Parts → Subject → Option Model → Dual → Stage → Type 0
IsBehindRows p s m d new = IsWeighed p s (asserted p s m (dual_of d)) new

-- where only steps are missing there is a multiplier for each bound
pub record HasRowsIfOpen (p : Parts) (d : claimed.Dual) (found : Option Reason) : Type 0 where
  pub rows : found ≡ Some NotRefuted → length d.rows ≡ length (bounds_in p.sentences)

-- the combination of what is asserted is of this kind, with this evidence and this node for formula and evidence together
pub record IsAskedBy (p : Parts) (s : Subject) (asked : ClaimKind × (Option ℕ × ℕ)) : Type 0 where
  pub given : IfSome asked.1.0 (λ g. g < length p.nodes)
  pub both : HasQuery asked.0 → asked.1.1 < length p.nodes
  pub combination : (m : Option Model) (d : claimed.Dual) (c : Assertion) → asserted p s m d ≡ Some c
      → combination_for p c ≡ combination_of asked.0 asked.1.0 asked.1.1 (rows_in p.sentences) d

-- the checker knows what is known before the steps of what is asserted by the dual
pub record IsCheckerFor (p : Parts) (s : Subject) (d : claimed.Dual) (checker : Checked) : Type 0 where
  pub is : (m : Option Model) (c : Assertion) → asserted p s m d ≡ Some c → checker ≡ checker_for p c

-- a line says no world and no multipliers
abbrev pub IsOther : LineItem → Type 0
IsOther (Entry weight world) = ⊥
IsOther (Rows rows) = ⊥
IsOther i = ⊤
