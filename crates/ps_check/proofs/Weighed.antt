-- What is found against a claim before the steps of its dual.
use Rattle.std.proofs.Common.{◌≡◌, ◌≢◌, ℕ, Option, Some, None, refl, sym, ap, subst, ◌∙◌, ℤ, Bool, List}
use Rattle.std.proofs.lemmas.Option.{same_Some}
use Rattle.ps_problem.specs.Problems.{Parts}
use Rattle.ps_answer.specs.declared.item.LineItem.{LineItem}
use Rattle.ps_answer.specs.declared.item.LineItem.TheVariants as line
use Rattle.ps_answer.specs.declared.item.Ratio.{Ratio}
use Rattle.ps_answer.specs.Items.{IsProper}
use Rattle.ps_answer.specs.declared.answer.Model.{Model}
use Rattle.ps_claims.specs.Certificates.{model_of}
use Rattle.ps_clause.specs.Forms.{form_of}
use Rattle.ps_pbcheck.specs.Checked.{Checked, first_checked}
use Rattle.ps_claims.specs.declared.claim_kind.ClaimKind.{ClaimKind}
use Rattle.ps_claims.specs.declared.reason.Reason.{Reason}
use Rattle.ps_claims.specs.declared.reason.Reason.TheVariants as reason
use Rattle.ps_claims.specs.Duals.{Dual}
use Rattle.ps_claims.specs.Goals.{goal_of, combination_of}
use Rattle.ps_claims.specs.Claims.{Assertion, Modelled}
use Rattle.ps_problem.specs.Rows.{rows_in}
use Rattle.ps_check.specs.declared.subject.Subject.{Subject}
use Rattle.ps_check.specs.declared.stage.Stage.TheVariants.{Modelling, Refuting, Failed}
use Rattle.ps_check.specs.Subjects.{claim_on, asserted, checker_for}
use Rattle.ps_check.specs.declared.progress.Progress.{Progress}
use Rattle.ps_check.specs.Progress.{IsWeighed, HasEnded, HasConcluded, stage_found}
use Rattle.ps_check.specs.Found.{Finds, IsAskedBy, IsCheckerFor, IsOther}

-- the checker of a combination that is asked for
pub checker_asked : (p : Parts) (s : Subject) (d : Dual) (asked : ClaimKind × (Option ℕ × ℕ)) (checker : Checked) → IsAskedBy p s asked
    → checker ≡ first_checked (form_of p.nodes) (goal_of (combination_of asked.0 asked.1.0 asked.1.1 (rows_in p.sentences) d))
    → IsCheckerFor p s d checker
checker_asked p s d asked checker a e = record {
  is = λ m c x. e ∙ ap (λ sum. first_checked (form_of p.nodes) (goal_of sum)) (sym (a.combination m d c x));
}

-- a reason is that steps are missing
IsOpen : Reason → Type 0
IsOpen reason.NotRefuted = Unit {0}
IsOpen r = ⊥

-- only steps are missing
weighed_open_of : (p : Parts) (s : Subject) (a : Option Assertion) (checker : Checked) → Finds p a (Some reason.NotRefuted)
    → ((c : Assertion) → a ≡ Some c → checker ≡ checker_for p c) → IsWeighed p s a (Refuting s checker)
unfolding IsOpen
weighed_open_of p s None checker f k = absurd (subst IsOpen (same_Some reason.NotRefuted reason.WrongShape f) tt)
weighed_open_of p s (Some c) checker f k = (Some reason.NotRefuted, f, ap (λ x. Refuting s x) (k c refl))

pub weighed_open : (p : Parts) (s : Subject) (m : Option Model) (d : Dual) (checker : Checked)
    → Finds p (asserted p s m d) (Some reason.NotRefuted) → IsCheckerFor p s d checker
    → IsWeighed p s (asserted p s m d) (Refuting s checker)
weighed_open p s m d checker f k = weighed_open_of p s (asserted p s m d) checker f (λ c e. k.is m c e)

-- something else is wrong
stage_failed : (p : Parts) (s : Subject) (c : Assertion) (r : Reason) → r ≢ reason.NotRefuted
    → Failed (claim_on s) r ≡ stage_found p s c (Some r)
stage_failed p s c reason.WrongShape m = refl
stage_failed p s c reason.TooManyWorlds m = refl
stage_failed p s c (reason.WeightZero n) m = refl
stage_failed p s c (reason.WorldTwice n) m = refl
stage_failed p s c reason.TotalWrong m = refl
stage_failed p s c (reason.BoundMissed n) m = refl
stage_failed p s c reason.EvidenceZero m = refl
stage_failed p s c reason.ValueMissed m = refl
stage_failed p s c reason.HeadWrong m = refl
stage_failed p s c (reason.MultiplierSign n) m = refl
stage_failed p s c (reason.StepRefused id why) m = refl
stage_failed p s c reason.NotRefuted m = absurd (m refl)

pub weighed_failed : (p : Parts) (s : Subject) (a : Option Assertion) (r : Reason) → r ≢ reason.NotRefuted → Finds p a (Some r)
    → IsWeighed p s a (Failed (claim_on s) r)
weighed_failed p s None r n f = ap (λ x. Failed (claim_on s) x) (same_Some r reason.WrongShape f)
weighed_failed p s (Some c) r n f = (Some r, f, stage_failed p s c r n)

-- other lines than worlds and multipliers
pub other_item : (i : LineItem) → ((w : ℤ) (world : List Bool) → i ≢ line.Entry w world) → ((rows : List ℤ) → i ≢ line.Rows rows) → IsOther i
other_item line.Report e r = tt
other_item line.Consistent e r = tt
other_item line.Inconsistent e r = tt
other_item (line.OpenPivots a) e r = tt
other_item (line.OpenConflicts a) e r = tt
other_item (line.OpenWide a b c d) e r = tt
other_item (line.ModelHead a b) e r = tt
other_item (line.DualHead a b c) e r = tt
other_item (line.StepLine a) e r = tt
other_item (line.GoalLine a) e r = tt
other_item (line.TraceHead a) e r = tt
other_item (line.PivotLine a b) e r = tt
other_item (line.PricedLine a) e r = tt
other_item (line.Query a) e r = tt
other_item line.Bounds e r = tt
other_item line.Impossible e r = tt
other_item (line.Bound a b) e r = tt
other_item (line.OpenSide a) e r = tt
other_item line.End e r = tt
other_item (line.Entry w world) e r = absurd (e w world refl)
other_item (line.Rows rows) e r = absurd (r rows refl)

-- the numbers of a side's value
pub bound_proper : (i : LineItem) (upper : Bool) (value : Ratio) → i ≡ line.Bound upper value → IsProper i → IsProper (line.Bound upper value)
bound_proper i upper value e x = subst IsProper e x

-- a model's certificate ends
pub concluded_model : (p : Parts) (s : Subject) (m : Model) (found : Option Reason) (old new : Progress) → old.stage ≡ Modelling s m
    → Finds p (Some (Modelled (model_of m))) found → HasEnded (claim_on s) found old new → HasConcluded p old.stage old new
concluded_model p s m found old new e f h = subst (λ at. HasConcluded p at old new) (sym e) (found, f, h)
