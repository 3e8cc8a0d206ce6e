use Rattle.std.proofs.Common.{◌≡◌, ◌++◌, ◌∷◌, [], ℤ, List, length, Some, sym, ap, ◌∙◌, subst}
use Rattle.ps_pb.specs.Assignments.{AreDifferent}
use Rattle.ps_pb.specs.Weights.{clause_of}
use Rattle.ps_pb.specs.Steps.{Step, Entails, known_of, with_step}
use Rattle.ps_pb.proofs.Ids.{known_of-append}
use Rattle.ps_pb.proofs.Lawful.{lawful-entails}
use Rattle.ps_pb.proofs.Short.{lawful-different}
use Rattle.ps_pbcheck.specs.Checked.{Checked}
use Rattle.ps_pbcheck.proofs.Starts.{none_left}
use Rattle.ps_pbcheck.proofs.checker.Checker.take.Goals as goal

pub push-requires : goal.push-requires
push-requires c =
    let lits = c.as_slice.ensures ∙ ap (λ (s : Step). s.lits) c.s.view_is in
    subst AreDifferent (sym lits) (lawful-different (length c.self.inside.unset) (known_of c.self.inside.known) c.args.s.now c.in_ok-judge.ensures)

pub returns-clause-entailed : goal.returns-clause-entailed
returns-clause-entailed c =
    let before = c.self.inside.known in
    let lits = c.as_slice.ensures ∙ ap (λ (s : Step). s.lits) c.s.view_is in
    let after : known_of c.push.new.known ≡ with_step (known_of before) c.args.s.now =
    ap known_of c.in_ok-push.ensures.ok ∙ known_of-append before (clause_of c.as_slice.result.now) ∙ ap (λ (ls : List ℤ). known_of before ++ Some (clause_of ls) ∷ []) lits in
    subst (λ x. Entails x (known_of c.push.new.known)) (ap (λ (x : Checked). x.known) c.self.view_is)
    (rw after (lawful-entails (length c.self.inside.unset) (known_of before) c.args.s.now c.in_ok-judge.ensures))

pub invariant_of-self-2 : goal.invariant_of-self-2
invariant_of-self-2 c = (
  c.self.invariant.0,
  λ empty.
      let same = c.as_slice.ensures ∙ sym c.as_slice-2.ensures in
      none_left c.self.inside.known c.push.new.known c.as_slice-2.result.now (clause_of c.as_slice.result.now) c.in_ok-push.ensures.ok (ap clause_of same) (sym c.is_empty-self-inside.ensures ∙ empty),
)
