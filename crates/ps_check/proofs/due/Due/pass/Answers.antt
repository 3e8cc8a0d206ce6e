use Rattle.std.proofs.Common.{◌+◌, ◌∷◌, true, false, refl, subst}
use Rattle.std.proofs.lemmas.Result.{on_ok_weaker}
use Rattle.ps_answer.specs.declared.item.LineItem.TheVariants as line
use Rattle.ps_answer.specs.declared.part.Part.TheVariants.{AModel, AnEntry, ADual, SomeRows, AStep, AGoal, ACause, ATrace, AnEvent, AnAnswer, ASide, AQuery}
use Rattle.ps_answer.specs.ExpectedParts.{many}
use Rattle.ps_check.specs.Runs.{IsTaken, traced}
use Rattle.ps_check.proofs.BehindLines.{passed_line, behind_consistent, behind_inconsistent, behind_model_head, behind_dual_head, behind_trace_head, behind_query, behind_bounds, behind_impossible, behind_bound, behind_open_side, behind_pivots, behind_conflicts, behind_wide}
use Rattle.ps_check.proofs.BehindLines.{behind_quiet, quiet_item}
use Rattle.ps_check.proofs.due.Due.pass.Goals as goal

pub returns-in-Consistent : goal.returns-in-Consistent
returns-in-Consistent c = on_ok_weaker c.add.result (λ e. passed_line c.args.item.now line.Consistent c.args.self.now c.take.new.self c.add.new.self c.in-Some.part (λ _ due. AModel ∷ due) c.in-Consistent.is
    (subst (IsTaken c.args.self.now c.take.new.self) c.in-Some.is c.in_ok-part.ensures) e (behind_consistent)) c.add.ensures

pub returns-in-Inconsistent : goal.returns-in-Inconsistent
returns-in-Inconsistent c = on_ok_weaker c.add-in-Inconsistent.result (λ e. passed_line c.args.item.now line.Inconsistent c.args.self.now c.take.new.self c.add-in-Inconsistent.new.self c.in-Some.part (λ _ due. ADual ∷ due) c.in-Inconsistent.is
    (subst (IsTaken c.args.self.now c.take.new.self) c.in-Some.is c.in_ok-part.ensures) e (behind_inconsistent)) c.add-in-Inconsistent.ensures

pub returns-in-ModelHead : goal.returns-in-ModelHead
returns-in-ModelHead c = on_ok_weaker c.add-in-ModelHead.result (λ e. passed_line c.args.item.now (line.ModelHead c.in-ModelHead.total c.in-ModelHead.count) c.args.self.now c.take.new.self c.add-in-ModelHead.new.self c.in-Some.part (λ _ due. many c.in-ModelHead.count AnEntry due) c.in-ModelHead.is
    (subst (IsTaken c.args.self.now c.take.new.self) c.in-Some.is c.in_ok-part.ensures) e (behind_model_head c.in-ModelHead.total c.in-ModelHead.count)) c.add-in-ModelHead.ensures

pub returns-in-DualHead : goal.returns-in-DualHead
returns-in-DualHead c = on_ok_weaker c.pass_dual.result (λ e. passed_line c.args.item.now (line.DualHead c.in-DualHead.top c.in-DualHead.head c.in-DualHead.count) c.args.self.now c.take.new.self c.pass_dual.new.self c.in-Some.part (λ _ due. SomeRows ∷ many c.in-DualHead.count AStep due) c.in-DualHead.is
    (subst (IsTaken c.args.self.now c.take.new.self) c.in-Some.is c.in_ok-part.ensures) e (behind_dual_head c.in-DualHead.top c.in-DualHead.head c.in-DualHead.count)) c.pass_dual.ensures

pub returns-in-TraceHead : goal.returns-in-TraceHead
returns-in-TraceHead c = on_ok_weaker c.add-in-TraceHead.result (λ e. passed_line c.args.item.now (line.TraceHead c.in-TraceHead.count) c.args.self.now c.take.new.self c.add-in-TraceHead.new.self c.in-Some.part (λ _ due. many c.in-TraceHead.count AnEvent due) c.in-TraceHead.is
    (subst (IsTaken c.args.self.now c.take.new.self) c.in-Some.is c.in_ok-part.ensures) e (behind_trace_head c.in-TraceHead.count)) c.add-in-TraceHead.ensures

pub returns-in-Query : goal.returns-in-Query
returns-in-Query c = on_ok_weaker c.pass_query.result (λ e. passed_line c.args.item.now (line.Query c.in-Query.number) c.args.self.now c.take.new.self c.pass_query.new.self c.in-Some.part (λ _ due. AnAnswer ∷ AQuery (c.in-Query.number + 1) ∷ due) c.in-Query.is
    (subst (IsTaken c.args.self.now c.take.new.self) c.in-Some.is c.in_ok-part.ensures) e (behind_query c.in-Query.number)) c.pass_query.ensures

pub returns-in-Bounds : goal.returns-in-Bounds
returns-in-Bounds c = on_ok_weaker c.pass_bounds.result (λ e. passed_line c.args.item.now line.Bounds c.args.self.now c.take.new.self c.pass_bounds.new.self c.in-Some.part (λ _ due. ATrace ∷ ASide false ∷ ASide true ∷ due) c.in-Bounds.is
    (subst (IsTaken c.args.self.now c.take.new.self) c.in-Some.is c.in_ok-part.ensures) e (behind_bounds)) c.pass_bounds.ensures

pub returns-in-Impossible : goal.returns-in-Impossible
returns-in-Impossible c = on_ok_weaker c.pass_impossible.result (λ e. passed_line c.args.item.now line.Impossible c.args.self.now c.take.new.self c.pass_impossible.new.self c.in-Some.part (λ _ due. ADual ∷ ATrace ∷ due) c.in-Impossible.is
    (subst (IsTaken c.args.self.now c.take.new.self) c.in-Some.is c.in_ok-part.ensures) e (behind_impossible)) c.pass_impossible.ensures

pub returns-in-Bound : goal.returns-in-Bound
returns-in-Bound c = on_ok_weaker c.pass_bound.result (λ e. passed_line c.args.item.now (line.Bound c.in-Bound.upper c.in-Bound.value) c.args.self.now c.take.new.self c.pass_bound.new.self c.in-Some.part (λ _ due. AModel ∷ ADual ∷ ATrace ∷ due) c.in-Bound.is
    (subst (IsTaken c.args.self.now c.take.new.self) c.in-Some.is c.in_ok-part.ensures) e (behind_bound c.in-Bound.upper c.in-Bound.value)) c.pass_bound.ensures

pub returns-in-OpenSide : goal.returns-in-OpenSide
returns-in-OpenSide c = on_ok_weaker c.pass_open_side.result (λ e. passed_line c.args.item.now (line.OpenSide c.in-OpenSide.upper) c.args.self.now c.take.new.self c.pass_open_side.new.self c.in-Some.part (λ _ due. ACause ∷ ATrace ∷ due) c.in-OpenSide.is
    (subst (IsTaken c.args.self.now c.take.new.self) c.in-Some.is c.in_ok-part.ensures) e (behind_open_side c.in-OpenSide.upper)) c.pass_open_side.ensures

pub returns-in-OpenPivots : goal.returns-in-OpenPivots
returns-in-OpenPivots c = on_ok_weaker c.pass_cause.result (λ e. passed_line c.args.item.now (line.OpenPivots c.in-OpenPivots.limit) c.args.self.now c.take.new.self c.pass_cause.new.self c.in-Some.part (traced) c.in-OpenPivots.is
    (subst (IsTaken c.args.self.now c.take.new.self) c.in-Some.is c.in_ok-part.ensures) e (behind_pivots c.in-OpenPivots.limit)) c.pass_cause.ensures

pub returns-in-OpenConflicts : goal.returns-in-OpenConflicts
returns-in-OpenConflicts c = on_ok_weaker c.pass_conflicts.result (λ e. passed_line c.args.item.now (line.OpenConflicts c.in-OpenConflicts.limit) c.args.self.now c.take.new.self c.pass_conflicts.new.self c.in-Some.part (λ p due. AGoal ∷ many c.in-OpenConflicts.limit AStep (traced p due)) c.in-OpenConflicts.is
    (subst (IsTaken c.args.self.now c.take.new.self) c.in-Some.is c.in_ok-part.ensures) e (behind_conflicts c.in-OpenConflicts.limit)) c.pass_conflicts.ensures

pub returns-in-OpenWide : goal.returns-in-OpenWide
returns-in-OpenWide c = on_ok_weaker c.pass_cause-in-OpenWide.result (λ e. passed_line c.args.item.now (line.OpenWide c.in-OpenWide.place c.in-OpenWide.op c.in-OpenWide.left c.in-OpenWide.right) c.args.self.now c.take.new.self c.pass_cause-in-OpenWide.new.self c.in-Some.part (traced) c.in-OpenWide.is
    (subst (IsTaken c.args.self.now c.take.new.self) c.in-Some.is c.in_ok-part.ensures) e (behind_wide c.in-OpenWide.place c.in-OpenWide.op c.in-OpenWide.left c.in-OpenWide.right)) c.pass_cause-in-OpenWide.ensures

pub returns-in_default-item : goal.returns-in_default-item
returns-in_default-item c = passed_line c.args.item.now c.args.item.now c.args.self.now c.take.new.self c.take.new.self c.in-Some.part (λ _ due. due) refl
    (subst (IsTaken c.args.self.now c.take.new.self) c.in-Some.is c.in_ok-part.ensures) refl
    (λ p due next. behind_quiet c.args.item.now p due next (quiet_item c.args.item.now c.in_default-item.not-Consistent c.in_default-item.not-Inconsistent c.in_default-item.not-OpenPivots c.in_default-item.not-OpenConflicts c.in_default-item.not-OpenWide c.in_default-item.not-ModelHead c.in_default-item.not-DualHead c.in_default-item.not-TraceHead c.in_default-item.not-Query c.in_default-item.not-Bounds c.in_default-item.not-Impossible c.in_default-item.not-Bound c.in_default-item.not-OpenSide))
