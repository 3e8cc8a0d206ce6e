use Rattle.std.proofs.Common.{◌≡◌, ◌<◌, false, length, sym, ap, subst, ◌∙◌}
use Rattle.ps_problem.specs.declared.limits.TheConstants.{MOST_DRAFTED}
use Rattle.ps_read.specs.Pending.{reduced, is_grouped}
use Rattle.ps_read.specs.Machine.{Work, with_pending, formula_ended}
use Rattle.ps_read.specs.Ready.{HasRoom, HasDraftedFormulas}
use Rattle.ps_read.specs.Kept.{pending_of, item_of, work_of}
use Rattle.ps_read.proofs.Marking.{not_waiting, ungrouped}
use Rattle.ps_read.proofs.Counting.{room_reduced}
use Rattle.ps_read.proofs.Closing.{ended_numbered}
use Rattle.ps_read.proofs.item_parser.ItemParser.close.Goals as goal

pub end_formula-requires-clause-room : goal.end_formula-requires-clause-room
end_formula-requires-clause-room c =
    let p = pending_of c.args.self.now.formulas in
    let same : pending_of c.close.new.self ≡ reduced 1 p = c.in_ok-close.ensures.closed ∙ ungrouped p (sym c.in_ok-close.ensures.grouped ∙ c.if-branch.false) in
    subst (λ q. HasRoom (record { pending = q; item = item_of c.args.self.now.item c.args.self.now.terms.items })) (sym same) (room_reduced 1 (work_of c.args.self.now) c.requires.room)

pub query-requires-clause-formulas : goal.query-requires-clause-formulas
query-requires-clause-formulas c =
    let p = pending_of c.args.self.now.formulas in
    let none : is_grouped p ≡ false = sym c.in_ok-close.ensures.grouped ∙ c.if-branch.false in
    let same : pending_of c.close.new.self ≡ reduced 1 p = c.in_ok-close.ensures.closed ∙ ungrouped p none in
    let w : Work = with_pending (work_of c.args.self.now) (reduced 1 p) in
    let ended : work_of c.end_formula.new.self ≡ formula_ended w = c.in_ok-end_formula.ensures ∙ ap (λ q. formula_ended (record { pending = q; item = item_of c.args.self.now.item c.args.self.now.terms.items })) same in
    subst (λ v. HasDraftedFormulas v) (sym ended) (ended_numbered w (c.requires.end.formula (not_waiting (reduced 1 p).operators none)) c.requires.end.given)

pub query-requires-clause-room : goal.query-requires-clause-room
query-requires-clause-room c =
    let p = pending_of c.args.self.now.formulas in
    let same : pending_of c.close.new.self ≡ reduced 1 p = c.in_ok-close.ensures.closed ∙ ungrouped p (sym c.in_ok-close.ensures.grouped ∙ c.if-branch.false) in
    let w : Work = with_pending (work_of c.args.self.now) (reduced 1 p) in
    let ended : work_of c.end_formula.new.self ≡ formula_ended w = c.in_ok-end_formula.ensures ∙ ap (λ q. formula_ended (record { pending = q; item = item_of c.args.self.now.item c.args.self.now.terms.items })) same in
    subst (λ v. length v.pending.draft.items < MOST_DRAFTED) (sym ended) (room_reduced 1 (work_of c.args.self.now) c.requires.room).items
