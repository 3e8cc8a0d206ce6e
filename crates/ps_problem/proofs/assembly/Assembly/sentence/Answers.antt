use Rattle.std.proofs.Common.{Some, ap, ◌∙◌}
use Rattle.ps_problem.specs.Drafts.{question_at}
use Rattle.ps_problem.specs.DraftLists.{item_of}
use Rattle.ps_problem.proofs.Making.{stating-skip}
use Rattle.ps_problem.proofs.assembly.Assembly.sentence.Goals as goal

pub returns-in-Query-clause-ok : goal.returns-in-Query-clause-ok
returns-in-Query-clause-ok c =
    let s = c.args.self.now in
    let d = c.args.draft.now in
    stating-skip d c.args.i s c.requires.before
    (question_at d.formulas c.in-Query.field-0.formula c.in-Query.field-0.given) (c.item.ensures.item ∙ ap (λ x. Some (item_of d.formulas x)) c.in-Query.is)
