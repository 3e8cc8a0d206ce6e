use Rattle.std.proofs.Common.{◌∙◌, not, ap, sym}
use Rattle.ps_hints.proofs.Ors.{joined, not_joined}
use Rattle.ps_hints.proofs.disjunctions.is_one_or.Goals as goal

pub returns-in_ok-ors-in-Or : goal.returns-in_ok-ors-in-Or
returns-in_ok-ors-in-Or c =
    let same = c.nodes-nodes.ensures.nodes ∙ c.formulas.ensures.nodes in
    ap not c.has_either.ensures ∙ rw (sym same) (joined c.nodes-nodes.result.now c.deref.result.now c.args.node c.in-Or.left c.in-Or.right
    c.nodes-nodes.ensures.sound (c.deref.ensures.value ∙ c.in_ok-ors-in-Or.ensures.ors) (rw same c.requires) c.in-Or.is)

pub returns-in_default : goal.returns-in_default
returns-in_default c =
    let same = c.nodes-nodes.ensures.nodes ∙ c.formulas.ensures.nodes in
    rw (sym same) (not_joined c.nodes-nodes.result.now c.args.node c.nodes-nodes.ensures.sound (rw same c.requires) c.in_default.not-Or)
