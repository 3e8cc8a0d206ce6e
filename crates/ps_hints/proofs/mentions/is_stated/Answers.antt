use Rattle.std.proofs.Common.{◌≡◌, ◌∙◌, ap, map, subst, sym, false}
use Rattle.ps_formula.specs.Nodes.{trees}
use Rattle.ps_hints.specs.Warnings.{has_atom, stands_in}
use Rattle.ps_hints.proofs.Atoms.{none_more, none_of_all}
use Rattle.ps_hints.proofs.mentions.is_stated.Goals as goal

pub loop-sentence-preserved : goal.loop-sentence-preserved
loop-sentence-preserved c =
    let marks = c.deref.ensures.value ∙ c.in_ok-marks.ensures.marks ∙ ap (λ ns. map (has_atom c.args.atom) (trees ns)) (c.nodes.ensures.nodes ∙ c.formulas.ensures.nodes) in
    none_more c.args.atom c.args.problem.now.nodes c.args.problem.now.sentences c.as_slice-sentence-items.result.now c.loop-sentence.sentence-index c.sentence-item.result
    (c.as_slice-sentence-items.ensures ∙ c.sentences.ensures.sentences) c.loop-sentence-test.true c.loop-sentence.invariant
    (subst (λ s. stands_in c.args.atom c.args.problem.now.nodes s ≡ false) c.sentence-item.is (sym (c.stands_in.ensures c.args.atom c.args.problem.now.nodes marks) ∙ c.if-stands_in.false))

pub returns : goal.returns
returns c = λ _.
    none_of_all c.args.atom c.args.problem.now.nodes c.args.problem.now.sentences c.as_slice-sentence-items.result.now c.loop-sentence.sentence-index
    (c.as_slice-sentence-items.ensures ∙ c.sentences.ensures.sentences) c.loop-sentence-test.false c.loop-sentence.invariant
