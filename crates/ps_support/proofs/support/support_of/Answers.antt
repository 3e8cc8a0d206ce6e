use Rattle.std.proofs.Common.{List, subst}
use Rattle.std.specs.List.Sorted.{IsPermutation}
use Rattle.ps_support.specs.declared.support.Supporting.{Supporting}
use Rattle.ps_support.proofs.Resting.{rests, rows_as_bounds}
use Rattle.ps_support.proofs.support.support_of.Goals as goal

pub all_supporting-requires-clause-rows : goal.all_supporting-requires-clause-rows
all_supporting-requires-clause-rows c =
    rows_as_bounds c.args.problem.now c.args.side c.args.query c.args.value.now c.args.dual.now c.rows-sound.ensures.parts c.requires.shown

pub returns-clause-rests : goal.returns-clause-rests
returns-clause-rests c =
    rests c.args.problem.now c.args.side c.args.query c.args.value.now c.args.dual.now c.rows-sound.ensures.parts c.requires.shown c.requires.query c.args.lines.now
    c.in_ok-sentences.sentences (subst (λ (xs : List Supporting). IsPermutation xs c.in_ok-sentences.sentences) c.in_ok-found.ensures c.in_ok-sentences.ensures.moved)

pub returns-clause-sentences : goal.returns-clause-sentences
returns-clause-sentences c = subst (λ (xs : List Supporting). IsPermutation xs c.in_ok-sentences.sentences) c.in_ok-found.ensures c.in_ok-sentences.ensures.moved
