use Rattle.std.proofs.Common.{length, sym, ap, subst, ◌∙◌}
use Rattle.ps_text.specs.Canonical.{canonical_text}
use Rattle.ps_text.specs.Fronts.{IsFront}
use Rattle.ps_text.proofs.Meant.{meaning_once}
use Rattle.ps_problem.specs.Numbering.{problem_of}
use Rattle.ps_problem.specs.Written.{items_from}
use Rattle.ps_problem.proofs.Reread.{reread}
use Rattle.ps_canonical.proofs.laws.equal_texts_are_of_equal_problems.Goals as goal

pub returns : goal.returns
returns c = λ p q h k e.
    let r = reread p h in
    let s = reread q k in
    let same = meaning_once (canonical_text (items_from p)) (items_from p) (items_from q) (length (canonical_text (items_from p))) (length (canonical_text (items_from q))) r.front
    (subst (λ bs. IsFront bs (items_from q) (length (canonical_text (items_from q)))) (sym e) s.front) in
    sym r.made ∙ ap problem_of same ∙ s.made
