use Rattle.std.proofs.Common.{pos}
use Rattle.ps_io.specs.Lines.{text_of}
use Rattle.ps_log.specs.Texts.{with_number, with_numbers, term_numbers}
use Rattle.ps_log.proofs.ManyNumbers.{holds_more, goal_parts, goal_short, terms_short, degree_short}
use Rattle.ps_log.proofs.numbers.add_goal_numbers.Goals as goal

pub add_degree-requires : goal.add_degree-requires
add_degree-requires g c = degree_short _ c.args.degree.now c.args.terms.now c.requires

pub add_terms-requires : goal.add_terms-requires
add_terms-requires g c = rw c.add_degree.ensures.line (terms_short _ c.args.degree.now c.args.terms.now c.requires)

pub add_number-requires : goal.add_number-requires
add_number-requires g c = rw (c.add_terms.ensures.line, c.add_degree.ensures.line) (goal_short _ c.args.degree.now c.args.terms.now c.requires)

pub returns : goal.returns
returns g c =
    rw (goal_parts (text_of c.args.lines.now) c.args.degree.now c.args.terms.now)
    (holds_more (λ t. with_number t (pos 0)) _ _ _ _ (holds_more (λ t. with_numbers t (term_numbers c.args.terms.now)) _ _ _ _ c.add_degree.ensures c.add_terms.ensures)
    c.add_number.ensures)
