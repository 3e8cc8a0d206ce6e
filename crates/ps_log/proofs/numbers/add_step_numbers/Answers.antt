use Rattle.std.proofs.Common.{pos}
use Rattle.ps_io.specs.Lines.{text_of}
use Rattle.ps_log.specs.Texts.{with_number, with_numbers, hint_numbers}
use Rattle.ps_log.proofs.ManyNumbers.{holds_more, step_parts, step_short, hints_short, middle_short, lits_short, id_short}
use Rattle.ps_log.proofs.numbers.add_step_numbers.Goals as goal

pub add_hint-requires : goal.add_hint-requires
add_hint-requires g c = id_short _ c.args.id.now c.args.lits.now c.args.hints.now c.requires

pub add_lits-requires : goal.add_lits-requires
add_lits-requires g c = rw c.add_hint.ensures.line (lits_short _ c.args.id.now c.args.lits.now c.args.hints.now c.requires)

pub add_number-requires : goal.add_number-requires
add_number-requires g c = rw (c.add_lits.ensures.line, c.add_hint.ensures.line) (middle_short _ c.args.id.now c.args.lits.now c.args.hints.now c.requires)

pub add_hints-requires : goal.add_hints-requires
add_hints-requires g c =
    rw (c.add_number.ensures.line, c.add_lits.ensures.line, c.add_hint.ensures.line) (hints_short _ c.args.id.now c.args.lits.now c.args.hints.now c.requires)

pub add_number-requires-2 : goal.add_number-requires-2
add_number-requires-2 g c =
    rw (c.add_hints.ensures.line, c.add_number.ensures.line, c.add_lits.ensures.line, c.add_hint.ensures.line)
    (step_short _ c.args.id.now c.args.lits.now c.args.hints.now c.requires)

pub returns : goal.returns
returns g c =
    rw (step_parts (text_of c.args.lines.now) c.args.id.now c.args.lits.now c.args.hints.now)
    (holds_more (λ t. with_number t (pos 0)) _ _ _ _
    (holds_more (λ t. with_numbers t (hint_numbers c.args.hints.now)) _ _ _ _
    (holds_more (λ t. with_number t (pos 0)) _ _ _ _ (holds_more (λ t. with_numbers t c.args.lits.now) _ _ _ _ c.add_hint.ensures c.add_lits.ensures) c.add_number.ensures)
    c.add_hints.ensures)
    c.add_number-2.ensures)
