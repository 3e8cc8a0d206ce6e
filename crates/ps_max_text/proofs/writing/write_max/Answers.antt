use Rattle.std.proofs.Common.{◌≡◌, rules, [], ◌∷◌, ◌++◌, arith}
use Rattle.std.specs.Prelude.{codes, decimal}
use Rattle.std.proofs.lemmas.Fmt.{decimal_digit}
use Rattle.std.specs.Result.{IsErr}
use Rattle.ps_max_text.specs.Texts.{body_lines, max_lines}
use Rattle.ps_max_text.proofs.Sequence.{lines_then, lines_stop, short_first}
use Rattle.ps_max_text.proofs.writing.write_max.Goals as goal

pub write_body-requires-clause-short : goal.write_body-requires-clause-short
unfolding max_lines
write_body-requires-clause-short g c = short_first (body_lines c.args.answer.now) (codes "end" ∷ []) c.requires.short.1

pub returns : goal.returns
unfolding max_lines
returns g c =
    let one : decimal 1 ≡ 49 ∷ [] = decimal_digit 1 (omega arith) in
    lines_then g.O.Sink _ _ _ _ (codes "maxsat 1" ∷ []) (body_lines c.args.answer.now ++ codes "end" ∷ []) (rw (c.in_ok-write_count.was, one) at c.write_count.ensures)
    (lines_then g.O.Sink _ _ _ _ (body_lines c.args.answer.now) (codes "end" ∷ []) (rw c.in_ok-write_body.was at c.write_body.ensures) c.write_word.ensures)

pub returns-in_err-write_count : goal.returns-in_err-write_count
unfolding max_lines
returns-in_err-write_count g c =
    let one : decimal 1 ≡ 49 ∷ [] = decimal_digit 1 (omega arith) in
    let failed : IsErr c.from_residual.result = search rules in
    lines_stop g.O.Sink c.args.lines.now c.write_count.new.lines _ c.from_residual.result (codes "maxsat 1" ∷ []) (body_lines c.args.answer.now ++ codes "end" ∷ [])
    (rw (c.in_err-write_count.was, one) at c.write_count.ensures) failed

pub returns-in_err-write_body : goal.returns-in_err-write_body
unfolding max_lines
returns-in_err-write_body g c =
    let one : decimal 1 ≡ 49 ∷ [] = decimal_digit 1 (omega arith) in
    let failed : IsErr c.from_residual-in_err-write_body.result = search rules in
    lines_then g.O.Sink _ _ _ _ (codes "maxsat 1" ∷ []) (body_lines c.args.answer.now ++ codes "end" ∷ []) (rw (c.in_ok-write_count.was, one) at c.write_count.ensures)
    (lines_stop g.O.Sink c.write_count.new.lines c.write_body.new.lines _ c.from_residual-in_err-write_body.result (body_lines c.args.answer.now) (codes "end" ∷ [])
    (rw c.in_err-write_body.was at c.write_body.ensures) failed)
