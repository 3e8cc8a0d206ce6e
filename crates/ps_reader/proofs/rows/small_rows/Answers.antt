use Rattle.std.proofs.Common.{◌≡◌, ◌<◌, ◌≤◌, false, true≢false, sym, subst, ap, arith, Ok, Err, ◌∙◌, ◌++◌, ◌∷◌, length, rules}
use Rattle.std.specs.Prelude.{[]}
use Rattle.std.proofs.lemmas.Result.{err_from_is_err_and}
use Rattle.ps_reader.specs.Cursor.{words_in}
use Rattle.ps_reader.specs.Rows.{AreRowsRead}
use Rattle.ps_reader.proofs.RowWords.{RowsSoFar, rows_many, rows_more, rows_stop, row_told, small_kept}
use Rattle.ps_reader.proofs.rows.small_rows.Goals as goal

pub returns-then-len-ge-MOST_MULTIPLIERS : goal.returns-then-len-ge-MOST_MULTIPLIERS
returns-then-len-ge-MOST_MULTIPLIERS c =
    let b : c.is_empty.result ≡ false = search rules in
    let l : 100 ≤ length c.loop-left.rows = omega (arith, c.if-len-ge-MOST_MULTIPLIERS.true, c.len.ensures) in
    rows_many (words_in c.args.words.now) (words_in c.loop-left.left) c.loop-left.rows (λ e. true≢false (sym (c.is_empty.ensures.1 e) ∙ b)) c.loop-left.invariant l

pub returns-in_err-number : goal.returns-in_err-number
returns-in_err-number c =
    let f = err_from_is_err_and c.from_residual.result c.from_residual.ensures.1 in
    let b : c.is_empty.result ≡ false = search rules in
    subst (λ r. AreRowsRead (words_in c.args.words.now) r) (sym (f.1 ∙ ap Err f.2))
    (rows_stop (words_in c.args.words.now) (words_in c.loop-left.left) c.loop-left.rows c.in_err-number.field-0.0 (λ e. true≢false (sym (c.is_empty.ensures.1 e) ∙ b)) c.loop-left.invariant
    (row_told (words_in c.loop-left.left) c.next.result.now c.number.result (Err c.in_err-number.field-0.0) c.next.ensures.word c.in_err-number.was c.number.ensures))

pub loop-left-preserved : goal.loop-left-preserved
loop-left-preserved c =
    let b : c.is_empty.result ≡ false = search rules in
    let l : length c.loop-left.rows < 100 = omega (arith, c.if-len-ge-MOST_MULTIPLIERS.false, c.len.ensures) in
    let t = row_told (words_in c.loop-left.left) c.next.result.now c.number.result (Ok c.in_ok-number.field-0) c.next.ensures.word c.in_ok-number.was c.number.ensures in
    subst (λ x. RowsSoFar (words_in c.args.words.now) x c.push.new.self) (sym c.next.ensures.later)
    (rows_more (words_in c.args.words.now) (words_in c.loop-left.left) c.loop-left.rows c.push.new.self c.in_ok-number.field-0 (λ e. true≢false (sym (c.is_empty.ensures.1 e) ∙ b)) c.loop-left.invariant l t.0.0 t.1
    (c.in_ok-push.ensures.ok ∙ ap (λ y. c.loop-left.rows ++ y ∷ []) (small_kept c.in_ok-number.field-0 t.1)))
