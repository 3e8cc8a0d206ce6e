use Rattle.std.proofs.Common.{◌≡◌, false, true≢false, sym, subst, ap, Ok, Err, ◌∙◌, rules}
use Rattle.std.proofs.lemmas.Result.{err_from_is_err_and}
use Rattle.ps_reader.specs.Cursor.{words_in}
use Rattle.ps_reader.specs.Rows.{IsNumbered, TellsNumbers}
use Rattle.ps_reader.proofs.RowWords.{numbered_more, numbered_later, number_told, number_refused}
use Rattle.ps_reader.proofs.rows.are_numbers.Goals as goal

pub loop-left-preserved : goal.loop-left-preserved
loop-left-preserved c =
    let t = number_told (words_in c.loop-left.left) c.next.result.now c.is_number.result (Ok tt) c.next.ensures.word c.in_ok-is_number.was c.is_number.ensures in record {
      all = λ n. c.loop-left.invariant.all (numbered_more (words_in c.loop-left.left) t (subst IsNumbered c.next.ensures.later n));
      left = λ n. subst IsNumbered (sym c.next.ensures.later) (numbered_later (words_in c.loop-left.left) (c.loop-left.invariant.left n));
    }

pub returns-in_err-is_number : goal.returns-in_err-is_number
returns-in_err-is_number c =
    let f = err_from_is_err_and c.from_residual.result c.from_residual.ensures.1 in
    let b : c.is_empty.result ≡ false = search rules in
    subst (λ r. TellsNumbers (words_in c.args.words.now) r) (sym (f.1 ∙ ap Err f.2))
    (number_refused (words_in c.args.words.now) (words_in c.loop-left.left) c.in_err-is_number.field-0.0 (λ e. true≢false (sym (c.is_empty.ensures.1 e) ∙ b)) c.loop-left.invariant.left
    (number_told (words_in c.loop-left.left) c.next.result.now c.is_number.result (Err c.in_err-is_number.field-0.0) c.next.ensures.word c.in_err-is_number.was c.is_number.ensures))
