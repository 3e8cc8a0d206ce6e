use Rattle.std.proofs.Common.{◌≡◌, ◌<◌, length, get_or, subst, rules}
use Rattle.std.proofs.lemmas.List.{get_or_read}
use Rattle.ps_meaning.specs.Rational.{Rational, zero_q}
use Rattle.ps_whole.specs.Rows.{IsNextUnder}
use Rattle.ps_whole.proofs.RowOf.{unders_next}
use Rattle.ps_whole.proofs.row_of.common_under.Goals as goal

pub loop-m-preserved : goal.loop-m-preserved
loop-m-preserved c =
    let es = c.args.entries.now in
    let m = c.loop-m.m in
    let n = c.in_ok-under.under in
    let within : m < length es = search rules in
    let x : c.index-entries-m.result ≡ get_or es m zero_q = get_or_read es m c.index-entries-m.result within c.index-entries-m.is zero_q in
    unders_next es m c.loop-m.under n c.loop-m.invariant (subst (λ (y : Rational). IsNextUnder c.loop-m.under y n) x c.in_ok-under.ensures.next)
