use Rattle.std.proofs.Common.{◌≡◌, ◌<◌, ◌+◌, suc, ◌++◌, ◌∷◌, [], length, get_or, ap, sym, subst, arith, ◌∙◌, rules, FitsSigned, w64}
use Rattle.std.specs.Int.{◌∣◌}
use Rattle.std.proofs.lemmas.Int.{to_z-of_z}
use Rattle.std.proofs.lemmas.List.{get_or_read}
use Rattle.ps_meaning.specs.Rational.{Rational, fraction, zero_q}
use Rattle.ps_whole.specs.Columns.{AreNumbersTo}
use Rattle.ps_whole.specs.Rows.{IsOver}
use Rattle.ps_whole.proofs.Numbers.{numbers_next}
use Rattle.ps_whole.proofs.row_of.numbers_over.Goals as goal

pub number_over-requires-clause-multiple : goal.number_over-requires-clause-multiple
number_over-requires-clause-multiple c =
    let es = c.args.entries.now in
    let m = c.loop-m.m in
    let within : m < length es = search rules in
    let x : c.index-entries-m.result ≡ get_or es m zero_q = get_or_read es m c.index-entries-m.result within c.index-entries-m.is zero_q in
    subst (λ (q : Rational). q.under ∣ c.args.under) (sym x) (c.requires.under.divides m within)

pub loop-m-preserved : goal.loop-m-preserved
loop-m-preserved c =
    let es = c.args.entries.now in
    let m = c.loop-m.m in
    let v = c.in-Some.number in
    let within : m < length es = search rules in
    let x : c.index-entries-m.result ≡ get_or es m zero_q = get_or_read es m c.index-entries-m.result within c.index-entries-m.is zero_q in
    let f : FitsSigned w64 v = search rules in
    let value : fraction v c.args.under ≡ c.index-entries-m.result = c.in-Some.ensures.value in
    let next : suc m + 1 ≡ suc (m + 1) = omega arith in
    subst (λ k. AreNumbersTo (IsOver es c.args.under) k c.push-in-Some.new.self.items) next
    (numbers_next (IsOver es c.args.under) (suc m) c.loop-m.made.items c.push-in-Some.new.self.items v c.loop-m.invariant
    (c.in_ok-push-in-Some.ensures.items ∙ ap (λ k. c.loop-m.made.items ++ k ∷ []) (to_z-of_z w64 v f)) (value ∙ x) c.in-Some.ensures.small)
