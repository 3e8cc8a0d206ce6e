use Rattle.std.proofs.Common.{◌≡◌, unsigned_abs, arith, subst, sym, ◌∙◌, ap, inl, inr, rules, FitsSigned, to_z, of_z, w64}
use Rattle.std.specs.Int.{◌∣◌, w128}
use Rattle.std.proofs.lemmas.Int.{to_z-of_z}
use Rattle.std.proofs.lemmas.Bool.{cases_eq}
use Rattle.std.proofs.Math.Nat.{one-dvd, dvd_trans, pos_of_dvd_of_pos}
use Rattle.ps_whole.specs.Pivots.{raw_number}
use Rattle.ps_whole.proofs.rows.Whole.content.Goals as goal

pub returns-then-g-eq1 : goal.returns-then-g-eq1
returns-then-g-eq1 c = record { common = record { positive = omega arith; under = one-dvd c.args.base; over = λ j l. one-dvd (unsigned_abs (raw_number c.args.self.now c.args.p c.args.i c.args.times c.args.less j)) } }

pub loop-column-preserved : goal.loop-column-preserved
loop-column-preserved c =
    let w = c.args.self.now in
    let is = c.gcd_by_rest-g.ensures.value in
    let fr : FitsSigned w128 c.raw.result = search rules in
    let t = to_z w64 (of_z w64 c.args.times) in
    let k = to_z w64 (of_z w64 c.args.less) in
    let size : c.unsigned_abs.result ≡ unsigned_abs (raw_number w c.args.p c.args.i t k c.loop-column.column) =
    c.unsigned_abs.ensures.value ∙ ap unsigned_abs (to_z-of_z w128 c.raw.result fr ∙ c.raw.ensures.value) in
    let here : c.gcd_by_rest-g.result ∣ unsigned_abs (raw_number w c.args.p c.args.i t k c.loop-column.column) =
    subst (λ n. c.gcd_by_rest-g.result ∣ n) size is.0 in
    record {
      positive = pos_of_dvd_of_pos is.1 c.loop-column.invariant.positive;
      under = dvd_trans c.gcd_by_rest-g.result is.1 c.loop-column.invariant.under;
      over = λ j l. elim (cases_eq j c.loop-column.column) [
        | inl same ↦ subst (λ m. c.gcd_by_rest-g.result ∣ unsigned_abs (raw_number w c.args.p c.args.i t k m)) (sym same) here
        | inr ne ↦ dvd_trans c.gcd_by_rest-g.result is.1 (c.loop-column.invariant.over j (omega (arith, l, ne)))
      ];
    }

pub returns : goal.returns
returns c =
    let w = c.args.self.now in
    let ft : FitsSigned w64 c.args.times = search rules in
    let fl : FitsSigned w64 c.args.less = search rules in
    let et : to_z w64 (of_z w64 c.args.times) ≡ c.args.times = to_z-of_z w64 c.args.times ft in
    let el : to_z w64 (of_z w64 c.args.less) ≡ c.args.less = to_z-of_z w64 c.args.less fl in
    record {
      common = record {
        positive = c.loop-column.invariant.positive;
        under = c.loop-column.invariant.under;
        over = λ j l. subst (λ z. c.loop-column.g ∣ unsigned_abs z) (λ k. raw_number w c.args.p c.args.i (et k) (el k) j)
            (c.loop-column.invariant.over j (omega (arith, c.loop-column-test.false, c.width-column-end.ensures.value, l)));
      };
    }
