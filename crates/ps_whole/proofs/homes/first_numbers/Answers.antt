use Rattle.std.proofs.Common.{◌≡◌, suc, ◌+◌, ◌/◌, ◌%◌, ◌++◌, ◌∷◌, [], ap, ◌∙◌, arith, rules, FitsSigned, w64}
use Rattle.std.proofs.lemmas.Int.{to_z-of_z}
use Rattle.ps_whole.specs.Homes.{home_at}
use Rattle.ps_whole.proofs.FirstRows.{homes_next}
use Rattle.ps_whole.proofs.homes.first_numbers.Goals as goal

pub loop-k-preserved : goal.loop-k-preserved
loop-k-preserved c =
    let n = c.args.rows in
    let k = c.loop-k.k in
    let f : FitsSigned w64 c.home_number.result = search rules in
    let e : 1 + n ≡ suc n = omega arith in
    homes_next n k c.loop-k.made.items c.push.new.self.items c.home_number.result
    c.loop-k.invariant (c.in_ok-push.ensures.items ∙ ap (λ v. c.loop-k.made.items ++ v ∷ []) (to_z-of_z w64 c.home_number.result f))
    (c.home_number.ensures.value ∙ ap (λ m. home_at (k / m) (k % m)) e) c.home_number.ensures.small
