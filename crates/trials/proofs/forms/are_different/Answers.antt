use Rattle.std.proofs.Common.{◌≡◌, ◌≢◌, ◌∙◌, ℕ, ℤ, ◌+◌, ◌<◌, List, length, get_or, take, All, ap, subst}
use Rattle.std.proofs.lemmas.List.{take_more}
use Rattle.std.proofs.lemmas.List.Quantifiers.{all_pairs_push}
use Rattle.ps_pb.specs.Assignments.{place, AreDifferent}
use Rattle.trials.proofs.forms.are_different.Goals as goal

-- a literal whose variable none of those before it has
one_more : (lits : List ℤ) (i : ℕ) (x : ℤ) (at : ℕ) → i < length lits → x ≡ get_or lits i x → at ≡ place x
    → AreDifferent (take i lits) → All (λ l. place l ≢ at) (take i lits) → AreDifferent (take (i + 1) lits)
one_more lits i x at within is at-is before apart = rw (take_more lits i x within)
    (all_pairs_push (λ l m. place l ≢ place m) (take i lits) (get_or lits i x) before
    (subst (λ n. All (λ l. place l ≢ n) (take i lits)) (at-is ∙ ap place is) apart))

pub loop-i-preserved : goal.loop-i-preserved
loop-i-preserved c =
    one_more c.args.lits.now c.loop-i.i c.index-lits-i.result c.place.result c.loop-i-test.true c.index-lits-i.is c.place.ensures.value c.loop-i.invariant
    (c.are_apart.ensures c.if-not-are_apart.false)
