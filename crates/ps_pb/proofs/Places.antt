-- What stands at an id, and how a refusal or a bad literal ends a list.
use Rattle.std.proofs.Common.{◌≡◌, ◌≢◌, ℕ, zero, suc, ◌-◌, ◌<◌, ℤ, Option, Some, None, List, [], ◌∷◌, length, get_or, drop, drop-cons, arith, refl, sym, ap, ◌∙◌}
use Rattle.std.specs.List.{fold}
use Rattle.ps_pb.specs.Assignments.{Assignment}
use Rattle.ps_pb.specs.declared.refused.StepRefused.{StepRefused}
use Rattle.ps_pb.specs.Steps.{Known, constraint_at, Propagation, Refused, after_hint, after_hints, and_false}

pub constraint_at-place : (known : Known) (id : ℕ) → id ≢ 0 → constraint_at known id ≡ get_or known (id - 1) None
unfolding constraint_at
constraint_at-place known zero h = absurd (h refl)
constraint_at-place known (suc i) h = let e : suc i - 1 ≡ i = omega arith in rw e refl

pub constraint_at-zero : (known : Known) → constraint_at known 0 ≡ None
unfolding constraint_at
constraint_at-zero known = refl

-- what was refused stays refused
pub and_false-none : (ls : List ℤ) → fold and_false None ls ≡ None
and_false-none [] = refl
and_false-none (l ∷ ls) = and_false-none ls

pub after_hints-refused : (known : Known) (why : StepRefused) (hs : List ℕ) → after_hints known (Refused why) hs ≡ Refused why
unfolding after_hint
after_hints-refused known why [] = refl
after_hints-refused known why (h ∷ hs) = after_hints-refused known why hs

-- a bad literal on the way ends the whole list
pub and_false-stop : (o : Option Assignment) (a : Assignment) (ls : List ℤ) (i : ℕ) (l : ℤ) → fold and_false o ls ≡ fold and_false (Some a) (drop i ls) → i < length ls → l ≡ get_or ls i l → and_false (Some a) l ≡ None → fold and_false o ls ≡ None
and_false-stop o a ls i l e h at n =
    let d : drop i ls ≡ l ∷ drop (suc i) ls = drop-cons ls i l h ∙ ap (λ x. x ∷ drop (suc i) ls) (sym at) in
    e ∙ ap (fold and_false (Some a)) d ∙ ap (λ x. fold and_false x (drop (suc i) ls)) n ∙ and_false-none (drop (suc i) ls)

-- a refused hint on the way ends the whole list
pub after_hints-stop : (known : Known) (from x : Propagation) (hs : List ℕ) (i : ℕ) (why : StepRefused) → after_hints known from hs ≡ after_hints known x (drop i hs) → i < length hs → after_hint known x (get_or hs i 0) ≡ Refused why → after_hints known from hs ≡ Refused why
after_hints-stop known from x hs i why e h n =
    let d : drop i hs ≡ get_or hs i 0 ∷ drop (suc i) hs = drop-cons hs i 0 h in
    e ∙ ap (after_hints known x) d ∙ ap (λ y. after_hints known y (drop (suc i) hs)) n ∙ after_hints-refused known why (drop (suc i) hs)
