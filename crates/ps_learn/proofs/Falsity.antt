-- The literals of a learned clause are false on the trail.
use Rattle.std.proofs.Common.{◌≡◌, ℤ, Bool, true, false, not, ◌&&◌, Some, None, List, [], ◌∷◌, length, get_or, get_or-set_same, refl, ap, ◌∙◌, subst, inl, inr}
use Rattle.std.specs.Prelude.{nat_lt, ◌<◌}
use Rattle.std.specs.List.{All, fold}
use Rattle.std.proofs.Math.Seq.{take-length}
use Rattle.std.proofs.lemmas.List.Elements.{All-nil, All-cons}
use Rattle.std.proofs.lemmas.Bool.{cases_Bool, and_parts, ltb-true}
use Rattle.ps_pb.specs.Assignments.{Assignment, place, is_positive, agree, with_sign, value_of, with_false, is_unset, all_unset, Includes}
use Rattle.ps_pb.specs.Steps.{and_false}
use Rattle.ps_pb.proofs.Places.{and_false-none}
use Rattle.ps_pb.proofs.Values.{includes-refl, includes-trans, value-kept, unset-is}
use Rattle.ps_learn.specs.Trails.{Trail, values, values_of}
use Rattle.ps_learn.specs.Causes.{Marks}
use Rattle.ps_learn.specs.Starting.{AreKeptLits}
use Rattle.ps_learn.specs.Falsity.{AreFalseIn}

abbrev IsFalseIn : Assignment → ℤ → Type 0
IsFalseIn a l = value_of a l ≡ Some false

sign_not : (p : Bool) → agree p (not p) ≡ false
sign_not true = refl
sign_not false = refl

value_false : (a : Assignment) (l : ℤ) → place l < length a → IsFalseIn (with_false a l) l
unfolding value_of with_false
value_false a l h = ap (with_sign (is_positive l)) (get_or-set_same a (place l) (Some (not (is_positive l))) None h) ∙ ap Some (sign_not (is_positive l))

with_false-includes : (a : Assignment) (l : ℤ) → is_unset (value_of a l) ≡ true → Includes (with_false a l) a
unfolding with_false
with_false-includes a l u = record { at = λ m v h. value-kept a (place l) (not (is_positive l)) m v (unset-is a l u) h }

-- literals that are set false one after the other stay false
all_false : (b a : Assignment) (ls : List ℤ) → fold and_false (Some b) ls ≡ Some a → Includes a b × All (IsFalseIn a) ls
all_false b a [] e = let q : b ≡ a = cc e in (rw q (includes-refl a), All-nil (IsFalseIn a))
all_false b a (l ∷ ls) e = elim (cases_Bool (nat_lt (place l) (length b) && is_unset (value_of b l))) [
  | inl t ↦ (let two = and_parts (nat_lt (place l) (length b)) (is_unset (value_of b l)) t in
      let rest = all_false (with_false b l) a ls (rw t at e) in (
        includes-trans a (with_false b l) b rest.0 (with_false-includes b l two.1),
        All-cons (IsFalseIn a) l ls (rest.0.at l false (value_false b l (ltb-true (place l) (length b) two.0))) rest.1,
      ))
  | inr f ↦ (let e' : fold and_false None ls ≡ Some a = rw f at e in absurd (cc (e', and_false-none ls)))
]

-- the kept literals' opposites are false where the trail's literals are true
pub kept-false : (t : Trail) (kept : Marks) (lits : List ℤ) (a : Assignment) → AreKeptLits t kept lits a → AreFalseIn (values t) lits
kept-false t kept lits a k =
    let rest = all_false (all_unset t.variables) a lits k.lits_false in
    let all : Includes (values t) a = subst (λ es. Includes (values_of t.variables es) a) (take-length t.entries) k.includes in
    λ i d lt. all.at (get_or lits i d) false (rest.1 i d lt)
