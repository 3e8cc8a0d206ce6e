-- What setting a literal does to the values of others.
use Rattle.std.proofs.Common.{◌≡◌, ℕ, ℤ, Bool, true, false, not, Option, Some, None, List, length, get_or, set, get_or-set_same, get_or-set_other, length-set, arith, refl, sym, ap, ◌∙◌, subst, ◌⊎◌, inl, inr}
use Rattle.std.proofs.lemmas.Bool.{cases_eq, cases_lt}
use Rattle.std.proofs.lemmas.List.{get_or_past}
use Rattle.ps_pb.specs.Assignments.{Assignment, place, is_positive, agree, with_sign, value_of, with_true, with_false, is_unset, holds, Includes}

-- a full assignment gives the variables that are set these values
pub record Agrees (w : List Bool) (a : Assignment) : Type 0 where
  pub at : (l : ℤ) (v : Bool) → value_of a l ≡ Some v → holds w l ≡ v

pub includes-refl : (a : Assignment) → Includes a a
includes-refl a = record { at = λ l v h. h }

pub includes-trans : (a b c : Assignment) → Includes a b → Includes b c → Includes a c
includes-trans a b c p q = record { at = λ l v h. p.at l v (q.at l v h) }

pub agree-same : (p : Bool) → agree p p ≡ true
agree-same true = refl
agree-same false = refl

pub signed-some : (p : Bool) (o : Option Bool) (v : Bool) → with_sign p o ≡ Some v → (b : Bool) × (o ≡ Some b) × (agree p b ≡ v)
signed-some p None v h = absurd (cc)
signed-some p (Some b) v h = (b, refl, cc)

-- a value after a variable is set is that of before, or the new one
pub value-set : (a : Assignment) (i : ℕ) (b : Bool) (l : ℤ) (v : Bool) → value_of (set a i (Some b)) l ≡ Some v → (value_of a l ≡ Some v) ⊎ ((place l ≡ i) × (v ≡ agree (is_positive l) b))
unfolding value_of
value-set a i b l v h = elim (cases_eq (place l) i) [
  | inl e ↦ elim (cases_lt i (length a)) [
    | inl lt ↦ inr (
      e,
      (
          let s = signed-some _ _ _ h in
          let g : get_or (set a i (Some b)) (place l) None ≡ Some b = rw e (get_or-set_same a i (Some b) None lt) in
          let q : Some s.0 ≡ Some b = sym s.1 ∙ g in
          let r : s.0 ≡ b = cc q in
          sym s.2 ∙ ap (agree (is_positive l)) r),
    )
    | inr ge ↦ inl (let s = signed-some _ _ _ h in
        let g : get_or (set a i (Some b)) (place l) None ≡ None = get_or_past (set a i (Some b)) (place l) None (rw length-set (omega arith)) in
        absurd (cc (g, s.1)))
  ]
  | inr ne ↦ inl (subst (λ o. with_sign (is_positive l) o ≡ Some v) (get_or-set_other a i (place l) (Some b) None ne) h)
]

-- a value that was there stays where the variable wasn't set, or was set so
pub value-kept : (a : Assignment) (i : ℕ) (b : Bool) (l : ℤ) (v : Bool) → get_or a i None ≡ None → value_of a l ≡ Some v → value_of (set a i (Some b)) l ≡ Some v
unfolding value_of
value-kept a i b l v unset h = elim (cases_eq (place l) i) [
  | inl e ↦ (let s = signed-some _ _ _ h in
      let g : get_or a (place l) None ≡ None = rw e unset in absurd (cc (s.1, g)))
  | inr ne ↦ subst (λ o. with_sign (is_positive l) o ≡ Some v) (sym (get_or-set_other a i (place l) (Some b) None ne)) h
]

unset_sign : (p : Bool) (o : Option Bool) → is_unset (with_sign p o) ≡ true → o ≡ None
unset_sign p None h = refl
unset_sign p (Some b) h = absurd (cc)

pub unset-is : (a : Assignment) (l : ℤ) → is_unset (value_of a l) ≡ true → get_or a (place l) None ≡ None
unfolding value_of
unset-is a l h = unset_sign (is_positive l) (get_or a (place l) None) h

pub with_true-includes : (a : Assignment) (l : ℤ) → is_unset (value_of a l) ≡ true → Includes (with_true a l) a
unfolding with_true
with_true-includes a l u = record { at = λ m v h. value-kept a (place l) (is_positive l) m v (unset-is a l u) h }

-- a sign that agrees with a value is that value
pub agree-is : (p x : Bool) → agree p x ≡ true → x ≡ p
agree-is true x h = h
agree-is false true h = absurd (cc)
agree-is false false h = refl

back_false : (p x : Bool) → agree p x ≡ false → x ≡ not p
back_false true x h = h
back_false false true h = refl
back_false false false h = absurd (cc)

true_at : (w : List Bool) (i j : ℕ) (p q v : Bool) → j ≡ i → v ≡ agree q p → agree p (get_or w i false) ≡ true → agree q (get_or w j false) ≡ v
true_at w i j p q v e f h = rw e (rw (agree-is p (get_or w i false) h) (sym f))

false_at : (w : List Bool) (i j : ℕ) (p q v : Bool) → j ≡ i → v ≡ agree q (not p) → agree p (get_or w i false) ≡ false → agree q (get_or w j false) ≡ v
false_at w i j p q v e f h = rw e (rw (back_false p (get_or w i false) h) (sym f))

pub with_true-agrees : (w : List Bool) (a : Assignment) (l : ℤ) → Agrees w a → holds w l ≡ true → Agrees w (with_true a l)
unfolding with_true holds
with_true-agrees w a l s h = record {
  at = λ m v e. elim (value-set a (place l) (is_positive l) m v e) [
    | inl before ↦ s.at m v before
    | inr now ↦ true_at w (place l) (place m) (is_positive l) (is_positive m) v now.0 now.1 h
  ];
}

pub with_false-agrees : (w : List Bool) (a : Assignment) (l : ℤ) → Agrees w a → holds w l ≡ false → Agrees w (with_false a l)
unfolding with_false holds
with_false-agrees w a l s h = record {
  at = λ m v e. elim (value-set a (place l) (not (is_positive l)) m v e) [
    | inl before ↦ s.at m v before
    | inr now ↦ false_at w (place l) (place m) (is_positive l) (is_positive m) v now.0 now.1 h
  ];
}
