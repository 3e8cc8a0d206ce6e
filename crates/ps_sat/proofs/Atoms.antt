-- Variables of atoms, one by one.
use Rattle.std.proofs.Common.{◌≡◌, ℕ, zero, suc, ◌+◌, ◌<◌, ◌≤◌, Bool, true, false, ◌&&◌, Option, Some, None, get_or, arith, refl, sym, ap, ◌∙◌, inl, inr, ◌⊎◌}
use Rattle.std.specs.Prelude.{nat_lt, unsigned_abs, ℤ, IfSome}
use Rattle.std.proofs.lemmas.Bool.{cases_lt, and_parts, ltb-true}
use Rattle.ps_pb.specs.Assignments.{Assignment, place, with_sign, value_of, value_at, is_unset, literal_at, is_positive}
use Rattle.ps_pb.proofs.Clauses.{place_of}
use Rattle.ps_clause.specs.Forms.{Form, is_atom_variable}
use Rattle.ps_clause.specs.Decided.{AtomsAreSet}
use Rattle.ps_learn.specs.Trails.{IsFresh}
use Rattle.ps_sat.specs.Choices.{is_open_atom, IsOpenAt, AtomsTo}

pub atoms_none : (f : Form) (a : Assignment) → AtomsTo f a 0
atoms_none f a = record { at = by_var }
  where
    by_var : (var : ℕ) → var ≤ 0 → is_atom_variable f var ≡ true → is_unset (value_at a var) ≡ false
    by_var zero h e = absurd (cc)
    by_var (suc p) h e = absurd (omega (arith, h))

second_false : (x y : Bool) → x && y ≡ false → x ≡ true → y ≡ false
second_false true y h e = h
second_false false y h e = absurd (cc)

-- a variable that may not be decided on
pub atoms_skip : (f : Form) (a : Assignment) (n : ℕ) (b : Bool) → AtomsTo f a n → b ≡ is_open_atom f a (n + 1) → b ≡ false → AtomsTo f a (n + 1)
atoms_skip f a n b h e q = record {
  at = λ var le atom. elim (cases_lt var (n + 1)) [
    | inl lt ↦ h.at var (omega (arith, lt)) atom
    | inr ge ↦ (let same : var ≡ n + 1 = omega (arith, le, ge) in
        rw same (second_false (is_atom_variable f (n + 1)) (is_unset (value_at a (n + 1))) (sym e ∙ q) (rw same at atom)))
  ];
}

atom_within : (f : Form) (var : ℕ) → is_atom_variable f var ≡ true → var ≤ f.variables
atom_within f zero h = omega arith
atom_within f (suc p) h = let b = ltb-true p f.variables (and_parts (nat_lt p f.variables) _ h).0 in omega (arith, b)

-- none may be decided on
pub all_set : (f : Form) (a : Assignment) (n : ℕ) → AtomsTo f a n → f.variables ≤ n → AtomsAreSet f a
all_set f a n g m = record { at = λ var atom. g.at var (omega (arith, m, atom_within f var atom)) atom }

-- one may be
pub open_here : (f : Form) (a : Assignment) (n : ℕ) (b : Bool) (l : ℤ) → n < f.variables → b ≡ is_open_atom f a (n + 1) → b ≡ true → l ≡ literal_at n true → IsOpenAt f a (place l)
open_here f a n b l lt e q at = rw (at, place_of n true) (lt, sym e ∙ q)

pub open_atom : (f : Form) (a : Assignment) (n : ℕ) (b : Bool) (l : ℤ) → n ≡ unsigned_abs l → 1 ≤ n → b ≡ is_open_atom f a n → b ≡ true → IsOpenAt f a (place l)
open_atom f a n b l at some e q =
    let next : place l + 1 ≡ n = omega (arith, at, some) in
    let fact : is_open_atom f a n ≡ true = sym e ∙ q in
    let atom = (and_parts (is_atom_variable f n) (is_unset (value_at a n)) fact).0 in
    (omega (arith, next, atom_within f n atom), rw next fact)

-- the better of two
pub better_open : (f : Form) (a : Assignment) (best : Option ℤ) (l r : ℤ) → IfSome best (λ x. IsOpenAt f a (place x)) → IsOpenAt f a (place l) → (r ≡ l) ⊎ (best ≡ Some r) → IsOpenAt f a (place r)
better_open f a best l r h k (inl e) = rw e k
better_open f a best l r h k (inr e) = rw e at h

unset_both : (s : Bool) (o : Option Bool) → is_unset o ≡ true → is_unset (with_sign s o) ≡ true
unset_both s None h = refl
unset_both s (Some b) h = absurd (cc)

value_here : (a : Assignment) (p : ℕ) → value_at a (p + 1) ≡ get_or a p None
unfolding value_at
value_here a p = let e : p + 1 ≡ suc p = omega arith in rw e refl

some_of : (p : ℕ) (s : Bool) → 1 ≤ unsigned_abs (literal_at p s)
some_of p true = omega arith
some_of p false = omega arith

lit_unset : (a : Assignment) (p : ℕ) (s : Bool) → is_unset (get_or a p None) ≡ true → is_unset (value_of a (literal_at p s)) ≡ true
unfolding value_of
lit_unset a p s h = rw (place_of p s) (unset_both (is_positive (literal_at p s)) (get_or a p None) h)

number_of : (p : ℕ) (s : Bool) → unsigned_abs (literal_at p s) ≡ p + 1
number_of p true = omega arith
number_of p false = omega arith

-- the literal of what was chosen
pub open_decision : (f : Form) (a : Assignment) (p : ℕ) (s : Bool) (l : ℤ) → IsOpenAt f a p → l ≡ literal_at p s → IsFresh f.variables a l × (is_atom_variable f (unsigned_abs l) ≡ true)
open_decision f a p s l g q =
    let two = and_parts (is_atom_variable f (p + 1)) (is_unset (value_at a (p + 1))) g.1 in
    rw q (
      record {
        some = some_of p s;
        within = omega (arith, g.0, place_of p s);
        unset = lit_unset a p s (ap is_unset (sym (value_here a p)) ∙ two.1);
      },
      ap (is_atom_variable f) (number_of p s) ∙ two.0,
    )
