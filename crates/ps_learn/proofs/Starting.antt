-- The literals of a learned clause, all set false: the kept entries of a trail.
use Rattle.std.proofs.Common.{◌≡◌, ℕ, suc, ◌+◌, ◌<◌, ℤ, neg_ℤ, true, false, ◌&&◌, Some, List, [], ◌∷◌, ◌++◌, length, take, arith, refl, sym, ap, ◌∙◌, inl, inr}
use Rattle.std.specs.Prelude.{nat_lt, slice_get, slice_index_or}
use Rattle.std.proofs.lemmas.List.Elements.{All-nil, All-push, Contains-push, Contains-push_cases, Contains-append_left}
use Rattle.std.proofs.lemmas.List.Sums.{fold-append}
use Rattle.std.proofs.lemmas.Bool.{cases_lt, and_from, lt-ltb}
use Rattle.ps_pb.specs.Assignments.{Assignment, place, value_of, with_true, with_false, is_unset, all_unset}
use Rattle.ps_pb.specs.Steps.{and_false}
use Rattle.ps_learn.specs.Trails.{TrailEntry, IsLit, values_of, AreFresh}
use Rattle.ps_learn.specs.Causes.{Marks, is_marked}
use Rattle.ps_learn.specs.Starting.{Started}
use Rattle.ps_pb.proofs.Values.{includes-refl, includes-trans, with_true-includes}
use Rattle.ps_pb.proofs.Setting.{length-with_true, value-true, includes-both, unset-below, unset-both, place-opposite, size-opposite, opposite-false}
use Rattle.ps_learn.proofs.Entries.{values-more, length-values}
use Rattle.ps_pb.proofs.Short.{length-unset}

pub started-none : (v : ℕ) (es : List TrailEntry) (kept : Marks) → Started v es kept 0 [] (all_unset v)
unfolding values_of
started-none v es kept = record { lits_false = refl; includes = includes-refl (all_unset v); kept_true = λ j e h. absurd (omega arith); listed = λ j e h. absurd (omega arith); only_kept = λ l h. absurd (let lt = h.1 in omega (arith, lt)); len = length-unset v; few = omega arith; literals = All-nil (IsLit v) }

pub started-skip : (v : ℕ) (es : List TrailEntry) (kept : Marks) (i : ℕ) (lits : List ℤ) (a : Assignment) (e : TrailEntry) → AreFresh v es → Started v es kept i lits a → slice_get es i ≡ Some e → is_marked kept e.lit ≡ false → Started v es kept (i + 1) lits a
started-skip v es kept i lits a e f s at non = record {
  lits_false = s.lits_false;
  includes = rw (values-more v es i e at) (includes-trans _ _ _ (with_true-includes (values_of v (take i es)) e.lit (f.at i e at).unset) s.includes);
  kept_true = λ j d h k n. elim (cases_lt j i) [
    | inl lt ↦ s.kept_true j d lt k n
    | inr ge ↦ (let q : j ≡ i = omega arith in let r : Some d ≡ Some e = sym k ∙ ap (slice_get es) q ∙ at in let z : d ≡ e = cc r in absurd (cc (non, n, ap (λ (x : TrailEntry). is_marked kept x.lit) z)))
  ];
  listed = λ j d h k n. elim (cases_lt j i) [
    | inl lt ↦ s.listed j d lt k n
    | inr ge ↦ (let q : j ≡ i = omega arith in let r : Some d ≡ Some e = sym k ∙ ap (slice_get es) q ∙ at in let z : d ≡ e = cc r in absurd (cc (non, n, ap (λ (x : TrailEntry). is_marked kept x.lit) z)))
  ];
  only_kept = s.only_kept;
  len = s.len;
  few = omega (arith, s.few);
  literals = s.literals;
}

pub started-keep : (v : ℕ) (es : List TrailEntry) (kept : Marks) (i : ℕ) (lits : List ℤ) (a : Assignment) (e : TrailEntry) → AreFresh v es → Started v es kept i lits a → slice_get es i ≡ Some e → is_marked kept e.lit ≡ true → Started v es kept (i + 1) (lits ++ neg_ℤ e.lit ∷ []) (with_false a (neg_ℤ e.lit))
started-keep v es kept i lits a e f s at own =
    let fresh = f.at i e at in
    let unset : is_unset (value_of a e.lit) ≡ true = unset-below (values_of v (take i es)) a e.lit s.includes fresh.unset in
    let within : place e.lit < length a = rw s.len fresh.within in
    let same : with_false a (neg_ℤ e.lit) ≡ with_true a e.lit = opposite-false a e.lit fresh.some in
    let test : (nat_lt (place (neg_ℤ e.lit)) (length a) && is_unset (value_of a (neg_ℤ e.lit))) ≡ true = and_from _ _ (lt-ltb _ _ (rw (place-opposite e.lit) within)) (unset-both a e.lit unset) in
    record {
      lits_false = fold-append and_false (Some (all_unset v)) lits (neg_ℤ e.lit ∷ []) ∙ ap (λ o. and_false o (neg_ℤ e.lit)) s.lits_false ∙ rw test refl;
      includes = rw (values-more v es i e at, same) (includes-both (values_of v (take i es)) a e.lit (rw (length-values v (take i es)) fresh.within) s.includes fresh.unset);
      kept_true = λ j d h k n. elim (cases_lt j i) [
        | inl lt ↦ rw same ((with_true-includes a e.lit unset).at d.lit true (s.kept_true j d lt k n))
        | inr ge ↦ (let q : j ≡ i = omega arith in let r : Some d ≡ Some e = sym k ∙ ap (slice_get es) q ∙ at in let z : d ≡ e = cc r in rw (same, z) (value-true a e.lit within))
      ];
      listed = λ j d h k n. elim (cases_lt j i) [
        | inl lt ↦ Contains-append_left lits (neg_ℤ e.lit ∷ []) (neg_ℤ d.lit) (s.listed j d lt k n)
        | inr ge ↦ (let q : j ≡ i = omega arith in let r : Some d ≡ Some e = sym k ∙ ap (slice_get es) q ∙ at in let z : d ≡ e = cc r in rw z (Contains-push lits (neg_ℤ e.lit)))
      ];
      only_kept = λ l h. elim (Contains-push_cases lits (neg_ℤ e.lit) (neg_ℤ l) h) [
        | inl old ↦ s.only_kept l old
        | inr here ↦ ap (λ p. slice_index_or kept p false) (sym (place-opposite l) ∙ ap place (sym here) ∙ place-opposite e.lit) ∙ own
      ];
      len = ap length same ∙ length-with_true a e.lit ∙ s.len;
      literals = All-push (IsLit v) lits (neg_ℤ e.lit) s.literals (let q = size-opposite e.lit in (omega (arith, q, fresh.some), omega (arith, q, fresh.within)));
      few = (let m = length-append-one lits (neg_ℤ e.lit) in omega (arith, s.few, m));
    }
  where
    length-append-one : (ls : List ℤ) (l : ℤ) → length (ls ++ l ∷ []) ≡ suc (length ls)
    length-append-one [] l = refl
    length-append-one (x ∷ ls) l = ap suc (length-append-one ls l)
