-- Worlds as keys of a set, and one more world.
use Rattle.std.proofs.Common.{◌≡◌, ◌≢◌, ◌⊎◌, inl, inr, ◌↔◌, ℕ, zero, suc, ◌+◌, ◌<◌, ◌≤◌, Bool, true, false, List, [], ◌∷◌, ◌++◌, length, get_or, slice_get, position, Some, Err, IsErrOf, Contains, refl, sym, ap, ◌∙◌, true≢false, if◌then◌else◌, arith}
use Rattle.std.specs.Cmp.{booleans_Decides, bool_eq_equiv}
use Rattle.std.specs.Cmp.Lexicographic.{pointwise, lists_equiv}
use Rattle.std.specs.List.{list_any}
use Rattle.std.proofs.Math.Bool.{beq}
use Rattle.std.proofs.lemmas.Bool.{cases_lt, cases_eq}
use Rattle.std.proofs.lemmas.Slice.Eq.{slice_eq-Decides}
use Rattle.std.proofs.lemmas.List.{get_or_default, length_push}
use Rattle.std.proofs.lemmas.List.Quantifiers.{position-Some, all_pairs_push}
use Rattle.std.proofs.lemmas.Map.Views.{list_any-from_Contains}
use Rattle.std.proofs.lemmas.Option.{none-some, slice_get-get_or, slice_get_within, get_or_from_slice_get}
use Rattle.indexmap.specs.IndexSet.{insert_key}
use Rattle.ps_table.specs.declared.pool.PoolError.{PoolError}
use Rattle.ps_table.specs.declared.pool.PoolError.TheVariants.{Present}
use Rattle.ps_table.specs.Worlds.{AreDifferent, world_of}
use Rattle.ps_table.specs.declared.pool.TheConstants.{MOST_WORLDS}

-- `==` of two worlds
abbrev pub world_eq : List Bool → List Bool → Bool
world_eq = pointwise beq

-- equal worlds are the same list
same_world : (x y : List Bool) → world_eq x y ≡ true → x ≡ y
same_world x y e = (slice_eq-Decides booleans_Decides x y (world_eq x y) refl).0 e

-- the place that is found has the world
placed : (ws : List (List Bool)) (w : List Bool) (i : ℕ) → Some i ≡ position (world_eq w) ws → slice_get ws i ≡ Some w
placed ws w i e =
    let f = position-Some (world_eq w) ws i [] (sym e) in
    slice_get-get_or ws i [] f.0 ∙ ap Some (sym (same_world w (get_or ws i []) f.1))

-- a world has one place
one_place : (ws : List (List Bool)) (w : List Bool) (i j : ℕ) → AreDifferent ws → slice_get ws i ≡ Some w → slice_get ws j ≡ Some w → i ≡ j
one_place ws w i j once a b = by_order (cases_eq i j)
  where
    same : get_or ws i [] ≡ get_or ws j []
    same = get_or_from_slice_get ws i w [] a ∙ sym (get_or_from_slice_get ws j w [] b)

    apart : (i < j) ⊎ (j ≤ i) → i ≢ j → i ≡ j
    apart (inl lt) ne = absurd (once i j [] lt (slice_get_within ws j w b) same)
    apart (inr le) ne = absurd (once j i [] (omega arith) (slice_get_within ws i w a) (sym same))

    by_order : (i ≡ j) ⊎ (i ≢ j) → i ≡ j
    by_order (inl eq) = eq
    by_order (inr ne) = apart (cases_lt i j) ne

-- a world that isn't found isn't there
absent : (ws : List (List Bool)) (w : List Bool) → false ≡ list_any (world_eq w) ws → Contains ws w → ⊥
absent ws w e h = true≢false (sym (e ∙ list_any-from_Contains (lists_equiv bool_eq_equiv) w ws h))

-- a world that isn't found has no number
pub no_number : (ws : List (List Bool)) (w : List Bool) (at : ℕ) → false ≡ list_any (world_eq w) ws → world_of ws at ≡ Some w → ⊥
no_number ws w zero e h = none-some w h
no_number ws w (suc i) e h = absent ws w e (i, slice_get_within ws i w h, get_or_from_slice_get ws i w w h)

-- a world that is found has the number after its place, and no other
pub one_number : (ws : List (List Bool)) (w : List Bool) (i at : ℕ) → AreDifferent ws → Some i ≡ position (world_eq w) ws
    → IsErrOf {T = ℕ} {E = PoolError} (Err (Present (i + 1))) (Present at) ↔ (world_of ws at ≡ Some w)
one_number ws w i zero once e =
    ((λ f. let n : i + 1 ≡ 0 = cc in absurd (omega arith)), (λ h. absurd (none-some w h)))
one_number ws w i (suc at) once e = (
  (λ f. let n : i + 1 ≡ suc at = cc in let m : i ≡ at = omega arith in rw (← m) (placed ws w i e)),
  (λ h. let m = one_place ws w i at once (placed ws w i e) h in let n : i + 1 ≡ suc at = omega arith in rw n refl),
)

-- the list after a look-up that didn't find the world
grown : (ws new : List (List Bool)) (w : List Bool) → false ≡ list_any (world_eq w) ws → new ≡ insert_key world_eq ws w → new ≡ ws ++ w ∷ []
grown ws new w e k = k ∙ ap (λ b. if b then ws else ws ++ w ∷ []) (sym e)

-- one more world that wasn't found stands once
pub added : (ws new : List (List Bool)) (w : List Bool) → AreDifferent ws → length ws < MOST_WORLDS → false ≡ list_any (world_eq w) ws
    → new ≡ insert_key world_eq ws w → AreDifferent new × (length new ≤ MOST_WORLDS)
added ws new w once room e k =
    rw (grown ws new w e k) (
      all_pairs_push (λ u v. u ≢ v) ws w once (λ i d lt same. absent ws w e (i, lt, (get_or_default ws i w d lt ∙ same))),
      omega (arith, length_push ws w),
    )
