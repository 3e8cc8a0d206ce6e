-- Proper entries, as far as the first one at fault.
use Rattle.std.proofs.Common.{◌≡◌, ◌≢◌, ℕ, ◌+◌, ◌<◌, ℤ, pos, negsuc, ◌≤ℤ◌, of_z, Bool, false, T, List, [], ◌∷◌, All, length, take, get_or, slice_get, refl, sym, ap, subst, ◌∙◌, arith}
use Rattle.std.specs.Prelude.{Any, IsTrue}
use Rattle.std.proofs.lemmas.Int.{ints}
use mir.Syntax.{w128}
use Rattle.std.proofs.Math.ListN.{get_or-map as read-map}
use Rattle.std.proofs.lemmas.List.{length-map, map-append, get_or-map, get_or_default, take-map, take_more}
use Rattle.std.proofs.lemmas.List.Elements.{All-push}
use Rattle.std.proofs.lemmas.List.Quantifiers.{all_pairs_push}
use Rattle.std.proofs.lemmas.Option.{slice_get-get_or, slice_get-map}
use Rattle.ps_meaning.specs.Distribution.{Entry}
use Rattle.ps_answer.specs.declared.answer.Weighted.{Weighted}
use Rattle.ps_claims.specs.Certificates.{entry_of, entries}
use Rattle.ps_claims.specs.Claims.{AreProperEntries, IsWeightless, IsRepeated}

-- what a test that fails would tell doesn't hold
pub refuted : {P : Type 0} (b : Bool) → b ≡ false → (P → IsTrue b) → ¬ P
refuted b fails passes p = subst (λ (x : Bool). T x) (sym (passes p) ∙ fails) tt

pub zero_from : (z : ℤ) → pos 0 ≤ℤ z → of_z w128 z ≡ 0 → z ≡ pos 0
zero_from (pos n) low e = ap pos e
zero_from (negsuc n) low e = absurd (omega (arith, ints))

back : Entry → Weighted
back e = record { weight = e.weight; world = e.world }

-- what some world has, its entry has
pub any_entry : (P : Entry → Type 0) (ws : List Weighted) → Any (λ w. P (entry_of w)) ws → Any P (entries ws)
any_entry P ws (k, w, lt, is, holds) = (k, entry_of w, rw length-map lt, read-map entry_of ws k w ∙ ap entry_of is, holds)

-- a fact of each world that isn't otherwise for any
pub each_entry : (P Q : Entry → Type 0) (ws : List Weighted) → ((e : Entry) → ¬ Q e → P e) → ¬ Any (λ w. Q (entry_of w)) ws → All P (entries ws)
each_entry P Q ws else none k e lt =
    let lt' : k < length ws = rw length-map at lt in
    let w = get_or ws k (back e) in
    rw (get_or-map entry_of ws k (back e) e lt') (else (entry_of w) (λ q. none (k, w, lt', get_or_default ws k w (back e) lt', q)))

pub proper-more : (ws : List Weighted) (i : ℕ) (w : Weighted) → i < length ws → AreProperEntries (entries (take i ws)) → (get_or ws i w).weight ≢ pos 0
    → ¬ Any (λ before. before.world ≡ (get_or ws i w).world) (take i ws) → AreProperEntries (entries (take (i + 1) ws))
proper-more ws i w lt proper weighed new =
    let e = entry_of (get_or ws i w) in
    let others : All (λ before. before.world ≢ e.world) (entries (take i ws)) = each_entry (λ before. before.world ≢ e.world) (λ before. before.world ≡ e.world) (take i ws) (λ _ other. other) new in
    rw (take_more ws i w lt, map-append entry_of (take i ws) (get_or ws i w ∷ [])) (record {
      weighed = All-push (λ e. e.weight ≢ pos 0) (entries (take i ws)) e proper.weighed weighed;
      different = all_pairs_push (λ e e'. e.world ≢ e'.world) (entries (take i ws)) e proper.different others;
    })

entry_at : (ws : List Weighted) (i : ℕ) (w : Weighted) → i < length ws → slice_get (entries ws) i ≡ slice_get (entry_of (get_or ws i w) ∷ []) 0
entry_at ws i w lt = slice_get-map entry_of ws i ∙ rw (slice_get-get_or ws i w lt) refl

pub weightless_at : (ws : List Weighted) (i : ℕ) (w : Weighted) → i < length ws → AreProperEntries (entries (take i ws)) → (get_or ws i w).weight ≡ pos 0 → IsWeightless (entries ws) (i + 1)
weightless_at ws i w lt proper none = (i, refl, rw (take-map entry_of i ws) proper, rw (entry_at ws i w lt) none)

pub repeated_at : (ws : List Weighted) (i : ℕ) (w : Weighted) → i < length ws → AreProperEntries (entries (take i ws)) → (get_or ws i w).weight ≢ pos 0
    → Any (λ before. before.world ≡ (get_or ws i w).world) (take i ws) → IsRepeated (entries ws) (i + 1)
repeated_at ws i w lt proper weighed twice =
    let stood : Any (λ before. before.world ≡ (get_or ws i w).world) (take i (entries ws)) = rw (take-map entry_of i ws) (any_entry (λ before. before.world ≡ (get_or ws i w).world) (take i ws) twice) in
    (i, refl, rw (take-map entry_of i ws) proper, rw (entry_at ws i w lt) (weighed, stood))
