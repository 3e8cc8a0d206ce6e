-- Bytes of which spaces stand for some.
use Rattle.std.proofs.Common.{◌≡◌, ◌<◌, ◌+◌, ℕ, List, [], ◌∷◌, ◌++◌, length, take, get_or, inl, inr, refl, ap, suc, ◌∙◌, sym, subst, arith}
use Rattle.std.specs.Prelude.{All, Some, slice_get}
use Rattle.std.proofs.lemmas.List.{take_more, get_or_append_left, length-append}
use Rattle.std.proofs.lemmas.List.Elements.{All-push, All-cons, All-nil}
use Rattle.std.proofs.lemmas.Option.{get_or_from_slice_get, slice_get-get_or, slice_get_within}
use Rattle.ps_hints.specs.declared.refusals.Refusal.{Refusal}
use Rattle.ps_hints.specs.Refusals.{IsKeptOrBlank, AreBlanked, IsRefusedSo, IsToldOf}

-- all stand as they are
pub same : (bytes : List ℕ) → AreBlanked bytes bytes
unfolding AreBlanked
same [] = tt
same (b ∷ bytes) = (inl refl, same bytes)

-- one byte more
pub push : (old new : List ℕ) (b c : ℕ) → AreBlanked old new → IsKeptOrBlank b c → AreBlanked (old ++ b ∷ []) (new ++ c ∷ [])
unfolding AreBlanked
push [] [] b c are is = (is, tt)
push (a ∷ old) (d ∷ new) b c (first, are) is = (first, push old new b c are is)
push (a ∷ old) [] b c are is = absurd are
push [] (d ∷ new) b c are is = absurd are

-- one byte more of a text
pub more : (text left : List ℕ) (i c : ℕ) → i < length text → AreBlanked (take i text) left → IsKeptOrBlank (get_or text i 0) c
    → AreBlanked (take (i + 1) text) (left ++ c ∷ [])
more text left i c lt are is = subst (λ bytes. AreBlanked bytes (left ++ c ∷ [])) (sym (take_more text i 0 lt)) (push (take i text) left (get_or text i 0) c are is)

-- a byte for which a space stands, and then another
kept : (a b c : ℕ) → IsKeptOrBlank a b → IsKeptOrBlank b c → IsKeptOrBlank a c
kept a b c is (inl e) = subst (λ x. IsKeptOrBlank a x) (sym e) is
kept a b c (inl e) (inr (blank, other)) = inr (blank, λ line. other (e ∙ line))
kept a b c (inr (before, other)) (inr (blank, more)) = inr (blank, other)

-- spaces stand for some, and then for more
pub further : (a b c : List ℕ) → AreBlanked a b → AreBlanked b c → AreBlanked a c
unfolding AreBlanked
further [] [] [] are more = tt
further (x ∷ a) (y ∷ b) (z ∷ c) (first, are) (then, more) = (kept x y z first then, further a b c are more)
further [] (y ∷ b) c are more = absurd are
further (x ∷ a) [] c are more = absurd are
further [] [] (z ∷ c) are more = absurd more
further (x ∷ a) (y ∷ b) [] are more = absurd more

-- there are as many
pub as_many : (old new : List ℕ) → AreBlanked old new → length new ≡ length old
unfolding AreBlanked
as_many [] [] are = refl
as_many (b ∷ old) (c ∷ new) (first, are) = ap suc (as_many old new are)
as_many [] (c ∷ new) are = absurd are
as_many (b ∷ old) [] are = absurd are

-- a refusal of the bytes themselves is told
pub told_first : (bytes : List ℕ) (r : Refusal) → IsRefusedSo bytes r → All (IsToldOf bytes) (r ∷ [])
unfolding IsToldOf
told_first bytes r is = All-cons (IsToldOf bytes) r [] (bytes, same bytes, is) (All-nil (IsToldOf bytes))

-- a refusal where spaces stand for some is told too
pub told_more : (bytes left : List ℕ) (told : List Refusal) (r : Refusal) → All (IsToldOf bytes) told → AreBlanked bytes left → IsRefusedSo left r
    → All (IsToldOf bytes) (told ++ r ∷ [])
unfolding IsToldOf
told_more bytes left told r all are is = All-push (IsToldOf bytes) told r all (left, are, is)

-- the first stays the first
pub first_stays : (told : List Refusal) (first r : Refusal) → slice_get told 0 ≡ Some first → slice_get (told ++ r ∷ []) 0 ≡ Some first
first_stays told first r is =
    let there = slice_get_within told 0 first is in
    let more = length-append told (r ∷ []) in
    slice_get-get_or (told ++ r ∷ []) 0 first (omega (arith, there, more)) ∙ ap Some (get_or_append_left told (r ∷ []) first 0 there ∙ get_or_from_slice_get told 0 first first is)
