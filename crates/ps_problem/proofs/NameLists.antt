-- Names as they stand in a set of texts.
use Rattle.std.proofs.Common.{◌≡◌, ℕ, Bool, true, false, ◌||◌, List, [], ◌∷◌, ◌++◌, get_or, slice_get, position, map, Some, refl, sym, ap, ◌∙◌, if◌then◌else◌}
use Rattle.std.specs.List.{list_any}
use Rattle.std.specs.Option.{option_map}
use Rattle.std.proofs.lemmas.Slice.Eq.{bytes_eq-Decides}
use Rattle.std.proofs.lemmas.List.{map-append}
use Rattle.std.proofs.lemmas.List.Quantifiers.{position-Some}
use Rattle.std.proofs.lemmas.Option.{slice_get-map, slice_get-get_or, none-some}
use Rattle.ps_meaning.specs.Statements.{Name}
use Rattle.ps_problem.specs.Numbering.{same_name, with_new}
use Rattle.indexmap.specs.IndexSet.{insert_key}

pub same_name-true : (a b : Name) → same_name a b ≡ true → a ≡ b
same_name-true a b e = (bytes_eq-Decides a b).0 e

pub same_name-refl : (a : Name) → same_name a a ≡ true
same_name-refl a = (bytes_eq-Decides a a).1 refl

pub any-map : {X Y : Type 0} (p : Y → Bool) (f : X → Y) (xs : List X) → list_any p (map f xs) ≡ list_any (λ x. p (f x)) xs
any-map p f [] = refl
any-map p f (x ∷ xs) = ap (λ b. p (f x) || b) (any-map p f xs)

module _ {K : Type 0} (f : K → Name) where
  -- the place that is found has the name
  pub name_found : (ks : List K) (t : Name) (i : ℕ) → position (λ k. same_name t (f k)) ks ≡ Some i → slice_get (map f ks) i ≡ Some t
  name_found [] t i e = absurd (none-some i e)
  name_found (k ∷ ks) t i e =
      let p = position-Some (λ x. same_name t (f x)) (k ∷ ks) i k e in
      slice_get-map f (k ∷ ks) i ∙ ap (option_map f) (slice_get-get_or (k ∷ ks) i k p.0) ∙ ap Some (sym (same_name-true t (f (get_or (k ∷ ks) i k)) p.1))

  -- a name that is there changes nothing
  pub name_there : (ks : List K) (t : Name) → list_any (λ k. same_name t (f k)) ks ≡ true → map f ks ≡ with_new same_name (map f ks) t
  name_there ks t e = ap (λ b. if b then map f ks else (map f ks ++ t ∷ [])) (sym (any-map (same_name t) f ks ∙ e))

  -- a key is inserted where its name is new
  pub name_added : (ks : List K) (k : K) (t : Name) → f k ≡ t → map f (insert_key (λ a b. same_name (f a) (f b)) ks k) ≡ with_new same_name (map f ks) t
  name_added ks k t e = by (list_any (λ b. same_name (f k) (f b)) ks) refl ∙ ap (with_new same_name (map f ks)) e
    where
      by : (b : Bool) → list_any (λ b. same_name (f k) (f b)) ks ≡ b → map f (insert_key (λ a b. same_name (f a) (f b)) ks k) ≡ with_new same_name (map f ks) (f k)
      by true e = ap (λ b. map f (if b then ks else (ks ++ k ∷ []))) e ∙ name_there ks (f k) e
      by false e = ap (λ b. map f (if b then ks else (ks ++ k ∷ []))) e ∙ map-append f ks (k ∷ [])
          ∙ ap (λ b. if b then map f ks else (map f ks ++ f k ∷ [])) (sym (any-map (same_name (f k)) f ks ∙ e))

  -- the place of an inserted key has its name
  pub name_placed : (ks : List K) (i : ℕ) (k v : K) (t : Name) → slice_get ks i ≡ Some k → same_name (f v) (f k) ≡ true → f v ≡ t → slice_get (map f ks) i ≡ Some t
  name_placed ks i k v t at same e = slice_get-map f ks i ∙ ap (option_map f) at ∙ ap Some (sym (same_name-true (f v) (f k) same) ∙ e)
