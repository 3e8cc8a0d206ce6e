-- Ground formulas keep truth.
use Rattle.std.proofs.Common.{◌≡◌, ◌<◌, Bool, true, false, not, ◌&&◌, ◌||◌, List, [], ◌∷◌, length, map, All, refl, ap, ◌∙◌}
use Rattle.std.specs.Prelude.{Contains}
use Rattle.std.specs.List.{list_any, list_all, fold}
use Rattle.std.proofs.Math.ListN.{get_or-map}
use Rattle.std.proofs.lemmas.List.{length-map, get_or_default}
use Rattle.std.proofs.lemmas.List.Elements.{All-nil, All-cons, All-head, All-tail, All-weaker, All-contains_itself}
use Rattle.ps_meaning.specs.Formula.{Formula, World, is_true, agree}
use Rattle.ps_meaning.specs.Formula as formula
use Rattle.ps_meaning.specs.Statements.{Name}
use Rattle.ps_problem.specs.Numbering.{same_name, place_in, numbered}
use Rattle.ps_problem.proofs.NameLists.{same_name-true, same_name-refl}
use Rattle.ps_problem.proofs.Lists.{place-below, place-get}
use Rattle.ps_first_order.specs.FirstOrder.{FirstOrder, Signature, IsSignature, IsFormula, Structure, Assignment, assigned, constant_of, is_true_under, IsGroundAtom}
use Rattle.ps_first_order.specs.FirstOrder as first_order
use Rattle.ps_ground.specs.Grounding.{atom_name, conjunction, disjunction, ground_under}
use Rattle.ps_ground.specs.Images.{value_named, world_of}
use Rattle.ps_ground.proofs.Atoms.{EachAtom, conjunction-each, disjunction-each, value-ground, StandFor, stand-more, ground-atom}

and_assoc : (a b c : Bool) → ((a && b) && c) ≡ (a && (b && c))
and_assoc true b c = refl
and_assoc false b c = refl

or_assoc : (a b c : Bool) → ((a || b) || c) ≡ (a || (b || c))
or_assoc true b c = refl
or_assoc false b c = refl

and-end : (a : Bool) → a ≡ (a && true)
and-end true = refl
and-end false = refl

or-end : (a : Bool) → a ≡ (a || false)
or-end true = refl
or-end false = refl

-- two lists of the same tests
module _ {X Y : Type 0} (g : X → Y) (t : Y → Bool) (q : X → Bool) where
  all-same : (xs : List X) → All (λ x. t (g x) ≡ q x) xs → list_all t (map g xs) ≡ list_all q xs
  all-same [] h = refl
  all-same (x ∷ xs) h = rw (All-head (λ x. t (g x) ≡ q x) x xs h, all-same xs (All-tail (λ x. t (g x) ≡ q x) x xs h)) refl

  any-same : (xs : List X) → All (λ x. t (g x) ≡ q x) xs → list_any t (map g xs) ≡ list_any q xs
  any-same [] h = refl
  any-same (x ∷ xs) h = rw (All-head (λ x. t (g x) ≡ q x) x xs h, any-same xs (All-tail (λ x. t (g x) ≡ q x) x xs h)) refl

map-all : {X Y : Type 0} (P : Y → Type 0) (g : X → Y) (xs : List X) → All P (map g xs) → All (λ x. P (g x)) xs
map-all P g [] h = All-nil (λ x. P (g x))
map-all P g (x ∷ xs) h = All-cons (λ x. P (g x)) x xs (All-head P (g x) (map g xs) h) (map-all P g xs (All-tail P (g x) (map g xs) h))

-- a property beside another
all-both : {X : Type 0} (P Q : X → Type 0) (xs : List X) → All P xs → All Q xs → All (λ x. P x × Q x) xs
all-both P Q xs h k = λ i d lt. (h i d lt, k i d lt)

-- the name is among these
abbrev pub IsAmongNames : List Name → Name → Type 0
IsAmongNames names n = list_any (same_name n) names ≡ true

module _ (names : List Name) (w : World) where
  -- whether a formula by name is true
  abbrev pub true_by_name : Formula Name → Bool
  true_by_name f = is_true (numbered names f) w

  true-and : (fs : List (Formula Name)) (g : Formula Name) → true_by_name (fold formula.And g fs) ≡ (true_by_name g && list_all true_by_name fs)
  true-and [] g = and-end (true_by_name g)
  true-and (f ∷ fs) g = true-and fs (formula.And g f) ∙ and_assoc (true_by_name g) (true_by_name f) (list_all true_by_name fs)

  true-or : (fs : List (Formula Name)) (g : Formula Name) → true_by_name (fold formula.Or g fs) ≡ (true_by_name g || list_any true_by_name fs)
  true-or [] g = or-end (true_by_name g)
  true-or (f ∷ fs) g = true-or fs (formula.Or g f) ∙ or_assoc (true_by_name g) (true_by_name f) (list_any true_by_name fs)

  true-conjunction : (fs : List (Formula Name)) → true_by_name (conjunction fs) ≡ list_all true_by_name fs
  true-conjunction [] = refl
  true-conjunction (f ∷ fs) = true-and fs f

  true-disjunction : (fs : List (Formula Name)) → true_by_name (disjunction fs) ≡ list_any true_by_name fs
  true-disjunction [] = refl
  true-disjunction (f ∷ fs) = true-or fs f

module _ (s : Signature) (sound : IsSignature s) (names : List Name) (m : Structure) where
  -- an atom's truth value in the structure's world
  true-atom : (n : Name) → IsAmongNames names n → true_by_name names (world_of names m) (formula.Atom n) ≡ value_named m n
  true-atom n h =
      let below : place_in same_name names n < length names = place-below same_name names n h in
      let within : place_in same_name names n < length (map (value_named m) names) = rw (length-map names (value_named m)) below in
      get_or_default (map (value_named m) names) (place_in same_name names n) false (value_named m n) within
      ∙ get_or-map (value_named m) names (place_in same_name names n) n
      ∙ ap (value_named m) (place-get same_name same_name-true same_name-refl names n n h)

  abbrev holds_by_name : Formula Name → Bool
  holds_by_name f = true_by_name names (world_of names m) f

  pub truth-is : (f : FirstOrder) (bound : List Name) (a : Assignment) → IsFormula s bound f → StandFor s bound a
      → EachAtom (IsAmongNames names) (ground_under f s.constants a) → holds_by_name (ground_under f s.constants a) ≡ is_true_under f s.constants m a
  truth-is first_order.Truth bound a h k among = refl
  truth-is first_order.Falsity bound a h k among = refl
  truth-is (first_order.Holds p ts) bound a h k among =
      true-atom (atom_name p (map (constant_of a) ts)) among ∙ value-ground s sound m p (map (constant_of a) ts) (ground-atom s bound a p ts k h)
  truth-is (first_order.Not f) bound a h k among = ap not (truth-is f bound a h k among)
  truth-is (first_order.And f g) bound a h k among = rw (truth-is f bound a h.0 k among.0, truth-is g bound a h.1 k among.1) refl
  truth-is (first_order.Or f g) bound a h k among = rw (truth-is f bound a h.0 k among.0, truth-is g bound a h.1 k among.1) refl
  truth-is (first_order.Implies f g) bound a h k among = rw (truth-is f bound a h.0 k among.0, truth-is g bound a h.1 k among.1) refl
  truth-is (first_order.Iff f g) bound a h k among = rw (truth-is f bound a h.0 k among.0, truth-is g bound a h.1 k among.1) refl
  truth-is (first_order.ForAll x f) bound a h k among =
      true-conjunction names (world_of names m) (map (λ c. ground_under f s.constants (assigned a x c)) s.constants)
      ∙ all-same (λ c. ground_under f s.constants (assigned a x c)) holds_by_name (λ c. is_true_under f s.constants m (assigned a x c)) s.constants
      (All-weaker (λ c. Contains s.constants c × EachAtom (IsAmongNames names) (ground_under f s.constants (assigned a x c)))
      (λ c. holds_by_name (ground_under f s.constants (assigned a x c)) ≡ is_true_under f s.constants m (assigned a x c))
      (λ c both. truth-is f (x ∷ bound) (assigned a x c) h.1 (stand-more s bound a x c k both.0) both.1) s.constants
      (all-both (Contains s.constants) (λ c. EachAtom (IsAmongNames names) (ground_under f s.constants (assigned a x c))) s.constants (All-contains_itself s.constants)
      (map-all (EachAtom (IsAmongNames names)) (λ c. ground_under f s.constants (assigned a x c)) s.constants
      (conjunction-each (IsAmongNames names) (map (λ c. ground_under f s.constants (assigned a x c)) s.constants) among))))
  truth-is (first_order.Exists x f) bound a h k among =
      true-disjunction names (world_of names m) (map (λ c. ground_under f s.constants (assigned a x c)) s.constants)
      ∙ any-same (λ c. ground_under f s.constants (assigned a x c)) holds_by_name (λ c. is_true_under f s.constants m (assigned a x c)) s.constants
      (All-weaker (λ c. Contains s.constants c × EachAtom (IsAmongNames names) (ground_under f s.constants (assigned a x c)))
      (λ c. holds_by_name (ground_under f s.constants (assigned a x c)) ≡ is_true_under f s.constants m (assigned a x c))
      (λ c both. truth-is f (x ∷ bound) (assigned a x c) h.1 (stand-more s bound a x c k both.0) both.1) s.constants
      (all-both (Contains s.constants) (λ c. EachAtom (IsAmongNames names) (ground_under f s.constants (assigned a x c))) s.constants (All-contains_itself s.constants)
      (map-all (EachAtom (IsAmongNames names)) (λ c. ground_under f s.constants (assigned a x c)) s.constants
      (disjunction-each (IsAmongNames names) (map (λ c. ground_under f s.constants (assigned a x c)) s.constants) among))))
