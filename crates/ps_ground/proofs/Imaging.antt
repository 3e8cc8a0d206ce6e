-- Images are distributions over worlds, and every distribution over worlds is one.
use Rattle.std.proofs.Common.{◌≡◌, ◌≢◌, ℕ, pos, ◌≤ℤ◌, ◌<◌, false, List, [], ◌∷◌, length, map, get_or, All, refl, sym, ap, ◌∙◌, arith}
use Rattle.std.specs.List.{AllPairs}
use Rattle.std.proofs.Math.ListN.{get_or-map}
use Rattle.std.proofs.lemmas.List.{length-map, get_or_default, ext_get_or}
use Rattle.std.proofs.lemmas.List.Elements.{All-head, All-tail, All-map, All-weaker}
use Rattle.std.proofs.lemmas.List.Kept.{AllPairs-cons}
use Rattle.ps_meaning.specs.Formula.{World}
use Rattle.ps_meaning.specs.Distribution.{Entry}
use Rattle.ps_meaning.specs.Statements.{Name}
use Rattle.ps_problem.specs.Numbering.{AreOnce, same_name, place_in}
use Rattle.ps_first_order.specs.FirstOrder.{Signature, IsSignature, Structure, AreSame}
use Rattle.ps_first_order.specs.Texts.{FirstOrderItem, IsText}
use Rattle.ps_ground.specs.Structures.{WeightedStructure}
use Rattle.ps_ground.specs.Images.{value_named, world_of, merged, structure_of}
use Rattle.ps_ground.specs.Laws.{names_of, ImagesAreDistributions, AllAreImages}
use Rattle.ps_ground.proofs.Cutting.{atom-cut}
use Rattle.ps_ground.proofs.Atoms.{IsAtomName, value-ground}
use Rattle.ps_ground.proofs.Listed.{ground-names, names-once}
use Rattle.ps_ground.proofs.Merging.{merged-worlds, merged-weighed, merged-different, merged-some, merged-same, pairs-head, pairs-tail}

-- pairs of a list of results
pairs-map : {X Y : Type 0} (R : Y → Y → Type 0) (f : X → Y) (xs : List X) → AllPairs (λ x y. R (f x) (f y)) xs → AllPairs R (map f xs)
pairs-map R f [] h = λ i j d lt most. absurd (omega arith)
pairs-map R f (x ∷ xs) h =
    AllPairs-cons R (f x) (map f xs) (All-map (R (f x)) f xs (pairs-head (λ x y. R (f x) (f y)) x xs h))
    (pairs-map R f xs (pairs-tail (λ x y. R (f x) (f y)) x xs h))

map-is : {X Y : Type 0} (f g : X → Y) (xs : List X) → All (λ x. f x ≡ g x) xs → map f xs ≡ map g xs
map-is f g [] h = refl
map-is f g (x ∷ xs) h = rw (All-head (λ x. f x ≡ g x) x xs h, map-is f g xs (All-tail (λ x. f x ≡ g x) x xs h)) refl

map-back : {X Y : Type 0} (f : X → Y) (g : Y → X) (xs : List X) → All (λ x. g (f x) ≡ x) xs → map g (map f xs) ≡ xs
map-back f g [] h = refl
map-back f g (x ∷ xs) h = rw (All-head (λ x. g (f x) ≡ x) x xs h, map-back f g xs (All-tail (λ x. g (f x) ≡ x) x xs h)) refl

module _ (names : List Name) where
  abbrev entry : WeightedStructure → Entry
  entry e = record { weight = e.weight; world = world_of names e.structure }

  abbrev pub lifted : Entry → WeightedStructure
  lifted e = record { weight = e.weight; structure = structure_of names e.world }

  -- the world of the structure of a world is this world
  pub world-back : AreOnce same_name names → (w : World) → length w ≡ length names → world_of names (structure_of names w) ≡ w
  world-back once w same = ext_get_or false (world_of names (structure_of names w)) w (length-map names (value_named (structure_of names w)) ∙ sym same) at
    where
      at : (i : ℕ) → i < length (world_of names (structure_of names w)) → get_or (world_of names (structure_of names w)) i false ≡ get_or w i false
      at i lt =
          let l = length-map names (value_named (structure_of names w)) in
          let within : i < length names = omega (arith, l, lt) in
          get_or_default (world_of names (structure_of names w)) i false (value_named (structure_of names w) []) lt
          ∙ get_or-map (value_named (structure_of names w)) names i []
          ∙ ap (λ n. get_or w (place_in same_name names n) false) (atom-cut (get_or names i []))
          ∙ ap (λ k. get_or w k false) (once i [] within)

module _ (s : Signature) (sound : IsSignature s) (names : List Name) (ground : All (IsAtomName s) names) where
  -- structures that are the same have the same world
  pub same-world : (m n : Structure) → AreSame s m n → world_of names m ≡ world_of names n
  same-world m n h = map-is (value_named m) (value_named n) names (All-weaker (IsAtomName s) (λ x. value_named m x ≡ value_named n x) at names ground)
    where
      at : (x : Name) → IsAtomName s x → value_named m x ≡ value_named n x
      at x a =
          ap (value_named m) a.is ∙ value-ground s sound m a.predicate a.constants a.atom ∙ h.same a.predicate a.constants a.atom
          ∙ sym (value-ground s sound n a.predicate a.constants a.atom) ∙ sym (ap (value_named n) a.is)

  pub lifted-different : AreOnce same_name names → (d : List Entry) → All (λ e. length e.world ≡ length names) d → AllPairs (λ e e'. e.world ≢ e'.world) d
      → AllPairs (λ e e'. ¬ AreSame s e.structure e'.structure) (map (lifted names) d)
  lifted-different once d worlds different = pairs-map (λ e e'. ¬ AreSame s e.structure e'.structure) (lifted names) d
      (λ i j x lt most same. different i j x lt most
      (sym (world-back names once (get_or d i x).world (worlds i x (omega (arith, lt, most))))
      ∙ same-world (structure_of names (get_or d i x).world) (structure_of names (get_or d j x).world) same
      ∙ world-back names once (get_or d j x).world (worlds j x most)))

module _ (s : Signature) (items : List FirstOrderItem) (text : IsText s items) where
  abbrev atom_names : List Name
  atom_names = names_of s items

  pub images-are : ImagesAreDistributions s items
  images-are d h =
      let entries = map (entry atom_names) d in
      let l = length-map d (entry atom_names) in
      record {
        some = merged-some entries (rw l h.some);
        worlds = merged-worlds (λ w. length w ≡ length atom_names) entries (All-map (λ e. length e.world ≡ length atom_names) (entry atom_names) d (λ k x lt. length-map atom_names (value_named (get_or d k x).structure)));
        weighed = merged-weighed entries (All-map (λ e. pos 1 ≤ℤ e.weight) (entry atom_names) d h.weighed);
        different = merged-different entries;
      }

  pub all-are : AllAreImages s items
  all-are d h =
      let once = names-once s items in
      let back : map (entry atom_names) (map (lifted atom_names) d) ≡ d =
      map-back (lifted atom_names) (entry atom_names) d
      (All-weaker (λ e. length e.world ≡ length atom_names) (λ e. entry atom_names (lifted atom_names e) ≡ e)
      (λ e same. λ t. record { weight = e.weight; world = world-back atom_names once e.world same t }) d h.worlds) in (
        map (lifted atom_names) d,
        record {
          some = (let l = length-map d (lifted atom_names) in rw l h.some);
          weighed = All-map (λ e. pos 1 ≤ℤ e.weight) (lifted atom_names) d h.weighed;
          different = lifted-different s text.signature atom_names (ground-names s items text.sentences) once d h.worlds h.different;
        },
        ap merged back ∙ merged-same d h.different,
      )
