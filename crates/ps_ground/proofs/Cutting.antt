-- Names of ground atoms, cut at each `_`.
use Rattle.std.proofs.Common.{◌≡◌, ◌≢◌, Bool, true, false, List, [], ◌∷◌, ◌++◌, All, refl, sym, ap, ◌∙◌, if◌then◌else◌, eqb-true}
use Rattle.std.specs.Prelude.{◌==◌}
use Rattle.std.specs.List.{flat_map}
use Rattle.std.proofs.lemmas.Bool.{ne_eqb}
use Rattle.std.proofs.lemmas.List.{append-nil}
use Rattle.std.proofs.lemmas.List.Elements.{All-head, All-tail}
use Rattle.ps_meaning.specs.Statements.{Name}
use Rattle.ps_first_order.specs.declared.limits.TheConstants.{UNDERSCORE}
use Rattle.ps_first_order.specs.FirstOrder.{IsPlain}
use Rattle.ps_ground.specs.Grounding.{atom_name}
use Rattle.ps_ground.specs.Images.{cut}

-- a plain front goes to the first part
cut-plain : (p rest : Name) → IsPlain p → cut (p ++ rest) ≡ (p ++ (cut rest).0, (cut rest).1)
cut-plain [] rest h = refl
cut-plain (b ∷ p) rest h =
    let n = ne_eqb b UNDERSCORE (All-head (λ x. x ≢ UNDERSCORE) b p h) in
    let k = cut-plain p rest (All-tail (λ x. x ≢ UNDERSCORE) b p h) in
    rw (n, k) refl

cut-parts : (cs : List Name) → All IsPlain cs → cut (flat_map (λ c. UNDERSCORE ∷ c) cs) ≡ ([], cs)
cut-parts [] h = refl
cut-parts (c ∷ cs) h =
    let k = cut-plain c (flat_map (λ c. UNDERSCORE ∷ c) cs) (All-head IsPlain c cs h) in
    let r = cut-parts cs (All-tail IsPlain c cs h) in
    rw (k, r, append-nil c) refl

-- the name of a ground atom is cut into the names that it joins
pub cut-atom : (p : Name) (cs : List Name) → IsPlain p → All IsPlain cs → cut (atom_name p cs) ≡ (p, cs)
cut-atom p cs h hs =
    let r = cut-parts cs hs in
    rw (cut-plain p (flat_map (λ c. UNDERSCORE ∷ c) cs) h, r, append-nil p) refl

-- the parts of a name, joined, are the name
pub atom-cut : (n : Name) → atom_name (cut n).0 (cut n).1 ≡ n
atom-cut [] = refl
atom-cut (b ∷ bs) = by (b == UNDERSCORE) (cut (b ∷ bs)) refl refl (atom-cut bs)
  where
    by : (t : Bool) (r : Name × List Name) → (b == UNDERSCORE) ≡ t → r ≡ (if t then ([], (cut bs).0 ∷ (cut bs).1) else (b ∷ (cut bs).0, (cut bs).1))
        → atom_name (cut bs).0 (cut bs).1 ≡ bs → atom_name r.0 r.1 ≡ b ∷ bs
    by true r e d k = ap (λ c. atom_name c.0 c.1) d ∙ ap (λ xs. UNDERSCORE ∷ xs) k ∙ ap (λ x. x ∷ bs) (sym (eqb-true b UNDERSCORE e))
    by false r e d k = ap (λ c. atom_name c.0 c.1) d ∙ ap (λ xs. b ∷ xs) k
