-- Ground atoms that aren't too long are names.
use Rattle.std.proofs.Common.{◌≡◌, ◌≢◌, ◌≤◌, Bool, true, false, not, ◌||◌, List, [], ◌∷◌, ◌++◌, length, map, All, refl, sym, ap, subst, ◌∙◌, true≢false, eq-eqb}
use Rattle.std.specs.Prelude.{◌==◌, IsTrue, Contains, codes, bytes_eq}
use Rattle.std.specs.List.{list_all, flat_map}
use Rattle.std.proofs.lemmas.Bool.{and_parts, and_from, or_left, not-true, both_ways}
use Rattle.std.proofs.lemmas.Slice.Eq.{bytes_eq-Decides}
use Rattle.std.proofs.lemmas.List.{append-nil, map-append}
use Rattle.std.proofs.lemmas.List.Folds.{list_all-append}
use Rattle.std.proofs.lemmas.List.Elements.{All-nil, All-cons, All-head, All-tail, All-weaker, All-contains}
use Rattle.ps_meaning.specs.declared.limits.TheConstants.{LONGEST_NAME}
use Rattle.ps_meaning.specs.Formula.{Formula, subformulas}
use Rattle.ps_meaning.specs.Formula as formula
use Rattle.ps_meaning.specs.Names.{IsName, is_word, is_word_byte, is_letter, is_digit, is_reserved}
use Rattle.ps_meaning.specs.Statements.{Name}
use Rattle.ps_text.specs.Canonical.{HasNames}
use Rattle.ps_first_order.specs.declared.limits.TheConstants.{UNDERSCORE}
use Rattle.ps_first_order.specs.FirstOrder.{FirstOrder, Signature, IsSignature, IsSymbol, IsPlain, IsGroundAtom, IsSentence}
use Rattle.ps_ground.specs.Grounding.{atom_name, ground_formula}
use Rattle.ps_ground.specs.GroundParts.{mark_of, marks_of}
use Rattle.ps_ground.specs.Drafting.{IsShort}
use Rattle.ps_ground.proofs.Atoms.{EachAtom, IsAtomName}
use Rattle.ps_ground.proofs.Listed.{all-left, all-right, sentence-atoms}

word-bytes : (w : Name) → IsTrue (is_word w) → list_all is_word_byte w ≡ true
word-bytes [] h = refl
word-bytes (b ∷ bs) h =
    let p = and_parts (is_letter b) (list_all is_word_byte bs) h in
    and_from (is_word_byte b) (list_all is_word_byte bs) (or_left (is_letter b || is_digit b) (b == 95) (or_left (is_letter b) (is_digit b) p.0)) p.1

word-more : (w rest : Name) → IsTrue (is_word w) → list_all is_word_byte rest ≡ true → IsTrue (is_word (w ++ rest))
word-more [] rest h k = absurd (true≢false (sym h))
word-more (b ∷ bs) rest h k =
    let p = and_parts (is_letter b) (list_all is_word_byte bs) h in
    and_from (is_letter b) (list_all is_word_byte (bs ++ rest)) p.0
    (list_all-append is_word_byte bs rest ∙ and_from (list_all is_word_byte bs) (list_all is_word_byte rest) p.1 k)

parts-bytes : (cs : List Name) → All (λ c. IsTrue (is_word c)) cs → list_all is_word_byte (flat_map (λ c. UNDERSCORE ∷ c) cs) ≡ true
parts-bytes [] h = refl
parts-bytes (c ∷ cs) h =
    list_all-append is_word_byte c (flat_map (λ c. UNDERSCORE ∷ c) cs)
    ∙ and_from (list_all is_word_byte c) (list_all is_word_byte (flat_map (λ c. UNDERSCORE ∷ c) cs))
    (word-bytes c (All-head (λ c. IsTrue (is_word c)) c cs h)) (parts-bytes cs (All-tail (λ c. IsTrue (is_word c)) c cs h))

no-underscore : (w : Name) → list_all (λ b. not (b == UNDERSCORE)) w ≡ true → IsPlain w
no-underscore [] h = All-nil (λ b. b ≢ UNDERSCORE)
no-underscore (b ∷ bs) h =
    let p = and_parts (not (b == UNDERSCORE)) (list_all (λ b. not (b == UNDERSCORE)) bs) h in
    All-cons (λ b. b ≢ UNDERSCORE) b bs (λ e. both_ways (b == UNDERSCORE) (not-true (b == UNDERSCORE) p.0) (eq-eqb b UNDERSCORE e)) (no-underscore bs p.1)

-- a name with a `_` is none of the words without
not-this : (w r : Name) → ¬ IsPlain w → list_all (λ b. not (b == UNDERSCORE)) r ≡ true → bytes_eq w r ≡ false
not-this w r h k = by (bytes_eq w r) refl
  where
    by : (b : Bool) → bytes_eq w r ≡ b → b ≡ false
    by true e = absurd (h (subst IsPlain (sym ((bytes_eq-Decides w r).0 e)) (no-underscore r k)))
    by false e = refl

not-reserved : (w : Name) → ¬ IsPlain w → is_reserved w ≡ false
not-reserved w h = rw (
  not-this w (codes "psat") h refl,
  not-this w (codes "P") h refl,
  not-this w (codes "given") h refl,
  not-this w (codes "in") h refl,
  not-this w (codes "query") h refl,
  not-this w (codes "end") h refl,
  not-this w (codes "true") h refl,
  not-this w (codes "false") h refl,
) refl

free-atom : (p : Name) (cs : List Name) → IsName p → is_reserved (atom_name p cs) ≡ false
free-atom p [] h = ap is_reserved (append-nil p) ∙ h.free
free-atom p (c ∷ cs) h = not-reserved (atom_name p (c ∷ cs)) (λ k.
    All-head (λ b. b ≢ UNDERSCORE) UNDERSCORE (c ++ flat_map (λ c. UNDERSCORE ∷ c) cs) (all-right (λ b. b ≢ UNDERSCORE) p (UNDERSCORE ∷ (c ++ flat_map (λ c. UNDERSCORE ∷ c) cs)) k) refl)

module _ (s : Signature) (sound : IsSignature s) where
  pub atom-named : (p : Name) (cs : List Name) → IsGroundAtom s p cs → length (atom_name p cs) ≤ LONGEST_NAME → IsName (atom_name p cs)
  atom-named p cs g short =
      let named : IsName p = (All-contains (λ q. IsSymbol q.name) s.predicates (record { name = p; arity = length cs }) sound.predicates g.predicate).named in
      let words = All-weaker (Contains s.constants) (λ c. IsTrue (is_word c)) (λ c k. (All-contains IsSymbol s.constants c sound.constants k).named.word) cs g.constants in
      record {
        word = word-more p (flat_map (λ c. UNDERSCORE ∷ c) cs) named.word (parts-bytes cs words);
        short = short;
        free = free-atom p cs named;
      }

  name-here : (n : Name) → IsAtomName s n → length n ≤ LONGEST_NAME → IsName n
  name-here n a short = subst IsName (sym a.is) (atom-named a.predicate a.constants a.atom (subst (λ w. length w ≤ LONGEST_NAME) a.is short))

  -- marks of two formulas and of one over them
  left-short : (f g h : Formula Name) → All IsShort (map mark_of (subformulas f ++ subformulas g ++ h ∷ [])) → All IsShort (marks_of f) × All IsShort (marks_of g)
  left-short f g h k =
      let both : All IsShort (map mark_of (subformulas f) ++ map mark_of (subformulas g)) = subst (All IsShort) (map-append mark_of (subformulas f) (subformulas g))
      (all-left IsShort (map mark_of (subformulas f ++ subformulas g)) (mark_of h ∷ []) (subst (All IsShort) (map-append mark_of (subformulas f ++ subformulas g) (h ∷ [])) k)) in
      (all-left IsShort (marks_of f) (marks_of g) both, all-right IsShort (marks_of f) (marks_of g) both)

  has-names : (f : Formula Name) → EachAtom (IsAtomName s) f → All IsShort (marks_of f) → HasNames f
  has-names formula.Truth h k = tt
  has-names formula.Falsity h k = tt
  has-names (formula.Atom a) h k = name-here a h (All-head IsShort (mark_of (formula.Atom a)) [] k)
  has-names (formula.Not f) h k = has-names f h (all-left IsShort (marks_of f) (mark_of (formula.Not f) ∷ []) (subst (All IsShort) (map-append mark_of (subformulas f) (formula.Not f ∷ [])) k))
  has-names (formula.And f g) h k = let p = left-short f g (formula.And f g) k in (has-names f h.0 p.0, has-names g h.1 p.1)
  has-names (formula.Or f g) h k = let p = left-short f g (formula.Or f g) k in (has-names f h.0 p.0, has-names g h.1 p.1)
  has-names (formula.Implies f g) h k = let p = left-short f g (formula.Implies f g) k in (has-names f h.0 p.0, has-names g h.1 p.1)
  has-names (formula.Iff f g) h k = let p = left-short f g (formula.Iff f g) k in (has-names f h.0 p.0, has-names g h.1 p.1)

  pub ground-named : (f : FirstOrder) → IsSentence s f → All IsShort (marks_of (ground_formula s f)) → HasNames (ground_formula s f)
  ground-named f h k = has-names (ground_formula s f) (sentence-atoms s f h) k
