-- The clause form of nodes is decided by its atoms.
use Rattle.std.proofs.Common.{◌≡◌, ◌⊎◌, inl, inr, ℕ, zero, suc, ◌+◌, ◌<◌, ◌≤◌, ℤ, Bool, true, false, not, Option, Some, None, List, [], ◌∷◌, ◌++◌, length, map, get_or, arith, refl, sym, ap, ◌∙◌, true≢false}
use Rattle.std.specs.Prelude.{slice_get, nat_lt}
use Rattle.std.specs.List.{list_all, filter}
use Rattle.std.specs.Ordering.{int_eq}
use Rattle.std.proofs.lemmas.Bool.{cases_Bool, cases_lt}
use Rattle.std.proofs.lemmas.List.{get_or_default, get_or_push, get_or_append_left, length_push, get_or-map}
use Rattle.ps_meaning.specs.Formula.{agree}
use Rattle.ps_formula.specs.declared.node.Node.{Node}
use Rattle.ps_formula.specs.declared.node.Node.TheVariants as node
use Rattle.ps_formula.specs.Nodes.{Fits, AreNodes, value_over}
use Rattle.ps_pb.specs.Assignments.{Assignment, place, value_at, is_unset}
use Rattle.ps_pb.specs.Constraints.{Constraint}
use Rattle.ps_pb.specs.Weights.{clause_of}
use Rattle.ps_clause.specs.Clauses.{Clause, meets, positive, negative, meaning_of, once, is_tautology, tidy, clauses_at, clauses_from, clause_form}
use Rattle.ps_clause.specs.Extensions.{AgreesAt, value_or_false}
use Rattle.ps_clause.specs.Forms.{Form, is_other, form_of, is_atom_variable, clause_at, with_clause}
use Rattle.ps_clause.specs.Decided.{IsIdle, AtomsAreSet, AtomsDecide}
use Rattle.ps_clause.proofs.Extends.{fits-later, value-same}
use Rattle.ps_clause.proofs.Idle.{IsKnown, AreOthersKnown, idle-met}
use Rattle.ps_clause.proofs.Meanings.{met-node}

-- the values of the first variables, false where there is none
abbrev pub values_below : ℕ → Assignment → List Bool
values_below zero a = []
values_below (suc p) a = values_below p a ++ value_or_false (get_or a p None) ∷ []

below-length : (p : ℕ) (a : Assignment) → length (values_below p a) ≡ p
below-length zero a = refl
below-length (suc p) a = omega (arith, length_push (values_below p a) (value_or_false (get_or a p None)), below-length p a)

below-at : (p : ℕ) (a : Assignment) (j : ℕ) → j < p → get_or (values_below p a) j false ≡ value_or_false (get_or a j None)
below-at zero a j lt = absurd (omega arith)
below-at (suc p) a j lt = elim (cases_lt j p) [
  | inl less ↦ get_or_append_left (values_below p a) (value_or_false (get_or a p None) ∷ []) false j (omega (arith, below-length p a)) ∙ below-at p a j less
  | inr last ↦ (let same : p ≡ j = omega arith in
      get_or_push (values_below p a) (value_or_false (get_or a p None)) false j (below-length p a ∙ same) ∙ ap (λ q. value_or_false (get_or a q None)) same)
]

-- the first variables have values
abbrev pub SetBelow : ℕ → Assignment → Type 0
SetBelow i a = (j : ℕ) → j < i → is_unset (get_or a j None) ≡ false

pub set-value : (o : Option Bool) → is_unset o ≡ false → o ≡ Some (value_or_false o)
set-value None e = absurd (true≢false e)
set-value (Some b) e = refl

unset-none : (o : Option Bool) → is_unset o ≡ true → o ≡ None
unset-none None e = refl
unset-none (Some b) e = absurd (true≢false (sym e))

-- the values of the first variables, and one more
abbrev pub filled : ℕ → Assignment → Bool → List Bool
filled i a b = values_below i a ++ b ∷ []

filled-length : (i : ℕ) (a : Assignment) (b : Bool) → length (filled i a b) ≡ suc i
filled-length i a b = omega (arith, length_push (values_below i a) b, below-length i a)

filled-at : (i : ℕ) (a : Assignment) (b : Bool) (j : ℕ) → j < i → get_or (filled i a b) j false ≡ get_or (values_below i a) j false
filled-at i a b j lt = get_or_append_left (values_below i a) (b ∷ []) false j (omega (arith, below-length i a))

filled-known : (i : ℕ) (a : Assignment) (b : Bool) → SetBelow i a → (j : ℕ) → j < i → IsKnown (filled i a b) a j
filled-known i a b set j lt = set-value (get_or a j None) (set j lt) ∙ ap Some (sym (filled-at i a b j lt ∙ below-at i a j lt))

filled-own : (i : ℕ) (a : Assignment) (b : Bool) → get_or (filled i a b) i false ≡ b
filled-own i a b = get_or_push (values_below i a) b false i (below-length i a)

-- the variables of the clauses are known but that at one place
abbrev pub AreClausesKnown : List Bool → Assignment → ℕ → List Clause → Type 0
AreClausesKnown w a i [] = Unit {0}
AreClausesKnown w a i (c ∷ cs) = AreOthersKnown w a i c × AreClausesKnown w a i cs

filter-known : (w : List Bool) (a : Assignment) (i : ℕ) (p : ℤ → Bool) (c : Clause) → AreOthersKnown w a i c → AreOthersKnown w a i (filter p c)
filter-known w a i p [] h = tt
filter-known w a i p (l ∷ ls) h = elim (cases_Bool (p l)) [
  | inl e ↦ rw e (h.0, filter-known w a i p ls h.1)
  | inr e ↦ rw e (filter-known w a i p ls h.1)
]

once-known : (w : List Bool) (a : Assignment) (i : ℕ) (c : Clause) → AreOthersKnown w a i c → AreOthersKnown w a i (once c)
once-known w a i [] h = tt
once-known w a i (l ∷ ls) h = (h.0, filter-known w a i (λ m. not (int_eq m l)) (once ls) (once-known w a i ls h.1))

tidy-known : (w : List Bool) (a : Assignment) (i : ℕ) (cs : List Clause) → AreClausesKnown w a i cs → AreClausesKnown w a i (tidy cs)
tidy-known w a i [] h = tt
tidy-known w a i (c ∷ cs) h = elim (cases_Bool (is_tautology c)) [
  | inl e ↦ rw e (tidy-known w a i cs h.1)
  | inr e ↦ rw e (once-known w a i c h.0, tidy-known w a i cs h.1)
]

-- a literal of this place's variable, or of a known one
abbrev pub IsKnownBut : List Bool → Assignment → ℕ → ℤ → Type 0
IsKnownBut w a i l = (place l ≡ i) ⊎ IsKnown w a (place l)

own-positive : (w : List Bool) (a : Assignment) (i : ℕ) → IsKnownBut w a i (positive i)
own-positive w a i = inl (omega arith)

own-negative : (w : List Bool) (a : Assignment) (i : ℕ) → IsKnownBut w a i (negative i)
own-negative w a i = inl (omega arith)

known-positive : (w : List Bool) (a : Assignment) (i j : ℕ) → IsKnown w a j → IsKnownBut w a i (positive j)
known-positive w a i j k = let e : place (positive j) ≡ j = omega arith in inr (rw e k)

known-negative : (w : List Bool) (a : Assignment) (i j : ℕ) → IsKnown w a j → IsKnownBut w a i (negative j)
known-negative w a i j k = let e : place (negative j) ≡ j = omega arith in inr (rw e k)

-- a node's clauses speak of its own variable and of those of its operands
meaning-known : (w : List Bool) (a : Assignment) (i : ℕ) (n : Node) → Fits i n → ((j : ℕ) → j < i → IsKnown w a j) → AreClausesKnown w a i (meaning_of i n)
meaning-known w a i node.True fits k = ((own-positive w a i, tt), tt)
meaning-known w a i node.False fits k = ((own-negative w a i, tt), tt)
meaning-known w a i (node.Atom m) fits k = tt
meaning-known w a i (node.Not b) fits k =
    ((own-positive w a i, (known-positive w a i b (k b fits), tt)), ((own-negative w a i, (known-negative w a i b (k b fits), tt)), tt))
meaning-known w a i (node.And b c) fits k =
    let b_yes = known-positive w a i b (k b fits.0) in
    let b_no = known-negative w a i b (k b fits.0) in
    let c_yes = known-positive w a i c (k c fits.1) in
    let c_no = known-negative w a i c (k c fits.1) in
    ((own-negative w a i, (b_yes, tt)), ((own-negative w a i, (c_yes, tt)), ((own-positive w a i, (b_no, (c_no, tt))), tt)))
meaning-known w a i (node.Or b c) fits k =
    let b_yes = known-positive w a i b (k b fits.0) in
    let b_no = known-negative w a i b (k b fits.0) in
    let c_yes = known-positive w a i c (k c fits.1) in
    let c_no = known-negative w a i c (k c fits.1) in
    ((own-positive w a i, (b_no, tt)), ((own-positive w a i, (c_no, tt)), ((own-negative w a i, (b_yes, (c_yes, tt))), tt)))
meaning-known w a i (node.Implies b c) fits k =
    let b_yes = known-positive w a i b (k b fits.0) in
    let b_no = known-negative w a i b (k b fits.0) in
    let c_yes = known-positive w a i c (k c fits.1) in
    let c_no = known-negative w a i c (k c fits.1) in
    ((own-positive w a i, (b_yes, tt)), ((own-positive w a i, (c_no, tt)), ((own-negative w a i, (b_no, (c_yes, tt))), tt)))
meaning-known w a i (node.Iff b c) fits k =
    let b_yes = known-positive w a i b (k b fits.0) in
    let b_no = known-negative w a i b (k b fits.0) in
    let c_yes = known-positive w a i c (k c fits.1) in
    let c_no = known-negative w a i c (k c fits.1) in
    ((own-negative w a i, (b_no, (c_yes, tt))), ((own-negative w a i, (b_yes, (c_no, tt))), ((own-positive w a i, (b_yes, (c_yes, tt))), ((own-positive w a i, (b_no, (c_no, tt))), tt))))

-- each clause is idle
abbrev pub AreClausesIdle : Assignment → List Clause → Type 0
AreClausesIdle a [] = Unit {0}
AreClausesIdle a (c ∷ cs) = IsIdle (clause_of c) a × AreClausesIdle a cs

clauses-met : (w : List Bool) (a : Assignment) (i : ℕ) (cs : List Clause) → get_or a i None ≡ None → AreClausesKnown w a i cs → AreClausesIdle a cs → list_all (meets w) cs ≡ true
clauses-met w a i [] u known idle = refl
clauses-met w a i (c ∷ cs) u known idle = rw (idle-met w a i c u known.0 idle.0) (clauses-met w a i cs u known.1 idle.1)

clauses-idle : (a : Assignment) (cs : List Clause) → ((id : ℕ) (c : Constraint) → slice_get (map clause_of cs) id ≡ Some c → IsIdle c a) → AreClausesIdle a cs
clauses-idle a [] h = tt
clauses-idle a (c ∷ cs) h = (h 0 (clause_of c) refl, clauses-idle a cs (λ id. h (suc id)))

idle-left : (a : Assignment) (cs ds : List Clause) → AreClausesIdle a (cs ++ ds) → AreClausesIdle a cs
idle-left a [] ds h = tt
idle-left a (c ∷ cs) ds h = (h.0, idle-left a cs ds h.1)

idle-right : (a : Assignment) (cs ds : List Clause) → AreClausesIdle a (cs ++ ds) → AreClausesIdle a ds
idle-right a [] ds h = h
idle-right a (c ∷ cs) ds h = idle-right a cs ds h.1

node-idle : (a : Assignment) (x : ℕ) (ns : List Node) (i : ℕ) (d : Node) → i < length ns → AreClausesIdle a (clauses_from x ns) → AreClausesIdle a (clauses_at (x + i) (get_or ns i d))
node-idle a x [] i d lt h = absurd (omega arith)
node-idle a x (n ∷ ns) zero d lt h = let e : x + 0 ≡ x = omega arith in rw e (idle-left a (clauses_at x n) (clauses_from (suc x) ns) h)
node-idle a x (n ∷ ns) (suc i) d lt h =
    let e : x + suc i ≡ suc x + i = omega arith in
    rw e (node-idle a (suc x) ns i d (omega arith) (idle-right a (clauses_at x n) (clauses_from (suc x) ns) h))

agree-opposite : (v : Bool) → agree (not v) v ≡ false
agree-opposite true = refl
agree-opposite false = refl

-- where the operands of a node that is no atom have values and its clauses are idle, it has a value
other-set : (a : Assignment) (i : ℕ) (n : Node) → Fits i n → AgreesAt i (filled i a (not (value_over (values_below i a) [] n))) [] n → SetBelow i a → AreClausesIdle a (clauses_at i n) → get_or a i None ≡ None → ⊥
other-set a i n fits at set idle u =
    let below = values_below i a in
    let v = value_over below [] n in
    let w = filled i a (not v) in
    let known = tidy-known w a i (meaning_of i n) (meaning-known w a i n fits (filled-known i a (not v) set)) in
    let met = clauses-met w a i (clauses_at i n) u known idle in
    let same : value_over w [] n ≡ v =
    value-same w below [] i n fits (λ j lt.
    get_or_default w j true false (omega (arith, filled-length i a (not v))) ∙ filled-at i a (not v) j lt ∙ get_or_default below j false true (omega (arith, below-length i a))) in
    let judged = met-node w [] i n (fits-later i (length w) n fits (omega (arith, filled-length i a (not v)))) at in
    true≢false (sym met ∙ judged ∙ ap (λ b. agree b (value_over w [] n)) (filled-own i a (not v)) ∙ ap (agree (not v)) same ∙ agree-opposite v)

pub atom-variable : (ns : List Node) (i m : ℕ) (d : Node) → i < length ns → get_or ns i d ≡ node.Atom m → is_atom_variable (form_of ns) (suc i) ≡ true
atom-variable ns i m d lt e =
    let inside : nat_lt i (length ns) ≡ true = grind (arith, lt) in
    rw (inside, get_or-map is_other ns i d false lt, e) refl

node-set : (ns : List Node) (a : Assignment) → AreNodes ns → AtomsAreSet (form_of ns) a → AreClausesIdle a (clause_form ns)
    → (i : ℕ) (n : Node) → i < length ns → get_or ns i n ≡ n → SetBelow i a → get_or a i None ≡ None → ⊥
unfolding value_at
node-set ns a are atoms idle i n lt e set u =
    let start : 0 + i ≡ i = omega arith in
    by_node n (rw e at (are.fit i n lt)) e (rw (start, e) at (node-idle a 0 ns i n lt idle))
  where
    by_node : (n : Node) → Fits i n → get_or ns i n ≡ n → AreClausesIdle a (clauses_at i n) → ⊥
    by_node node.True fits e here = other-set a i node.True fits tt set here u
    by_node node.False fits e here = other-set a i node.False fits tt set here u
    by_node (node.Atom m) fits e here = true≢false (sym (ap is_unset u) ∙ atoms.at (suc i) (atom-variable ns i m (node.Atom m) lt e))
    by_node (node.Not b) fits e here = other-set a i (node.Not b) fits tt set here u
    by_node (node.And b c) fits e here = other-set a i (node.And b c) fits tt set here u
    by_node (node.Or b c) fits e here = other-set a i (node.Or b c) fits tt set here u
    by_node (node.Implies b c) fits e here = other-set a i (node.Implies b c) fits tt set here u
    by_node (node.Iff b c) fits e here = other-set a i (node.Iff b c) fits tt set here u

nodes-set : (ns : List Node) (a : Assignment) → AreNodes ns → AtomsAreSet (form_of ns) a → AreClausesIdle a (clause_form ns) → (k : ℕ) → k ≤ length ns → SetBelow k a
nodes-set ns a are atoms idle zero le j lt = absurd (omega arith)
nodes-set ns a are atoms idle (suc k) le j lt =
    elim (cases_Bool (is_unset (get_or a j None))) [
      | inl e ↦ (let n = get_or ns j node.True in
          absurd (node-set ns a are atoms idle j n (omega arith) (get_or_default ns j n node.True (omega arith)) (λ m below. nodes-set ns a are atoms idle k (omega arith) m (omega arith)) (unset-none (get_or a j None) e)))
      | inr e ↦ e
    ]

-- the clause form of nodes
pub nodes_decided : (ns : List Node) → AreNodes ns → AtomsDecide (form_of ns)
unfolding value_at
nodes_decided ns are = record {
  all_set = λ a atoms idle.
      let here = clauses-idle a (clause_form ns) (λ id. idle.at (suc id)) in
      record { at = λ var positive within. by_place a (nodes-set ns a are atoms here (length ns) (omega arith)) var positive within };
}
  where
    by_place : (a : Assignment) → SetBelow (length ns) a → (var : ℕ) → 0 < var → var ≤ length ns → is_unset (value_at a var) ≡ false
    by_place a set zero positive within = absurd (omega arith)
    by_place a set (suc p) positive within = set p (omega arith)

-- without marks each variable is an atom's
pub new_decided : (variables : ℕ) → AtomsDecide (record { variables = variables; others = []; clauses = [] })
new_decided variables = record {
  all_set = λ a atoms idle. record { at = λ var positive within. atoms.at var (an_atom var positive within) };
}
  where
    an_atom : (var : ℕ) → 0 < var → var ≤ variables → is_atom_variable (record { variables = variables; others = []; clauses = [] }) var ≡ true
    an_atom zero positive within = absurd (omega arith)
    an_atom (suc p) positive within = let e : nat_lt p variables ≡ true = grind (arith, within) in rw e refl

get-append : (cs ds : List Constraint) (i : ℕ) (c : Constraint) → slice_get cs i ≡ Some c → slice_get (cs ++ ds) i ≡ Some c
get-append [] ds i c e = absurd (cc)
get-append (k ∷ cs) ds zero c e = e
get-append (k ∷ cs) ds (suc i) c e = get-append cs ds i c e

clause-stays : (f : Form) (more : Constraint) (id : ℕ) (c : Constraint) → clause_at f id ≡ Some c → clause_at (with_clause f more) id ≡ Some c
clause-stays f more zero c e = e
clause-stays f more (suc i) c e = get-append f.clauses (more ∷ []) i c e

-- a clause more leaves it decided
pub more_decided : (f : Form) (c : Constraint) → AtomsDecide f → AtomsDecide (with_clause f c)
more_decided f c h = record {
  all_set = λ a atoms idle.
      let all = h.all_set a (record { at = λ var. same_atoms a var atoms.at }) (record { at = λ id d e. idle.at id d (clause-stays f c id d e) }) in
      record { at = all.at };
}
  where
    same_atoms : (a : Assignment) (var : ℕ) → ((v : ℕ) → is_atom_variable (with_clause f c) v ≡ true → is_unset (value_at a v) ≡ false) → is_atom_variable f var ≡ true → is_unset (value_at a var) ≡ false
    same_atoms a zero h e = absurd (true≢false (sym e))
    same_atoms a (suc p) h e = h (suc p) e
