-- A full assignment meets the clause form exactly where it is the extension of its world.
use Rattle.std.proofs.Common.{◌≡◌, ℕ, zero, suc, ◌+◌, ◌<◌, ◌≤◌, Bool, true, false, not, ◌&&◌, List, [], ◌∷◌, length, get_or, refl, sym, ap, ◌∙◌, arith}
use Rattle.std.specs.List.{list_all}
use Rattle.std.proofs.lemmas.List.{get_or_default, ext_get_or}
use Rattle.std.proofs.lemmas.List.Folds.{list_all-append}
use Rattle.std.proofs.lemmas.Bool.{and_from, and_parts}
use Rattle.ps_meaning.specs.Formula.{World, agree}
use Rattle.ps_formula.specs.declared.node.Node.{Node}
use Rattle.ps_formula.specs.declared.node.Node.TheVariants as node
use Rattle.ps_formula.specs.Nodes.{Fits, AreNodes, value_over}
use Rattle.ps_formula.proofs.Trees.{length-truths}
use Rattle.ps_formula.proofs.Different.{values-at}
use Rattle.ps_clause.specs.Clauses.{meets, clauses_at, clauses_from, clause_form}
use Rattle.ps_clause.specs.Extensions.{extension, AgreeOnAtoms}
use Rattle.ps_clause.proofs.Meanings.{met-node}

-- every clause of each node is met
pub record MetAtEach (w : List Bool) (x : ℕ) (ns : List Node) : Type 0 where
  pub at : (i : ℕ) (d : Node) → i < length ns → list_all (meets w) (clauses_at (x + i) (get_or ns i d)) ≡ true

split : (w : List Bool) (x : ℕ) (n : Node) (ns : List Node)
    → list_all (meets w) (clauses_from x (n ∷ ns)) ≡ (list_all (meets w) (clauses_at x n) && list_all (meets w) (clauses_from (suc x) ns))
split w x n ns = list_all-append (meets w) (clauses_at x n) (clauses_from (suc x) ns)

more : (w : List Bool) (x : ℕ) (n : Node) (ns : List Node) → list_all (meets w) (clauses_at x n) ≡ true → MetAtEach w (suc x) ns → MetAtEach w x (n ∷ ns)
more w x n ns here later = record { at = by_place }
  where
    by_place : (i : ℕ) (d : Node) → i < length (n ∷ ns) → list_all (meets w) (clauses_at (x + i) (get_or (n ∷ ns) i d)) ≡ true
    by_place zero d lt = let e : x + 0 ≡ x = omega arith in rw e here
    by_place (suc i) d lt = let e : x + suc i ≡ suc x + i = omega arith in rw e (later.at i d (omega arith))

met-each : (w : List Bool) (x : ℕ) (ns : List Node) → list_all (meets w) (clauses_from x ns) ≡ true → MetAtEach w x ns
met-each w x [] h = record { at = λ i d lt. absurd (omega arith) }
met-each w x (n ∷ ns) h =
    let parts = and_parts _ _ (sym (split w x n ns) ∙ h) in
    more w x n ns parts.0 (met-each w (suc x) ns parts.1)

each-met : (w : List Bool) (x : ℕ) (ns : List Node) → MetAtEach w x ns → list_all (meets w) (clauses_from x ns) ≡ true
each-met w x [] h = refl
each-met w x (n ∷ ns) h =
    let e : x + 0 ≡ x = omega arith in
    let here : list_all (meets w) (clauses_at x n) ≡ true = rw e at (h.at 0 n (omega arith)) in
    split w x n ns ∙ and_from _ _ here (each-met w (suc x) ns (record {
      at = λ i d lt.
          let f : x + suc i ≡ suc x + i = omega arith in
          rw f at (h.at (suc i) d (omega arith));
    }))

-- an assignment gives each node's variable the value that those of its operands give it
pub record IsOwn (ns : List Node) (w : List Bool) (world : World) : Type 0 where
  pub at : (i : ℕ) (d : Node) → i < length ns → get_or w i true ≡ value_over w world (get_or ns i d)

agree-is : (x y : Bool) → agree x y ≡ true → x ≡ y
agree-is true y e = sym e
agree-is false true e = e
agree-is false false e = refl

agree-same : (x y : Bool) → x ≡ y → agree x y ≡ true
agree-same true y e = sym e
agree-same false y e = ap not (sym e)

-- two assignments give the first variables the same values
abbrev pub SameBelow : ℕ → List Bool → List Bool → Type 0
SameBelow k v w = (i : ℕ) → i < k → get_or v i true ≡ get_or w i true

pub value-same : (v w : List Bool) (world : World) (k : ℕ) (n : Node) → Fits k n → SameBelow k v w → value_over v world n ≡ value_over w world n
value-same v w world k node.True f s = refl
value-same v w world k node.False f s = refl
value-same v w world k (node.Atom a) f s = refl
value-same v w world k (node.Not a) f s = rw (s a f) refl
value-same v w world k (node.And a b) f s = rw (s a f.0, s b f.1) refl
value-same v w world k (node.Or a b) f s = rw (s a f.0, s b f.1) refl
value-same v w world k (node.Implies a b) f s = rw (s a f.0, s b f.1) refl
value-same v w world k (node.Iff a b) f s = rw (s a f.0, s b f.1) refl

-- there is one such assignment to a world
own-same : (ns : List Node) (v w : List Bool) (world : World) → AreNodes ns → IsOwn ns v world → IsOwn ns w world
    → (k : ℕ) → k ≤ length ns → SameBelow k v w
own-same ns v w world are p q zero le i lt = absurd (omega arith)
own-same ns v w world are p q (suc k) le i lt =
    let n : Node = get_or ns i node.True in
    let early : SameBelow i v w = λ j below. own-same ns v w world are p q k (omega arith) j (omega arith) in
    p.at i node.True (omega arith) ∙ value-same v w world i n (are.fit i node.True (omega arith)) early ∙ sym (q.at i node.True (omega arith))

pub fits-later : (m k : ℕ) (n : Node) → Fits m n → m ≤ k → Fits k n
fits-later m k node.True f le = tt
fits-later m k node.False f le = tt
fits-later m k (node.Atom a) f le = f
fits-later m k (node.Not a) f le = omega arith
fits-later m k (node.And a b) f le = (omega arith, omega arith)
fits-later m k (node.Or a b) f le = (omega arith, omega arith)
fits-later m k (node.Implies a b) f le = (omega arith, omega arith)
fits-later m k (node.Iff a b) f le = (omega arith, omega arith)

-- a node's clauses, at its place
at-place : (ns : List Node) (w : List Bool) (world : World) → AreNodes ns → length w ≡ length ns → AgreeOnAtoms ns w world
    → (i : ℕ) (d : Node) → i < length ns → list_all (meets w) (clauses_at i (get_or ns i d)) ≡ agree (get_or w i true) (value_over w world (get_or ns i d))
at-place ns w world are long on i d lt =
    let n : Node = get_or ns i d in
    rw (get_or_default w i true false (omega arith))
    (met-node w world i n (fits-later i (length w) n (are.fit i d lt) (omega arith)) (on.at i d lt))

met-own : (ns : List Node) (w : List Bool) (world : World) → AreNodes ns → length w ≡ length ns → AgreeOnAtoms ns w world
    → list_all (meets w) (clause_form ns) ≡ true → IsOwn ns w world
met-own ns w world are long on met = record {
  at = λ i d lt.
      let e : 0 + i ≡ i = omega arith in
      let here : list_all (meets w) (clauses_at i (get_or ns i d)) ≡ true = rw e at ((met-each w 0 ns met).at i d lt) in
      agree-is (get_or w i true) (value_over w world (get_or ns i d)) (sym (at-place ns w world are long on i d lt) ∙ here);
}

own-met : (ns : List Node) (w : List Bool) (world : World) → AreNodes ns → length w ≡ length ns → AgreeOnAtoms ns w world
    → IsOwn ns w world → list_all (meets w) (clause_form ns) ≡ true
own-met ns w world are long on own = each-met w 0 ns (record {
  at = λ i d lt.
      let e : 0 + i ≡ i = omega arith in
      rw e (at-place ns w world are long on i d lt ∙ agree-same (get_or w i true) (value_over w world (get_or ns i d)) (own.at i d lt));
})

extension-own : (ns : List Node) (world : World) → AreNodes ns → IsOwn ns (extension ns world) world
extension-own ns world are = record { at = values-at ns world are }

pub met-extension : (ns : List Node) (w : List Bool) (world : World) → AreNodes ns → length w ≡ length ns → AgreeOnAtoms ns w world
    → list_all (meets w) (clause_form ns) ≡ true → w ≡ extension ns world
met-extension ns w world are long on met = ext_get_or true w (extension ns world) (long ∙ sym (length-truths ns world)) (λ i lt.
    own-same ns w (extension ns world) world are (met-own ns w world are long on met) (extension-own ns world are) (length ns) (omega arith) i (omega arith))

pub extension-met : (ns : List Node) (w : List Bool) (world : World) → AreNodes ns → length w ≡ length ns → AgreeOnAtoms ns w world
    → w ≡ extension ns world → list_all (meets w) (clause_form ns) ≡ true
extension-met ns w world are long on same = own-met ns w world are long on (rw same (extension-own ns world are))
