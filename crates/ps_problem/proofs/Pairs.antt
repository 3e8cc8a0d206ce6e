-- A formula and perhaps a condition, numbered one after the other.
use Rattle.std.proofs.Common.{◌≡◌, ℕ, List, [], ◌∷◌, ◌++◌, length, ◌<◌, Option, Some, None, Result, Ok, Err, sym, ap, subst, ◌∙◌, arith}
use Rattle.std.proofs.lemmas.List.{length-map}
use Rattle.ps_meaning.specs.Formula.{Formula, And, subformulas}
use Rattle.ps_meaning.specs.Statements.{Name}
use Rattle.ps_formula.specs.declared.node.Node.{Node}
use Rattle.ps_formula.specs.declared.node.Node.TheVariants as node
use Rattle.ps_problem.specs.declared.fault.Fault.{Fault}
use Rattle.ps_problem.specs.Numbering.{same_formula, place_in, node_in, numbered_for}
use Rattle.ps_problem.specs.Counts.{with_formulas, after}
use Rattle.ps_problem.specs.Numbered.{IsAmong, IsAdded, GivesNumber, GivesQuery, IsFaultOf}
use Rattle.ps_problem.proofs.Lists.{place-below}
use Rattle.ps_problem.proofs.Nodes.{among-more, place-more}
use Rattle.ps_problem.proofs.Steps.{step-known}
use Rattle.ps_problem.proofs.Turns.{fault-onward, with-append, with-more}

-- the formula didn't fit
pub pair-first : (start : List (Formula Name)) (f : Formula Name) (given : Option (Formula Name)) (x : Fault) → IsFaultOf (with_formulas start (subformulas f)) x
    → IsFaultOf (with_formulas start (numbered_for f given)) x
pair-first start f None x one = one
pair-first start f (Some g) x one = fault-onward (with_formulas start (subformulas f)) (with_formulas start (numbered_for f (Some g))) x one
    (λ e t. with-append start (subformulas f ++ subformulas g) (And f g ∷ []) ∙ ap (λ r. after r (λ gs. with_formulas gs (And f g ∷ [])))
    (with-append start (subformulas f) (subformulas g) ∙ ap (λ r. after r (λ gs. with_formulas gs (subformulas g))) t))

-- nothing is given
pub pair-alone : (names : List Name) (start : List (Formula Name)) (f : Formula Name) (atoms : List ℕ) (nodes : List Node) (i : ℕ) → GivesNumber names (with_formulas start (subformulas f)) f atoms nodes (Ok i)
    → GivesQuery names (with_formulas start (numbered_for f None)) (record { formula = f; given = None }) atoms nodes (Ok (record { formula = i; given = None; both = i }))
pair-alone names start f atoms nodes i one = (one.0, one.1, record { formula = one.2.0; given = tt; both = one.2.0 }, ap (λ n. record { formula = n; given = None; both = n }) one.2.1)

module _ (names : List Name) (start : List (Formula Name)) (f g : Formula Name) (atoms : List ℕ) (nodes : List Node) (i : ℕ) (one : GivesNumber names (with_formulas start (subformulas f)) f atoms nodes (Ok i)) where
  split : with_formulas start (numbered_for f (Some g)) ≡ after (with_formulas one.0.formulas (subformulas g)) (λ gs. with_formulas gs (And f g ∷ []))
  split = with-append start (subformulas f ++ subformulas g) (And f g ∷ [])
      ∙ ap (λ r. after r (λ gs. with_formulas gs (And f g ∷ []))) (with-append start (subformulas f) (subformulas g) ∙ ap (λ r. after r (λ gs. with_formulas gs (subformulas g))) one.1)

  -- the condition didn't fit
  pub pair-second : (atoms' : List ℕ) (nodes' : List Node) (x : Fault) → GivesNumber names (with_formulas one.0.formulas (subformulas g)) g atoms' nodes' (Err x)
      → IsFaultOf (with_formulas start (numbered_for f (Some g))) x
  pair-second atoms' nodes' x two = fault-onward (with_formulas one.0.formulas (subformulas g)) (with_formulas start (numbered_for f (Some g))) x two
      (λ e t. split ∙ ap (λ r. after r (λ gs. with_formulas gs (And f g ∷ []))) t)

  module _ (atoms' : List ℕ) (nodes' : List Node) (j : ℕ) (two : GivesNumber names (with_formulas one.0.formulas (subformulas g)) g atoms' nodes' (Ok j)) where
    grown : (more : List (Formula Name)) × (two.0.formulas ≡ one.0.formulas ++ more)
    grown = with-more one.0.formulas (subformulas g) two.0.formulas two.1

    first-there : IsAmong two.0.formulas f
    first-there = subst (λ gs. IsAmong gs f) (sym grown.1) (among-more one.0.formulas grown.0 f one.2.0)

    first-place : i ≡ place_in same_formula two.0.formulas f
    first-place = one.2.1 ∙ sym (place-more one.0.formulas grown.0 f one.2.0) ∙ ap (λ gs. place_in same_formula gs f) (sym grown.1)

    -- both formulas' nodes are there
    pub pair-fits : (i < length nodes') × (j < length nodes')
    pair-fits =
        let n = ap length two.0.nodes_are ∙ length-map two.0.formulas (node_in two.0.formulas) in
        let first : place_in same_formula two.0.formulas f < length two.0.formulas = place-below same_formula two.0.formulas f first-there in
        let second : place_in same_formula two.0.formulas g < length two.0.formulas = place-below same_formula two.0.formulas g two.2.0 in
        let a = first-place in
        let b = two.2.1 in
        (omega arith, omega arith)

    third : (nodes'' : List Node) (result : Result ℕ Fault) → IsAdded nodes' (node.And i j) nodes'' result → GivesNumber names (with_formulas two.0.formulas (And f g ∷ [])) (And f g) atoms' nodes'' result
    third nodes'' result added = step-known names atoms' nodes' two.0 (And f g) (first-there, two.2.0) (node.And i j)
        (ap (λ n. node.And n j) first-place ∙ ap (λ n. node.And (place_in same_formula two.0.formulas f) n) two.2.1) nodes'' result added

    joined : with_formulas start (numbered_for f (Some g)) ≡ with_formulas two.0.formulas (And f g ∷ [])
    joined = split ∙ ap (λ r. after r (λ gs. with_formulas gs (And f g ∷ []))) two.1

    pub pair-third : (nodes'' : List Node) (x : Fault) → IsAdded nodes' (node.And i j) nodes'' (Err x) → IsFaultOf (with_formulas start (numbered_for f (Some g))) x
    pair-third nodes'' x added = fault-onward (with_formulas two.0.formulas (And f g ∷ [])) (with_formulas start (numbered_for f (Some g))) x (third nodes'' (Err x) added)
        (λ e t. joined ∙ t)

    pub pair-both : (nodes'' : List Node) (k : ℕ) → IsAdded nodes' (node.And i j) nodes'' (Ok k)
        → GivesQuery names (with_formulas start (numbered_for f (Some g))) (record { formula = f; given = Some g }) atoms' nodes'' (Ok (record { formula = i; given = Some j; both = k }))
    pair-both nodes'' k added =
        let three = third nodes'' (Ok k) added in
        let more = with-more two.0.formulas (And f g ∷ []) three.0.formulas three.1 in
        let f-there = subst (λ gs. IsAmong gs f) (sym more.1) (among-more two.0.formulas more.0 f first-there) in
        let g-there = subst (λ gs. IsAmong gs g) (sym more.1) (among-more two.0.formulas more.0 g two.2.0) in
        let f-place = first-place ∙ sym (place-more two.0.formulas more.0 f first-there) ∙ ap (λ gs. place_in same_formula gs f) (sym more.1) in
        let g-place = two.2.1 ∙ sym (place-more two.0.formulas more.0 g two.2.0) ∙ ap (λ gs. place_in same_formula gs g) (sym more.1) in (
          three.0,
          joined ∙ three.1,
          record { formula = f-there; given = g-there; both = three.2.0 },
          (λ t. record { formula = f-place t; given = Some (g-place t); both = three.2.1 t }),
        )
