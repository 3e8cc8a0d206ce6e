-- What a learned clause does to a search.
use Rattle.std.proofs.Common.{◌≡◌, ℕ, suc, ◌+◌, ◌<◌, ◌≤◌, false, Some, List, [], ◌∷◌, ◌++◌, take, arith, sym, ap, ◌∙◌, subst}
use Rattle.std.specs.List.{All}
use Rattle.ps_pb.specs.Constraints.{Constraint}
use Rattle.ps_pb.specs.Weights.{weighted, IsNormal}
use Rattle.ps_pb.specs.Steps.{Known, Step, lits_of, added, with_steps, IsLawful, is_contradiction}
use Rattle.ps_clause.specs.Forms.{Form, HasClauses, first_known}
use Rattle.ps_learn.specs.Trails.{Trail, TrailEntry, values, values_of, level, rank, up_to, IsLit, AreFresh, AreLevels, AreReasons, IsConflict}
use Rattle.ps_learn.specs.Levels.{IsAsserting}
use Rattle.ps_learn.specs.Falsity.{AreFalseIn}
use Rattle.ps_clause.specs.Spent.{IsDue}
use Rattle.ps_learn.specs.Resting.{AreRested, AreOfAtoms, HasRisen}
use Rattle.ps_learn.proofs.Opening.{up_to-opening, opening-level}
use Rattle.ps_learn.proofs.TrailDistinct.{level-most}
use Rattle.ps_learn.proofs.Learnt.{Learns, cut-opening, above-ground, rested-learned}
use Rattle.ps_learn.proofs.Rising.{risen-learned}
use Rattle.ps_learn.proofs.Due.{is-due}
use Rattle.ps_learn.proofs.Distinct.{all-distinct}
use Rattle.ps_learn.proofs.Growing.{atoms-take}

-- how far a search has come with the levels of its trail, and with the rank
pub record IsResting (f : Form) (known : Known) (es : List TrailEntry) (learned : ℕ) : Type 0 where
  pub rested : AreRested f.variables known es
  pub atoms : AreOfAtoms f es
  pub risen : HasRisen f.variables known es learned

-- a conflict that was come to
pub record IsAtConflict (f : Form) (known : Known) (t : Trail) (learned conflict : ℕ) : Type 0 where
  pub same : t.variables ≡ f.variables
  pub fresh : AreFresh t.variables t.entries
  pub levels : AreLevels t.entries
  pub reasons : AreReasons f.variables known t.entries
  pub rested : AreRested f.variables known t.entries
  pub atoms : AreOfAtoms f t.entries
  pub conflict_is : IsConflict known (values t) conflict
  pub risen : learned ≤ rank f.variables t.entries

-- what was learned there
pub lesson : (f : Form) (known : Known) (t : Trail) (learned conflict : ℕ) (x : Step) (next : ℕ) → IsAtConflict f known t learned conflict → IsLawful f.variables known x → All (IsLit f.variables) (lits_of x) → IsAsserting t (lits_of x) next → AreFalseIn (values t) (lits_of x) → is_contradiction x ≡ false → Learns t known x next
lesson f known t learned conflict x next h lawful lits asserting falsified some = record {
  fresh = h.fresh;
  levels = h.levels;
  rested = subst (λ n. AreRested n known t.entries) (sym h.same) h.rested;
  lawful = subst (λ n. IsLawful n known x) (sym h.same) lawful;
  asserting = asserting;
  falsified = falsified;
  literals = subst (λ n. All (IsLit n) (lits_of x)) (sym h.same) lits;
  some = some;
}

-- the level to go on from is below the conflict's
pub next-below : (t : Trail) (known : Known) (x : Step) (next : ℕ) → Learns t known x next → next < level t
next-below t known x next l =
    let o = cut-opening t known x next l in
    omega (arith, opening-level t.entries o.place o.entry l.levels o.there o.chosen, level-most t.entries o.place o.entry l.levels o.there, o.below)

-- the search goes on with it from the cut
pub resting-learned : (f : Form) (known : Known) (t w : Trail) (learned conflict : ℕ) (x : Step) (next : ℕ) → IsAtConflict f known t learned conflict → Learns t known x next → w ≡ up_to next t → IsResting f (known ++ Some (added x) ∷ []) w.entries (learned + 1)
resting-learned f known t w learned conflict x next h l cut =
    let o = cut-opening t known x next l in
    let e : w.entries ≡ take o.place t.entries = ap (λ (z : Trail). z.entries) cut ∙ up_to-opening t next o h.levels in
    let r : learned ≤ rank t.variables t.entries = subst (λ n. learned ≤ rank n t.entries) (sym h.same) h.risen in
    let up : HasRisen t.variables (known ++ Some (added x) ∷ []) (take o.place t.entries) (suc learned) = risen-learned t known x next learned l o r in
    let one : suc learned ≡ learned + 1 = omega arith in
    rw e (record {
      rested = subst (λ n. AreRested n (known ++ Some (added x) ∷ []) (take o.place t.entries)) h.same (rested-learned t known x next l o);
      atoms = atoms-take f t.entries o.place h.atoms;
      risen = rw (← one) (subst (λ n. HasRisen n (known ++ Some (added x) ∷ []) (take o.place t.entries) (suc learned)) h.same up);
    })

-- a search that learned so many clauses, and has come to a conflict above level 0, is spent
pub due-at : (f : Form) (goal : Constraint) (ss : List Step) (t : Trail) (learned conflict : ℕ) (x : Step) (next : ℕ) → IsAtConflict f (with_steps (first_known f goal) ss) t learned conflict → Learns t (with_steps (first_known f goal) ss) x next → HasClauses f → IsNormal (weighted goal.terms) goal.degree → IsDue f (with_steps (first_known f goal) ss)
due-at f goal ss t learned conflict x next h l clauses normal =
    is-due f (with_steps (first_known f goal) ss) t.entries conflict (subst (λ n. AreFresh n t.entries) h.same h.fresh) h.reasons h.rested h.atoms (all-distinct f goal ss clauses normal) (above-ground t _ x next l)
    (subst (λ n. IsConflict (with_steps (first_known f goal) ss) (values_of n t.entries) conflict) h.same h.conflict_is)
