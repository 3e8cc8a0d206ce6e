-- How far a search has come.
use Rattle.std.proofs.Common.{◌≡◌, ℕ, ◌+◌, ◌<◌, ◌≤◌, ◌^◌, ℤ, Bool, true, false, Some, List, [], ◌∷◌, ◌++◌, length, length-append, take, get_or, map, arith, refl, sym, ap, ◌∙◌, subst}
use Rattle.std.specs.Prelude.{IsTrue}
use Rattle.std.specs.Option.{option_map}
use Rattle.std.specs.List.{All}
use Rattle.std.proofs.lemmas.List.Elements.{All-nil, All-push}
use Rattle.ps_pb.specs.Assignments.{Assignment, place}
use Rattle.ps_pb.specs.Constraints.{Constraint, IsMet}
use Rattle.ps_pb.specs.Weights.{IsWithin, IsNormal, weighted, clause_of}
use Rattle.ps_pb.specs.Steps.{known_of, Step, added, with_step, with_steps, IsLawful, is_contradiction}
use Rattle.ps_pb.proofs.Within.{clause-within}
use Rattle.ps_pb.proofs.Ids.{known_of-append}
use Rattle.ps_pb.proofs.Onward.{lawful-append, steps-append}
use Rattle.ps_clause.specs.Forms.{Form, MeetsForm, AreInside, HasClauses, first_known}
use Rattle.ps_clause.specs.Decided.{AtomsDecide}
use Rattle.ps_log.specs.Logs.{Telling, Starts, Grows, Stays}
use Rattle.ps_learn.specs.Trails.{Trail, values, values_of, up_to, IsLit, IsFresh, AreFresh, AreLevels, AreReasons, IsConflict}
use Rattle.ps_learn.proofs.Entries.{reasons-take, reasons-more, reasons-none, length-values}
use Rattle.ps_learn.specs.Rest.{IsDone, IsLonger}
use Rattle.ps_sat.specs.Searches.{HoldsGoalAndSteps, Handed, AreLearned, IsHeld, HoldsLearned}
use Rattle.ps_sat.specs.declared.searching.Outcome.{Outcome}
use Rattle.ps_sat.proofs.Ends.{found, refuted}
use Rattle.ps_sat.proofs.Lessons.{IsResting, IsAtConflict, resting-learned, due-at}
use Rattle.ps_clause.specs.Spent.{IsSpentSearch, AreNew}
use Rattle.ps_learn.specs.Resting.{AreRested, AreOfAtoms}
use Rattle.ps_learn.proofs.Learnt.{Learns}
use Rattle.ps_learn.proofs.Rising.{risen-none, risen-few, below-power}
use Rattle.ps_learn.proofs.Growing.{rested-none, atoms-none}
use Rattle.ps_learn.proofs.News.{new-none, new-more}

-- a search: the trail's reasons are known, and what is known is the form, the goal and the steps that were handed over
pub record Searching (f : Form) (goal : Constraint) (told : Bool) (new : Telling) (cs : List Constraint) (t : Trail) (learned : ℕ) : Type 0 where
  pub same : t.variables ≡ f.variables
  pub handed : Handed f goal told new
  pub known : known_of cs ≡ with_steps (first_known f goal) handed.steps
  pub reasons : AreReasons f.variables (known_of cs) t.entries
  pub inside : All (IsWithin f.variables) cs
  pub count : length handed.steps ≡ learned
  pub literals : All (λ x. is_contradiction x ≡ false) handed.steps
  pub resting : IsResting f (known_of cs) t.entries learned
  pub news : AreNew f handed.steps
  pub few : learned ≤ 2 ^ f.variables

pub begun : (old new : Telling) (goal : Constraint) → Starts old new goal → HoldsGoalAndSteps new.tells new goal []
begun old new goal st = λ b. (let r = st.1 b in (b, r.0, r.1))

-- what a log holds that tells now is held by one that told before
abbrev pub handed_told : (f : Form) (goal : Constraint) (told later : Bool) (new : Telling) → (IsTrue told → IsTrue later) → Handed f goal later new → Handed f goal told new
handed_told f goal told later new tell h = record { steps = h.steps; held = λ b. h.held (tell b); lawful = h.lawful; literals = h.literals }

-- what a log holds stays with it
abbrev pub handed_stays : (f : Form) (goal : Constraint) (told : Bool) (old new : Telling) → Stays old new → Handed f goal told old → Handed f goal told new
handed_stays f goal told old new stays h = record {
  steps = h.steps;
  held = λ b. (let was = h.held b in let now = stays was.0 in (now.0, now.1 ∙ was.1, now.2 ∙ was.2));
  lawful = h.lawful;
  literals = h.literals;
}

-- the search's outcome or its error as a log tells them that told before
pub told-before : (f : Form) (goal : Constraint) (old start new : Telling) (conflicts : ℕ) (o : Outcome) → Starts old start goal → IsHeld f goal conflicts start.tells new o → IsHeld f goal conflicts old.tells new o
told-before f goal old start new conflicts o st h = (handed_told f goal old.tells start.tells new st.0 h.0, h.1)

pub told-learned : (f : Form) (goal : Constraint) (conflicts : ℕ) (old start new : Telling) → Starts old start goal → HoldsLearned f goal conflicts start.tells new → HoldsLearned f goal conflicts old.tells new
told-learned f goal conflicts old start new st h = (handed_told f goal old.tells start.tells new st.0 h.0, h.1)

-- nothing was handed over yet
abbrev pub none_handed : (f : Form) (goal : Constraint) (told : Bool) (new : Telling) → HoldsGoalAndSteps told new goal [] → Handed f goal told new
none_handed f goal told new st = record { steps = []; held = st; lawful = tt; literals = All-nil (λ s. All (IsLit f.variables) s.lits) }

pub handed-none : (f : Form) (goal : Constraint) (told : Bool) (new : Telling) (conflicts : ℕ) → HoldsGoalAndSteps told new goal [] → HoldsLearned f goal conflicts told new
handed-none f goal told new conflicts st = (none_handed f goal told new st, record { count = omega arith; few = omega arith; literals = All-nil (λ x. is_contradiction x ≡ false); new = new-none f })

pub begins : (f : Form) (goal : Constraint) (told : Bool) (new : Telling) (cs : List Constraint) (t : Trail) → HoldsGoalAndSteps told new goal [] → cs ≡ f.clauses ++ goal ∷ [] → t ≡ record { variables = f.variables; entries = [] } → AreInside f → IsWithin f.variables goal → Searching f goal told new cs t 0
begins f goal told new cs t st e q inside own = rw (e, q) (record {
  same = refl;
  handed = none_handed f goal told new st;
  known = refl;
  reasons = reasons-none f.variables (first_known f goal);
  inside = All-push (IsWithin f.variables) f.clauses goal inside own;
  count = refl;
  literals = All-nil (λ x. is_contradiction x ≡ false);
  resting = record { rested = rested-none f.variables (first_known f goal); atoms = atoms-none f; risen = risen-none f.variables (first_known f goal) [] };
  news = new-none f;
  few = omega arith;
})

pub hold-more : (told : Bool) (old new : Telling) (c : Constraint) (ss : List Step) (x : Step) → HoldsGoalAndSteps told old c ss → Grows old new (x ∷ []) → HoldsGoalAndSteps told new c (ss ++ x ∷ [])
hold-more told old new c ss x h grows = λ b.
    let was = h b in
    let now = grows was.0 in
    (now.0, now.1 ∙ was.1, now.2 ∙ ap (option_map (λ ss. ss ++ x ∷ [])) was.2)

-- one step more was handed over
unfoldable pub handed-more : (f : Form) (goal : Constraint) (told : Bool) (old new : Telling) (cs : List Constraint) (t : Trail) (learned : ℕ) (x : Step) → Searching f goal told old cs t learned → IsLawful f.variables (known_of cs) x → All (IsLit f.variables) x.lits → Grows old new (x ∷ []) → Handed f goal told new
handed-more f goal told old new cs t learned x h lawful lits grows = record {
  steps = h.handed.steps ++ x ∷ [];
  held = hold-more told old new goal h.handed.steps x h.handed.held grows;
  lawful = lawful-append f.variables (first_known f goal) h.handed.steps x h.handed.lawful (subst (λ k. IsLawful f.variables k x) h.known lawful);
  literals = All-push (λ s. All (IsLit f.variables) s.lits) h.handed.steps x h.handed.literals lits;
}

pub lits_inside : (v : ℕ) (lits : List ℤ) → All (IsLit v) lits → All (λ l. place l < v) lits
lits_inside v lits h = λ k d lt. within_by (get_or lits k d) (h k d lt)
  where
    within_by : (l : ℤ) → IsLit v l → place l < v
    within_by l h = omega (arith, h.0, h.1)

-- the steps of a search were learned
pub steps-learned : (f : Form) (goal : Constraint) (told : Bool) (new : Telling) (cs : List Constraint) (t : Trail) (learned conflicts : ℕ) → (h : Searching f goal told new cs t learned) → learned ≤ conflicts → AreLearned f conflicts h.handed.steps
steps-learned f goal told new cs t learned conflicts h le = record {
  count = subst (λ n. n ≤ conflicts) (sym h.count) le;
  few = subst (λ n. n ≤ 2 ^ f.variables) (sym h.count) h.few;
  literals = h.literals;
  new = h.news;
}

-- the steps that were handed over are of clauses that were learned
pub handed-learned : (f : Form) (goal : Constraint) (told : Bool) (new : Telling) (cs : List Constraint) (t : Trail) (learned conflicts : ℕ) → Searching f goal told new cs t learned → learned ≤ conflicts → HoldsLearned f goal conflicts told new
handed-learned f goal told new cs t learned conflicts h le = (h.handed, steps-learned f goal told new cs t learned conflicts h le)

-- none was
pub handed-stays : (f : Form) (goal : Constraint) (told : Bool) (old new : Telling) (cs : List Constraint) (t : Trail) (learned conflicts : ℕ) → Searching f goal told old cs t learned → learned ≤ conflicts → Stays old new → HoldsLearned f goal conflicts told new
handed-stays f goal told old new cs t learned conflicts h le stays = (handed_stays f goal told old new stays h.handed, steps-learned f goal told old cs t learned conflicts h le)

-- the search goes on after a step
pub goes-on : (f : Form) (goal : Constraint) (told : Bool) (old new : Telling) (cs cs' : List Constraint) (t u w : Trail) (learned conflict next k : ℕ) (x : Step) → Searching f goal told old cs t learned → IsAtConflict f (known_of cs) u learned conflict → Learns u (known_of cs) x next → HasClauses f → IsLawful f.variables (known_of cs) x → Grows old new (x ∷ [])
    → cs' ≡ cs ++ added x ∷ [] → All (IsLit f.variables) x.lits → w ≡ up_to next u → w.variables ≡ u.variables → w.entries ≡ take k u.entries → Searching f goal told new cs' w (learned + 1)
unfolding handed-more
goes-on f goal told old new cs cs' t u w learned conflict next k x h at lesson clauses lawful grows more lits whole same cut =
    let now : known_of cs' ≡ with_step (known_of cs) x = ap known_of more ∙ known_of-append cs (added x) in
    record {
      same = same ∙ at.same;
      handed = handed-more f goal told old new cs t learned x h lawful lits grows;
      known = now ∙ ap (λ y. with_step y x) h.known ∙ sym (steps-append (first_known f goal) h.handed.steps x);
      reasons = rw (now, cut) (reasons-take f.variables (with_step (known_of cs) x) u.entries k (reasons-more f.variables (known_of cs) (Some (added x)) u.entries at.reasons));
      inside = rw more (All-push (IsWithin f.variables) cs (clause_of x.lits) h.inside (clause-within f.variables x.lits (lits_inside f.variables x.lits lits)));
      count = omega (arith, h.count, length-append h.handed.steps (x ∷ []));
      literals = All-push (λ y. is_contradiction y ≡ false) h.handed.steps x h.literals lesson.some;
      resting = subst (λ y. IsResting f y w.entries (learned + 1)) (sym now) (resting-learned f (known_of cs) u w learned conflict x next at lesson whole);
      few = omega (arith, below-power f.variables u.entries learned at.risen);
      news = new-more f goal h.handed.steps u x next clauses h.handed.lawful h.handed.literals (subst (λ y. Learns u y x next) h.known lesson) h.news;
    }

-- a conflict that was come to
pub comes-to : (f : Form) (goal : Constraint) (told : Bool) (new : Telling) (cs : List Constraint) (t u : Trail) (learned conflict : ℕ) → Searching f goal told new cs t learned → u.variables ≡ t.variables → IsLonger t.entries u.entries → AreReasons u.variables (known_of cs) u.entries → AreRested f.variables (known_of cs) u.entries → AreOfAtoms f u.entries
    → IsConflict (known_of cs) (values u) conflict → AreFresh u.variables u.entries → AreLevels u.entries → IsAtConflict f (known_of cs) u learned conflict
comes-to f goal told new cs t u learned conflict h tu longer reasons rested atoms conflict_is fresh levels =
    let same : u.variables ≡ f.variables = tu ∙ h.same in
    record {
      same = same;
      fresh = fresh;
      levels = levels;
      reasons = subst (λ m. AreReasons m (known_of cs) u.entries) same reasons;
      rested = rested;
      atoms = atoms;
      conflict_is = conflict_is;
      risen = risen-few f.variables (known_of cs) t.entries longer.more u.entries learned conflict longer.is h.resting.risen rested (subst (λ m. IsConflict (known_of cs) (values_of m u.entries) conflict) same conflict_is);
    }

-- a search that is spent
pub search-spent : (f : Form) (goal : Constraint) (told : Bool) (new : Telling) (cs : List Constraint) (t u : Trail) (learned conflicts conflict next : ℕ) (x : Step) → (h : Searching f goal told new cs t learned) → IsAtConflict f (known_of cs) u learned conflict → Learns u (known_of cs) x next → HasClauses f → IsNormal (weighted goal.terms) goal.degree → learned ≡ conflicts
    → IsSpentSearch f goal conflicts h.handed.steps
search-spent f goal told new cs t u learned conflicts conflict next x h at lesson clauses normal e = record {
  lawful = h.handed.lawful;
  count = h.count ∙ e;
  literals = h.literals;
  few = subst (λ n. n < 2 ^ f.variables) e (below-power f.variables u.entries learned at.risen);
  new = h.news;
  due = due-at f goal h.handed.steps u learned conflict x next (subst (λ y. IsAtConflict f y u learned conflict) h.known at) (subst (λ y. Learns u y x next) h.known lesson) clauses normal;
}

-- a full assignment was found
pub search-found : (f : Form) (goal : Constraint) (told : Bool) (new : Telling) (cs : List Constraint) (t u : Trail) (learned : ℕ) (a : Assignment) → Searching f goal told new cs t learned → u.variables ≡ t.variables → AtomsDecide f → AreInside f → IsWithin f.variables goal → IsDone f (known_of cs) (values u) → a ≡ values u
    → (w : List Bool) × (a ≡ map Some w) × (length w ≡ f.variables) × MeetsForm w f × IsMet w goal
search-found f goal told new cs t u learned a h same decided inside own done e =
    found f goal h.handed.steps (known_of cs) a h.known decided inside own (ap length e ∙ length-values u.variables u.entries ∙ same ∙ h.same) (subst (λ b. IsDone f (known_of cs) b) (sym e) done)

-- the form and the goal are refuted
pub search-refuted : (f : Form) (goal : Constraint) (told : Bool) (new : Telling) (cs : List Constraint) (t : Trail) (learned : ℕ) (x : Step) → Searching f goal told new cs t learned → IsLawful f.variables (known_of cs) x → is_contradiction x ≡ true → (w : List Bool) → MeetsForm w f → IsMet w goal → ⊥
search-refuted f goal told new cs t learned x h lawful non = refuted f goal cs h.handed.steps x h.handed.lawful h.known lawful non

pub fresh-decided : (n : ℕ) (t : Trail) (a : Assignment) (l : ℤ) → a ≡ values t → t.variables ≡ n → IsFresh n a l → IsFresh t.variables (values t) l
fresh-decided n t a l e q f = subst (λ m. IsFresh m (values t) l) (sym q) (subst (λ b. IsFresh n b l) e f)
