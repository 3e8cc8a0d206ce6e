-- Values that are read behind a first line.
use Rattle.std.proofs.lemmas.Bool.{eqb-true}
use Rattle.std.specs.Prelude.{if◌then◌else◌}
use Rattle.std.proofs.Common.{◌≡◌, ◌==◌, ◌≤◌, Bool, true, false, suc, None, ℕ, List, [], ◌∷◌, ◌++◌, Some, Result, Ok, Err, refl, sym, ap, subst, ◌∙◌, append_assoc}
use Rattle.ps_answer.specs.declared.item.LineItem.{LineItem}
use Rattle.ps_answer.specs.declared.part.Part.{Part}
use Rattle.ps_answer.specs.declared.item.LineItem.TheVariants as line
use Rattle.ps_answer.specs.declared.part.Part.TheVariants.{AGoal, AnAnswer, AQuery}
use Rattle.std.proofs.lemmas.Option.{none-some}
use Rattle.ps_reader.specs.Read.{Fits}
use Rattle.ps_answer.specs.declared.error.ReportError.{ReportError}
use Rattle.ps_answer.specs.Items.{IsProper}
use Rattle.ps_answer.specs.ExpectedParts.{behind, due_behind}
use Rattle.ps_answer.specs.Faults.{AreLines}
use Rattle.ps_reader.specs.declared.lines.Lines.{Lines}
use Rattle.ps_reader.specs.Taken.{Takes, IsStopped, IsValueRead}
use Rattle.ps_reader.specs.Reports.{HasRest, IsReadBehind, IsGood}
use Rattle.ps_reader.proofs.Taking.{takes_both, stopped_later, stopped_more, stopped_behind}
use Rattle.ps_reader.proofs.Passing.{Passes}

-- a line that was taken is a good one
pub good_line : (a b : Lines) (i : LineItem) → Takes a b (i ∷ []) → IsGood i
good_line a b i t = record { proper = by t.before.lines t.before.say; within = t.within.0 }
  where
    by : (ls : List (List ℕ)) → AreLines ls (i ∷ []) → IsProper i
    by [] s = absurd s
    by (l ∷ ls) s = s.0.proper

-- a fault behind values whose lines pass
pub stopped_after : (a b : Lines) (ps qs : List Part) (is : List LineItem) (e : ReportError) → Takes a b is → Passes ps is → IsStopped b qs e → IsStopped a (ps ++ qs) e
stopped_after a b ps qs is e t h s = stopped_later a b is (ps ++ qs) qs e t (λ due. ap (λ d. due_behind d is) (append_assoc ps qs due) ∙ h (qs ++ due)) s

-- a first line, and the rest of its value
pub value_read : {X : Type 0} (items_of : X → List LineItem) (a b c : Lines) (i : LineItem) (p : Part) (parts : List Part) (r : Result X ReportError)
    → Takes a b (i ∷ []) → ((due : List Part) → behind p i due ≡ Some (parts ++ due)) → IsReadBehind (HasRest i items_of) parts b c r → IsValueRead items_of (p ∷ []) a c r
value_read items_of a b c i p parts (Ok x) t h k = subst (λ l. Takes a c l) (sym k.1) (takes_both a b c (i ∷ []) k.0 t k.2)
value_read items_of a b c i p parts (Err e) t h k = stopped_behind a b i p parts e t h k

-- a fault behind values whose lines pass, where other parts follow
pub stopped_at : (a b : Lines) (ps qs rs : List Part) (is : List LineItem) (e : ReportError) → Takes a b is → Passes ps is → IsStopped b qs e → IsStopped a (ps ++ (qs ++ rs)) e
stopped_at a b ps qs rs is e t h s = stopped_after a b ps (qs ++ rs) is e t h (stopped_more b qs rs e s)

-- a result that is an error, or a value
pub told_err : {X : Type 0} (items_of : X → List LineItem) (parts : List Part) (a b : Lines) (r : Result X ReportError) (e : ReportError) → r ≡ Err e → IsValueRead items_of parts a b r → IsStopped a parts e
told_err items_of parts a b r e f h = subst (λ q. IsValueRead items_of parts a b q) f h

pub told_ok : {X : Type 0} (items_of : X → List LineItem) (parts : List Part) (a b : Lines) (r : Result X ReportError) (x : X) → r ≡ Ok x → IsValueRead items_of parts a b r → Takes a b (items_of x)
told_ok items_of parts a b r x f h = subst (λ q. IsValueRead items_of parts a b q) f h

-- only its own line is one of a part
pub goal_only : (i : LineItem) → Fits AGoal i → ((g : _) → i ≡ line.GoalLine g → ⊥) → ⊥
unfolding behind
goal_only (line.GoalLine g) f n = n g refl
goal_only i f n = absurd (none-some _ (f []).1)

pub query_only : (j : ℕ) (i : LineItem) → Fits (AQuery j) i → ((n : ℕ) → i ≡ line.Query n → ⊥) → (i ≡ line.End → ⊥) → ⊥
unfolding behind
query_only j (line.Query n) f h k = h n refl
query_only j line.End f h k = k refl
query_only j i f h k = absurd (none-some _ (f []).1)

-- the query that begins is the one that is due
same_query : (j n : ℕ) → Fits (AQuery j) (line.Query n) → n ≡ j
unfolding behind
same_query j n f = by (n == j) refl (f []).1
  where
    by : (t : Bool) → (n == j) ≡ t → {next : List Part} → (if t then Some (AnAnswer ∷ AQuery (suc j) ∷ []) else None) ≡ Some next → n ≡ j
    by true e h = eqb-true n j e
    by false e h = absurd (none-some _ h)

pub query_is : (j n : ℕ) (a b : Lines) → Fits (AQuery j) (line.Query n) → Takes a b (line.Query n ∷ []) → Takes a b (line.Query j ∷ [])
query_is j n a b f t = subst (λ k. Takes a b (line.Query k ∷ [])) (same_query j n f) t

pub few_queries : (j n : ℕ) (a b : Lines) → Fits (AQuery j) (line.Query n) → Takes a b (line.Query n ∷ []) → j ≤ 16
few_queries j n a b f t = subst (λ k. k ≤ 16) (same_query j n f) t.within.0
