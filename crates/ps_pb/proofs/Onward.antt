-- Lists of steps with one more step behind them.
use Rattle.std.proofs.Common.{◌≡◌, ℕ, Option, Some, None, List, [], ◌∷◌, ◌++◌, refl, ◌∙◌}
use Rattle.ps_pb.specs.declared.refused.StepRefused.{StepRefused}
use Rattle.ps_pb.specs.Steps.{Known, Step, id_of, refusal_of, IsLawful, AreLawful, with_step, with_steps, is_contradiction, ends_in_contradiction, or_later, first_refusal, Refutes, Entails, IsUnmet}
use Rattle.ps_pb.proofs.Lawful.{lawful-entails, refutes-unmet}

pub steps-append : (known : Known) (ss : List Step) (s : Step) → with_steps known (ss ++ s ∷ []) ≡ with_step (with_steps known ss) s
steps-append known [] s = refl
steps-append known (t ∷ ss) s = steps-append (with_step known t) ss s

pub lawful-append : (v : ℕ) (known : Known) (ss : List Step) (s : Step) → AreLawful v known ss → IsLawful v (with_steps known ss) s → AreLawful v known (ss ++ s ∷ [])
lawful-append v known [] s h l = (l, tt)
lawful-append v known (t ∷ ss) s h l = (h.0, lawful-append v (with_step known t) ss s h.1 l)

pub append-lawful : (v : ℕ) (known : Known) (ss : List Step) (s : Step) → AreLawful v known (ss ++ s ∷ []) → AreLawful v known ss × IsLawful v (with_steps known ss) s
append-lawful v known [] s h = (tt, h.0)
append-lawful v known (t ∷ ss) s h = let r = append-lawful v (with_step known t) ss s h.1 in ((h.0, r.0), r.1)

pub ends-append : (ss : List Step) (s : Step) → ends_in_contradiction (ss ++ s ∷ []) ≡ is_contradiction s
ends-append [] s = refl
ends-append (t ∷ []) s = refl
ends-append (t ∷ u ∷ ss) s = ends-append (u ∷ ss) s

or_later-none : (id : ℕ) (r : Option StepRefused) (later : Option (ℕ × StepRefused)) → or_later id r later ≡ None → (r ≡ None) × (later ≡ None)
or_later-none id None later e = (refl, e)
or_later-none id (Some why) later e = absurd (cc)

pub none-lawful : (v : ℕ) (known : Known) (ss : List Step) → first_refusal v known ss ≡ None → AreLawful v known ss
none-lawful v known [] e = tt
none-lawful v known (s ∷ ss) e =
    let h = or_later-none (id_of s) (refusal_of v known s) (first_refusal v (with_step known s) ss) e in
    (h.0, none-lawful v (with_step known s) ss h.1)

none_then : (id : ℕ) (r : Option StepRefused) (later : Option (ℕ × StepRefused)) → r ≡ None → or_later id r later ≡ later
none_then id r later e = rw e refl

pub lawful-none : (v : ℕ) (known : Known) (ss : List Step) → AreLawful v known ss → first_refusal v known ss ≡ None
lawful-none v known [] l = refl
lawful-none v known (s ∷ ss) l = none_then (id_of s) (refusal_of v known s) _ l.0 ∙ lawful-none v (with_step known s) ss l.1

-- after lawful steps the first refusal is that of the step behind them
pub refusal-append : (v : ℕ) (known : Known) (ss : List Step) (s : Step) → AreLawful v known ss
    → first_refusal v known (ss ++ s ∷ []) ≡ or_later (id_of s) (refusal_of v (with_steps known ss) s) None
refusal-append v known [] s l = refl
refusal-append v known (t ∷ ss) s l = none_then (id_of t) (refusal_of v known t) _ l.0 ∙ refusal-append v (with_step known t) ss s l.1

-- and a refusal before it stays the first
pub refusal-kept : (v : ℕ) (known : Known) (ss : List Step) (s : Step) (r : ℕ × StepRefused) → first_refusal v known ss ≡ Some r → first_refusal v known (ss ++ s ∷ []) ≡ Some r
refusal-kept v known [] s r e = absurd (cc)
refusal-kept v known (t ∷ ss) s r e = by_first (refusal_of v known t) (refusal-kept v (with_step known t) ss s r) e
  where
    by_first : (o : Option StepRefused) → (first_refusal v (with_step known t) ss ≡ Some r → first_refusal v (with_step known t) (ss ++ s ∷ []) ≡ Some r)
        → or_later (id_of t) o (first_refusal v (with_step known t) ss) ≡ Some r → or_later (id_of t) o (first_refusal v (with_step known t) (ss ++ s ∷ [])) ≡ Some r
    by_first None later e = later e
    by_first (Some why) later e = e

pub onward : (first known later : Known) → Entails first known → Entails known later → Entails first later
onward first known later p q = record { met = λ w m. q.met w (p.met w m) }

pub list-entailed : (v : ℕ) (known : Known) (ss : List Step) → AreLawful v known ss → Entails known (with_steps known ss)
list-entailed v known [] l = record { met = λ w m. m }
list-entailed v known (s ∷ ss) l = onward known (with_step known s) (with_steps known (s ∷ ss)) (lawful-entails v known s l.0) (list-entailed v (with_step known s) ss l.1)

pub refuted-unmet : (v : ℕ) (known : Known) (ss : List Step) → Refutes v known ss → IsUnmet known
refuted-unmet v known ss r = record { none = λ w m. refutes-unmet w v known ss r m }
