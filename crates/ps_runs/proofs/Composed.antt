-- Events follow events.
use Rattle.std.proofs.Common.{◌≡◌, ℕ, ◌+◌, List, [], ◌∷◌, ◌++◌, sym, subst, arith}
use Rattle.std.proofs.lemmas.List.{append-nil, append_assoc}
use Rattle.ps_table.specs.declared.event.Event.{Event}
use Rattle.ps_table.specs.declared.event.Event.TheVariants.{Pivot, Priced}
use Rattle.ps_runs.specs.Programs.{Program}
use Rattle.ps_runs.specs.Runs.{Stage, LeadsTo, still, pivoted, priced, pivots_in}

pub pivots_in-append : (xs ys : List Event) → pivots_in (xs ++ ys) ≡ pivots_in xs + pivots_in ys
pivots_in-append [] ys = omega arith
pivots_in-append (Pivot enter leave ∷ xs) ys = let e = pivots_in-append xs ys in omega (arith, e)
pivots_in-append (Priced world ∷ xs) ys = pivots_in-append xs ys

module _ (p : Program) (conflicts : ℕ) where
  pub leads_on : (a b c : Stage) (xs ys : List Event) → LeadsTo p conflicts a xs b → LeadsTo p conflicts b ys c → LeadsTo p conflicts a (xs ++ ys) c
  leads_on a b c xs ys first (still d) = subst (λ es. LeadsTo p conflicts a es b) (sym (append-nil xs)) first
  leads_on a b c xs ys first (pivoted d e events enter leave basis before lawful based) =
      subst (λ es. LeadsTo p conflicts a es c) (append_assoc xs events (Pivot enter leave ∷ []))
      (pivoted a e (xs ++ events) enter leave basis (leads_on a b e xs events first before) lawful based)
  leads_on a b c xs ys first (priced d e events world before is) =
      subst (λ es. LeadsTo p conflicts a es c) (append_assoc xs events (Priced world ∷ [])) (priced a e (xs ++ events) world (leads_on a b e xs events first before) is)
