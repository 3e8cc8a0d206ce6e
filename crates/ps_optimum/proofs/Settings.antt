-- A text's form as a search takes it.
use Rattle.std.proofs.Common.{◌≡◌, ℤ, refl, ◌∙◌}
use Rattle.ps_wcnf.specs.Handed.{IsFormOf}
use Rattle.ps_wcnf.specs.declared.text.WcnfText.{WcnfText}
use Rattle.ps_wcnf.specs.declared.valued.ValuedForm.{ValuedForm}
use Rattle.ps_optimum.specs.Searches.{wcnf_of}

pub wcnf-is : (t : WcnfText) (f : ValuedForm) (base : ℤ) → base ≡ f.base → IsFormOf t f → record { hard = f.clauses; soft = f.literals; base = base } ≡ wcnf_of t
wcnf-is t f base e h = rw (h.clauses, h.literals, e ∙ h.base) refl
