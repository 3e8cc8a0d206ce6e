-- A sign of one term too many is refused.
use Rattle.std.proofs.Common.{◌≡◌, ◌<◌, Bool, true, false, Some, None, is_some, refl, ap, sym, subst, ◌∙◌, not, ◌&&◌, true≢false, arith}
use Rattle.std.proofs.lemmas.Bool.Decides.{nat_tests}
use Rattle.std.specs.Prelude.{nat_lt, if◌then◌else◌}
use Rattle.ps_text.specs.declared.limits.TheConstants.{MOST_TERMS}
use Rattle.ps_text.specs.declared.kind.ReadKind.TheVariants.{TooManyTerms}
use Rattle.ps_text.specs.declared.part.Part.TheVariants as part
use Rattle.ps_text.specs.Tokens.{Token}
use Rattle.ps_text.specs.ExpectedTokens.{State, is_term_sign, terms_so_far, fault_at, refusal}
use Rattle.ps_text.proofs.Steps.{passed}

pub few_terms : (d : State) (t : Token) → refusal d t ≡ None → d.part ≡ part.Relation → is_term_sign t ≡ true → terms_so_far d.linear < MOST_TERMS
few_terms d t h e s = by (nat_lt (terms_so_far d.linear) MOST_TERMS) refl (ap (λ b. if b && not (nat_lt (terms_so_far d.linear) MOST_TERMS) then Some TooManyTerms else None) (sym s) ∙ fault)
  where
    fault : fault_at part.Relation d t ≡ None
    fault = subst (λ p. fault_at p d t ≡ None) e (passed d t h).fault

    by : (b : Bool) → nat_lt (terms_so_far d.linear) MOST_TERMS ≡ b → (if not b then Some TooManyTerms else None) ≡ None → terms_so_far d.linear < MOST_TERMS
    by true f g = grind (arith, nat_tests)
    by false f g = absurd (true≢false (ap is_some g))
