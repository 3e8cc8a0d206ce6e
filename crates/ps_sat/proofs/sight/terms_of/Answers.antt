use Rattle.std.proofs.Common.{rules, ◌∙◌, List, ℤ, IsPermutation, subst}
use Rattle.std.proofs.lemmas.List.Sorted.{IsNonDecreasingBy-from_sort_by_key}
use Rattle.ps_sat.specs.Sights.{size_of}
use Rattle.ps_sat.proofs.sight.terms_of.Goals as goal

pub returns : goal.returns
returns c = record {
  same = subst (λ (xs : List (ℤ × ℤ)). IsPermutation xs c.sort_by_key.new.self.items) (c.in_ok-terms.ensures.items ∙ c.as_slice.ensures ∙ c.terms.ensures.value) c.in_ok-sort_by_key.ensures.permutation;
  rising = IsNonDecreasingBy-from_sort_by_key size_of _ c.in_ok-sort_by_key.ensures.sorted (λ a r q k. search rules);
}
