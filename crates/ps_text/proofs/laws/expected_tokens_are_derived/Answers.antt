use Rattle.ps_text.proofs.Derived.{expected_are_derived}
use Rattle.ps_text.proofs.Deriving.{derived_are_expected}
use Rattle.ps_text.proofs.laws.expected_tokens_are_derived.Goals as goal

pub returns-clause-derived : goal.returns-clause-derived
returns-clause-derived c = expected_are_derived

pub returns-clause-expected : goal.returns-clause-expected
returns-clause-expected c = derived_are_expected
