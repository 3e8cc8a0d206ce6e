-- What is open, in either order.
use Rattle.std.proofs.Common.{◌≡◌, List, reverse, sym}
use Rattle.std.proofs.lemmas.List.Sorted.{IsPermutation-reverse, list_any-IsPermutation}
use Rattle.std.specs.List.{list_any}
use Rattle.ps_text.specs.declared.part.Opening.{Opening}
use Rattle.ps_text.specs.ExpectedTokens.{is_group}

pub any_group : (xs : List Opening) → list_any is_group (reverse xs) ≡ list_any is_group xs
any_group xs = sym (list_any-IsPermutation is_group xs (reverse xs) (IsPermutation-reverse xs))
