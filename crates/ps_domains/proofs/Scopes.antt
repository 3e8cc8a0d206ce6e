-- What is bound, in either order.
use Rattle.std.proofs.Common.{◌≡◌, List, reverse, sym}
use Rattle.std.proofs.lemmas.List.Sorted.{IsPermutation-reverse, list_any-IsPermutation}
use Rattle.std.specs.List.{list_any}
use Rattle.ps_meaning.specs.Statements.{Name}
use Rattle.ps_domains.specs.declared.declared.Scope.{Scope}
use Rattle.ps_domains.specs.Names.{binds}

pub any_bound : (w : Name) (xs : List Scope) → list_any (binds w) (reverse xs) ≡ list_any (binds w) xs
any_bound w xs = sym (list_any-IsPermutation (binds w) xs (reverse xs) (IsPermutation-reverse xs))
