-- The first clause that is missed.
use Rattle.std.proofs.Common.{◌≡◌, ℕ, suc, ◌+◌, ◌<◌, ◌≤◌, Bool, true, false, Some, None, List, length, drop, get_or, arith}
use Rattle.std.proofs.lemmas.List.{drop_more, drop_all}
use Rattle.ps_clause.specs.Clauses.{Clause, meets}
use Rattle.ps_max_answer.specs.Answers.{first_missed}

pub missed-next : (w : List Bool) (cs : List Clause) (i : ℕ) (d : Clause) → i < length cs → first_missed w (i + 1) (drop i cs) ≡ first_missed w 1 cs → meets w (get_or cs i d) ≡ true
    → first_missed w (i + 1 + 1) (drop (i + 1) cs) ≡ first_missed w 1 cs
missed-next w cs i d lt so met = let e = drop_more cs i d lt in let n : suc (i + 1) ≡ i + 1 + 1 = omega arith in rw (e, met, n) at so

pub missed-here : (w : List Bool) (cs : List Clause) (i : ℕ) (d : Clause) → i < length cs → first_missed w (i + 1) (drop i cs) ≡ first_missed w 1 cs → meets w (get_or cs i d) ≡ false
    → Some (i + 1) ≡ first_missed w 1 cs
missed-here w cs i d lt so none = let e = drop_more cs i d lt in rw (e, none) at so

pub missed-none : (w : List Bool) (cs : List Clause) (i : ℕ) → length cs ≤ i → first_missed w (i + 1) (drop i cs) ≡ first_missed w 1 cs → None ≡ first_missed w 1 cs
missed-none w cs i most so = let e = drop_all i cs most in rw e at so
