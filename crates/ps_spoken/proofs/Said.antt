-- Texts said one after the other.
use Rattle.std.proofs.Common.{◌≡◌, ℕ, List, ◌++◌, Ok, Err, ap, ◌∙◌, append_assoc}
use Rattle.std.specs.Prelude.{Result}
use Rattle.ps_spoken.specs.Numbers.{Says}

-- where the front of a text stands, and the rest of it is said behind, all of it is said
pub said : {T E : Type 0} (r : Result T E) (out mid new front rest : List ℕ) → mid ≡ out ++ front → Says r mid new rest → Says r out new (front ++ rest)
said (Ok x) out mid new front rest e h = h ∙ ap (λ bs. bs ++ rest) e ∙ append_assoc out front rest
said (Err x) out mid new front rest e h = tt
