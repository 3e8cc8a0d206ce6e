-- Literals once each have the same opposites.
use Rattle.std.proofs.Common.{◌≡◌, ℤ, neg_ℤ, Bool, not, ◌&&◌, [], ◌∷◌, length, refl, ◌∙◌}
use Rattle.std.specs.Prelude.{nat_lt}
use Rattle.std.specs.List.{list_any}
use Rattle.std.specs.Ordering.{int_eq}
use Rattle.ps_clause.specs.Clauses.{Clause, once, is_tautology}
use Rattle.ps_clause.proofs.Tidy.{met-once}
use Rattle.ps_wcnf.specs.Valued.{is_long}

any-same : (p q : ℤ → Bool) (c : Clause) → ((l : ℤ) → p l ≡ q l) → list_any p c ≡ list_any q c
any-same p q [] h = refl
any-same p q (l ∷ ls) h = rw (h l, any-same p q ls h) refl

pub taut_once : (c : Clause) → is_tautology (once c) ≡ is_tautology c
taut_once c =
    met-once (λ l. list_any (int_eq (neg_ℤ l)) (once c)) c
    ∙ any-same (λ l. list_any (int_eq (neg_ℤ l)) (once c)) (λ l. list_any (int_eq (neg_ℤ l)) c) c (λ l. met-once (int_eq (neg_ℤ l)) c)

pub long_once : (c : Clause) → (not (is_tautology (once c)) && nat_lt 1 (length (once c))) ≡ is_long c
long_once c = rw (taut_once c) refl
