-- The literals of a text are no zeros, and of its variables.
use Rattle.std.proofs.Common.{ℕ, zero, suc, ◌≤◌, ℤ, pos, negsuc, ◌≤ℤ◌, List, [], ◌∷◌, unsigned_abs, arith}
use Rattle.std.specs.List.{All}
use Rattle.std.proofs.lemmas.List.Elements.{All-head, All-tail}
use Rattle.ps_clause.specs.Clauses.{Clause}
use Rattle.ps_clause.proofs.Tidy.{IsLit, AreLits, AreClauses}
use Rattle.ps_wcnf.specs.Costs.{Soft}
use Rattle.ps_wcnf.specs.Limits.{last_in, last_hard, last_soft, IsWeight, AreLiterals}
use Rattle.ps_wcnf.specs.Laws.{IsWeighed}
use Rattle.ps_wcnf.specs.declared.text.WcnfText.{WcnfText}

-- literals of the variables up to a number
abbrev pub AreNamed : ℕ → Clause → Type 0
AreNamed n [] = Unit {0}
AreNamed n (l ∷ ls) = (1 ≤ unsigned_abs l) × (unsigned_abs l ≤ n) × AreNamed n ls

abbrev pub HardNamed : ℕ → List Clause → Type 0
HardNamed n [] = Unit {0}
HardNamed n (c ∷ cs) = AreNamed n c × HardNamed n cs

abbrev pub SoftNamed : ℕ → List Soft → Type 0
SoftNamed n [] = Unit {0}
SoftNamed n (s ∷ ss) = (pos 1 ≤ℤ s.0) × AreNamed n s.1 × SoftNamed n ss

named-clause : (n : ℕ) (c : Clause) → AreLiterals c → last_in c ≤ n → AreNamed n c
named-clause n [] h most = tt
named-clause n (l ∷ ls) h most =
    (All-head (λ l. 1 ≤ unsigned_abs l) l ls h, omega (arith, most), named-clause n ls (All-tail (λ l. 1 ≤ unsigned_abs l) l ls h) (omega (arith, most)))

named-hard : (n : ℕ) (cs : List Clause) → All AreLiterals cs → last_hard cs ≤ n → HardNamed n cs
named-hard n [] h most = tt
named-hard n (c ∷ cs) h most =
    (named-clause n c (All-head AreLiterals c cs h) (omega (arith, most)), named-hard n cs (All-tail AreLiterals c cs h) (omega (arith, most)))

named-soft : (n : ℕ) (ss : List Soft) → All IsWeight ss → All (λ s. AreLiterals s.1) ss → last_soft ss ≤ n → SoftNamed n ss
named-soft n [] some h most = tt
named-soft n (s ∷ ss) some h most = (
  All-head IsWeight s ss some,
  named-clause n s.1 (All-head (λ (s : Soft). AreLiterals s.1) s ss h) (omega (arith, most)),
  named-soft n ss (All-tail IsWeight s ss some) (All-tail (λ (s : Soft). AreLiterals s.1) s ss h) (omega (arith, most)),
)

pub record IsNamed (t : WcnfText) : Type 0 where
  pub hard : HardNamed t.variables t.hard
  pub soft : SoftNamed t.variables t.soft

pub named : (t : WcnfText) → IsWeighed t → IsNamed t
named t is = record {
  hard = named-hard t.variables t.hard is.literals.hard (omega (arith, is.named));
  soft = named-soft t.variables t.soft is.weights is.literals.soft (omega (arith, is.named));
}

is-lit : (l : ℤ) → 1 ≤ unsigned_abs l → IsLit l
is-lit (pos zero) h = absurd (omega (arith, h))
is-lit (pos (suc k)) h = tt
is-lit (negsuc k) h = tt

pub named-lits : (n : ℕ) (c : Clause) → AreNamed n c → AreLits c
named-lits n [] h = tt
named-lits n (l ∷ ls) h = (is-lit l h.0, named-lits n ls h.2)

pub named-clauses : (n : ℕ) (cs : List Clause) → HardNamed n cs → AreClauses cs
named-clauses n [] h = tt
named-clauses n (c ∷ cs) h = (named-lits n c h.0, named-clauses n cs h.1)
