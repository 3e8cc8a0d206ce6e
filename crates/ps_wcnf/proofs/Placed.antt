-- The places of weighted literals.
use Rattle.std.proofs.Common.{◌≡◌, ℕ, suc, ◌<◌, ◌≤◌, ◌^◌, ℤ, List, [], ◌∷◌, map, arith, sym, ap, ◌∙◌, subst}
use Rattle.std.specs.List.{All}
use Rattle.std.proofs.lemmas.Int.{ints}
use Rattle.std.proofs.lemmas.List.Elements.{All-head, All-tail, All-nil, All-cons, All-append}
use Rattle.ps_pb.specs.Assignments.{place}
use Rattle.ps_pb.specs.Weights.{Weighted, size_sum}
use Rattle.ps_clause.specs.Clauses.{Clause, positive, once, is_tautology}
use Rattle.ps_clause.specs.Forms.{Form, empty_form}
use Rattle.ps_clause.proofs.Tidy.{by_bool}
use Rattle.ps_clause.proofs.Different.{all-once}
use Rattle.ps_wcnf.specs.Built.{with_clauses, AreNamedBelow, SoftNamed}
use Rattle.ps_wcnf.specs.Costs.{Soft}
use Rattle.ps_wcnf.specs.Valued.{has_several, is_long, after, variables_after, own_clauses, own_literal, own_literals, literals_of}
use Rattle.ps_wcnf.specs.Limits.{IsText}
use Rattle.ps_wcnf.specs.declared.text.WcnfText.{WcnfText}
use Rattle.ps_wcnf.proofs.Based.{literals-size}
use Rattle.ps_wcnf.proofs.Building.{named-more, named-places, after-from}

-- weighted literals of the variables before a number
abbrev pub ArePlaced : ℕ → Weighted → Type 0
ArePlaced n ts = All (λ t. place t.0 < n) ts

more-placed : (n m : ℕ) (ts : Weighted) → n ≤ m → ArePlaced n ts → ArePlaced m ts
more-placed n m ts le h = λ k d lt. let a = h k d lt in omega (arith, a, le)

each-placed : (n : ℕ) (k : ℤ) (c : Clause) → All (λ l. place l < n) c → ArePlaced n (map (λ l. (l, k)) c)
each-placed n k [] h = All-nil (λ (t : ℤ × ℤ). place t.0 < n)
each-placed n k (l ∷ ls) h =
    All-cons (λ (t : ℤ × ℤ). place t.0 < n) (l, k) (map (λ l. (l, k)) ls) (All-head (λ l. place l < n) l ls h) (each-placed n k ls (All-tail (λ l. place l < n) l ls h))

literal-placed : (n : ℕ) (s : Soft) → AreNamedBelow n s.1 → ArePlaced (after n s) (own_literal n s)
literal-placed n s h = by_bool (is_tautology s.1)
    (λ t. rw t (All-nil (λ (t : ℤ × ℤ). place t.0 < n)))
    (λ f. by_bool (has_several s.1)
    (λ m. rw (f, m) (All-cons (λ (t : ℤ × ℤ). place t.0 < suc n) (positive n, s.0) [] (omega arith) (All-nil (λ (t : ℤ × ℤ). place t.0 < suc n))))
    (λ o. rw (f, o) (each-placed n s.0 (once s.1) (all-once (λ l. place l < n) s.1 (named-places n s.1 h)))))

pub literals-placed : (n m : ℕ) (ss : List Soft) → n ≤ m → SoftNamed n ss → ArePlaced (variables_after m ss) (own_literals m ss)
literals-placed n m [] le h = All-nil (λ (t : ℤ × ℤ). place t.0 < m)
literals-placed n m (s ∷ ss) le h =
    let named : AreNamedBelow n s.1 = All-head (λ (x : Soft). AreNamedBelow n x.1) s ss h in
    let grows : m ≤ after m s = by_bool (is_long s.1) (λ t. rw t (omega arith)) (λ f. rw f (omega arith)) in
    let first = more-placed (after m s) (variables_after (after m s) ss) (own_literal m s) (after-from (after m s) ss) (literal-placed m s (named-more n m s.1 le named)) in
    let others = literals-placed n (after m s) ss (omega (arith, le, grows)) (All-tail (λ (x : Soft). AreNamedBelow n x.1) s ss h) in
    All-append (λ (t : ℤ × ℤ). place t.0 < variables_after (after m s) ss) (own_literal m s) (own_literals (after m s) ss) first others

-- the literals of a form that was built are of its variables
pub form-placed : (t : WcnfText) (v : ℕ) (start mid form : Form) (hard : List Clause) (soft ss : List Soft) (ts : Weighted) → SoftNamed t.variables t.soft
    → v ≡ variables_after t.variables ss → ss ≡ t.soft → start ≡ empty_form v → mid ≡ with_clauses start hard → form ≡ with_clauses mid (own_clauses t.variables soft)
    → ts ≡ own_literals t.variables soft → soft ≡ t.soft → ArePlaced form.variables ts
form-placed t v start mid form hard soft ss ts named count is first second third literals same =
    let variables : form.variables ≡ variables_after t.variables t.soft =
    ap (λ (f : Form). f.variables) third ∙ ap (λ (f : Form). f.variables) second ∙ ap (λ (f : Form). f.variables) first ∙ count ∙ ap (variables_after t.variables) is in
    let all : ArePlaced (variables_after t.variables t.soft) (own_literals t.variables t.soft) = literals-placed t.variables t.variables t.soft (omega arith) named in
    subst (λ (n : ℕ). ArePlaced n ts) (sym variables) (subst (ArePlaced (variables_after t.variables t.soft)) (sym (literals ∙ ap (own_literals t.variables) same)) all)

-- the weights of a text's literals are no more than those of its clauses
pub small-sizes : (t : WcnfText) (ts : Weighted) → IsText t → ts ≡ literals_of t → size_sum ts ≤ 2 ^ 90
small-sizes t ts text is = let most = literals-size t.variables t.soft text.weights in omega (arith, ints, ap size_sum is, most, text.within.sum)
