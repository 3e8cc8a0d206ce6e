-- What the marks of operators make of the formulas that stand open: closing a level's frames is their join.
use Rattle.std.proofs.Common.{◌≡◌, ℕ, ◌+◌, ◌-◌, ◌≤◌, Bool, true, false, List, [], ◌∷◌, ◌++◌, length, get_or, take, refl, sym, ap, ◌∙◌, arith, append_assoc, true≢false}
use Rattle.std.proofs.lemmas.Bool.Decides.{nat_tests}
use Rattle.std.proofs.lemmas.List.{length-append}
use Rattle.std.proofs.Math.Seq.{get_or-append_seam, take-append_seam}
use Rattle.std.specs.Prelude.{nat_le, if◌then◌else◌}
use Rattle.ps_meaning.specs.Formula.{Formula, Truth}
use Rattle.ps_meaning.specs.Formula as formula
use Rattle.ps_meaning.specs.Statements.{Name}
use Rattle.ps_text.specs.Grammar.{FormulaSyntax}
use Rattle.ps_text.specs.Meanings.{formula_of}
use Rattle.ps_text.specs.BegunFormulas.{Frame, BegunNot, BegunGroup, BegunAnd, BegunOr, BegunImplies, BegunIff, own_level, joined, joins}
use Rattle.ps_text.proofs.Frames.{joined_if}
use Rattle.ps_problem.specs.declared.mark.Mark.TheVariants as mark
use Rattle.ps_problem.specs.Drafts.{Drafted, from_top, marked, with_mark}
use Rattle.ps_read.specs.declared.operator.Operator.{Operator}
use Rattle.ps_read.specs.Pending.{Pending, binding, mark_of, reduced_from}
use Rattle.ps_read.specs.Derivations.{operator_of, operators_of, lefts_of}

length_one : (os : List (Formula Name)) (f : Formula Name) → length (os ++ f ∷ []) - 1 ≡ length os
length_one os f = let l : length (os ++ f ∷ []) ≡ length os + 1 = length-append os (f ∷ []) in omega (arith, l)

length_two : (os : List (Formula Name)) (f g : Formula Name) → length ((os ++ f ∷ []) ++ g ∷ []) - 2 ≡ length os
length_two os f g =
    let l : length (os ++ f ∷ []) ≡ length os + 1 = length-append os (f ∷ []) in
    let m : length ((os ++ f ∷ []) ++ g ∷ []) ≡ length (os ++ f ∷ []) + 1 = length-append (os ++ f ∷ []) (g ∷ []) in
    omega (arith, l, m)

last_is : (os : List (Formula Name)) (f : Formula Name) → from_top (os ++ f ∷ []) 1 ≡ f
last_is os f = ap (λ n. get_or (os ++ f ∷ []) n Truth) (length_one os f) ∙ get_or-append_seam os f [] Truth

one : (names : List Name) (os : List (Formula Name)) (f : Formula Name) → marked names (os ++ f ∷ []) mark.Not ≡ os ++ formula.Not f ∷ []
one names os f =
    ap (λ n. take n (os ++ f ∷ []) ++ formula.Not (from_top (os ++ f ∷ []) 1) ∷ []) (length_one os f)
    ∙ ap (λ xs. xs ++ formula.Not (from_top (os ++ f ∷ []) 1) ∷ []) (take-append_seam os (f ∷ []))
    ∙ ap (λ g. os ++ formula.Not g ∷ []) (last_is os f)

two : (op : Formula Name → Formula Name → Formula Name) (os : List (Formula Name)) (f g : Formula Name)
    → take (length ((os ++ f ∷ []) ++ g ∷ []) - 2) ((os ++ f ∷ []) ++ g ∷ []) ++ op (from_top ((os ++ f ∷ []) ++ g ∷ []) 2) (from_top ((os ++ f ∷ []) ++ g ∷ []) 1) ∷ [] ≡ os ++ op f g ∷ []
two op os f g =
    ap (λ n. take n ((os ++ f ∷ []) ++ g ∷ []) ++ op (get_or ((os ++ f ∷ []) ++ g ∷ []) n Truth) (from_top ((os ++ f ∷ []) ++ g ∷ []) 1) ∷ []) (length_two os f g)
    ∙ ap (λ x. take (length os) ((os ++ f ∷ []) ++ g ∷ []) ++ op (get_or ((os ++ f ∷ []) ++ g ∷ []) (length os) Truth) x ∷ []) (last_is (os ++ f ∷ []) g)
    ∙ ap (λ xs. take (length os) xs ++ op (get_or xs (length os) Truth) g ∷ []) (append_assoc os (f ∷ []) (g ∷ []))
    ∙ ap (λ x. take (length os) (os ++ f ∷ g ∷ []) ++ op x g ∷ []) (get_or-append_seam os f (g ∷ []) Truth)
    ∙ ap (λ xs. xs ++ op f g ∷ []) (take-append_seam os (f ∷ g ∷ []))

-- the mark of what was begun makes the formula of the join
join_marked : (names : List Name) (x : Frame) (fs : List Frame) (f : FormulaSyntax) → 1 ≤ own_level x
    → marked names (lefts_of (x ∷ fs) ++ formula_of f ∷ []) (mark_of (operator_of x)) ≡ lefts_of fs ++ formula_of (joined x f) ∷ []
join_marked names BegunNot fs f h = one names (lefts_of fs) (formula_of f)
join_marked names BegunGroup fs f h = absurd (omega (arith, h))
join_marked names (BegunAnd g) fs f h = two formula.And (lefts_of fs) (formula_of g) (formula_of f)
join_marked names (BegunOr g) fs f h = two formula.Or (lefts_of fs) (formula_of g) (formula_of f)
join_marked names (BegunImplies g) fs f h = two formula.Implies (lefts_of fs) (formula_of g) (formula_of f)
join_marked names (BegunIff g) fs f h = two formula.Iff (lefts_of fs) (formula_of g) (formula_of f)

binding_is : (x : Frame) → binding (operator_of x) ≡ own_level x
binding_is BegunNot = refl
binding_is BegunGroup = refl
binding_is (BegunAnd g) = refl
binding_is (BegunOr g) = refl
binding_is (BegunImplies g) = refl
binding_is (BegunIff g) = refl

-- what waits, and the draft, are those of what is begun and a formula behind it; what has ended stays
pub record IsReduced (d : Drafted) (p : Pending) (fs : List Frame) (f : FormulaSyntax) : Type 0 where
  pub operators : p.operators ≡ operators_of fs
  pub «open» : p.draft.«open» ≡ lefts_of fs ++ formula_of f ∷ []
  pub formulas : p.draft.formulas ≡ d.formulas
  pub items : p.draft.items ≡ d.items

least_one : (k n : ℕ) → 1 ≤ k → nat_le k n ≡ true → 1 ≤ n
least_one k n h e = let l : k ≤ n = grind (arith, nat_tests) in omega (arith, h, l)

abbrev reduced_if : ℕ → Operator → List Operator → Drafted → Bool → Pending
reduced_if k o os d b = if b then reduced_from k os (with_mark d (mark_of o)) else record { operators = o ∷ os; draft = d }

pub reduces : (k : ℕ) (fs : List Frame) (f : FormulaSyntax) (d : Drafted) → 1 ≤ k → d.«open» ≡ lefts_of fs ++ formula_of f ∷ []
    → IsReduced d (reduced_from k (operators_of fs) d) (joins k fs f).0 (joins k fs f).1
reduces k [] f d h e = record { operators = refl; «open» = e; formulas = refl; items = refl }
reduces k (x ∷ fs) f d h e = by (nat_le k (binding (operator_of x))) (nat_le k (own_level x)) refl (ap (nat_le k) (binding_is x))
    (λ l. reduces k fs (joined x f) (with_mark d (mark_of (operator_of x))) h (ap (λ os. marked d.names os (mark_of (operator_of x))) e ∙ join_marked d.names x fs f l))
  where
    by : (b c : Bool) → nat_le k (own_level x) ≡ c → b ≡ c
        → (1 ≤ own_level x → IsReduced (with_mark d (mark_of (operator_of x))) (reduced_from k (operators_of fs) (with_mark d (mark_of (operator_of x)))) (joins k fs (joined x f)).0 (joins k fs (joined x f)).1)
        → IsReduced d (reduced_if k (operator_of x) (operators_of fs) d b) (joined_if k x fs f c).0 (joined_if k x fs f c).1
    by true true t s rest = let r = rest (least_one k (own_level x) h t) in record { operators = r.operators; «open» = r.«open»; formulas = r.formulas; items = r.items }
    by false false t s rest = record { operators = refl; «open» = e; formulas = refl; items = refl }
    by true false t s rest = absurd (true≢false s)
    by false true t s rest = absurd (true≢false (sym s))
