-- Forms that are built clause by clause.
use Rattle.std.proofs.Common.{◌≡◌, ℕ, zero, suc, ◌+◌, ◌<◌, ◌≤◌, ℤ, pos, negsuc, Bool, true, false, List, [], ◌∷◌, ◌++◌, length, map, take, get_or, unsigned_abs, arith, refl, sym, ap, ◌∙◌, append_assoc, append-nil, length-append, subst}
use Rattle.std.specs.List.{All}
use Rattle.std.proofs.lemmas.List.{take_more, map-append, length-map}
use Rattle.std.proofs.lemmas.List.Elements.{All-head, All-tail, All-push}
use Rattle.ps_pb.specs.Assignments.{place, AreDifferent}
use Rattle.ps_pb.specs.Constraints.{Constraint}
use Rattle.ps_pb.specs.Weights.{Weighted, clause_of}
use Rattle.ps_clause.specs.Clauses.{Clause, positive, negative, once, is_tautology, tidy}
use Rattle.ps_clause.specs.Forms.{Form, form_over, empty_form, with_clause}
use Rattle.ps_clause.proofs.Tidy.{IsLit, AreLits, by_bool}
use Rattle.ps_clause.proofs.Different.{tidy-different, all-once}
use Rattle.ps_wcnf.specs.Built.{with_clauses, IsNamedBelow, AreNamedBelow, HardNamed, SoftNamed}
use Rattle.ps_wcnf.specs.Costs.{Soft}
use Rattle.ps_wcnf.specs.Valued.{is_long, has_several, after, variables_after, own_clause, own_clauses, own_literal, own_literals, form_of}
use Rattle.ps_wcnf.specs.Limits.{last_in, last_hard, last_soft, HasVariables, AreLiterals}
use Rattle.ps_wcnf.specs.declared.text.WcnfText.{WcnfText}
use Rattle.ps_wcnf.specs.Counted.{long_count}
use Rattle.ps_wcnf.proofs.Drafts.{variables-count}
use Rattle.ps_wcnf.proofs.Shapes.{taut_once}

tidy-append : (cs ds : List Clause) → tidy (cs ++ ds) ≡ tidy cs ++ tidy ds
tidy-append [] ds = refl
tidy-append (c ∷ cs) ds = by_bool (is_tautology c) (λ t. rw t (tidy-append cs ds)) (λ f. rw f (ap (λ r. once c ∷ r) (tidy-append cs ds)))

tidy-length : (cs : List Clause) → length (tidy cs) ≤ length cs
tidy-length [] = omega arith
tidy-length (c ∷ cs) = by_bool (is_tautology c) (λ t. rw t (let r = tidy-length cs in omega (arith, r))) (λ f. rw f (let r = tidy-length cs in omega (arith, r)))

pub with-none : (f : Form) → with_clauses f [] ≡ f
with-none f = ap (λ (cs : List Constraint). form_over f.variables f.others cs) (append-nil f.clauses)

pub with-append : (f : Form) (cs ds : List Clause) → with_clauses (with_clauses f cs) ds ≡ with_clauses f (cs ++ ds)
with-append f cs ds =
    ap (λ (xs : List Constraint). form_over f.variables f.others xs)
    (append_assoc f.clauses (map clause_of (tidy cs)) (map clause_of (tidy ds))
    ∙ ap (λ r. f.clauses ++ r) (sym (ap (map clause_of) (tidy-append cs ds) ∙ map-append clause_of (tidy cs) (tidy ds))))

pub with-length : (f : Form) (cs : List Clause) → length (with_clauses f cs).clauses ≤ length f.clauses + length cs
with-length f cs =
    let a = length-append f.clauses (map clause_of (tidy cs)) in let b = length-map (tidy cs) clause_of in let d = tidy-length cs in omega (arith, a, b, d)

pub with-tautology : (f : Form) (kept c : Clause) → kept ≡ once c → is_tautology kept ≡ true → f ≡ with_clauses f (c ∷ [])
with-tautology f kept c e t =
    let taut : is_tautology c ≡ true = sym (taut_once c) ∙ ap is_tautology (sym e) ∙ t in
    rw taut (sym (with-none f))

pub with-kept : (f : Form) (kept c : Clause) → kept ≡ once c → is_tautology kept ≡ false → with_clause f (clause_of kept) ≡ with_clauses f (c ∷ [])
with-kept f kept c e n =
    let none : is_tautology c ≡ false = sym (taut_once c) ∙ ap is_tautology (sym e) ∙ n in
    rw (none, e) refl

named-lits : (n : ℕ) (c : Clause) → AreNamedBelow n c → AreLits c
named-lits n [] h = tt
named-lits n (l ∷ ls) h = (is-lit l (All-head (IsNamedBelow n) l ls h).some, named-lits n ls (All-tail (IsNamedBelow n) l ls h))
  where
    is-lit : (l : ℤ) → 1 ≤ unsigned_abs l → IsLit l
    is-lit (pos zero) h = absurd (omega (arith, h))
    is-lit (pos (suc k)) h = tt
    is-lit (negsuc k) h = tt

pub named-places : (n : ℕ) (c : Clause) → AreNamedBelow n c → All (λ l. place l < n) c
named-places n c h = λ k d lt. let a = h k d lt in omega (arith, a.some, a.most)

pub kept-places : (n : ℕ) (kept c : Clause) → kept ≡ once c → AreNamedBelow n c → All (λ l. place l < n) kept
kept-places n kept c e h = rw e (all-once (λ l. place l < n) c (named-places n c h))

pub kept-different : (n : ℕ) (kept c : Clause) → kept ≡ once c → is_tautology kept ≡ false → AreNamedBelow n c → AreDifferent kept
kept-different n kept c e none h = rw e (tidy-different c (named-lits n c h) (sym (taut_once c) ∙ ap is_tautology (sym e) ∙ none))

pub named-more : (n m : ℕ) (c : Clause) → n ≤ m → AreNamedBelow n c → AreNamedBelow m c
named-more n m c le h = λ k d lt. record { some = (h k d lt).some; most = let a = (h k d lt).most in omega (arith, a, le) }

pub named-push : (n : ℕ) (c : Clause) (l : ℤ) → AreNamedBelow n c → IsNamedBelow n l → AreNamedBelow n (c ++ l ∷ [])
named-push n c l h p = All-push (IsNamedBelow n) c l h p

pub named-own : (n m : ℕ) → n < m → IsNamedBelow m (negative n)
named-own n m lt = record { some = omega arith; most = omega (arith, lt) }

-- ---- soft clauses, one more
own-push : (n : ℕ) (ss : List Soft) (s : Soft) → own_clauses n (ss ++ s ∷ []) ≡ own_clauses n ss ++ own_clause (variables_after n ss) s
own-push n [] s = append-nil (own_clause n s)
own-push n (t ∷ ss) s = ap (λ r. own_clause n t ++ r) (own-push (after n t) ss s) ∙ sym (append_assoc (own_clause n t) (own_clauses (after n t) ss) (own_clause (variables_after (after n t) ss) s))

literals-push : (n : ℕ) (ss : List Soft) (s : Soft) → own_literals n (ss ++ s ∷ []) ≡ own_literals n ss ++ own_literal (variables_after n ss) s
literals-push n [] s = append-nil (own_literal n s)
literals-push n (t ∷ ss) s = ap (λ r. own_literal n t ++ r) (literals-push (after n t) ss s) ∙ sym (append_assoc (own_literal n t) (own_literals (after n t) ss) (own_literal (variables_after (after n t) ss) s))

after-push : (n : ℕ) (ss : List Soft) (s : Soft) → variables_after n (ss ++ s ∷ []) ≡ after (variables_after n ss) s
after-push n [] s = refl
after-push n (t ∷ ss) s = after-push (after n t) ss s

-- a form, the literals and the number of variables, so many soft clauses on
pub record AreBuilt (f : Form) (n : ℕ) (ss : List Soft) (i : ℕ) (now : Form) (ts : Weighted) (m : ℕ) : Type 0 where
  pub form : now ≡ with_clauses f (own_clauses n (take i ss))
  pub literals : ts ≡ own_literals n (take i ss)
  pub count : m ≡ variables_after n (take i ss)

pub built-none : (f : Form) (n : ℕ) (ss : List Soft) → AreBuilt f n ss 0 f [] n
built-none f n ss = record { form = sym (with-none f); literals = refl; count = refl }

pub built-more : (f : Form) (n : ℕ) (ss : List Soft) (i : ℕ) (s : Soft) (now new : Form) (ts us : Weighted) (m k : ℕ) → i < length ss → s ≡ get_or ss i s → AreBuilt f n ss i now ts m
    → new ≡ with_clauses now (own_clause m s) → us ≡ ts ++ own_literal m s → k ≡ after m s → AreBuilt f n ss (i + 1) new us k
built-more f n ss i s now new ts us m k lt is so nf nl nc =
    let more : take (i + 1) ss ≡ take i ss ++ s ∷ [] = take_more ss i s lt ∙ ap (λ x. take i ss ++ x ∷ []) (sym is) in
    record {
      form = nf ∙ ap (λ g. with_clauses g (own_clause m s)) so.form ∙ with-append f (own_clauses n (take i ss)) (own_clause m s)
          ∙ ap (λ x. with_clauses f (own_clauses n (take i ss) ++ own_clause x s)) so.count ∙ ap (with_clauses f) (sym (ap (own_clauses n) more ∙ own-push n (take i ss) s));
      literals = nl ∙ ap (λ x. x ++ own_literal m s) so.literals ∙ ap (λ x. own_literals n (take i ss) ++ own_literal x s) so.count ∙ sym (ap (own_literals n) more ∙ literals-push n (take i ss) s);
      count = nc ∙ ap (λ x. after x s) so.count ∙ sym (ap (variables_after n) more ∙ after-push n (take i ss) s);
    }

long-take : (ss : List Soft) (i : ℕ) → long_count (take i ss) ≤ long_count ss
long-take ss zero = omega arith
long-take [] (suc i) = omega arith
long-take (s ∷ ss) (suc i) = let r = long-take ss i in omega (arith, r)

after-take : (n : ℕ) (ss : List Soft) (i : ℕ) → variables_after n (take i ss) ≤ variables_after n ss
after-take n ss i = let a = variables-count n (take i ss) in let b = variables-count n ss in let r = long-take ss i in omega (arith, a, b, r)

pub after-within : (n : ℕ) (ss : List Soft) (i : ℕ) (s : Soft) (m : ℕ) → i < length ss → s ≡ get_or ss i s → m ≡ variables_after n (take i ss) → after m s ≤ variables_after n ss
after-within n ss i s m lt is e =
    let more : take (i + 1) ss ≡ take i ss ++ s ∷ [] = take_more ss i s lt ∙ ap (λ x. take i ss ++ x ∷ []) (sym is) in
    let same : variables_after n (take (i + 1) ss) ≡ after m s = ap (variables_after n) more ∙ after-push n (take i ss) s ∙ ap (λ x. after x s) (sym e) in
    let r = after-take n ss (i + 1) in omega (arith, same, r)

pub after-from : (n : ℕ) (ss : List Soft) → n ≤ variables_after n ss
after-from n ss = let a = variables-count n ss in omega (arith, a)

own-length : (n : ℕ) (ss : List Soft) → length (own_clauses n ss) ≤ length ss
own-length n [] = omega arith
own-length n (s ∷ ss) = by_bool (is_long s.1)
    (λ m. rw m (let r = own-length (suc n) ss in omega (arith, r)))
    (λ f. rw f (let r = own-length n ss in omega (arith, r)))

take-few : {X : Type 0} (xs : List X) (i : ℕ) → i ≤ length xs → length (take i xs) ≤ i
take-few xs zero le = omega arith
take-few [] (suc i) le = omega arith
take-few (x ∷ xs) (suc i) le = let r = take-few xs i (omega (arith, le)) in omega (arith, r)

pub built-length : (f : Form) (n : ℕ) (ss : List Soft) (i : ℕ) (now : Form) → i ≤ length ss → now ≡ with_clauses f (own_clauses n (take i ss)) → length now.clauses ≤ length f.clauses + i
built-length f n ss i now le e =
    let a = with-length f (own_clauses n (take i ss)) in let b = own-length n (take i ss) in let d = take-few ss i le in
    let same = ap (λ (g : Form). length g.clauses) e in omega (arith, a, b, d, same)

-- ---- hard clauses
pub hard-none : (f : Form) → f ≡ with_clauses f []
hard-none f = sym (with-none f)

pub hard-more : (f : Form) (cs : List Clause) (i : ℕ) (c : Clause) (now new : Form) → i < length cs → c ≡ get_or cs i c → now ≡ with_clauses f (take i cs) → new ≡ with_clauses now (c ∷ [])
    → new ≡ with_clauses f (take (i + 1) cs)
hard-more f cs i c now new lt is so e =
    let more : take (i + 1) cs ≡ take i cs ++ c ∷ [] = take_more cs i c lt ∙ ap (λ x. take i cs ++ x ∷ []) (sym is) in
    e ∙ ap (λ g. with_clauses g (c ∷ [])) so ∙ with-append f (take i cs) (c ∷ []) ∙ ap (with_clauses f) (sym more)

pub hard-length : (f : Form) (cs : List Clause) (i : ℕ) (now : Form) → i ≤ length cs → now ≡ with_clauses f (take i cs) → length now.clauses ≤ length f.clauses + i
hard-length f cs i now le e =
    let a = with-length f (take i cs) in let d = take-few cs i le in let same = ap (λ (g : Form). length g.clauses) e in omega (arith, a, d, same)

-- ---- what one soft clause adds
taut-of : (c kept : Clause) (b : Bool) → kept ≡ once c → is_tautology kept ≡ b → is_tautology c ≡ b
taut-of c kept b e t = sym (taut_once c) ∙ ap is_tautology (sym e) ∙ t

several-of : (c kept : Clause) → kept ≡ once c → 1 < length kept → has_several c ≡ true
several-of c kept e more = rw (← e) (grind (arith, more))

few-of : (c kept : Clause) → kept ≡ once c → length kept ≤ 1 → has_several c ≡ false
few-of c kept e few = rw (← e) (grind (arith, few))

pub record AddsNothing (f : Form) (ts : Weighted) (n : ℕ) (s : Soft) : Type 0 where
  pub form : f ≡ with_clauses f (own_clause n s)
  pub literals : ts ≡ ts ++ own_literal n s
  pub count : n ≡ after n s

pub taut-adds : (f : Form) (ts : Weighted) (n : ℕ) (s : Soft) (kept : Clause) → kept ≡ once s.1 → is_tautology kept ≡ true → AddsNothing f ts n s
taut-adds f ts n s kept e t = let taut = taut-of s.1 kept true e t in record {
  form = rw taut (hard-none f);
  literals = rw taut (sym (append-nil ts));
  count = rw taut refl;
}

pub record IsLongOne (n : ℕ) (s : Soft) : Type 0 where
  pub clause : own_clause n s ≡ (s.1 ++ negative n ∷ []) ∷ []
  pub literal : own_literal n s ≡ (positive n, s.0) ∷ []
  pub count : after n s ≡ n + 1

pub long-adds : (n : ℕ) (s : Soft) (kept : Clause) → kept ≡ once s.1 → is_tautology kept ≡ false → 1 < length kept → IsLongOne n s
long-adds n s kept e t more =
    let taut = taut-of s.1 kept false e t in let several = several-of s.1 kept e more in
    record { clause = rw (taut, several) refl; literal = rw (taut, several) refl; count = rw (taut, several) (omega arith) }

pub record IsShortOne (f : Form) (n : ℕ) (s : Soft) (kept : Clause) : Type 0 where
  pub form : f ≡ with_clauses f (own_clause n s)
  pub literals : own_literal n s ≡ map (λ l. (l, s.0)) kept
  pub count : n ≡ after n s

pub short-adds : (f : Form) (n : ℕ) (s : Soft) (kept : Clause) → kept ≡ once s.1 → is_tautology kept ≡ false → length kept ≤ 1 → IsShortOne f n s kept
short-adds f n s kept e t few =
    let taut = taut-of s.1 kept false e t in let short = few-of s.1 kept e few in
    record { form = rw (taut, short) (hard-none f); literals = rw (taut, short, e) refl; count = rw (taut, short) refl }

-- literals that are added with one weight
pub each-more : (old now new : Weighted) (k : ℤ) (ls : Clause) (i : ℕ) (l : ℤ) → i < length ls → l ≡ get_or ls i l → now ≡ old ++ map (λ x. (x, k)) (take i ls) → new ≡ now ++ (l, k) ∷ []
    → new ≡ old ++ map (λ x. (x, k)) (take (i + 1) ls)
each-more old now new k ls i l lt is so e =
    let more : take (i + 1) ls ≡ take i ls ++ l ∷ [] = take_more ls i l lt ∙ ap (λ x. take i ls ++ x ∷ []) (sym is) in
    e ∙ ap (λ r. r ++ (l, k) ∷ []) so ∙ append_assoc old (map (λ x. (x, k)) (take i ls)) ((l, k) ∷ [])
    ∙ ap (λ r. old ++ r) (sym (ap (map (λ x. (x, k))) more ∙ map-append (λ (x : ℤ). (x, k)) (take i ls) (l ∷ [])))

-- one soft clause on, in the number of variables alone
pub after-more : (n : ℕ) (ss : List Soft) (i : ℕ) (s : Soft) (m : ℕ) → i < length ss → s ≡ get_or ss i s → m ≡ variables_after n (take i ss) → after m s ≡ variables_after n (take (i + 1) ss)
after-more n ss i s m lt is e =
    let more : take (i + 1) ss ≡ take i ss ++ s ∷ [] = take_more ss i s lt ∙ ap (λ x. take i ss ++ x ∷ []) (sym is) in
    sym (ap (variables_after n) more ∙ after-push n (take i ss) s ∙ ap (λ x. after x s) (sym e))

-- a soft clause at a place is of the variables before it
pub named-at : (n : ℕ) (ss : List Soft) (i : ℕ) (s : Soft) (m : ℕ) → i < length ss → s ≡ get_or ss i s → SoftNamed n ss → m ≡ variables_after n (take i ss) → AreNamedBelow m s.1
named-at n ss i s m lt is h e =
    let here : AreNamedBelow n s.1 = subst (λ (x : Soft). AreNamedBelow n x.1) (sym is) (h i s lt) in
    let from = after-from n (take i ss) in
    named-more n m s.1 (omega (arith, from, e)) here

-- ---- the variables of a text
last-at : (c : Clause) (k : ℕ) (d : ℤ) → k < length c → unsigned_abs (get_or c k d) ≤ last_in c
last-at [] k d lt = absurd (omega (arith, lt))
last-at (l ∷ ls) zero d lt = omega arith
last-at (l ∷ ls) (suc k) d lt = let r = last-at ls k d (omega (arith, lt)) in omega (arith, r)

hard-at : (cs : List Clause) (k : ℕ) (d : Clause) → k < length cs → last_in (get_or cs k d) ≤ last_hard cs
hard-at [] k d lt = absurd (omega (arith, lt))
hard-at (c ∷ cs) zero d lt = omega arith
hard-at (c ∷ cs) (suc k) d lt = let r = hard-at cs k d (omega (arith, lt)) in omega (arith, r)

soft-at : (ss : List Soft) (k : ℕ) (d : Soft) → k < length ss → last_in (get_or ss k d).1 ≤ last_soft ss
soft-at [] k d lt = absurd (omega (arith, lt))
soft-at (s ∷ ss) zero d lt = omega arith
soft-at (s ∷ ss) (suc k) d lt = let r = soft-at ss k d (omega (arith, lt)) in omega (arith, r)

clause-named : (n : ℕ) (c : Clause) → AreLiterals c → last_in c ≤ n → AreNamedBelow n c
clause-named n c h most = λ k d lt. record { some = h k d lt; most = let r = last-at c k d lt in omega (arith, r, most) }

pub hard-named : (t : WcnfText) (n : ℕ) → HasVariables t → t.variables ≤ n → All AreLiterals t.hard → HardNamed n t.hard
hard-named t n named le h = λ k d lt. clause-named n (get_or t.hard k d) (h k d lt) (let r = hard-at t.hard k d lt in omega (arith, r, named, le))

pub soft-named : (t : WcnfText) → HasVariables t → All (λ s. AreLiterals s.1) t.soft → SoftNamed t.variables t.soft
soft-named t named h = λ k d lt. clause-named t.variables (get_or t.soft k d).1 (h k d lt) (let r = soft-at t.soft k d lt in omega (arith, r, named))

pub form-built : (t : WcnfText) (v : ℕ) (first second : Form) → v ≡ variables_after t.variables t.soft → first ≡ with_clauses (empty_form v) t.hard → second ≡ with_clauses first (own_clauses t.variables t.soft)
    → second ≡ form_of t
form-built t v first second e f g =
    g ∙ ap (λ x. with_clauses x (own_clauses t.variables t.soft)) f ∙ with-append (empty_form v) t.hard (own_clauses t.variables t.soft)
    ∙ ap (λ n. with_clauses (empty_form n) (t.hard ++ own_clauses t.variables t.soft)) e
