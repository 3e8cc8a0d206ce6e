-- The lines of a chain put behind each other.
use Rattle.std.proofs.Common.{◌≡◌, ℕ, zero, suc, ◌+◌, List, [], ◌∷◌, ◌++◌, Result, Ok, Err, OnOk, refl, sym, ap, ◌∙◌, append_assoc, append-nil, arith}
use Rattle.std.specs.Prelude.{codes, decimal}
use Rattle.std.proofs.lemmas.Fmt.{decimal_digit, decimal_step}
use Rattle.ps_meaning.specs.Statements.{Item}
use Rattle.ps_make.specs.Chain.{first_item, link, links_from, asked_of, made_items, made_text}
use Rattle.ps_text.specs.Grammar.{version_digits}
use Rattle.ps_text.specs.Canonical.{version_for}
use Rattle.ps_text.specs.declared.version.Version.TheVariants.{One}
use Rattle.ps_make.specs.Lines.{arrow_text, line_of, lines_of}

-- ---- numbers
zero_is : decimal 0 ≡ codes "0"
zero_is = decimal_digit 0 (omega arith)

nine_is : decimal 9 ≡ codes "9"
nine_is = decimal_digit 9 (omega arith)

ten_is : decimal 10 ≡ codes "10"
ten_is = decimal_step 10 (omega arith) (omega arith) ∙ ap (λ ds. ds ++ codes "0") (decimal_digit 1 (omega arith))

most_is : decimal 99 ≡ codes "99"
most_is = decimal_step 99 (omega arith) (omega arith) ∙ ap (λ ds. ds ++ codes "9") nine_is

hundred_is : decimal 100 ≡ codes "100"
hundred_is = decimal_step 100 (omega arith) (omega arith) ∙ ap (λ ds. ds ++ codes "0") ten_is

-- ---- lines
-- the front of a text
abbrev pub front : List ℕ
front = codes "psat 1;\nP(x0) >= 9/10;\n"

front_is : codes "psat 1;\n" ++ line_of first_item ≡ front
front_is =
    ap (λ ds. codes "psat 1;\nP(x" ++ ((ds ++ codes ")") ++ ((codes " >= " ++ (decimal 9 ++ (codes "/" ++ decimal 10))) ++ codes ";\n"))) zero_is
    ∙ ap (λ ds. codes "psat 1;\nP(x0)" ++ ((codes " >= " ++ (ds ++ (codes "/" ++ decimal 10))) ++ codes ";\n")) nine_is
    ∙ ap (λ ds. codes "psat 1;\nP(x0)" ++ ((codes " >= 9/" ++ ds) ++ codes ";\n")) ten_is

most_relation : codes " >= " ++ (decimal 99 ++ (codes "/" ++ decimal 100)) ≡ codes " >= 99/100"
most_relation = ap (λ ds. codes " >= " ++ (ds ++ (codes "/" ++ decimal 100))) most_is ∙ ap (λ ds. codes " >= 99/" ++ ds) hundred_is

pub link-line : (i : ℕ) → line_of (link i) ≡ codes "P(" ++ (arrow_text i (i + 1) ++ codes ") >= 99/100;\n")
link-line i =
    ap (λ bs. codes "P(" ++ bs) (append_assoc (arrow_text i (i + 1)) (codes ")") ((codes " >= " ++ (decimal 99 ++ (codes "/" ++ decimal 100))) ++ codes ";\n")
    ∙ ap (λ bs. arrow_text i (i + 1) ++ (codes ")" ++ (bs ++ codes ";\n"))) most_relation)

-- lines behind lines
pub lines-append : (is js : List Item) → lines_of (is ++ js) ≡ lines_of is ++ lines_of js
lines-append [] js = refl
lines-append (i ∷ is) js = ap (λ bs. line_of i ++ bs) (lines-append is js) ∙ sym (append_assoc (line_of i) (lines_of is) (lines_of js))

-- the last of more links
links-push : (i n : ℕ) → links_from i (n + 1) ≡ links_from i n ++ link (i + n) ∷ []
links-push i zero = ap (λ k. link k ∷ []) (let e : i ≡ i + 0 = omega arith in e)
links-push i (suc n) =
    ap (links_from i) (let e : suc n + 1 ≡ suc (n + 1) = omega arith in e) ∙ ap (λ is. link i ∷ is) (links-push (i + 1) n)
    ∙ ap (λ k. link i ∷ links_from (i + 1) n ++ link k ∷ []) (let e : i + 1 + n ≡ i + suc n = omega arith in e)

pub more-lines : (n : ℕ) → lines_of (links_from 0 (n + 1)) ≡ lines_of (links_from 0 n) ++ line_of (link n)
more-lines n =
    ap lines_of (links-push 0 n ∙ ap (λ k. links_from 0 n ++ link k ∷ []) (let e : 0 + n ≡ n = omega arith in e))
    ∙ lines-append (links_from 0 n) (link n ∷ []) ∙ ap (λ bs. lines_of (links_from 0 n) ++ bs) (append-nil (line_of (link n)))

-- one link more has been written
pub link-more : (n : ℕ) (out new : List ℕ) → out ≡ front ++ lines_of (links_from 0 n) → new ≡ out ++ line_of (link n) → new ≡ front ++ lines_of (links_from 0 (n + 1))
link-more n out new e f =
    f ∙ ap (λ bs. bs ++ line_of (link n)) e ∙ append_assoc front (lines_of (links_from 0 n)) (line_of (link n)) ∙ ap (λ bs. front ++ bs) (sym (more-lines n))

-- no sentence of a chain is linear
chain-version : (n i m : ℕ) → version_for (links_from i n ++ asked_of m ∷ []) ≡ One
chain-version zero i m = refl
chain-version (suc n) i m = chain-version n (i + 1) m

-- the whole text, by its lines
pub text-is : (n : ℕ) → made_text n ≡ front ++ (lines_of (links_from 0 n) ++ (line_of (asked_of n) ++ codes "end;\n"))
text-is n =
    let links = lines_of (links_from 0 n) in
    let last = line_of (asked_of n) in
    let end = codes "end;\n" in
    ap (λ v. (codes "psat " ++ (version_digits v ++ codes ";\n")) ++ (lines_of (made_items n) ++ end)) (chain-version n 0 n)
    ∙ ap (λ bs. codes "psat 1;\n" ++ bs) (append_assoc (line_of first_item) (lines_of (links_from 0 n ++ asked_of n ∷ [])) end)
    ∙ ap (λ bs. codes "psat 1;\n" ++ (line_of first_item ++ (bs ++ end))) (lines-append (links_from 0 n) (asked_of n ∷ []) ∙ ap (λ bs. links ++ bs) (append-nil last))
    ∙ ap (λ bs. codes "psat 1;\n" ++ (line_of first_item ++ bs)) (append_assoc links last end)
    ∙ sym (append_assoc (codes "psat 1;\n") (line_of first_item) (links ++ (last ++ end)))
    ∙ ap (λ bs. bs ++ (links ++ (last ++ end))) front_is

-- all has been written
pub whole : (n m : ℕ) (a b c : List ℕ) → n ≡ m → a ≡ front ++ lines_of (links_from 0 n) → b ≡ a ++ line_of (asked_of m) → c ≡ b ++ codes "end;\n" → c ≡ made_text m
whole n m a b c same e f g =
    let links = lines_of (links_from 0 m) in
    let last = line_of (asked_of m) in
    let end = codes "end;\n" in
    g ∙ ap (λ bs. bs ++ end) (f ∙ ap (λ bs. bs ++ last) (e ∙ ap (λ k. front ++ lines_of (links_from 0 k)) same))
    ∙ append_assoc (front ++ links) last end ∙ append_assoc front links (last ++ end) ∙ sym (text-is m)

-- a link has been written
pub link-written : {X E : Type 0} (r : Result X E) (i : ℕ) (out a b c : List ℕ) → a ≡ out ++ codes "P(" → b ≡ a ++ arrow_text i (i + 1) → OnOk r (c ≡ b ++ codes ") >= 99/100;\n")
    → OnOk r (c ≡ out ++ line_of (link i))
link-written (Err x) i out a b c e f g = tt
link-written (Ok x) i out a b c e f g =
    let arrow = arrow_text i (i + 1) in
    let end = codes ") >= 99/100;\n" in
    g ∙ ap (λ bs. bs ++ end) (f ∙ ap (λ bs. bs ++ arrow) e)
    ∙ append_assoc (out ++ codes "P(") arrow end ∙ append_assoc out (codes "P(") (arrow ++ end) ∙ ap (λ bs. out ++ bs) (sym (link-line i))
