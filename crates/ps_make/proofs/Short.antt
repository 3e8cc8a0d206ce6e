-- The text of a chain is short.
use Rattle.std.proofs.Common.{◌≡◌, ℕ, zero, suc, ◌+◌, ◌*◌, ◌<◌, ◌≤◌, ◌^◌, ◌++◌, length, refl, ap, ◌∙◌, arith}
use Rattle.std.specs.Prelude.{codes, decimal}
use Rattle.std.proofs.lemmas.Fmt.{length-decimal-le_wide}
use Rattle.std.proofs.lemmas.List.{length-append}
use Rattle.ps_make.specs.Chain.{link, links_from, asked_of, made_text}
use Rattle.ps_make.specs.Lines.{atom_name, arrow_text, line_of, lines_of}
use Rattle.ps_make.proofs.Laid.{front, link-line, more-lines, text-is}

name-short : (i : ℕ) → i ≤ 91 → length (atom_name i) ≤ 41
name-short i h =
    let e = length-append (codes "x") (decimal i) in
    let d = length-decimal-le_wide 40 i (omega arith) (omega (arith, h)) in
    omega (arith, e, d)

arrow-short : (i : ℕ) → i ≤ 90 → length (arrow_text i (i + 1)) ≤ 86
arrow-short i h =
    let e = length-append (atom_name i) (codes " -> " ++ atom_name (i + 1)) in
    let f = length-append (codes " -> ") (atom_name (i + 1)) in
    let a = name-short i (omega (arith, h)) in
    let b = name-short (i + 1) (omega (arith, h)) in
    omega (arith, e, f, a, b)

link-short : (i : ℕ) → i ≤ 90 → length (line_of (link i)) ≤ 110
link-short i h =
    let l = ap length (link-line i) in
    let e = length-append (codes "P(") (arrow_text i (i + 1) ++ codes ") >= 99/100;\n") in
    let f = length-append (arrow_text i (i + 1)) (codes ") >= 99/100;\n") in
    let a = arrow-short i h in
    omega (arith, l, e, f, a)

links-short : (n : ℕ) → n ≤ 90 → length (lines_of (links_from 0 n)) ≤ 110 * n
links-short zero h = omega arith
links-short (suc n) h =
    let same : suc n ≡ n + 1 = omega arith in
    let l = ap (λ k. length (lines_of (links_from 0 k))) same ∙ ap length (more-lines n) in
    let e = length-append (lines_of (links_from 0 n)) (line_of (link n)) in
    let a = links-short n (omega (arith, h)) in
    let b = link-short n (omega (arith, h)) in
    omega (arith, l, e, a, b)

query-line : (i : ℕ) → line_of (asked_of i) ≡ codes "query P(" ++ ((atom_name i ++ codes ")") ++ codes ";\n")
query-line i = refl

pub text-short : (n : ℕ) → n ≤ 90 → length (made_text n) < 2 ^ 20
text-short n h =
    let links = lines_of (links_from 0 n) in
    let last = line_of (asked_of n) in
    let end = codes "end;\n" in
    let t = ap length (text-is n) in
    let e = length-append front (links ++ (last ++ end)) in
    let f = length-append links (last ++ end) in
    let g = length-append last end in
    let q = ap length (query-line n) in
    let r = length-append (codes "query P(") ((atom_name n ++ codes ")") ++ codes ";\n") in
    let s = length-append (atom_name n ++ codes ")") (codes ";\n") in
    let u = length-append (atom_name n) (codes ")") in
    let a = links-short n h in
    let b = name-short n (omega (arith, h)) in
    omega (arith, t, e, f, g, q, r, s, u, a, b)
