-- There is one thing at most to read in some bytes.
use Rattle.std.proofs.Common.{◌≡◌, ℕ, inl, inr, List, [], ◌∷◌, ◌++◌, length, refl, sym, ap, subst, ◌∙◌, arith}
use Rattle.std.specs.Prelude.{Result, Ok, Err}
use Rattle.std.proofs.lemmas.List.{length-append}
use Rattle.ps_meaning.specs.Formula.{Formula}
use Rattle.ps_meaning.specs.Statements.{Name}
use Rattle.ps_text.specs.Tokens.{Token}
use Rattle.ps_text.specs.Pieces.{Piece, Blank, Comment, Spelled, texts, tokens}
use Rattle.ps_text.specs.Grammar.{TextSyntax, tokens_up_to, text_tokens}
use Rattle.ps_text.specs.Fronts.{IsTextFront}
use Rattle.ps_text.specs.Positions.{Position, position_of}
use Rattle.ps_text.proofs.Once.{Order, Same, Longer, Shorter, order, front_once, front_place}
use Rattle.ps_text.proofs.Meant.{meaning_once}
use Rattle.ps_text.proofs.Excluding.{front_excludes, refusal_once}
use Rattle.ps_problem.specs.Problems.{Parts}
use Rattle.ps_problem.specs.Numbering.{problem_of}
use Rattle.ps_problem.specs.Counts.{ItemExcess, counted}
use Rattle.ps_text.specs.declared.kind.ReadKind.{ReadKind}
use Rattle.ps_read.specs.Kinds.{count_kind}
use Rattle.ps_read.specs.Readings.{SpellsProblem, BeginsItem, IsFormRefused, IsCountRefused, IsUnread, IsFollowedByMore, SpellsWhole, IsUnreadWhole, Reading, Read, Unread, IsReading, IsWholeReading}

-- a list with more tokens behind it isn't itself
no_more : {A : Type 0} (xs ys : List A) (z : A) → xs ≡ xs ++ z ∷ ys → ⊥
no_more xs ys z e =
    let l = ap length e in
    let a = length-append xs (z ∷ ys) in
    absurd (omega (arith, l, a))

pieces_once : {bytes : List ℕ} {n m : ℕ} (f : IsTextFront bytes n) (g : IsTextFront bytes m) → f.pieces ≡ g.pieces
pieces_once {bytes} {n} {m} f g = by (order f.pieces g.pieces f.rest g.rest f.cuts g.cuts f.bare g.bare (sym f.is ∙ g.is))
  where
    alike : tokens f.pieces ≡ tokens g.pieces
    alike = f.derived ∙ ap text_tokens (front_once f g).written ∙ sym g.derived

    by : Order f.pieces g.pieces f.rest g.rest → f.pieces ≡ g.pieces
    by (Same is) = is
    by (Longer t more is next) = absurd (no_more (tokens g.pieces) more t (sym alike ∙ is))
    by (Shorter t more is next) = absurd (no_more (tokens f.pieces) more t (alike ∙ is))

first_of : {A : Type 0} (x y : A) (xs ys : List A) → x ∷ xs ≡ y ∷ ys → x ≡ y
first_of x y xs ys e = cc

rest_of : {A : Type 0} (x y : A) (xs ys : List A) → x ∷ xs ≡ y ∷ ys → xs ≡ ys
rest_of x y xs ys e = cc

-- fronts of the same length are the same
same_front : {A : Type 0} (xs ys us vs : List A) → length xs ≡ length ys → xs ++ us ≡ ys ++ vs → xs ≡ ys
same_front [] [] us vs l e = refl
same_front [] (y ∷ ys) us vs l e = absurd (omega (arith, l))
same_front (x ∷ xs) [] us vs l e = absurd (omega (arith, l))
same_front (x ∷ xs) (y ∷ ys) us vs l e =
    let h = first_of x y (xs ++ us) (ys ++ vs) e in
    let t = same_front xs ys us vs (omega (arith, l)) (rest_of x y (xs ++ us) (ys ++ vs) e) in
    λ i. h i ∷ t i

tokens_behind : (x : Piece) (ps qs : List Piece) → tokens (x ∷ ps) ≡ tokens (x ∷ qs) → tokens ps ≡ tokens qs
tokens_behind (Blank b) ps qs e = e
tokens_behind (Comment c) ps qs e = e
tokens_behind (Spelled t) ps qs e = rest_of t t (tokens ps) (tokens qs) e

-- the pieces before a token are the only ones with those tokens that a token follows
no_token_first : (t : Token) (y : Piece) (us vs qs : List Piece) → Spelled t ∷ us ≡ y ∷ vs → [] ≡ tokens (y ∷ qs) → ⊥
no_token_first t (Blank b) us vs qs e h = absurd cc
no_token_first t (Comment c) us vs qs e h = absurd cc
no_token_first t (Spelled u) us vs qs e h = absurd cc

split_once : (ps qs us vs : List Piece) (t u : Token) → ps ++ Spelled t ∷ us ≡ qs ++ Spelled u ∷ vs → tokens ps ≡ tokens qs → ps ≡ qs
split_once [] [] us vs t u e h = refl
split_once [] (y ∷ qs) us vs t u e h = absurd (no_token_first t y us (qs ++ Spelled u ∷ vs) qs e h)
split_once (x ∷ ps) [] us vs t u e h = absurd (no_token_first u x vs (ps ++ Spelled t ∷ us) ps (sym e) (sym h))
split_once (x ∷ ps) (y ∷ qs) us vs t u e h =
    let d = first_of x y (ps ++ Spelled t ∷ us) (qs ++ Spelled u ∷ vs) e in
    let k : tokens (x ∷ ps) ≡ tokens (x ∷ qs) = subst (λ z. tokens (x ∷ ps) ≡ tokens (z ∷ qs)) (sym d) h in
    let r = split_once ps qs us vs t u (rest_of x y (ps ++ Spelled t ∷ us) (qs ++ Spelled u ∷ vs) e) (tokens_behind x ps qs k) in
    λ i. d i ∷ r i

-- an item begins at one place
begins_once : (pieces : List Piece) (written : TextSyntax) (number n m : ℕ) → BeginsItem pieces written number n → BeginsItem pieces written number m → n ≡ m
begins_once pieces written number n m f g =
    let earlier : f.earlier ≡ g.earlier =
    same_front f.earlier g.earlier (f.item ∷ f.later) (g.item ∷ g.later) (omega (arith, f.number_is, g.number_is)) (sym f.written_are ∙ g.written_are) in
    let alike : tokens f.before ≡ tokens g.before = f.tokens_are ∙ ap (λ is. tokens_up_to (record { version = written.version; items = is })) earlier ∙ sym g.tokens_are in
    let before = split_once f.before g.before f.behind g.behind f.first g.first (sym f.pieces_are ∙ g.pieces_are) alike in
    f.place_is ∙ ap (λ ps. length (texts ps)) before ∙ sym g.place_is

-- an error is one
pub err_same : (a b : ItemExcess) (x : Result (List (Formula Name)) ItemExcess) → x ≡ Err a → x ≡ Err b → a ≡ b
err_same a b x e f = cc

ok_is_no_err : (fs : List (Formula Name)) (r : ItemExcess) (x : Result (List (Formula Name)) ItemExcess) → x ≡ Ok fs → x ≡ Err r → ⊥
ok_is_no_err fs r x e f = cc

-- two refusals of counts are the same
counts_once : (bytes : List ℕ) (k l : ReadKind) (x y : Position) → IsCountRefused bytes k x → IsCountRefused bytes l y → (k ≡ l) × (x ≡ y)
counts_once bytes k l x y f g =
    let items = meaning_once bytes f.items g.items f.behind g.behind f.front g.front in
    let refusal = err_same f.first g.first (counted f.items) f.counts (ap counted items ∙ g.counts) in
    let pieces = pieces_once f.front.text g.front.text in
    let written = (front_once f.front.text g.front.text).written in
    let at_g : BeginsItem g.front.text.pieces g.front.text.written g.first.item f.place =
    subst (λ ps. BeginsItem ps g.front.text.written g.first.item f.place) pieces
    (subst (λ es. BeginsItem f.front.text.pieces es g.first.item f.place) written
    (subst (λ r. BeginsItem f.front.text.pieces f.front.text.written r.item f.place) refusal f.begins)) in
    let place = begins_once g.front.text.pieces g.front.text.written g.first.item f.place g.place at_g g.begins in
    (f.kind_is ∙ ap (λ r. count_kind r.excess) refusal ∙ sym g.kind_is, f.position_is ∙ ap (position_of bytes) place ∙ sym g.position_is)

forms_once : (bytes : List ℕ) (k l : ReadKind) (x y : Position) → IsFormRefused bytes k x → IsFormRefused bytes l y → (k ≡ l) × (x ≡ y)
forms_once bytes k l x y f g =
    let e = refusal_once bytes k l f.place g.place f.refused g.refused in (e.0, f.position_is ∙ ap (position_of bytes) e.1 ∙ sym g.position_is)

pub unread_once : (bytes : List ℕ) (k l : ReadKind) (x y : Position) → IsUnread bytes k x → IsUnread bytes l y → (k ≡ l) × (x ≡ y)
unread_once bytes k l x y (inl f) (inl g) = forms_once bytes k l x y f g
unread_once bytes k l x y (inl f) (inr g) = absurd (front_excludes bytes g.behind f.place k g.front.text f.refused)
unread_once bytes k l x y (inr f) (inl g) = absurd (front_excludes bytes f.behind g.place l f.front.text g.refused)
unread_once bytes k l x y (inr f) (inr g) = counts_once bytes k l x y f g

pub read_once : (bytes : List ℕ) (p q : Parts) (n m : ℕ) → SpellsProblem bytes p n → SpellsProblem bytes q m → (p ≡ q) × (n ≡ m)
read_once bytes p q n m f g =
    (f.made.problem ∙ ap problem_of (meaning_once bytes f.items g.items n m f.front g.front) ∙ sym g.made.problem, front_place bytes f.items g.items n m f.front g.front)

-- what is read isn't refused
pub read_excludes : (bytes : List ℕ) (p : Parts) (n : ℕ) (k : ReadKind) (x : Position) → SpellsProblem bytes p n → IsUnread bytes k x → ⊥
read_excludes bytes p n k x f (inl g) = front_excludes bytes n g.place k f.front.text g.refused
read_excludes bytes p n k x f (inr g) =
    ok_is_no_err f.made.formulas g.first (counted f.items) f.made.within (ap counted (meaning_once bytes f.items g.items n g.behind f.front g.front) ∙ g.counts)

pub one_reading : (bytes : List ℕ) (a b : Reading) → IsReading bytes a → IsReading bytes b → a ≡ b
one_reading bytes (Read p n) (Read q m) f g = let e = read_once bytes p q n m f g in λ i. Read (e.0 i) (e.1 i)
one_reading bytes (Read p n) (Unread k x) f g = absurd (read_excludes bytes p n k x f g)
one_reading bytes (Unread k x) (Read p n) f g = absurd (read_excludes bytes p n k x g f)
one_reading bytes (Unread k x) (Unread l y) f g = let e = unread_once bytes k l x y f g in λ i. Unread (e.0 i) (e.1 i)

more_excludes : (bytes : List ℕ) (p : Parts) (x : Position) → SpellsWhole bytes p → IsFollowedByMore bytes x → ⊥
more_excludes bytes p x f g =
    let e = (read_once bytes p g.problem (length bytes) g.place f g.spells).1 in
    absurd (omega (arith, e, g.more))

-- the same of all bytes
pub whole_excludes : (bytes : List ℕ) (p : Parts) (k : ReadKind) (x : Position) → SpellsWhole bytes p → IsUnreadWhole bytes k x → ⊥
whole_excludes bytes p k x f (inl g) = read_excludes bytes p (length bytes) k x f g
whole_excludes bytes p k x f (inr g) = more_excludes bytes p x f g.1

pub unread_whole_once : (bytes : List ℕ) (k l : ReadKind) (x y : Position) → IsUnreadWhole bytes k x → IsUnreadWhole bytes l y → (k ≡ l) × (x ≡ y)
unread_whole_once bytes k l x y (inl f) (inl g) = unread_once bytes k l x y f g
unread_whole_once bytes k l x y (inl f) (inr g) = absurd (read_excludes bytes g.1.problem g.1.place k x g.1.spells f)
unread_whole_once bytes k l x y (inr f) (inl g) = absurd (read_excludes bytes f.1.problem f.1.place l y f.1.spells g)
unread_whole_once bytes k l x y (inr f) (inr g) =
    (f.0 ∙ sym g.0, f.1.position_is ∙ ap (position_of bytes) (read_once bytes f.1.problem g.1.problem f.1.place g.1.place f.1.spells g.1.spells).1 ∙ sym g.1.position_is)

pub one_whole_reading : (bytes : List ℕ) (a b : Reading) → IsWholeReading bytes a → IsWholeReading bytes b → a ≡ b
one_whole_reading bytes (Read p n) (Read q m) f g =
    let e = (read_once bytes p q (length bytes) (length bytes) f.0 g.0).0 in let d = f.1 ∙ sym g.1 in λ i. Read (e i) (d i)
one_whole_reading bytes (Read p n) (Unread k x) f g = absurd (whole_excludes bytes p k x f.0 g)
one_whole_reading bytes (Unread k x) (Read p n) f g = absurd (whole_excludes bytes p k x g.0 f)
one_whole_reading bytes (Unread k x) (Unread l y) f g = let e = unread_whole_once bytes k l x y f g in λ i. Unread (e.0 i) (e.1 i)
