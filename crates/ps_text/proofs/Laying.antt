-- Bytes in which tokens are laid, each the longest.
use Rattle.std.proofs.Common.{◌≡◌, ℕ, Bool, true, false, ◌||◌, ◌&&◌, List, [], ◌∷◌, ◌++◌, refl, sym, ap, subst, ◌∙◌, append_assoc, append-nil}
use Rattle.std.specs.Prelude.{◌==◌, codes}
use Rattle.ps_text.specs.Tokens.{Token, Word, Number, Sign, Symbol, Semicolon, Minus, Whole, Quotient, Decimal, is_letter, is_digit, is_word_byte, IsToken, symbol_spelling, spelling}
use Rattle.ps_text.specs.Pieces.{is_blank, Piece, Blank, Comment, Spelled, text, texts, Fits, Cuts, tokens}
use Rattle.ps_text.proofs.Spans.{starts, starts_behind}
use Rattle.ps_text.proofs.Longest.{Stops, stops_longest}
use Rattle.ps_text.proofs.Symbols.{SymbolStops}

-- a byte by which a word, a number or a `-` could go on
abbrev pub goes_on : ℕ → Bool
goes_on b = is_word_byte b || b == 47 || b == 46 || b == 62

-- no word, no number and no `-` goes on there
abbrev pub Quiet : List ℕ → Type 0
Quiet bytes = starts goes_on bytes ≡ false

neither : (a b c : Bool) → (a || b || c) ≡ false → (a ≡ false) × (b ≡ false) × (c ≡ false)
neither false false false e = (refl, refl, refl)
neither true b c e = absurd cc
neither false true c e = absurd cc
neither false false true e = absurd cc

quiet_behind : (c b : ℕ) (bs : List ℕ) → (b == c) ≡ false → starts_behind c (b ∷ bs) ≡ false
quiet_behind c b bs h = ap (λ x. x && starts is_digit bs) h

-- what doesn't go on
record Still (b : ℕ) : Type 0 where
  digit : is_digit b ≡ false
  word : is_word_byte b ≡ false
  slash : (b == 47) ≡ false
  point : (b == 46) ≡ false
  greater : (b == 62) ≡ false

still : (b : ℕ) → goes_on b ≡ false → Still b
still b q =
    let n = neither (is_word_byte b || b == 47) (b == 46) (b == 62) q in
    let w = neither (is_word_byte b) (b == 47) false (either_false (is_word_byte b || b == 47) n.0) in
    record { digit = (neither (is_letter b) (is_digit b) (b == 95) w.0).1; word = w.0; slash = w.1; point = n.1; greater = n.2 }
  where
    either_false : (x : Bool) → x ≡ false → (x || false) ≡ false
    either_false true e = e
    either_false false e = e

symbol_quiet : (s : Symbol) (after : List ℕ) → Quiet after → SymbolStops s after
symbol_quiet Minus [] q = refl
symbol_quiet Minus (b ∷ bs) q = (still b q).greater
symbol_quiet s after q = tt

-- what is quiet stops each token
pub quiet_stops : (t : Token) (after : List ℕ) → Quiet after → Stops t after
quiet_stops (Word w) [] q = refl
quiet_stops (Word w) (b ∷ bs) q = (still b q).word
quiet_stops (Number (Whole ds)) [] q = (refl, refl, refl)
quiet_stops (Number (Whole ds)) (b ∷ bs) q = let n = still b q in (n.digit, quiet_behind 47 b bs n.slash, quiet_behind 46 b bs n.point)
quiet_stops (Number (Quotient ds es)) [] q = refl
quiet_stops (Number (Quotient ds es)) (b ∷ bs) q = (still b q).digit
quiet_stops (Number (Decimal ds es)) [] q = refl
quiet_stops (Number (Decimal ds es)) (b ∷ bs) q = (still b q).digit
quiet_stops (Sign s) after q = symbol_quiet s after q

pub texts-append : (ps qs : List Piece) → texts (ps ++ qs) ≡ texts ps ++ texts qs
texts-append [] qs = refl
texts-append (p ∷ ps) qs = ap (λ x. text p ++ x) (texts-append ps qs) ∙ sym (append_assoc (text p) (texts ps) (texts qs))

pub tokens-append : (ps qs : List Piece) → tokens (ps ++ qs) ≡ tokens ps ++ tokens qs
tokens-append [] qs = refl
tokens-append (Blank b ∷ ps) qs = tokens-append ps qs
tokens-append (Comment c ∷ ps) qs = tokens-append ps qs
tokens-append (Spelled t ∷ ps) qs = ap (λ x. t ∷ x) (tokens-append ps qs)

pub cuts-append : (ps qs : List Piece) (rest : List ℕ) → Cuts ps (texts qs ++ rest) → Cuts qs rest → Cuts (ps ++ qs) rest
cuts-append [] qs rest c d = d
cuts-append (p ∷ ps) qs rest c d =
    let e : texts ps ++ (texts qs ++ rest) ≡ texts (ps ++ qs) ++ rest = sym (append_assoc (texts ps) (texts qs) rest) ∙ ap (λ x. x ++ rest) (sym (texts-append ps qs)) in
    (subst (λ x. Fits p x) e c.0, cuts-append ps qs rest c.1 d)

-- the bytes are blanks and these tokens, each the longest before what is quiet
pub record Laid (ts : List Token) (bytes : List ℕ) : Type 0 where
  pub pieces : List Piece
  pub texts_are : texts pieces ≡ bytes
  pub tokens_are : tokens pieces ≡ ts
  pub cuts : (rest : List ℕ) → Quiet rest → Cuts pieces rest

pub laid_none : Laid [] []
laid_none = record { pieces = []; texts_are = refl; tokens_are = refl; cuts = λ rest q. tt }

-- one after the other: what comes is quiet
pub laid_over : (ts us : List Token) (xs ys : List ℕ) → Laid ts xs → Laid us ys → ((rest : List ℕ) → Quiet rest → Quiet (ys ++ rest)) → Laid (ts ++ us) (xs ++ ys)
laid_over ts us xs ys l m q = record {
  pieces = l.pieces ++ m.pieces;
  texts_are = texts-append l.pieces m.pieces ∙ ap (λ x. x ++ texts m.pieces) l.texts_are ∙ ap (λ y. xs ++ y) m.texts_are;
  tokens_are = tokens-append l.pieces m.pieces ∙ ap (λ x. x ++ tokens m.pieces) l.tokens_are ∙ ap (λ y. ts ++ y) m.tokens_are;
  cuts = λ rest h. cuts-append l.pieces m.pieces rest (l.cuts (texts m.pieces ++ rest) (subst (λ y. Quiet (y ++ rest)) (sym m.texts_are) (q rest h))) (m.cuts rest h);
}

pub laid_blank : (b : ℕ) (ts : List Token) (xs : List ℕ) → is_blank b ≡ true → Laid ts xs → Laid ts (b ∷ xs)
laid_blank b ts xs h l = record {
  pieces = Blank b ∷ l.pieces;
  texts_are = ap (λ x. b ∷ x) l.texts_are;
  tokens_are = l.tokens_are;
  cuts = λ rest q. (h, l.cuts rest q);
}

pub laid_sign : (s : Symbol) (ts : List Token) (xs : List ℕ) → ((bytes : List ℕ) → SymbolStops s (xs ++ bytes)) → Laid ts xs → Laid (Sign s ∷ ts) (symbol_spelling s ++ xs)
laid_sign s ts xs k l = record {
  pieces = Spelled (Sign s) ∷ l.pieces;
  texts_are = ap (λ x. symbol_spelling s ++ x) l.texts_are;
  tokens_are = ap (λ x. Sign s ∷ x) l.tokens_are;
  cuts = λ rest q. ((tt, stops_longest (Sign s) (texts l.pieces ++ rest) tt (subst (λ x. SymbolStops s (x ++ rest)) (sym l.texts_are) (k rest))), l.cuts rest q);
}

-- one token
pub laid_token : (t : Token) → IsToken t → Laid (t ∷ []) (spelling t)
laid_token t i = record {
  pieces = Spelled t ∷ [];
  texts_are = append-nil (spelling t);
  tokens_are = refl;
  cuts = λ rest q. ((i, stops_longest t rest i (quiet_stops t rest q)), tt);
}

-- the same before all bytes: the bytes end in a line feed, or there are none
pub record Shut (ts : List Token) (bytes : List ℕ) : Type 0 where
  pub pieces : List Piece
  pub texts_are : texts pieces ≡ bytes
  pub tokens_are : tokens pieces ≡ ts
  pub cuts : (rest : List ℕ) → Cuts pieces rest

pub shut_none : Shut [] []
shut_none = record { pieces = []; texts_are = refl; tokens_are = refl; cuts = λ rest. tt }

pub shut_over : (ts us : List Token) (xs ys : List ℕ) → Shut ts xs → Shut us ys → Shut (ts ++ us) (xs ++ ys)
shut_over ts us xs ys l m = record {
  pieces = l.pieces ++ m.pieces;
  texts_are = texts-append l.pieces m.pieces ∙ ap (λ x. x ++ texts m.pieces) l.texts_are ∙ ap (λ y. xs ++ y) m.texts_are;
  tokens_are = tokens-append l.pieces m.pieces ∙ ap (λ x. x ++ tokens m.pieces) l.tokens_are ∙ ap (λ y. ts ++ y) m.tokens_are;
  cuts = λ rest. cuts-append l.pieces m.pieces rest (l.cuts (texts m.pieces ++ rest)) (m.cuts rest);
}

abbrev ends : List Piece
ends = Spelled (Sign Semicolon) ∷ Blank 10 ∷ []

-- a `;` and a line feed
pub shut_end : (ts : List Token) (xs : List ℕ) → Laid ts xs → Shut (ts ++ Sign Semicolon ∷ []) (xs ++ codes ";\n")
shut_end ts xs l = record {
  pieces = l.pieces ++ ends;
  texts_are = texts-append l.pieces ends ∙ ap (λ x. x ++ codes ";\n") l.texts_are;
  tokens_are = tokens-append l.pieces ends ∙ ap (λ x. x ++ Sign Semicolon ∷ []) l.tokens_are;
  cuts = λ rest. cuts-append l.pieces ends rest (l.cuts (texts ends ++ rest) refl) ((tt, stops_longest (Sign Semicolon) (10 ∷ rest) tt tt), (refl, tt));
}
