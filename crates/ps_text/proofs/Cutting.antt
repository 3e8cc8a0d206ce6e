-- All bytes are pieces, up to the end or to a place where no token begins.
use Rattle.std.proofs.Common.{◌≡◌, ℕ, suc, zero, ◌<◌, ◌≤◌, Bool, true, false, not, ◌⊎◌, inl, inr, List, [], ◌∷◌, ◌++◌, length, refl, sym, ap, subst, ◌∙◌, arith, append_assoc, length-append}
use Rattle.std.proofs.lemmas.Bool.Decides.{nat_tests}
use Rattle.std.specs.Prelude.{◌==◌, IsTrue}
use Rattle.std.specs.List.{AllByRecursion}
use Rattle.ps_text.specs.Tokens.{Token, Word, Number, Sign, Whole, Quotient, Decimal, Symbol, Open, Close, OpenBracket, CloseBracket, Comma, Semicolon, Bang, Ampersand, Bar, Arrow, DoubleArrow, Equals, GreaterEquals, LessEquals, Plus, Minus, is_letter, is_digit, is_word_byte, IsWord, AreDigits, IsToken, spelling, symbol_spelling, BeginsNone}
use Rattle.ps_text.specs.Pieces.{Piece, Blank, Comment, Spelled, text, texts, is_blank, EndsLine, Fits, IsBad, Cut}
use Rattle.ps_text.proofs.Spans.{starts, starts_behind, refute, both, same_byte}
use Rattle.ps_text.proofs.Symbols.{SymbolStops, symbol_some}
use Rattle.ps_text.proofs.Longest.{stops_longest}

pub decide : (b : Bool) → (b ≡ true) ⊎ (b ≡ false)
decide true = inl refl
decide false = inr refl

-- the bytes at the front that pass a test
pub record Span (p : ℕ → Bool) (bytes : List ℕ) : Type 0 where
  pub front : List ℕ
  pub rest : List ℕ
  pub is : bytes ≡ front ++ rest
  pub all : AllByRecursion (λ b. IsTrue (p b)) front
  pub stop : starts p rest ≡ false

pub span : (p : ℕ → Bool) (bytes : List ℕ) → Span p bytes
span p [] = record { front = []; rest = []; is = refl; all = tt; stop = refl }
span p (b ∷ bs) = let more : Span p bs = span p bs in elim (decide (p b)) [
  | inl h ↦ record { front = b ∷ more.front; rest = more.rest; is = ap (λ x. b ∷ x) more.is; all = (h, more.all); stop = more.stop }
  | inr h ↦ record { front = []; rest = b ∷ bs; is = refl; all = tt; stop = h }
]

-- the piece at the front
pub record Next (bytes : List ℕ) : Type 0 where
  pub piece : Piece
  pub after : List ℕ
  pub is : bytes ≡ text piece ++ after
  pub some : length after < length bytes
  pub fits : Fits piece after

shorter : (b : ℕ) (bs front rest : List ℕ) → bs ≡ front ++ rest → length rest < length (b ∷ bs)
shorter b bs front rest e = let a = ap length e in let c = length-append front rest in omega arith

ends_line : (rest : List ℕ) → starts (λ b. not (b == 10)) rest ≡ false → EndsLine rest
ends_line [] h = tt
ends_line (b ∷ bs) h = grind (arith, nat_tests)

comment_next : (bs : List ℕ) → Next (35 ∷ bs)
comment_next bs = let s = span (λ b. not (b == 10)) bs in
    record { piece = Comment s.front; after = s.rest; is = ap (λ x. 35 ∷ x) s.is; some = shorter 35 bs s.front s.rest s.is; fits = (s.all, ends_line s.rest s.stop) }

word_next : (b : ℕ) (bs : List ℕ) → is_letter b ≡ true → Next (b ∷ bs)
word_next b bs h = let s = span is_word_byte bs in
    record {
      piece = Spelled (Word (b ∷ s.front));
      after = s.rest;
      is = ap (λ x. b ∷ x) s.is;
      some = shorter b bs s.front s.rest s.is;
      fits = ((h, s.all), stops_longest (Word (b ∷ s.front)) s.rest (h, s.all) s.stop);
    }

-- a separator and a digit
pub record Behind (c : ℕ) (rest : List ℕ) : Type 0 where
  pub digit : ℕ
  pub more : List ℕ
  pub is : rest ≡ c ∷ digit ∷ more
  pub is_one : is_digit digit ≡ true

behind : (c : ℕ) (rest : List ℕ) → starts_behind c rest ≡ true → Behind c rest
behind c [] h = absurd cc
behind c (b ∷ []) h = absurd (no (both (b == c) false h))
  where
    no : ((b == c) ≡ true) × (false ≡ true) → ⊥
    no x = let y = x.1 in absurd cc
behind c (b ∷ d ∷ more) h = let s = both (b == c) (is_digit d) h in record { digit = d; more = more; is = ap (λ x. x ∷ d ∷ more) (same_byte b c s.0); is_one = s.1 }

quotient_next : (b : ℕ) (bs : List ℕ) → is_digit b ≡ true → (s : Span is_digit bs) → Behind 47 s.rest → Next (b ∷ bs)
quotient_next b bs h s r = let m = span is_digit r.more in
    let e : bs ≡ (s.front ++ 47 ∷ r.digit ∷ m.front) ++ m.rest =
    s.is ∙ ap (λ x. s.front ++ x) (r.is ∙ ap (λ x. 47 ∷ r.digit ∷ x) m.is) ∙ sym (append_assoc s.front (47 ∷ r.digit ∷ m.front) m.rest) in
    record {
      piece = Spelled (Number (Quotient (b ∷ s.front) (r.digit ∷ m.front)));
      after = m.rest;
      is = ap (λ x. b ∷ x) e;
      some = shorter b bs (s.front ++ 47 ∷ r.digit ∷ m.front) m.rest e;
      fits = (((h, s.all), (r.is_one, m.all)), stops_longest (Number (Quotient (b ∷ s.front) (r.digit ∷ m.front))) m.rest ((h, s.all), (r.is_one, m.all)) m.stop);
    }

decimal_next : (b : ℕ) (bs : List ℕ) → is_digit b ≡ true → (s : Span is_digit bs) → Behind 46 s.rest → Next (b ∷ bs)
decimal_next b bs h s r = let m = span is_digit r.more in
    let e : bs ≡ (s.front ++ 46 ∷ r.digit ∷ m.front) ++ m.rest =
    s.is ∙ ap (λ x. s.front ++ x) (r.is ∙ ap (λ x. 46 ∷ r.digit ∷ x) m.is) ∙ sym (append_assoc s.front (46 ∷ r.digit ∷ m.front) m.rest) in
    record {
      piece = Spelled (Number (Decimal (b ∷ s.front) (r.digit ∷ m.front)));
      after = m.rest;
      is = ap (λ x. b ∷ x) e;
      some = shorter b bs (s.front ++ 46 ∷ r.digit ∷ m.front) m.rest e;
      fits = (((h, s.all), (r.is_one, m.all)), stops_longest (Number (Decimal (b ∷ s.front) (r.digit ∷ m.front))) m.rest ((h, s.all), (r.is_one, m.all)) m.stop);
    }

number_next : (b : ℕ) (bs : List ℕ) → is_digit b ≡ true → Next (b ∷ bs)
number_next b bs h = let s = span is_digit bs in elim (decide (starts_behind 47 s.rest)) [
  | inl q ↦ quotient_next b bs h s (behind 47 s.rest q)
  | inr q ↦ elim (decide (starts_behind 46 s.rest)) [
    | inl d ↦ decimal_next b bs h s (behind 46 s.rest d)
    | inr d ↦ record {
      piece = Spelled (Number (Whole (b ∷ s.front)));
      after = s.rest;
      is = ap (λ x. b ∷ x) s.is;
      some = shorter b bs s.front s.rest s.is;
      fits = ((h, s.all), stops_longest (Number (Whole (b ∷ s.front))) s.rest (h, s.all) (s.stop, q, d));
    }
  ]
]

-- a word stands at the front, or it doesn't
pub record Fronts (w bytes : List ℕ) : Type 0 where
  pub after : List ℕ
  pub is : bytes ≡ w ++ after

pub front : (w bytes : List ℕ) → Fronts w bytes ⊎ (Fronts w bytes → ⊥)
front [] bytes = inl (record { after = bytes; is = refl })
front (c ∷ w) [] = inr (λ f. let e = f.is in absurd cc)
front (c ∷ w) (b ∷ bs) = elim (decide (b == c)) [
  | inl h ↦ elim (front w bs) [
    | inl f ↦ inl (record { after = f.after; is = ap (λ x. x ∷ bs) (same_byte b c h) ∙ ap (λ x. c ∷ x) f.is })
    | inr n ↦ inr (λ f. n (record { after = f.after; is = let e = f.is in cc }))
  ]
  | inr h ↦ inr (λ f. let e = f.is in let s : b ≡ c = cc in other b c h s)
]
  where
    other : (b c : ℕ) → (b == c) ≡ false → b ≡ c → ⊥
    other b c h e = grind (arith, nat_tests)

symbol_next : (bytes : List ℕ) (s : Symbol) (f : Fronts (symbol_spelling s) bytes) → SymbolStops s f.after → Next bytes
symbol_next bytes s f k = record { piece = Spelled (Sign s); after = f.after; is = f.is; some = some s f; fits = (tt, stops_longest (Sign s) f.after tt k) }
  where
    some : (s : Symbol) (f : Fronts (symbol_spelling s) bytes) → length f.after < length bytes
    some s f = let e = ap length f.is in let a = length-append (symbol_spelling s) f.after in let p = symbol_some s in omega arith

-- no symbol stands at the front
abbrev pub NoSymbol : List ℕ → Type 0
NoSymbol bytes = (s : Symbol) → Fronts (symbol_spelling s) bytes → ⊥

-- a `-` that begins no `->` ends there
minus_stops : (bytes : List ℕ) (f : Fronts (symbol_spelling Minus) bytes) → (Fronts (symbol_spelling Arrow) bytes → ⊥) → SymbolStops Minus f.after
minus_stops bytes f n = by f.after f.is
  where
    by : (after : List ℕ) → bytes ≡ symbol_spelling Minus ++ after → starts (λ b. b == 62) after ≡ false
    by [] e = refl
    by (b ∷ bs) e = refute (b == 62) (λ h. n (record { after = bs; is = e ∙ ap (λ x. 45 ∷ x ∷ bs) (same_byte b 62 h) }))

-- a symbol stands at the front, or none does
symbol_or : (bytes : List ℕ) → Next bytes ⊎ NoSymbol bytes
symbol_or bytes =
    elim (front (symbol_spelling Open) bytes) [
      | inl f ↦ inl (symbol_next bytes Open f tt)
      | inr n0 ↦
          elim (front (symbol_spelling Close) bytes) [
            | inl f ↦ inl (symbol_next bytes Close f tt)
            | inr n1 ↦
                elim (front (symbol_spelling OpenBracket) bytes) [
                  | inl f ↦ inl (symbol_next bytes OpenBracket f tt)
                  | inr n2 ↦
                      elim (front (symbol_spelling CloseBracket) bytes) [
                        | inl f ↦ inl (symbol_next bytes CloseBracket f tt)
                        | inr n3 ↦
                            elim (front (symbol_spelling Comma) bytes) [
                              | inl f ↦ inl (symbol_next bytes Comma f tt)
                              | inr n4 ↦
                                  elim (front (symbol_spelling Semicolon) bytes) [
                                    | inl f ↦ inl (symbol_next bytes Semicolon f tt)
                                    | inr n5 ↦
                                        elim (front (symbol_spelling Bang) bytes) [
                                          | inl f ↦ inl (symbol_next bytes Bang f tt)
                                          | inr n6 ↦
                                              elim (front (symbol_spelling Ampersand) bytes) [
                                                | inl f ↦ inl (symbol_next bytes Ampersand f tt)
                                                | inr n7 ↦
                                                    elim (front (symbol_spelling Bar) bytes) [
                                                      | inl f ↦ inl (symbol_next bytes Bar f tt)
                                                      | inr n8 ↦
                                                          elim (front (symbol_spelling Arrow) bytes) [
                                                            | inl f ↦ inl (symbol_next bytes Arrow f tt)
                                                            | inr n9 ↦
                                                                elim (front (symbol_spelling DoubleArrow) bytes) [
                                                                  | inl f ↦ inl (symbol_next bytes DoubleArrow f tt)
                                                                  | inr n10 ↦
                                                                      elim (front (symbol_spelling Equals) bytes) [
                                                                        | inl f ↦ inl (symbol_next bytes Equals f tt)
                                                                        | inr n11 ↦
                                                                            elim (front (symbol_spelling GreaterEquals) bytes) [
                                                                              | inl f ↦ inl (symbol_next bytes GreaterEquals f tt)
                                                                              | inr n12 ↦
                                                                                  elim (front (symbol_spelling LessEquals) bytes) [
                                                                                    | inl f ↦ inl (symbol_next bytes LessEquals f tt)
                                                                                    | inr n13 ↦
                                                                                        elim (front (symbol_spelling Plus) bytes) [
                                                                                          | inl f ↦ inl (symbol_next bytes Plus f tt)
                                                                                          | inr n14 ↦
                                                                                              elim (front (symbol_spelling Minus) bytes) [
                                                                                                | inl f ↦ inl (symbol_next bytes Minus f (minus_stops bytes f n9))
                                                                                                | inr n15 ↦
                                                                                                    inr (none n0 n1 n2 n3 n4 n5 n6 n7 n8 n9 n10 n11 n12 n13 n14 n15)
                                                                                              ]
                                                                                        ]
                                                                                  ]
                                                                            ]
                                                                      ]
                                                                ]
                                                          ]
                                                    ]
                                              ]
                                        ]
                                  ]
                            ]
                      ]
                ]
          ]
    ]
  where
    none : (Fronts (symbol_spelling Open) bytes → ⊥) → (Fronts (symbol_spelling Close) bytes → ⊥)
        → (Fronts (symbol_spelling OpenBracket) bytes → ⊥) → (Fronts (symbol_spelling CloseBracket) bytes → ⊥)
        → (Fronts (symbol_spelling Comma) bytes → ⊥) → (Fronts (symbol_spelling Semicolon) bytes → ⊥)
        → (Fronts (symbol_spelling Bang) bytes → ⊥) → (Fronts (symbol_spelling Ampersand) bytes → ⊥)
        → (Fronts (symbol_spelling Bar) bytes → ⊥) → (Fronts (symbol_spelling Arrow) bytes → ⊥)
        → (Fronts (symbol_spelling DoubleArrow) bytes → ⊥) → (Fronts (symbol_spelling Equals) bytes → ⊥)
        → (Fronts (symbol_spelling GreaterEquals) bytes → ⊥) → (Fronts (symbol_spelling LessEquals) bytes → ⊥)
        → (Fronts (symbol_spelling Plus) bytes → ⊥) → (Fronts (symbol_spelling Minus) bytes → ⊥) → NoSymbol bytes
    none a b c d e f g h i j k l m n o p Open = a
    none a b c d e f g h i j k l m n o p Close = b
    none a b c d e f g h i j k l m n o p OpenBracket = c
    none a b c d e f g h i j k l m n o p CloseBracket = d
    none a b c d e f g h i j k l m n o p Comma = e
    none a b c d e f g h i j k l m n o p Semicolon = f
    none a b c d e f g h i j k l m n o p Bang = g
    none a b c d e f g h i j k l m n o p Ampersand = h
    none a b c d e f g h i j k l m n o p Bar = i
    none a b c d e f g h i j k l m n o p Arrow = j
    none a b c d e f g h i j k l m n o p DoubleArrow = k
    none a b c d e f g h i j k l m n o p Equals = l
    none a b c d e f g h i j k l m n o p GreaterEquals = m
    none a b c d e f g h i j k l m n o p LessEquals = n
    none a b c d e f g h i j k l m n o p Plus = o
    none a b c d e f g h i j k l m n o p Minus = p

word_first : (b : ℕ) (bs w more : List ℕ) → IsWord w → b ∷ bs ≡ w ++ more → is_letter b ≡ true
word_first b bs [] more i e = absurd i
word_first b bs (x ∷ xs) more i e = let same : b ≡ x = cc in rw same i.0

digits_first : (b : ℕ) (bs w more : List ℕ) → AreDigits w → b ∷ bs ≡ w ++ more → is_digit b ≡ true
digits_first b bs [] more i e = absurd i
digits_first b bs (x ∷ xs) more i e = let same : b ≡ x = cc in rw same i.0

begins_none : (b : ℕ) (bs : List ℕ) → is_letter b ≡ false → is_digit b ≡ false → NoSymbol (b ∷ bs) → BeginsNone (b ∷ bs)
unfolding BeginsNone
begins_none b bs l d n = none
  where
    none : (u : Token) (more : List ℕ) → IsToken u → b ∷ bs ≡ spelling u ++ more → ⊥
    none (Word w) more i e = let h = word_first b bs w more i e in absurd cc
    none (Number (Whole w)) more i e = let h = digits_first b bs w more i e in absurd cc
    none (Number (Quotient w v)) more i e = let h = digits_first b bs w (47 ∷ v ++ more) i.0 (e ∙ append_assoc w (47 ∷ v) more) in absurd cc
    none (Number (Decimal w v)) more i e = let h = digits_first b bs w (46 ∷ v ++ more) i.0 (e ∙ append_assoc w (46 ∷ v) more) in absurd cc
    none (Sign s) more i e = n s (record { after = more; is = e })

-- a piece stands at the front, or no token begins there
pub next : (b : ℕ) (bs : List ℕ) → Next (b ∷ bs) ⊎ IsBad (b ∷ bs)
next b bs = elim (decide (is_blank b)) [
  | inl h ↦ inl (record { piece = Blank b; after = bs; is = refl; some = omega arith; fits = h })
  | inr h0 ↦
      elim (decide (b == 35)) [
        | inl h ↦ inl (subst (λ x. Next (x ∷ bs)) (sym (same_byte b 35 h)) (comment_next bs))
        | inr h1 ↦
            elim (decide (is_letter b)) [
              | inl h ↦ inl (word_next b bs h)
              | inr h2 ↦
                  elim (decide (is_digit b)) [
                    | inl h ↦ inl (number_next b bs h)
                    | inr h3 ↦
                        elim (symbol_or (b ∷ bs)) [ inl n ↦ inl n | inr n ↦ inr (record { bare = rw (h0, h1) refl; none = begins_none b bs h2 h3 n }) ]
                  ]
            ]
      ]
]

cut_more : (bytes : List ℕ) (n : Next bytes) → Cut n.after → Cut bytes
cut_more bytes n c = record {
  pieces = n.piece ∷ c.pieces;
  rest = c.rest;
  is = n.is ∙ ap (λ x. text n.piece ++ x) c.is ∙ sym (append_assoc (text n.piece) (texts c.pieces) c.rest);
  cuts = (subst (λ x. Fits n.piece x) c.is n.fits, c.cuts);
  ends = c.ends;
}

cut_within : (n : ℕ) (bytes : List ℕ) → length bytes ≤ n → Cut bytes
cut_within n [] le = record { pieces = []; rest = []; is = refl; cuts = tt; ends = inl refl }
cut_within zero (b ∷ bs) le = absurd (omega arith)
cut_within (suc n) (b ∷ bs) le = elim (next b bs) [
  | inl x ↦ cut_more (b ∷ bs) x (cut_within n x.after (let s = x.some in omega arith))
  | inr bad ↦ record { pieces = []; rest = b ∷ bs; is = refl; cuts = tt; ends = inr bad }
]

-- all bytes, cut
pub cut : (bytes : List ℕ) → Cut bytes
cut bytes = cut_within (length bytes) bytes (omega arith)
