-- A whole text, a line feed and bytes that begin with no blank and no comment: the text is read at the front, up to those bytes.
use Rattle.std.proofs.Common.{◌≡◌, ℕ, zero, suc, ◌+◌, false, List, [], ◌∷◌, ◌++◌, length, take, drop, refl, sym, ap, subst, ◌∙◌, arith, append_assoc, append-nil, length-append}
use Rattle.ps_meaning.specs.Names.{is_digit}
use Rattle.ps_text.specs.declared.symbol.Symbol.TheVariants.{Minus}
use Rattle.ps_text.specs.Tokens.{Token, Word, Number, Sign, Whole, Quotient, Decimal}
use Rattle.ps_text.specs.Pieces.{Piece, Blank, Comment, Spelled, EndsLine, Fits, texts, tokens, Cuts, IsBare}
use Rattle.ps_text.specs.Fronts.{IsTextFront}
use Rattle.ps_text.proofs.Spans.{starts, starts_behind}
use Rattle.ps_text.proofs.Longest.{Stops, longest_stops, stops_longest}
use Rattle.ps_text.proofs.Laying.{texts-append, tokens-append, cuts-append}
use Rattle.ps_problem.specs.Problems.{Parts}
use Rattle.ps_read.specs.Readings.{SpellsProblem, SpellsWhole}

-- ---- a line feed behind what follows a piece changes nothing
digit_more : (after rest : List ℕ) → starts is_digit (after ++ 10 ∷ rest) ≡ starts is_digit after
digit_more [] rest = refl
digit_more (b ∷ bs) rest = refl

behind_more : (c : ℕ) (after rest : List ℕ) → starts_behind c (10 ∷ rest) ≡ false → starts_behind c after ≡ false → starts_behind c (after ++ 10 ∷ rest) ≡ false
behind_more c [] rest n s = n
behind_more c (b ∷ bs) rest n s = rw (digit_more bs rest) s

stops_more : (t : Token) (after rest : List ℕ) → Stops t after → Stops t (after ++ 10 ∷ rest)
stops_more (Word w) [] rest s = refl
stops_more (Word w) (b ∷ bs) rest s = s
stops_more (Number (Whole ds)) after rest s = (digit_more after rest ∙ s.0, behind_more 47 after rest refl s.1, behind_more 46 after rest refl s.2)
stops_more (Number (Quotient ds es)) after rest s = digit_more after rest ∙ s
stops_more (Number (Decimal ds es)) after rest s = digit_more after rest ∙ s
stops_more (Sign Minus) [] rest s = refl
stops_more (Sign Minus) (b ∷ bs) rest s = s
stops_more (Sign x) after rest s = tt

ends_more : (after rest : List ℕ) → EndsLine after → EndsLine (after ++ 10 ∷ rest)
ends_more [] rest e = refl
ends_more (b ∷ bs) rest e = e

fits_more : (p : Piece) (after rest : List ℕ) → Fits p after → Fits p (after ++ 10 ∷ rest)
fits_more (Blank b) after rest f = f
fits_more (Comment c) after rest f = (f.0, ends_more after rest f.1)
fits_more (Spelled t) after rest f = (f.0, stops_longest t (after ++ 10 ∷ rest) f.0 (stops_more t after rest (longest_stops t after f.0 f.1)))

cuts_more : (ps : List Piece) (after rest : List ℕ) → Cuts ps after → Cuts ps (after ++ 10 ∷ rest)
cuts_more [] after rest c = tt
cuts_more (p ∷ ps) after rest c =
    (subst (λ (x : List ℕ). Fits p x) (append_assoc (texts ps) after (10 ∷ rest)) (fits_more p (texts ps ++ after) rest c.0), cuts_more ps after rest c.1)

-- ---- the text at the front
none_left : (xs ys : List ℕ) → length (xs ++ ys) ≡ length xs → ys ≡ []
none_left xs [] e = refl
none_left xs (y ∷ ys) e = absurd (omega (arith, e, length-append xs (y ∷ ys)))

feed : List Piece
feed = Blank 10 ∷ []

module _ (bytes : List ℕ) (whole : IsTextFront bytes (length bytes)) (rest : List ℕ) (bare : IsBare rest) where
  nothing_left : whole.rest ≡ []
  nothing_left = none_left (texts whole.pieces) whole.rest (ap length (sym whole.is) ∙ whole.place_is)

  bytes_are : bytes ≡ texts whole.pieces
  bytes_are = whole.is ∙ ap (λ (x : List ℕ). texts whole.pieces ++ x) nothing_left ∙ append-nil (texts whole.pieces)

  with_feed : texts (whole.pieces ++ feed) ≡ bytes ++ 10 ∷ []
  unfolding feed
  with_feed = texts-append whole.pieces feed ∙ ap (λ (x : List ℕ). x ++ 10 ∷ []) (sym bytes_are)

  pub text_behind : IsTextFront (bytes ++ 10 ∷ rest) (length bytes + 1)
  unfolding feed
  text_behind = record {
    pieces = whole.pieces ++ feed;
    rest = rest;
    written = whole.written;
    is = sym (append_assoc bytes (10 ∷ []) rest) ∙ ap (λ (x : List ℕ). x ++ rest) (sym with_feed);
    cuts = cuts-append whole.pieces feed rest (cuts_more whole.pieces [] rest (subst (λ (x : List ℕ). Cuts whole.pieces x) nothing_left whole.cuts)) (refl, tt);
    derived = tokens-append whole.pieces feed ∙ append-nil (tokens whole.pieces) ∙ whole.derived;
    within = whole.within;
    bare = bare;
    place_is = sym (ap length with_feed ∙ length-append bytes (10 ∷ []));
  }

pub spelled_behind : (bytes rest : List ℕ) (p : Parts) → SpellsWhole bytes p → IsBare rest → SpellsProblem (bytes ++ 10 ∷ rest) p (length bytes + 1)
unfolding text_behind
spelled_behind bytes rest p h bare =
    record { items = h.items; front = record { text = text_behind bytes h.front.text rest bare; meant = h.front.meant }; made = h.made }

-- ---- what is behind the line feed
pub drop_behind : (bytes rest : List ℕ) (n : ℕ) → n ≡ length bytes + 1 → drop n (bytes ++ 10 ∷ rest) ≡ rest
drop_behind [] rest zero e = absurd (omega (arith, e))
drop_behind [] rest (suc zero) e = refl
drop_behind [] rest (suc (suc n)) e = absurd (omega (arith, e))
drop_behind (b ∷ bs) rest zero e = absurd (omega (arith, e))
drop_behind (b ∷ bs) rest (suc n) e = drop_behind bs rest n (omega (arith, e))

pub take_behind : (bytes rest : List ℕ) (n m : ℕ) → n ≡ length bytes + 1 + m → take n (bytes ++ 10 ∷ rest) ≡ bytes ++ 10 ∷ take m rest
take_behind [] rest zero m e = absurd (omega (arith, e))
take_behind [] rest (suc n) m e = ap (λ (k : ℕ). 10 ∷ take k rest) (omega (arith, e))
take_behind (b ∷ bs) rest zero m e = absurd (omega (arith, e))
take_behind (b ∷ bs) rest (suc n) m e = ap (λ (x : List ℕ). b ∷ x) (take_behind bs rest n m (omega (arith, e)))
