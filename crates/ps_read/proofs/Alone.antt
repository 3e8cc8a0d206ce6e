-- A text at the front stands there too without the bytes behind it.
use Rattle.std.proofs.Common.{◌≡◌, ℕ, ◌≤◌, Bool, true, false, ◌&&◌, List, [], ◌∷◌, ◌++◌, length, take, drop, refl, sym, ap, subst, ◌∙◌, arith, append_assoc, length-append}
use Rattle.std.proofs.lemmas.List.{take-append-drop, length-take-le}
use Rattle.std.specs.Prelude.{◌==◌}
use Rattle.ps_meaning.specs.Names.{is_digit}
use Rattle.ps_text.specs.Tokens.{Token, Word, Number, Sign, Whole, Quotient, Decimal}
use Rattle.ps_text.specs.Pieces.{Piece, Blank, Comment, Spelled, EndsLine, Fits, texts, Cuts, IsBare}
use Rattle.ps_text.specs.Fronts.{IsTextFront, IsFront}
use Rattle.ps_meaning.specs.Statements.{Item}
use Rattle.ps_text.proofs.Spans.{starts, starts_behind}
use Rattle.ps_text.specs.declared.symbol.Symbol.{Symbol}
use Rattle.ps_text.specs.declared.symbol.Symbol.TheVariants.{Open, Close, OpenBracket, CloseBracket, Comma, Semicolon, Bang, Ampersand, Bar, Arrow, DoubleArrow, Equals, GreaterEquals, LessEquals, Plus, Minus}
use Rattle.ps_text.proofs.Symbols.{SymbolStops}
use Rattle.ps_text.proofs.Longest.{Stops, longest_stops, stops_longest}
use Rattle.ps_problem.specs.Problems.{Parts}
use Rattle.ps_read.specs.Readings.{SpellsProblem}
use Rattle.ps_read.proofs.Returned.{place_within}
use Rattle.ps_read.specs.Fronts.{IsReadAlone}

digit_less : (after more : List ℕ) → starts is_digit (after ++ more) ≡ false → starts is_digit after ≡ false
digit_less [] more s = refl
digit_less (b ∷ bs) more s = s

behind_less : (c : ℕ) (after more : List ℕ) → starts_behind c (after ++ more) ≡ false → starts_behind c after ≡ false
behind_less c [] more s = refl
behind_less c (b ∷ []) more s = never (b == c)
  where
    never : (x : Bool) → x && false ≡ false
    never true = refl
    never false = refl
behind_less c (b ∷ d ∷ bs) more s = s

symbol_less : (x : Symbol) (after more : List ℕ) → SymbolStops x (after ++ more) → SymbolStops x after
symbol_less Minus [] more s = refl
symbol_less Minus (b ∷ bs) more s = s
symbol_less Open after more s = tt
symbol_less Close after more s = tt
symbol_less OpenBracket after more s = tt
symbol_less CloseBracket after more s = tt
symbol_less Comma after more s = tt
symbol_less Semicolon after more s = tt
symbol_less Bang after more s = tt
symbol_less Ampersand after more s = tt
symbol_less Bar after more s = tt
symbol_less Arrow after more s = tt
symbol_less DoubleArrow after more s = tt
symbol_less Equals after more s = tt
symbol_less GreaterEquals after more s = tt
symbol_less LessEquals after more s = tt
symbol_less Plus after more s = tt

stops_less : (t : Token) (after more : List ℕ) → Stops t (after ++ more) → Stops t after
stops_less (Word w) [] more s = refl
stops_less (Word w) (b ∷ bs) more s = s
stops_less (Number (Whole ds)) after more s = (digit_less after more s.0, behind_less 47 after more s.1, behind_less 46 after more s.2)
stops_less (Number (Quotient ds es)) after more s = digit_less after more s
stops_less (Number (Decimal ds es)) after more s = digit_less after more s
stops_less (Sign x) after more s = symbol_less x after more s

ends_less : (after more : List ℕ) → EndsLine (after ++ more) → EndsLine after
ends_less [] more e = tt
ends_less (b ∷ bs) more e = e

fits_less : (p : Piece) (after more : List ℕ) → Fits p (after ++ more) → Fits p after
fits_less (Blank b) after more f = f
fits_less (Comment c) after more f = (f.0, ends_less after more f.1)
fits_less (Spelled t) after more f = (f.0, stops_longest t after f.0 (stops_less t after more (longest_stops t (after ++ more) f.0 f.1)))

cuts_less : (ps : List Piece) (after more : List ℕ) → Cuts ps (after ++ more) → Cuts ps after
cuts_less [] after more c = tt
cuts_less (p ∷ ps) after more c =
    (fits_less p (texts ps ++ after) more (subst (λ (x : List ℕ). Fits p x) (sym (append_assoc (texts ps) after more)) c.0), cuts_less ps after more c.1)

bare_less : (after more : List ℕ) → IsBare (after ++ more) → IsBare after
bare_less [] more b = tt
bare_less (x ∷ xs) more b = b

-- what is behind a front that isn't longer than these bytes
pub record Split (front rest bytes more : List ℕ) : Type 0 where
  pub between : List ℕ
  pub bytes_are : bytes ≡ front ++ between
  pub rest_is : rest ≡ between ++ more

pub split : (front rest bytes more : List ℕ) → front ++ rest ≡ bytes ++ more → length front ≤ length bytes → Split front rest bytes more
split [] rest bytes more e l = record { between = bytes; bytes_are = refl; rest_is = e }
split (x ∷ xs) rest [] more e l = absurd (omega (arith, l))
split (x ∷ xs) rest (y ∷ ys) more e l =
    let same : x ≡ y = cc in
    let e2 : xs ++ rest ≡ ys ++ more = cc in
    let l2 : length xs ≤ length ys = omega (arith, l) in
    let s = split xs rest ys more e2 l2 in
    record { between = s.between; bytes_are = ap (λ z. z ∷ ys) (sym same) ∙ ap (λ zs. x ∷ zs) s.bytes_are; rest_is = s.rest_is }

pub front_within : (bytes : List ℕ) (place : ℕ) → IsTextFront bytes place → place ≤ length bytes
front_within bytes place f =
    let l = length-append (texts f.pieces) f.rest in
    let e = ap length f.is in
    omega (arith, l, e, f.place_is)

pub front_alone : (bytes more : List ℕ) (n : ℕ) → IsTextFront (bytes ++ more) n → n ≤ length bytes → IsTextFront bytes n
front_alone bytes more n f l =
    let s = split (texts f.pieces) f.rest bytes more (sym f.is) (omega (arith, l, f.place_is)) in record {
      pieces = f.pieces;
      rest = s.between;
      written = f.written;
      is = s.bytes_are;
      cuts = cuts_less f.pieces s.between more (subst (λ r. Cuts f.pieces r) s.rest_is f.cuts);
      derived = f.derived;
      within = f.within;
      bare = bare_less s.between more (subst IsBare s.rest_is f.bare);
      place_is = f.place_is;
    }

front_of : (bytes more : List ℕ) (n : ℕ) (items : List Item) (f : IsFront (bytes ++ more) items n) (l : n ≤ length bytes) → IsFront bytes items n
unfolding front_alone
front_of bytes more n items f l = record { text = front_alone bytes more n f.text l; meant = f.meant }

pub spelled_alone : (bytes more : List ℕ) (p : Parts) (n : ℕ) → SpellsProblem (bytes ++ more) p n → n ≤ length bytes → SpellsProblem bytes p n
spelled_alone bytes more p n s l = record { items = s.items; front = front_of bytes more n s.items s.front l; made = s.made }

pub read_alone : (bytes : List ℕ) (place : ℕ) → IsReadAlone bytes place
read_alone bytes place p s =
    let whole : SpellsProblem (take place bytes ++ drop place bytes) p place = subst (λ bs. SpellsProblem bs p place) (sym (take-append-drop place bytes)) s in
    let long = length-take-le place bytes (place_within bytes p place s) in
    subst (λ n. SpellsProblem (take place bytes) p n) (sym long) (spelled_alone (take place bytes) (drop place bytes) p place whole (omega (arith, long)))
