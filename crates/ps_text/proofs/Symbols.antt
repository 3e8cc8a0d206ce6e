-- Symbols: none is the front of another, and none begins like a word or a number.
use Rattle.std.proofs.Common.{◌≡◌, ℕ, ◌<◌, ◌≤◌, false, List, [], ◌∷◌, ◌++◌, length, refl, sym, ap, arith}
use Rattle.std.specs.Prelude.{◌==◌}
use Rattle.ps_text.specs.Tokens.{is_letter, is_digit, Symbol, Open, Arrow, DoubleArrow, GreaterEquals, LessEquals, Minus, symbol_spelling}
use Rattle.ps_text.proofs.Spans.{starts, false_true}

-- the first byte, if there is one
abbrev pub first : List ℕ → ℕ
first [] = 0
first (b ∷ bs) = b

-- the second byte, if there is one
abbrev pub second : List ℕ → ℕ
second [] = 0
second (b ∷ bs) = first bs

-- a symbol ends there: behind a `-` no `>` stands
abbrev pub SymbolStops : Symbol → List ℕ → Type 0
SymbolStops Minus after = starts (λ b. b == 62) after ≡ false
SymbolStops s after = Unit {0}

pub blank_stops : (s : Symbol) (bytes : List ℕ) → SymbolStops s (32 ∷ bytes)
blank_stops Minus bytes = refl
blank_stops s bytes = tt

pub symbol_no_letter : (s : Symbol) (more : List ℕ) → starts is_letter (symbol_spelling s ++ more) ≡ false
symbol_no_letter Open more = refl
symbol_no_letter s more = refl

pub symbol_no_digit : (s : Symbol) (more : List ℕ) → starts is_digit (symbol_spelling s ++ more) ≡ false
symbol_no_digit Open more = refl
symbol_no_digit s more = refl

pub symbol_some : (s : Symbol) → 1 ≤ length (symbol_spelling s)
symbol_some Open = omega arith
symbol_some s = omega arith

-- a `-` before a `>` doesn't end
minus_goes_on : (more after : List ℕ) → SymbolStops Minus after → symbol_spelling Arrow ++ more ≡ symbol_spelling Minus ++ after → ⊥
minus_goes_on more [] k e = apart 62 0 (ap second e) (omega arith)
  where
    apart : (n m : ℕ) → n ≡ m → m < n → ⊥
    apart n m e l = omega (arith, e, l)
minus_goes_on more (b ∷ bs) k e = let same : 62 ≡ b = ap second e in false_true k (ap (λ x. x == 62) (sym same))

arrow_le : (s : Symbol) (more after : List ℕ) → SymbolStops s after → symbol_spelling Arrow ++ more ≡ symbol_spelling s ++ after → 2 ≤ length (symbol_spelling s)
arrow_le Arrow more after k e = omega arith
arrow_le Minus more after k e = absurd (minus_goes_on more after k e)
arrow_le s more after k e = let same : 45 ≡ first (symbol_spelling s ++ after) = ap first e in absurd (omega arith)

double_le : (s : Symbol) (more after : List ℕ) → symbol_spelling DoubleArrow ++ more ≡ symbol_spelling s ++ after → 3 ≤ length (symbol_spelling s)
double_le DoubleArrow more after e = omega arith
double_le LessEquals more after e = let same : 45 ≡ second (symbol_spelling LessEquals ++ after) = ap second e in absurd (omega arith)
double_le s more after e = let same : 60 ≡ first (symbol_spelling s ++ after) = ap first e in absurd (omega arith)

greater_le : (s : Symbol) (more after : List ℕ) → symbol_spelling GreaterEquals ++ more ≡ symbol_spelling s ++ after → 2 ≤ length (symbol_spelling s)
greater_le GreaterEquals more after e = omega arith
greater_le s more after e = let same : 62 ≡ first (symbol_spelling s ++ after) = ap first e in absurd (omega arith)

less_le : (s : Symbol) (more after : List ℕ) → symbol_spelling LessEquals ++ more ≡ symbol_spelling s ++ after → 2 ≤ length (symbol_spelling s)
less_le LessEquals more after e = omega arith
less_le DoubleArrow more after e = omega arith
less_le s more after e = let same : 60 ≡ first (symbol_spelling s ++ after) = ap first e in absurd (omega arith)

pub symbol_le : (u s : Symbol) (more after : List ℕ) → SymbolStops s after → symbol_spelling u ++ more ≡ symbol_spelling s ++ after → length (symbol_spelling u) ≤ length (symbol_spelling s)
symbol_le Arrow s more after k e = arrow_le s more after k e
symbol_le DoubleArrow s more after k e = double_le s more after e
symbol_le GreaterEquals s more after k e = greater_le s more after e
symbol_le LessEquals s more after k e = less_le s more after e
symbol_le u s more after k e = symbol_some s
