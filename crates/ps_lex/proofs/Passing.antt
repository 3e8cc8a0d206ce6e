-- Runs of bytes that tell nothing, byte by byte.
use Rattle.std.proofs.Common.{◌≡◌, ℕ, suc, ◌+◌, ◌<◌, ◌≤◌, ◌-◌, not, Bool, true, false, List, [], ◌∷◌, ◌++◌, length, get_or, take, drop, None, inl, inr, refl, sym, ap, subst, ◌∙◌, arith, append_assoc, length-append, true≢false}
use Rattle.std.proofs.lemmas.List.{take_all}
use Rattle.std.specs.Prelude.{◌==◌, ◌||◌, IsTrue, if◌then◌else◌}
use Rattle.std.specs.List.{AllByRecursion}
use Rattle.ps_text.specs.Pieces.{is_blank}
use Rattle.ps_text.proofs.Spans.{same_byte}
use Rattle.ps_text.proofs.Cutting.{decide}
use Rattle.ps_lex.specs.declared.position.Position.{Position}
use Rattle.ps_lex.specs.declared.mode.Mode.{Mode}
use Rattle.ps_lex.specs.declared.mode.Mode.TheVariants as mode
use Rattle.ps_lex.specs.Places.{behind, along, HasRoom}
use Rattle.ps_lex.specs.Seen.{behind_all}
use Rattle.ps_lex.specs.Lexing.{LexerState, begun, token_ended, with_byte, bad_place}
use Rattle.ps_lex.specs.Passing.{with_bytes, TellsNothing, TellNothing, Passes, is_passed, gap_mode, gap_state, is_in_line, AreInLine, along_line}
use Rattle.ps_lex.proofs.Tokens.{behind_append}

-- a byte that is passed tells nothing
between_good : (x y : Bool) (m : Mode) → x || y ≡ true → bad_place (if x then mode.Between else if y then mode.Comment else m) ≡ None
between_good true y m e = refl
between_good false true m e = refl
between_good false false m e = absurd (true≢false (sym e))

gap_quiet : (c : Bool) (began here : Position) (b : ℕ) → is_passed (gap_mode c) b ≡ true → TellsNothing (gap_state c began here) b
unfolding token_ended with_byte begun
gap_quiet true began here b h = record { token = refl; place = by (b == 10) }
  where
    by : (x : Bool) → bad_place (if x then mode.Between else mode.Comment) ≡ None
    by true = refl
    by false = refl
gap_quiet false began here b h = record { token = refl; place = between_good (is_blank b) (b == 35) _ h }

-- one byte more, at the end
with_more : (s : LexerState) (bs : List ℕ) (b : ℕ) → with_bytes s (bs ++ b ∷ []) ≡ with_byte (with_bytes s bs) b
with_more s [] b = refl
with_more s (c ∷ cs) b = with_more (with_byte s c) cs b

quiet_more : (s : LexerState) (bs : List ℕ) (b : ℕ) → TellNothing s bs → TellsNothing (with_bytes s bs) b → TellNothing s (bs ++ b ∷ [])
quiet_more s [] b h k = (k, tt)
quiet_more s (c ∷ cs) b h k = (h.0, quiet_more (with_byte s c) cs b h.1 k)

place_next : (s : LexerState) (b : ℕ) → (with_byte s b).here ≡ behind s.here b
unfolding with_byte
place_next s b = refl

passes_more : (s n : LexerState) (bytes left : List ℕ) (b : ℕ) → Passes s bytes n (b ∷ left) → TellsNothing n b → Passes s bytes (with_byte n b) left
passes_more s n bytes left b p q = record {
  passed = p.passed ++ b ∷ [];
  bytes_are = p.bytes_are ∙ sym (append_assoc p.passed (b ∷ []) left);
  nothing_told = quiet_more s p.passed b p.nothing_told (subst (λ m. TellsNothing m b) p.state q);
  state = ap (λ m. with_byte m b) p.state ∙ sym (with_more s p.passed b);
  place = place_next n b ∙ ap (λ h. behind h b) p.place ∙ sym (behind_append s.here p.passed (b ∷ []));
}

-- a blank or a byte of a comment more
pub gap_more : (s : LexerState) (c d : Bool) (began here p q : Position) (bytes left : List ℕ) (b : ℕ)
    → Passes s bytes (gap_state c began here) (b ∷ left) → is_passed (gap_mode c) b ≡ true → gap_state d p q ≡ with_byte (gap_state c began here) b → Passes s bytes (gap_state d p q) left
gap_more s c d began here p q bytes left b h k e = subst (λ n. Passes s bytes n left) (sym e) (passes_more s (gap_state c began here) bytes left b h (gap_quiet c began here b k))

-- and room for one byte less
room_behind : (count : ℕ) (p : Position) (b : ℕ) → HasRoom (suc count) p → HasRoom count (behind p b)
unfolding behind
room_behind count p b h = by (b == 10)
  where
    by : (x : Bool) → HasRoom count (if x then record { line = p.line + 1; column = 1; offset = p.offset + 1 } else record { line = p.line; column = p.column + 1; offset = p.offset + 1 })
    by true = record { line = omega (arith, h.line); column = omega (arith, h.column); offset = omega (arith, h.offset) }
    by false = record { line = omega (arith, h.line); column = omega (arith, h.column); offset = omega (arith, h.offset) }

pub room_more : (s n : LexerState) (b : ℕ) (left : List ℕ) → HasRoom (length (b ∷ left)) s.here → n ≡ with_byte s b → HasRoom (length left) n.here
unfolding with_byte
room_more s n b left h e = subst (λ m. HasRoom (length left) m.here) (sym e) (room_behind (length left) s.here b h)

-- the first byte and the others
pub first_and_others : (bytes : List ℕ) → 1 ≤ length bytes → bytes ≡ get_or bytes 0 0 ∷ take (length bytes - 1) (drop 1 bytes)
first_and_others [] h = absurd (omega (arith, h))
first_and_others (b ∷ bs) h = ap (λ xs. b ∷ xs) (sym (take_all (suc (length bs) - 1) bs (omega arith)))

-- bytes are passed, and then more

with_both : (s : LexerState) (xs ys : List ℕ) → with_bytes s (xs ++ ys) ≡ with_bytes (with_bytes s xs) ys
with_both s [] ys = refl
with_both s (x ∷ xs) ys = with_both (with_byte s x) xs ys

quiet_both : (s : LexerState) (xs ys : List ℕ) → TellNothing s xs → TellNothing (with_bytes s xs) ys → TellNothing s (xs ++ ys)
quiet_both s [] ys h k = k
quiet_both s (x ∷ xs) ys h k = (h.0, quiet_both (with_byte s x) xs ys h.1 k)

pub passes_then : (s n m : LexerState) (bytes more left : List ℕ) → Passes s bytes n more → Passes n more m left → Passes s bytes m left
passes_then s n m bytes more left p q = record {
  passed = p.passed ++ q.passed;
  bytes_are = p.bytes_are ∙ ap (λ bs. p.passed ++ bs) q.bytes_are ∙ sym (append_assoc p.passed q.passed left);
  nothing_told = quiet_both s p.passed q.passed p.nothing_told (subst (λ x. TellNothing x q.passed) p.state q.nothing_told);
  state = q.state ∙ ap (λ x. with_bytes x q.passed) p.state ∙ sym (with_both s p.passed q.passed);
  place = q.place ∙ ap (λ h. behind_all h q.passed) p.place ∙ sym (behind_append s.here p.passed q.passed);
}

room_all : (passed left : List ℕ) (p : Position) → HasRoom (length (passed ++ left)) p → HasRoom (length left) (behind_all p passed)
room_all [] left p h = h
room_all (b ∷ bs) left p h = room_all bs left (behind p b) (room_behind (length (bs ++ left)) p b h)

pub room_passed : (s n : LexerState) (bytes left : List ℕ) → Passes s bytes n left → HasRoom (length bytes) s.here → HasRoom (length left) n.here
room_passed s n bytes left p h = subst (HasRoom (length left)) (sym p.place) (room_all p.passed left s.here (subst (λ bs. HasRoom (length bs) s.here) p.bytes_are h))

-- bytes of a line, one after the other

line_passed : (c : Bool) (b : ℕ) → is_in_line c b ≡ true → is_passed (gap_mode c) b ≡ true
line_passed true b h = refl
line_passed false b h = subst (λ x. is_passed mode.Between x ≡ true) (sym (same_byte b 32 h)) refl

line_step : (c : Bool) (began here : Position) (b : ℕ) → is_in_line c b ≡ true → with_byte (gap_state c began here) b ≡ gap_state c (if c then began else here) (along here 1)
unfolding with_byte begun behind
line_step true began here b h = by (b == 10) h
  where
    by : (x : Bool) → not x ≡ true
        → record { mode = if x then mode.Between else mode.Comment; began = began; here = if x then record { line = here.line + 1; column = 1; offset = here.offset + 1 } else along here 1 } ≡ gap_state true began (along here 1)
    by true e = absurd (true≢false (sym e))
    by false e = refl
line_step false began here b h = subst (λ x. with_byte (gap_state false began here) x ≡ gap_state false here (along here 1)) (sym (same_byte b 32 h)) refl

line_quiet : (c : Bool) (began here : Position) (bs : List ℕ) → AllByRecursion (λ b. IsTrue (is_in_line c b)) bs → TellNothing (gap_state c began here) bs
line_quiet c began here [] h = tt
line_quiet c began here (b ∷ bs) h =
    (gap_quiet c began here b (line_passed c b h.0), subst (λ s. TellNothing s bs) (sym (line_step c began here b h.0)) (line_quiet c (if c then began else here) (along here 1) bs h.1))

pub along_none : (p : Position) → along p 0 ≡ p
along_none p = let e : p.column + 0 ≡ p.column = omega arith in let f : p.offset + 0 ≡ p.offset = omega arith in λ i. record { line = p.line; column = e i; offset = f i }

pub along_more : (p : Position) (n : ℕ) → along (along p 1) n ≡ along p (suc n)
along_more p n = let e : p.column + 1 + n ≡ p.column + suc n = omega arith in let f : p.offset + 1 + n ≡ p.offset + suc n = omega arith in λ i. record { line = p.line; column = e i; offset = f i }

along_less : (p : Position) (n : ℕ) → along (along p 1) (suc n - 1) ≡ along p (suc (suc n) - 1)
along_less p n = let e : p.column + 1 + (suc n - 1) ≡ p.column + (suc (suc n) - 1) = omega arith in let f : p.offset + 1 + (suc n - 1) ≡ p.offset + (suc (suc n) - 1) = omega arith in λ i. record { line = p.line; column = e i; offset = f i }

line_state : (c : Bool) (began here : Position) (b : ℕ) (bs : List ℕ) → AllByRecursion (λ b. IsTrue (is_in_line c b)) (b ∷ bs) → with_bytes (gap_state c began here) (b ∷ bs) ≡ along_line c began here (suc (length bs))
line_state true began here b [] h = line_step true began here b h.0
line_state false began here b [] h = line_step false began here b h.0 ∙ ap (λ p. gap_state false p (along here 1)) (sym (along_none here))
line_state true began here b (d ∷ ds) h =
    ap (λ s. with_bytes s (d ∷ ds)) (line_step true began here b h.0)
    ∙ line_state true began (along here 1) d ds h.1
    ∙ ap (λ p. gap_state true began p) (along_more here (suc (length ds)))
line_state false began here b (d ∷ ds) h =
    ap (λ s. with_bytes s (d ∷ ds)) (line_step false began here b h.0)
    ∙ line_state false here (along here 1) d ds h.1
    ∙ (let e = along_less here (length ds) in let f = along_more here (suc (length ds)) in λ i. gap_state false (e i) (f i))

pub with_place : (s : LexerState) (bs : List ℕ) → (with_bytes s bs).here ≡ behind_all s.here bs
with_place s [] = refl
with_place s (b ∷ bs) = with_place (with_byte s b) bs ∙ ap (λ h. behind_all h bs) (place_next s b)

line_passes : (c : Bool) (began here : Position) (passed left : List ℕ) (count : ℕ) → AllByRecursion (λ b. IsTrue (is_in_line c b)) passed → 0 < count → length (passed ++ left) - length left ≡ count
    → Passes (gap_state c began here) (passed ++ left) (along_line c began here count) left
line_passes c began here [] left count h k e = absurd (omega (arith, k, e))
line_passes c began here (b ∷ bs) left count h k e =
    let n : suc (length bs) ≡ count = (let l = length-append (b ∷ bs) left in omega (arith, l, e)) in
    let st = line_state c began here b bs h ∙ ap (along_line c began here) n in record {
      passed = b ∷ bs;
      bytes_are = refl;
      nothing_told = line_quiet c began here (b ∷ bs) h;
      state = sym st;
      place = ap (λ s. s.here) (sym st) ∙ with_place (gap_state c began here) (b ∷ bs);
    }

pub line_along : (c : Bool) (began here : Position) (bytes left : List ℕ) (count : ℕ) (n : LexerState) → AreInLine c bytes left → 0 < count → length bytes - length left ≡ count → n ≡ along_line c began here count
    → Passes (gap_state c began here) bytes n left
line_along c began here bytes left count n a k e f =
    subst (λ m. Passes (gap_state c began here) bytes m left) (sym f)
    (subst (λ bs. Passes (gap_state c began here) bs (along_line c began here count) left) (sym a.bytes_are)
    (line_passes c began here a.passed left count a.all k (subst (λ bs. length bs - length left ≡ count) a.bytes_are e)))

pub all_more : (p : ℕ → Bool) (bs : List ℕ) (b : ℕ) → AllByRecursion (λ x. IsTrue (p x)) bs → p b ≡ true → AllByRecursion (λ x. IsTrue (p x)) (bs ++ b ∷ [])
all_more p [] b h k = (k, tt)
all_more p (c ∷ cs) b h k = (h.0, all_more p cs b h.1 k)

-- a byte of the line more
line_byte : (c : Bool) (bytes left : List ℕ) (b : ℕ) → AreInLine c bytes (b ∷ left) → is_in_line c b ≡ true → AreInLine c bytes left
line_byte c bytes left b a h = record {
  passed = a.passed ++ b ∷ [];
  bytes_are = a.bytes_are ∙ sym (append_assoc a.passed (b ∷ []) left);
  all = all_more (is_in_line c) a.passed b a.all h;
}

pub line_more : (c : Bool) (bytes left : List ℕ) → AreInLine c bytes left → 1 ≤ length left → is_in_line c (get_or left 0 0) ≡ true → AreInLine c bytes (take (length left - 1) (drop 1 left))
line_more c bytes left a l h = line_byte c bytes (take (length left - 1) (drop 1 left)) (get_or left 0 0) (subst (AreInLine c bytes) (first_and_others left l) a) h

pub no_feed : (b : ℕ) → (b ≡ 10 → ⊥) → is_in_line true b ≡ true
no_feed b e = elim (decide (b == 10)) [ inl h ↦ absurd (e (same_byte b 10 h)) | inr h ↦ rw h refl ]

pub is_space : (b : ℕ) → b ≡ 32 → is_in_line false b ≡ true
is_space b e = subst (λ x. is_in_line false x ≡ true) (sym e) refl
