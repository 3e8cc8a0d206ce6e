-- What is told of bytes, byte by byte.
use Rattle.std.proofs.Common.{◌≡◌, ℕ, ◌+◌, ◌<◌, ◌^◌, List, [], ◌∷◌, ◌++◌, length, Option, Some, None, refl, sym, ap, subst, ◌∙◌, append_assoc, append-nil, arith}
use Rattle.ps_lex.specs.declared.position.Position.{Position}
use Rattle.ps_lex.specs.declared.token.Token.{Token}
use Rattle.ps_lex.specs.Places.{start, behind, HasRoom}
use Rattle.ps_lex.specs.Seen.{behind_all}
use Rattle.ps_lex.specs.Lexing.{LexerState, new_lexer, lexed, token_ended, with_byte, last_token, last_bad, bad_place, with_place, stops_or, after_tokens}
use Rattle.ps_lex.specs.Passing.{Passes, TellNothing, with_bytes}
use Rattle.ps_lex.proofs.Passing.{room_more, room_passed}

-- what is told, behind tokens that were told
abbrev pub Told : Type 0
Told = List (Token × Position) × Option Position

join : (xs ys : List (Token × Position)) (r : Told) → after_tokens xs (after_tokens ys r) ≡ after_tokens (xs ++ ys) r
join xs ys r = λ i. (sym (append_assoc xs ys r.0) i, r.1)

-- one byte more
pub step : (s : LexerState) (b : ℕ) (bs : List ℕ) → lexed s (b ∷ bs) ≡ after_tokens (with_place (token_ended s b) s.began) (stops_or (bad_place (with_byte s b).mode) (lexed (with_byte s b) bs))
unfolding lexed
step s b bs = refl

-- at the end
pub last : (s : LexerState) → lexed s [] ≡ (with_place (last_token s.mode) s.began, last_bad s.mode s.began)
unfolding lexed
last s = refl

-- bytes that tell nothing are passed
passed-on : (s : LexerState) (xs ys : List ℕ) → TellNothing s xs → lexed s (xs ++ ys) ≡ lexed (with_bytes s xs) ys
passed-on s [] ys h = refl
passed-on s (b ∷ xs) ys h =
    step s b (xs ++ ys)
    ∙ ap (λ t. after_tokens (with_place t s.began) (stops_or (bad_place (with_byte s b).mode) (lexed (with_byte s b) (xs ++ ys)))) h.0.token
    ∙ ap (λ p. stops_or p (lexed (with_byte s b) (xs ++ ys))) h.0.place
    ∙ passed-on (with_byte s b) xs ys h.1

pub passes-on : (s n : LexerState) (bytes left : List ℕ) → Passes s bytes n left → lexed s bytes ≡ lexed n left
passes-on s n bytes left p = ap (lexed s) p.bytes_are ∙ passed-on s p.passed left p.nothing_told ∙ ap (λ m. lexed m left) (sym p.state)

place-next : (s : LexerState) (b : ℕ) → (with_byte s b).here ≡ behind s.here b
unfolding with_byte
place-next s b = refl

behind-both : (p : Position) (xs ys : List ℕ) → behind_all p (xs ++ ys) ≡ behind_all (behind_all p xs) ys
behind-both p [] ys = refl
behind-both p (x ∷ xs) ys = behind-both (behind p x) xs ys

-- so what is told by all the bytes is told by those that are left, behind the tokens so far
pub record IsLexing (tokens : List (Token × Position)) (s : LexerState) (left bytes : List ℕ) : Type 0 where
  pub told : after_tokens tokens (lexed s left) ≡ lexed new_lexer bytes
  pub place : behind_all s.here left ≡ behind_all start bytes
  pub room : HasRoom (length left) s.here

pub first-told : (bytes : List ℕ) → length bytes + 1 < 2 ^ 32 → IsLexing [] new_lexer bytes bytes
first-told bytes h = record {
  told = refl;
  place = refl;
  room = record { line = omega (arith, h); column = omega (arith, h); offset = omega (arith, h) };
}

module _ (tokens : List (Token × Position)) (s : LexerState) (b : ℕ) (more bytes : List ℕ) (h : IsLexing tokens s (b ∷ more) bytes) where
  abbrev ended-there : List (Token × Position)
  ended-there = with_place (token_ended s b) s.began

  -- behind a byte that shows no place where no token begins
  pub told-on : (n : LexerState) (left : List ℕ) → bad_place (with_byte s b).mode ≡ None → Passes (with_byte s b) more n left → IsLexing (tokens ++ ended-there) n left bytes
  told-on n left good p =
      let rest : lexed s (b ∷ more) ≡ after_tokens ended-there (lexed n left) =
      step s b more ∙ ap (λ q. after_tokens ended-there (stops_or q (lexed (with_byte s b) more))) good
      ∙ ap (after_tokens ended-there) (passes-on (with_byte s b) n more left p) in
      let room : HasRoom (length more) (with_byte s b).here = room_more s (with_byte s b) b more h.room refl in
      record {
        told = sym (join tokens ended-there (lexed n left)) ∙ ap (after_tokens tokens) (sym rest) ∙ h.told;
        place =
            ap (λ q. behind_all q left) p.place ∙ sym (behind-both (with_byte s b).here p.passed left)
            ∙ ap (behind_all (with_byte s b).here) (sym p.bytes_are)
            ∙ ap (λ q. behind_all q more) (place-next s b) ∙ h.place;
        room = room_passed (with_byte s b) n more left p room;
      }

  -- behind one that shows such a place
  pub told-bad : (place : Position) → bad_place (with_byte s b).mode ≡ Some place → (tokens ++ ended-there, Some place) ≡ lexed new_lexer bytes
  told-bad place bad =
      let rest : lexed s (b ∷ more) ≡ (ended-there ++ [], Some place) =
      step s b more ∙ ap (λ q. after_tokens ended-there (stops_or q (lexed (with_byte s b) more))) bad in
      (λ i. (ap (λ xs. tokens ++ xs) (sym (append-nil ended-there)) i, Some place)) ∙ ap (after_tokens tokens) (sym rest) ∙ h.told

  -- by what the calls answer: the token that ended, where it began, and the lexer
  tokens-there : (new : List (Token × Position)) (t : Option Token) (p : Position) → new ≡ tokens ++ with_place t p → t ≡ token_ended s b → p ≡ s.began → new ≡ tokens ++ ended-there
  tokens-there new t p e f g = e ∙ (λ i. tokens ++ with_place (f i) (g i))

  pub tells-on : (new : List (Token × Position)) (t : Option Token) (p : Position) (l n : LexerState) (left : List ℕ)
      → new ≡ tokens ++ with_place t p → t ≡ token_ended s b → p ≡ s.began → l ≡ with_byte s b → bad_place l.mode ≡ None → Passes l more n left → IsLexing new n left bytes
  tells-on new t p l n left e f g k good passes =
      subst (λ xs. IsLexing xs n left bytes) (sym (tokens-there new t p e f g))
      (told-on n left (subst (λ x. bad_place x.mode ≡ None) k good) (subst (λ x. Passes x more n left) k passes))

  pub tells-bad : (new : List (Token × Position)) (t : Option Token) (p : Position) (l : LexerState) (place : Position)
      → new ≡ tokens ++ with_place t p → t ≡ token_ended s b → p ≡ s.began → l ≡ with_byte s b → bad_place l.mode ≡ Some place → (new, Some place) ≡ lexed new_lexer bytes
  tells-bad new t p l place e f g k bad =
      (λ i. (tokens-there new t p e f g i, Some place)) ∙ told-bad place (subst (λ x. bad_place x.mode ≡ Some place) k bad)

-- at the end
pub told-last : (tokens : List (Token × Position)) (s : LexerState) (bytes : List ℕ) → IsLexing tokens s [] bytes → (tokens ++ with_place (last_token s.mode) s.began, last_bad s.mode s.began) ≡ lexed new_lexer bytes
told-last tokens s bytes h = ap (after_tokens tokens) (sym (last s)) ∙ h.told

no-bytes : (xs : List ℕ) → length xs < 1 → xs ≡ []
no-bytes [] h = refl
no-bytes (x ∷ xs) h = absurd (omega (arith, h))

pub all-told : (tokens new : List (Token × Position)) (s : LexerState) (left bytes : List ℕ) (t : Option Token) (p : Position) (bad : Option Position) → IsLexing tokens s left bytes
    → length left < 1 → new ≡ tokens ++ with_place t p → t ≡ last_token s.mode → p ≡ s.began → bad ≡ last_bad s.mode s.began → (new, bad) ≡ lexed new_lexer bytes
all-told tokens new s left bytes t p bad h few e f g k =
    let whole : IsLexing tokens s [] bytes = subst (λ xs. IsLexing tokens s xs bytes) (no-bytes left few) h in
    let same : new ≡ tokens ++ with_place (last_token s.mode) s.began = e ∙ (λ i. tokens ++ with_place (f i) (g i)) in
    (λ i. (same i, k i)) ∙ told-last tokens s bytes whole

pub end-told : (tokens : List (Token × Position)) (s : LexerState) (left bytes : List ℕ) → IsLexing tokens s left bytes → length left < 1 → s.here ≡ behind_all start bytes
end-told tokens s left bytes h few =
    let whole : IsLexing tokens s [] bytes = subst (λ xs. IsLexing tokens s xs bytes) (no-bytes left few) h in whole.place
