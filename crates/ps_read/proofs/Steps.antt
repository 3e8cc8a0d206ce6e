-- The answer to all bytes, byte by byte.
use Rattle.std.proofs.Common.{◌≡◌, ℕ, ◌+◌, ◌≤◌, length, Bool, true, false, ◌&&◌, List, [], ◌∷◌, ◌++◌, Option, Some, None, refl, sym, ap, subst, ◌∙◌, arith, true≢false}
use Rattle.std.proofs.lemmas.List.{length-append}
use Rattle.std.specs.Prelude.{◌==◌, if◌then◌else◌, Result, Ok, Err, IsErr}
use Rattle.std.specs.Result.{IsErrAnd}
use Rattle.ps_lex.specs.declared.position.Position.{Position}
use Rattle.ps_lex.specs.declared.token.Token.{Token}
use Rattle.ps_lex.specs.Places.{behind, IsWithin}
use Rattle.ps_lex.proofs.Places.{next_offset}
use Rattle.ps_lex.specs.Seen.{behind_all}
use Rattle.ps_lex.specs.Lexing.{LexerState, token_ended, with_byte, last_token, last_bad, bad_place, with_place, stops_or, after_tokens, is_within_token, new_lexer, lexed}
use Rattle.ps_lex.specs.Passing.{with_bytes, TellsNothing, TellNothing, Passes}
use Rattle.ps_lex.proofs.Begun.{First, Told, Bare, begun_first}
use Rattle.ps_text.specs.declared.kind.ReadKind.TheVariants.{EndMissing}
use Rattle.ps_read.specs.declared.read_error.ReadError.{ReadError}
use Rattle.ps_read.specs.declared.read_error.ReadError.TheVariants as error
use Rattle.ps_text.specs.PartialParses.{InPsat}
use Rattle.ps_read.specs.Machine.{Machine, at_first}
use Rattle.ps_read.specs.Derivations.{Represents, IsParsed}
use Rattle.ps_read.specs.declared.parser.Parser.{Parser}
use Rattle.ps_read.specs.Kept.{machine_of}
use Rattle.ps_read.specs.Taking.{CountsAtMost, IsOneMore}
use Rattle.ps_read.specs.declared.reader.Reader.{Reader}
use Rattle.ps_read.specs.Answers.{Parsed, part_of, with_token, is_done, begun_behind, Answer, ended, judged, answer, bad_or, step_answer, Agrees, IsStepAnswered, IsWordMode, BelongsTogether, HasPassed, IsWaiting, WaitsAt, AgreesAtEnd, Answers, parsed_by}
use Rattle.ps_read.proofs.Words.{word_behind}

-- the rest is looked at only where no token is bad before it
stopped : (bad : Option Position) (x : Parsed) (rest : List (Token × Position) × Option Position) (end : Position)
    → judged x (stops_or bad rest).0 (stops_or bad rest).1 end ≡ bad_or bad x (λ y. judged y rest.0 rest.1 end)
stopped None x rest end = refl
stopped (Some p) x rest end = refl

told : (t : Option Token) (p : Position) (bad : Option Position) (x : Parsed) (rest : List (Token × Position) × Option Position) (end : Position)
    → judged x (after_tokens (with_place t p) (stops_or bad rest)).0 (after_tokens (with_place t p) (stops_or bad rest)).1 end ≡ step_answer t p bad x (λ y. judged y rest.0 rest.1 end)
told None p bad x rest end = stopped bad x rest end
told (Some t) p bad x rest end = rw (stopped bad (with_token x t p) rest end) refl

pub answer_step : (s : LexerState) (x : Parsed) (b : ℕ) (bs : List ℕ)
    → answer s x (b ∷ bs) ≡ step_answer (token_ended s b) s.began (bad_place (with_byte s b).mode) x (λ y. answer (with_byte s b) y bs)
unfolding answer lexed with_byte
answer_step s x b bs = told (token_ended s b) s.began (bad_place (with_byte s b).mode) x (lexed (with_byte s b) bs) (behind_all (behind s.here b) bs)

pub answer_end : (s : LexerState) (x : Parsed) → answer s x [] ≡ step_answer (last_token s.mode) s.began (last_bad s.mode s.began) x (λ y. ended y EndMissing s.here)
unfolding answer lexed
answer_end s x = by (last_token s.mode) (last_bad s.mode s.began)
  where
    by : (t : Option Token) (bad : Option Position) → judged x (with_place t s.began) bad s.here ≡ step_answer t s.began bad x (λ y. ended y EndMissing s.here)
    by None None = refl
    by None (Some p) = refl
    by (Some t) None = refl
    by (Some t) (Some p) = refl

-- where a whole text is followed by a token that has begun, that is where it ended
begun_ends : (x : Parsed) (q : Position) (l : List (Token × Position) × Option Position) (end : Position) → is_done (part_of x) ≡ true → First q l → judged x l.0 l.1 end ≡ Ok (q, x)
begun_ends x q l end h (Told t ts bad e) = subst (λ y. judged x y.0 y.1 end ≡ Ok (q, x)) (sym e) (rw h refl)
begun_ends x q l end h (Bare e) = subst (λ y. judged x y.0 y.1 end ≡ Ok (q, x)) (sym e) (rw h refl)

some_begun : (a b : Bool) (m n : Position) → (if a && b then Some m else None) ≡ Some n → (a ≡ true) × (b ≡ true) × (m ≡ n)
some_begun true true m n e = (refl, refl, cc)
some_begun true false m n e = absurd cc
some_begun false b m n e = absurd cc

pub begun_answers : (x : Parsed) (s : LexerState) (bytes : List ℕ) (n : Position) → begun_behind x s ≡ Some n → answer s x bytes ≡ Ok (n, x)
unfolding answer
begun_answers x s bytes n e =
    let y = some_begun (is_done (part_of x)) (is_within_token s.mode) s.began n e in
    begun_ends x s.began (lexed s bytes) (behind_all s.here bytes) y.0 (begun_first bytes s y.1) ∙ ap (λ m. Ok (m, x)) y.2

-- positions stay within the number of bytes

pub within_next : (n : ℕ) (p : Position) (b : ℕ) → IsWithin n p → IsWithin (n + 1) (behind p b)
unfolding behind
within_next n p b h = by (b == 10)
  where
    by : (x : Bool) → IsWithin (n + 1) (if x then record { line = p.line + 1; column = 1; offset = p.offset + 1 } else record { line = p.line; column = p.column + 1; offset = p.offset + 1 })
    by true = record { line = omega (arith, h.line); column = omega arith; offset = omega (arith, h.offset) }
    by false = record { line = omega (arith, h.line); column = omega (arith, h.column); offset = omega (arith, h.offset) }

-- the answer behind a byte that was judged
pub fed : (s n : LexerState) (x y : Parsed) (b : ℕ) (t : Option Token) (began : Position) (bad : Option Position) (result : Result (Option Position) ReadError)
    → t ≡ token_ended s b → n ≡ with_byte s b → began ≡ s.began → bad ≡ bad_place n.mode → IsStepAnswered t began bad x y result
    → (more : List ℕ) → Agrees (answer s x (b ∷ more)) (answer n y more) y result
fed s n x y b t began bad result et en eg eb f more =
    let step : answer s x (b ∷ more) ≡ step_answer t began bad x (λ z. answer n z more) =
    answer_step s x b more
    ∙ ap (λ m. step_answer (token_ended s b) s.began (bad_place m.mode) x (λ z. answer m z more)) (sym en)
    ∙ ap (λ u. step_answer u s.began (bad_place n.mode) x (λ z. answer n z more)) (sym et)
    ∙ ap (λ p. step_answer t p (bad_place n.mode) x (λ z. answer n z more)) (sym eg)
    ∙ ap (λ p. step_answer t began p x (λ z. answer n z more)) (sym eb) in
    subst (λ a. Agrees a (answer n y more) y result) (sym step) (f.agrees (λ z. answer n z more))

-- and where the text's end is known then
pub fed_behind : (n : LexerState) (y : Parsed) (o : Option Position) (all : Answer) (more : List ℕ) → o ≡ begun_behind y n → all ≡ answer n y more → Agrees all (answer n y more) y (Ok o)
fed_behind n y None all more e h = h
fed_behind n y (Some m) all more e h = h ∙ begun_answers y n more m (sym e)

-- at the end of the bytes
pub finished : (s : LexerState) (x y : Parsed) (t : Option Token) (began here : Position) (bad : Option Position) (result : Result (Option Position) ReadError)
    → t ≡ last_token s.mode → began ≡ s.began → bad ≡ last_bad s.mode s.began → here ≡ s.here → IsStepAnswered t began bad x y result
    → Agrees (answer s x []) (ended y EndMissing here) y result
finished s x y t began here bad result et eg eb eh f =
    let step : answer s x [] ≡ step_answer t began bad x (λ z. ended z EndMissing here) =
    answer_end s x
    ∙ ap (λ u. step_answer u s.began (last_bad s.mode s.began) x (λ z. ended z EndMissing s.here)) (sym et)
    ∙ ap (λ p. step_answer t p (last_bad s.mode s.began) x (λ z. ended z EndMissing s.here)) (sym eg)
    ∙ ap (λ p. step_answer t began p x (λ z. ended z EndMissing s.here)) (sym eb)
    ∙ ap (λ p. step_answer t began bad x (λ z. ended z EndMissing p)) (sym eh) in
    subst (λ a. Agrees a (ended y EndMissing here) y result) (sym step) (f.agrees (λ z. ended z EndMissing here))

within_behind : (s : LexerState) (b : ℕ) → IsWithin (s.here.offset + 1) s.here → IsWithin ((with_byte s b).here.offset + 1) (with_byte s b).here
unfolding with_byte
within_behind s b h = subst (λ n. IsWithin (n + 1) (behind s.here b)) (sym (next_offset s.here b)) (within_next (s.here.offset + 1) s.here b h)

pub offset_behind : (s n : LexerState) (b : ℕ) → n ≡ with_byte s b → n.here.offset ≡ s.here.offset + 1
unfolding with_byte
offset_behind s n b e = ap (λ m. m.here.offset) e ∙ next_offset s.here b

-- what was lexed and parsed still belongs together behind a byte
pub together_behind : (old new : Reader) (b : ℕ) → BelongsTogether old → new.lexer ≡ with_byte old.lexer b → IsParsed (machine_of new.parser) → IsOneMore old.parser new.parser → BelongsTogether new
together_behind old new b r e p o = record {
  word = subst (λ s. IsWordMode s.mode) (sym e) (word_behind old.lexer b r.word);
  here = subst (λ s. IsWithin (s.here.offset + 1) s.here) (sym e) (within_behind old.lexer b r.here);
  parsed = p;
  counts = subst (λ n. CountsAtMost n (machine_of new.parser)) (sym (offset_behind old.lexer new.lexer b e)) (o.counts old.lexer.here.offset r.counts);
}

-- fewer are few enough
pub at_most : (n m : ℕ) (w : Machine) → CountsAtMost n w → n ≤ m → CountsAtMost m w
at_most n m w h l = record { names = omega (arith, h.names, l); formulas = omega (arith, h.formulas, l); items = omega (arith, h.items, l) }

pub first_stands : Represents InPsat at_first
first_stands = record { sound = tt; state = refl; work = record { operators = refl; «open» = refl; items = tt; item = tt } }

-- nothing is read yet
pub together_first : (r : Reader) → r.lexer ≡ new_lexer → machine_of r.parser ≡ at_first → BelongsTogether r
together_first r e f = record {
  word = subst (λ s. IsWordMode s.mode) (sym e) tt;
  here = subst (λ s. IsWithin (s.here.offset + 1) s.here) (sym e) (record { line = omega arith; column = omega arith; offset = omega arith });
  parsed = record { parse = InPsat; stands = subst (Represents InPsat) (sym f) first_stands };
  counts = subst (λ s. CountsAtMost s.here.offset (machine_of r.parser)) (sym e) (subst (CountsAtMost 0) (sym f) (record { names = omega arith; formulas = omega arith; items = omega arith }));
}

-- an error that `?` passes on is the same
pub passed_on : {A : Type 0} (r : Result A ReadError) (e : ReadError) → IsErr r → IsErrAnd r (λ x. x ≡ e) → r ≡ Err e
passed_on (Ok a) e h k = absurd (true≢false (sym h))
passed_on (Err x) e h k = λ i. Err (k i)

pub finished_err : (all rest : Answer) (y : Parsed) (r : Result (Parser × Position) ReadError) (j : Result (Option Position) ReadError) (e : ReadError) → j ≡ Err e → r ≡ Err e → Agrees all rest y j → Answers all r
finished_err all rest y r j e ej er a = subst (Answers all) (sym er) (err_answers e (subst (Agrees all rest y) ej a))
  where
    err_answers : (e : ReadError) → Agrees all rest y (Err e) → Answers all (Err e)
    err_answers (error.At k l c) a = a
    err_answers error.NoMemory a = tt

pub ended_err : (all rest : Answer) (y : Parsed) (r : Result (Parser × Position) ReadError) (j : Result Position ReadError) (e : ReadError) → j ≡ Err e → r ≡ Err e → all ≡ rest → AgreesAtEnd rest y j → Answers all r
ended_err all rest y r j e ej er h a = subst (Answers all) (sym er) (err_answers e (subst (AgreesAtEnd rest y) ej a))
  where
    err_answers : (e : ReadError) → AgreesAtEnd rest y (Err e) → Answers all (Err e)
    err_answers (error.At k l c) a = h ∙ a
    err_answers error.NoMemory a = tt

-- bytes that tell nothing are passed

quiet_step : (s : LexerState) (x : Parsed) (b : ℕ) (bs : List ℕ) → TellsNothing s b → answer s x (b ∷ bs) ≡ answer (with_byte s b) x bs
quiet_step s x b bs q =
    answer_step s x b bs
    ∙ ap (λ t. step_answer t s.began (bad_place (with_byte s b).mode) x (λ y. answer (with_byte s b) y bs)) q.token
    ∙ ap (λ p. bad_or p x (λ y. answer (with_byte s b) y bs)) q.place

quiet_answer : (s : LexerState) (x : Parsed) (passed left : List ℕ) → TellNothing s passed → answer s x (passed ++ left) ≡ answer (with_bytes s passed) x left
quiet_answer s x [] left q = refl
quiet_answer s x (b ∷ bs) left q = quiet_step s x b (bs ++ left) q.0 ∙ quiet_answer (with_byte s b) x bs left q.1

quiet_word : (s : LexerState) (passed : List ℕ) → IsWordMode s.mode → IsWordMode (with_bytes s passed).mode
quiet_word s [] h = h
quiet_word s (b ∷ bs) h = quiet_word (with_byte s b) bs (word_behind s b h)

quiet_within : (s : LexerState) (passed : List ℕ) → IsWithin (s.here.offset + 1) s.here → IsWithin ((with_bytes s passed).here.offset + 1) (with_bytes s passed).here
quiet_within s [] h = h
quiet_within s (b ∷ bs) h = quiet_within (with_byte s b) bs (within_behind s b h)

quiet_offset : (s : LexerState) (passed : List ℕ) → (with_bytes s passed).here.offset ≡ s.here.offset + length passed
quiet_offset s [] = omega arith
quiet_offset s (b ∷ bs) = omega (arith, quiet_offset (with_byte s b) bs, offset_behind s (with_byte s b) b refl)

pub has_passed : (bytes left : List ℕ) (old new : Reader) → Passes old.lexer bytes new.lexer left → new.parser ≡ old.parser → HasPassed bytes old left new
has_passed bytes left old new p e = record {
  answer_is = ap (answer old.lexer (parsed_by old.parser)) p.bytes_are ∙ quiet_answer old.lexer (parsed_by old.parser) p.passed left p.nothing_told
      ∙ ap (λ s. answer s (parsed_by old.parser) left) (sym p.state) ∙ ap (λ x. answer new.lexer (parsed_by x) left) (sym e);
  taken = let l = ap length p.bytes_are in let m = length-append p.passed left in
      let o = ap (λ s. s.here.offset) p.state in omega (arith, l, m, o, quiet_offset old.lexer p.passed);
}

pub together_passed : (bytes left : List ℕ) (old new : Reader) → Passes old.lexer bytes new.lexer left → new.parser ≡ old.parser → BelongsTogether old → BelongsTogether new
together_passed bytes left old new p e r = record {
  word = subst (λ s. IsWordMode s.mode) (sym p.state) (quiet_word old.lexer p.passed r.word);
  here = subst (λ s. IsWithin (s.here.offset + 1) s.here) (sym p.state) (quiet_within old.lexer p.passed r.here);
  parsed = subst (λ x. IsParsed (machine_of x)) (sym e) r.parsed;
  counts = subst (λ x. CountsAtMost new.lexer.here.offset (machine_of x)) (sym e)
      (at_most old.lexer.here.offset new.lexer.here.offset (machine_of old.parser) r.counts
      (let o = ap (λ s. s.here.offset) p.state in omega (arith, o, quiet_offset old.lexer p.passed)));
}

-- nothing is read yet
pub waits_first : (r : Reader) → r.lexer ≡ new_lexer → machine_of r.parser ≡ at_first → IsWaiting r
waits_first r e f = record {
  together = together_first r e f;
  bad = ap (λ s. bad_place s.mode) e;
  begun = ap (λ m. begun_behind (record { machine = m; places = (parsed_by r.parser).places }) r.lexer) f;
}

-- behind a byte
pub waits_at : (r : Reader) (bad : Option Position) (o : Option Position) → BelongsTogether r → bad ≡ bad_place r.lexer.mode → bad ≡ None → o ≡ begun_behind (parsed_by r.parser) r.lexer → WaitsAt r (Ok o)
waits_at r bad None t b n e = record { together = t; bad = sym b ∙ n; begun = sym e }
waits_at r bad (Some p) t b n e = tt
