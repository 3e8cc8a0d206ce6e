-- What a reader has taken, byte by byte.
use Rattle.std.proofs.Common.{◌≡◌, ℕ, ◌+◌, ◌-◌, Bool, true, false, ◌&&◌, List, [], ◌∷◌, ◌++◌, length, Option, Some, None, refl, sym, ap, subst, ◌∙◌, arith, append_assoc, append-nil, length-append}
use Rattle.std.specs.Prelude.{if◌then◌else◌, Result, Ok, Err}
use Rattle.ps_lex.specs.declared.position.Position.{Position}
use Rattle.ps_lex.specs.Lexing.{LexerState, with_byte, bad_place, is_within_token}
use Rattle.ps_lex.specs.Passing.{with_bytes, TellNothing, Passes}
use Rattle.ps_read.specs.declared.read_error.ReadError.{ReadError}
use Rattle.ps_read.specs.declared.read_error.ReadError.TheVariants as error
use Rattle.ps_read.specs.Answers.{parsed_by, part_of, is_done, IsFed, IsWaiting}
use Rattle.ps_read.proofs.Steps.{has_passed, together_passed}
use Rattle.ps_read.specs.declared.reader.Reader.{Reader}
use Rattle.ps_read.specs.Takings.{answer_behind, HasTaken, HasPassed, HasFound, IsTaken}

-- behind bytes that tell nothing
quiet_place : (s : LexerState) (passed : List ℕ) → bad_place s.mode ≡ None → TellNothing s passed → bad_place (with_bytes s passed).mode ≡ None
quiet_place s [] b q = b
quiet_place s (c ∷ cs) b q = quiet_place (with_byte s c) cs q.0.place q.1

not_begun : (d w : Bool) (p : Position) → d ≡ false → (if d && w then Some p else None) ≡ None
not_begun true w p h = absurd cc
not_begun false w p h = refl

pub nothing_passed : (bytes : List ℕ) (r : Reader) → IsWaiting r → HasPassed bytes r bytes r
nothing_passed bytes r w = record { passed = []; bytes_are = refl; taken = record { answer_is = λ more. refl; waits = w; taken = omega arith } }

pub passed : (bytes left : List ℕ) (old new : Reader) → Passes old.lexer bytes new.lexer left → new.parser ≡ old.parser → is_done (part_of (parsed_by old.parser)) ≡ false → IsWaiting old → HasPassed bytes old left new
passed bytes left old new p e d w =
    let of : (more : List ℕ) → Passes old.lexer (p.passed ++ more) new.lexer more = λ more. record { passed = p.passed; bytes_are = refl; nothing_told = p.nothing_told; state = p.state; place = p.place } in
    let tells = λ (more : List ℕ). has_passed (p.passed ++ more) more (old) (new) (of more) e in record {
      passed = p.passed;
      bytes_are = p.bytes_are;
      taken = record {
        answer_is = λ more. (tells more).answer_is;
        waits = record {
          together = together_passed (p.passed ++ []) [] (old) (new) (of []) e w.together;
          bad = ap (λ s. bad_place s.mode) p.state ∙ quiet_place old.lexer p.passed w.bad p.nothing_told;
          begun = not_begun (is_done (part_of (parsed_by new.parser))) (is_within_token new.lexer.mode) new.lexer.began (ap (λ q. is_done (part_of (parsed_by q))) e ∙ d);
        };
        taken = let t = (tells []).taken in let l = length-append p.passed [] in omega (arith, t, l);
      };
    }

-- the loop over a piece

-- bytes at the front of the piece were taken, and these are left
abbrev pub HasCome : (piece left : List ℕ) (old new : Reader) → Type 0
HasCome piece left old new = HasPassed piece old left new

module _ (piece : List ℕ) (old now : Reader) (byte : ℕ) (more : List ℕ) (come : HasCome piece (byte ∷ more) old now) where
  -- the answer to the piece and more
  behind_piece : (after : List ℕ) → answer_behind old (piece ++ after) ≡ answer_behind now (byte ∷ (more ++ after))
  behind_piece after = ap (λ bs. answer_behind old (bs ++ after)) come.bytes_are ∙ ap (answer_behind old) (append_assoc come.passed (byte ∷ more) after) ∙ come.taken.answer_is (byte ∷ (more ++ after))

  pub come_on : (fed new : Reader) (left : List ℕ) → IsFed byte now fed (Ok None) → fed.lexer.here.offset ≡ now.lexer.here.offset + 1 → HasPassed more fed left new → HasCome piece left old new
  come_on fed new left f o p = record {
    passed = come.passed ++ byte ∷ p.passed;
    bytes_are = come.bytes_are ∙ ap (λ bs. come.passed ++ byte ∷ bs) p.bytes_are ∙ sym (append_assoc come.passed (byte ∷ p.passed) left);
    taken = record {
      answer_is = λ after. ap (answer_behind old) (append_assoc come.passed (byte ∷ p.passed) after) ∙ come.taken.answer_is (byte ∷ (p.passed ++ after)) ∙ f.agrees (p.passed ++ after) ∙ p.taken.answer_is after;
      waits = p.taken.waits;
      taken = let l = length-append come.passed (byte ∷ p.passed) in omega (arith, l, o, come.taken.taken, p.taken.taken);
    };
  }

  pub found : (fed : Reader) (place : Position) (count : ℕ) → IsFed byte now fed (Ok (Some place)) → count ≡ length piece - length (byte ∷ more) → HasFound piece old fed count
  found fed place count f n = record {
    before = come.passed;
    byte = byte;
    after = more;
    middle = now;
    piece_is = come.bytes_are;
    count_is = let l = ap length come.bytes_are in let m = length-append come.passed (byte ∷ more) in omega (arith, n, l, m);
    taken = come.taken;
    place = place;
    answer_is = f.agrees;
  }

  pub refused_within : (fed : Reader) (e : ReadError) (r : Result (Option ℕ) ReadError) → IsFed byte now fed (Err e) → r ≡ Err e → IsTaken piece old fed r
  refused_within fed (error.At k l c) r f h = subst (IsTaken piece old fed) (sym h) (record { answer_is = λ after. behind_piece after ∙ f.agrees (more ++ after) })
  refused_within fed error.NoMemory r f h = subst (IsTaken piece old fed) (sym h) tt

pub come_to_end : (piece : List ℕ) (old new : Reader) → HasCome piece [] old new → HasTaken piece old new
come_to_end piece old new c = subst (λ bs. HasTaken bs old new) (sym (c.bytes_are ∙ append-nil c.passed)) c.taken
