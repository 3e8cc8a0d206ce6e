-- Where the end of the text isn't known yet, it can only be the end of the bytes.
use Rattle.std.proofs.Common.{◌≡◌, Bool, true, false, not, ◌&&◌, [], Option, Some, None, refl, sym, ap, ◌∙◌, true≢false}
use Rattle.std.specs.Prelude.{if◌then◌else◌, Ok}
use Rattle.ps_text.specs.declared.part.Part.{Part}
use Rattle.ps_text.specs.declared.part.Part.TheVariants as part
use Rattle.ps_text.specs.declared.kind.ReadKind.{ReadKind}
use Rattle.ps_text.specs.declared.kind.ReadKind.TheVariants.{BadByte, EndMissing}
use Rattle.ps_text.specs.declared.symbol.Symbol.TheVariants as symbol
use Rattle.ps_text.proofs.Steps.{passed}
use Rattle.ps_text.specs.Tokens as text
use Rattle.ps_text.specs.ExpectedTokens.{State, row, refusal, after}
use Rattle.ps_lex.specs.declared.position.Position.{Position}
use Rattle.ps_lex.specs.declared.mode.Mode.{Mode}
use Rattle.ps_lex.specs.declared.mode.Mode.TheVariants as mode
use Rattle.ps_lex.specs.declared.token.Token.{Token}
use Rattle.ps_lex.specs.declared.token.Token.TheVariants as token
use Rattle.ps_lex.specs.declared.token.Numeral.{Numeral}
use Rattle.ps_lex.specs.declared.token.Numeral.TheVariants as numeral
use Rattle.ps_lex.specs.Lexing.{LexerState, is_within_token, bad_place, last_token, last_bad, whole}
use Rattle.ps_lex.specs.KeptTokens.{numeral_of}
use Rattle.ps_read.specs.Answers.{Parsed, part_of, with_token, refusal_of, is_done, begun_behind, Answer, ended, refused_at, refused_or, step_answer, answer}
use Rattle.ps_read.proofs.Steps.{answer_end}

-- a number isn't the last token of a text
number_goes_on : (p : Part) (d : State) (n : text.Numeral) → is_done p ≡ false → (row p).expects d (text.Number n) ≡ true → is_done ((row p).next d (text.Number n)).part ≡ false
number_goes_on part.Psat d n h e = refl
number_goes_on part.Version d n h e = refl
number_goes_on part.HeadEnd d n h e = refl
number_goes_on part.Item d n h e = refl
number_goes_on part.QueryProb d n h e = refl
number_goes_on part.Term d n h e = refl
number_goes_on part.TermProb d n h e = refl
number_goes_on part.Paren d n h e = refl
number_goes_on part.Operand d n h e = refl
number_goes_on part.Operator d n h e = refl
number_goes_on part.Relation d n h e = refl
number_goes_on part.Number d n h e = refl
number_goes_on part.Bracket d n h e = refl
number_goes_on part.First d n h e = refl
number_goes_on part.Comma d n h e = refl
number_goes_on part.Second d n h e = refl
number_goes_on part.BracketEnd d n h e = refl
number_goes_on part.ItemEnd d n h e = refl
number_goes_on part.TextEnd d n h e = absurd (true≢false (sym e))
number_goes_on part.Done d n h e = absurd (true≢false h)

no_number_ends : (d : State) (n : text.Numeral) → is_done d.part ≡ false → refusal d (text.Number n) ≡ None → is_done (after d (text.Number n)).part ≡ false
unfolding after
no_number_ends d n h r = number_goes_on d.part d n h (passed d (text.Number n) r).expected

-- where the text ends, if it does

same_ok : (a b : Position × Parsed) → ◌≡◌ {A = Answer} (Ok a) (Ok b) → a ≡ b
same_ok a b e = cc

ended_there : (x y : Parsed) (k : ReadKind) (q p : Position) → ended x k q ≡ Ok (p, y) → p ≡ q
ended_there x y k q p e = by (is_done (part_of x)) e
  where
    by : (b : Bool) → if◌then◌else◌ {A = Answer} b (Ok (q, x)) (refused_at k q) ≡ Ok (p, y) → p ≡ q
    by true e = sym (ap (λ z. z.0) (same_ok (q, x) (p, y) e))
    by false e = absurd cc

not_ended : (x y : Parsed) (k : ReadKind) (q p : Position) → is_done (part_of x) ≡ false → ended x k q ≡ Ok (p, y) → ⊥
not_ended x y k q p h e = by (is_done (part_of x)) h e
  where
    by : (b : Bool) → b ≡ false → if◌then◌else◌ {A = Answer} b (Ok (q, x)) (refused_at k q) ≡ Ok (p, y) → ⊥
    by true h e = true≢false h
    by false h e = cc

-- a token that isn't refused leads on
leads_on : (o : Option ReadKind) (q p : Position) (y : Parsed) (rest : Answer) → refused_or o q rest ≡ Ok (p, y) → (o ≡ None) × (rest ≡ Ok (p, y))
leads_on None q p y rest e = (refl, e)
leads_on (Some k) q p y rest e = absurd cc

judged_on : (b : Bool) (x y z : Parsed) (o : Option ReadKind) (q p : Position) (rest : Answer) → b ≡ false → if◌then◌else◌ {A = Answer} b (Ok (q, x)) (refused_or o q rest) ≡ Ok (p, y) → (o ≡ None) × (rest ≡ Ok (p, y))
judged_on true x y z o q p rest h e = absurd (true≢false h)
judged_on false x y z o q p rest h e = leads_on o q p y rest e

within_goes_on : (b : Bool) (q : Position) → (if b && true then Some q else None) ≡ None → b ≡ false
within_goes_on true q e = absurd cc
within_goes_on false q e = refl

module _ (s : LexerState) (x y : Parsed) (p : Position) where
  at_end : Option Token → Option Position → Answer
  at_end t bad = step_answer t s.began bad x (λ z. ended z EndMissing s.here)

  -- a token ends with the bytes
  token_ends : (t : Token) → is_done (part_of x) ≡ false → at_end (Some t) None ≡ Ok (p, y) → p ≡ s.here
  unfolding at_end
  token_ends t h e = ended_there (with_token x t s.began) y EndMissing s.here p (judged_on (is_done (part_of x)) x y x (refusal_of x t) s.began p (ended (with_token x t s.began) EndMissing s.here) h e).1

  -- a number ends before a byte that begins no token
  number_stops : (n : Numeral) (q : Position) → is_done (part_of x) ≡ false → at_end (Some (token.Number n)) (Some q) ≡ Ok (p, y) → ⊥
  unfolding at_end
  number_stops n q h e =
      let j = judged_on (is_done (part_of x)) x y x (refusal_of x (token.Number n)) s.began p (ended (with_token x (token.Number n) s.began) BadByte q) h e in
      not_ended (with_token x (token.Number n) s.began) y BadByte q p (no_number_ends x.machine.state (numeral_of n) h j.0) j.1

  by_mode : (m : Mode) → bad_place m ≡ None → (if is_done (part_of x) && is_within_token m then Some s.began else None) ≡ None → at_end (last_token m) (last_bad m s.began) ≡ Ok (p, y) → p ≡ s.here
  unfolding at_end
  by_mode mode.Between b w e = ended_there x y EndMissing s.here p e
  by_mode mode.Comment b w e = ended_there x y EndMissing s.here p e
  by_mode (mode.Bad q) b w e = absurd cc
  by_mode (mode.Word l) b w e = token_ends (token.Word l) (within_goes_on (is_done (part_of x)) s.began w) e
  by_mode (mode.Whole d) b w e = token_ends (whole d) (within_goes_on (is_done (part_of x)) s.began w) e
  by_mode (mode.Quotient d f) b w e = token_ends (token.Number (numeral.Quotient d f)) (within_goes_on (is_done (part_of x)) s.began w) e
  by_mode (mode.Decimal d k) b w e = token_ends (token.Number (numeral.Decimal d k)) (within_goes_on (is_done (part_of x)) s.began w) e
  by_mode (mode.Sign c) b w e = token_ends (token.Sign c) (within_goes_on (is_done (part_of x)) s.began w) e
  by_mode (mode.Slash d q) b w e = absurd (number_stops (numeral.Whole d) q (within_goes_on (is_done (part_of x)) s.began w) e)
  by_mode (mode.Point d q) b w e = absurd (number_stops (numeral.Whole d) q (within_goes_on (is_done (part_of x)) s.began w) e)
  by_mode mode.Minus b w e = token_ends (token.Sign symbol.Minus) (within_goes_on (is_done (part_of x)) s.began w) e
  by_mode mode.Less b w e = absurd (not_ended x y BadByte s.began p (within_goes_on (is_done (part_of x)) s.began w) e)
  by_mode mode.LessMinus b w e = absurd (not_ended x y BadByte s.began p (within_goes_on (is_done (part_of x)) s.began w) e)
  by_mode mode.Greater b w e = absurd (not_ended x y BadByte s.began p (within_goes_on (is_done (part_of x)) s.began w) e)

  pub ends_here : bad_place s.mode ≡ None → begun_behind x s ≡ None → answer s x [] ≡ Ok (p, y) → p ≡ s.here
  unfolding at_end
  ends_here b w e = by_mode s.mode b w (sym (answer_end s x) ∙ e)
