-- The answer to all bytes is right.
use Rattle.std.proofs.Common.{◌≡◌, ℕ, Bool, true, false, ◌⊎◌, inl, inr, List, [], ◌∷◌, ◌++◌, length, take, Option, Some, None, refl, sym, ap, subst, ◌∙◌, arith, append_assoc, append-nil, true≢false}
use Rattle.std.proofs.lemmas.List.{take-append-le, take_all}
use Rattle.std.specs.Prelude.{if◌then◌else◌, Ok, Err}
use Rattle.ps_text.specs.Tokens.{Token, IsToken, IsLongest, spelling}
use Rattle.ps_text.specs.Pieces.{Piece, Blank, Comment, Spelled, text, texts, Cuts, Fits, tokens, IsBare, IsBad, Cut}
use Rattle.ps_text.specs.declared.kind.ReadKind.{ReadKind}
use Rattle.ps_text.specs.declared.kind.ReadKind.TheVariants.{BadByte, EndMissing}
use Rattle.ps_text.specs.Positions as text
use Rattle.ps_text.specs.ExpectedTokens.{State, at_start, refusal, after, Passes}
use Rattle.ps_text.specs.Refusals.{Why}
use Rattle.ps_text.specs.Grammar.{TextSyntax, text_tokens, IsWellFormedText}
use Rattle.ps_text.specs.Meanings.{AreItems}
use Rattle.ps_text.specs.Fronts.{IsTextFront}
use Rattle.ps_text.proofs.Once.{bare_token, some_bytes}
use Rattle.ps_text.proofs.Cutting.{cut}
use Rattle.ps_text.specs.PartialParses.{Parse, InPsat, InVersion, InHeadEnd, InItem, InQueryProb, InTextEnd, InDone, InTerm, InTermProb, InParen, InOperand, InOperator, InRelation, InBracket, InFirst, InNumber, InComma, InSecond, InBracketEnd, InItemEnd, state_of, parsed_tokens, parsed}
use Rattle.ps_text.proofs.Derived.{steps}
use Rattle.ps_text.proofs.Deriving.{passes-append}
use Rattle.ps_lex.specs.declared.position.Position.{Position}
use Rattle.ps_lex.specs.declared.token.Token.{Token as kept}
use Rattle.ps_lex.specs.Places.{start, line_and_column}
use Rattle.ps_lex.specs.Seen.{seen, behind_all, told}
use Rattle.ps_lex.specs.Lexing.{new_lexer, lexed}
use Rattle.ps_lex.proofs.Places.{position_kept, offset_kept}
use Rattle.ps_lex.proofs.Tokens.{behind_append}
use Rattle.ps_lex.proofs.Told.{whole_told, bad_told}
use Rattle.ps_lex.specs.KeptTokens.{token_of}
use Rattle.ps_lex.proofs.Seen.{judged as judged_alike, goes_on}
use Rattle.ps_read.specs.Machine.{Machine, next}
use Rattle.ps_read.specs.Derivations.{Represents}
use Rattle.ps_read.specs.Kept.{drafted_in}
use Rattle.ps_read.specs.Taking.{begun_at}
use Rattle.ps_read.proofs.Next.{followed}
use Rattle.ps_read.proofs.KeptTokens.{taken_alike}
use Rattle.ps_read.specs.Readings.{IsFormRefused}
use Rattle.ps_read.specs.Answers.{Parsed, nothing_parsed, part_of, with_token, is_done, Answer, ended, refused_or, judged, answer}
use Rattle.ps_read.proofs.Places.{AreBegun, HaveBegun, same_later, more_begun, begun_alike}
use Rattle.ps_read.proofs.Steps.{first_stands}

-- what was parsed of a text at the front
pub record IsParsedText (bytes : List ℕ) (place : Position) (x : Parsed) : Type 0 where
  pub front : IsTextFront bytes place.offset
  pub position_is : line_and_column place ≡ text.position_of bytes place.offset
  pub items : AreItems front.written.items (drafted_in x.machine).items
  pub begun : AreBegun front.pieces front.written.version front.written.items (length front.written.items) x.places

-- what the answer says is so
abbrev pub IsSo : List ℕ → Answer → Type 0
IsSo bytes (Ok x) = IsParsedText bytes x.0 x.1
IsSo bytes (Err e) = IsFormRefused bytes e.0 e.1

-- what was parsed stands for a derivation of the pieces' tokens
record Stands (done : List Piece) (x : Parsed) : Type 0 where
  parse : Parse
  stands : Represents parse x.machine
  read_is : parsed_tokens parse ≡ tokens done
  begun : HaveBegun done parse x.places

-- the pieces so far, and what was parsed of them
record Reached (bytes : List ℕ) (done : List Piece) (rest : List ℕ) (x : Parsed) : Type 0 where
  is : bytes ≡ texts done ++ rest
  cuts : Cuts done rest
  passes : Passes at_start (tokens done) x.machine.state
  stands : Stands done x

pub is_position : (bytes : List ℕ) (done : List Piece) (rest : List ℕ) → bytes ≡ texts done ++ rest → line_and_column (behind_all start (texts done)) ≡ text.position_of bytes (length (texts done))
is_position bytes done rest e =
    position_kept (texts done) ∙ ap text.position_behind (sym (ap (take (length (texts done))) e ∙ take-append-le (length (texts done)) (texts done) rest (omega arith) ∙ take_all (length (texts done)) (texts done) (omega arith)))

refuse : (bytes : List ℕ) (done : List Piece) (rest : List ℕ) (x : Parsed) (k : ReadKind) → Reached bytes done rest x → is_done (part_of x) ≡ false → IsBare rest → Why x.machine.state rest k
    → IsFormRefused bytes k (line_and_column (behind_all start (texts done)))
refuse bytes done rest x k r u b w = record {
  place = length (texts done);
  refused = record { pieces = done; rest = rest; state = x.machine.state; is = r.is; cuts = r.cuts; passes = r.passes; unfinished = λ e. true≢false (sym (ap (λ d. is_done d.part) e) ∙ u); bare = b; why = w; place_is = refl };
  position_is = is_position bytes done rest r.is;
}

-- a text that is whole
record Whole (done : List Piece) (x : Parsed) : Type 0 where
  written : TextSyntax
  tokens_are : tokens done ≡ text_tokens written
  within : IsWellFormedText written
  items : AreItems written.items (drafted_in x.machine).items
  begun : AreBegun done written.version written.items (length written.items) x.places

done_parse : (done : List Piece) (x : Parsed) (p : Parse) → is_done (state_of p).part ≡ true → parsed_tokens p ≡ tokens done → Represents p x.machine → HaveBegun done p x.places → Whole done x
done_parse done x (InDone es) h e s b = record {
  written = es;
  tokens_are = sym e;
  within = s.sound;
  items = s.work.items;
  begun = subst (λ n. AreBegun done es.version es.items n x.places) (omega arith) b;
}
done_parse done x InPsat h e s b = absurd (true≢false (sym h))
done_parse done x InVersion h e s b = absurd (true≢false (sym h))
done_parse done x (InHeadEnd v) h e s b = absurd (true≢false (sym h))
done_parse done x (InItem es) h e s b = absurd (true≢false (sym h))
done_parse done x (InQueryProb es) h e s b = absurd (true≢false (sym h))
done_parse done x (InTextEnd es) h e s b = absurd (true≢false (sym h))
done_parse done x (InTerm es ts m) h e s b = absurd (true≢false (sym h))
done_parse done x (InTermProb es ts m y) h e s b = absurd (true≢false (sym h))
done_parse done x (InParen es q) h e s b = absurd (true≢false (sym h))
done_parse done x (InOperand es q c fs) h e s b = absurd (true≢false (sym h))
done_parse done x (InOperator es q c fs f) h e s b = absurd (true≢false (sym h))
done_parse done x (InRelation es p) h e s b = absurd (true≢false (sym h))
done_parse done x (InBracket es p) h e s b = absurd (true≢false (sym h))
done_parse done x (InFirst es p m) h e s b = absurd (true≢false (sym h))
done_parse done x (InNumber es p y m) h e s b = absurd (true≢false (sym h))
done_parse done x (InComma es p y) h e s b = absurd (true≢false (sym h))
done_parse done x (InSecond es p y m) h e s b = absurd (true≢false (sym h))
done_parse done x (InBracketEnd es p y z) h e s b = absurd (true≢false (sym h))
done_parse done x (InItemEnd es y) h e s b = absurd (true≢false (sym h))

whole : (done : List Piece) (x : Parsed) → is_done (part_of x) ≡ true → Stands done x → Whole done x
whole done x h s = done_parse done x s.parse (sym (ap (λ d. is_done d.part) s.stands.state) ∙ h) s.read_is s.stands s.begun

found : (bytes : List ℕ) (done : List Piece) (rest : List ℕ) (x : Parsed) → Reached bytes done rest x → is_done (part_of x) ≡ true → IsBare rest → IsParsedText bytes (behind_all start (texts done)) x
found bytes done rest x r h b =
    let w = whole done x h r.stands in record {
      front = record { pieces = done; rest = rest; is = r.is; cuts = r.cuts; written = w.written; derived = w.tokens_are; within = w.within; bare = b; place_is = offset_kept (texts done) };
      position_is = is_position bytes done rest r.is ∙ ap (text.position_of bytes) (sym (offset_kept (texts done)));
      items = w.items;
      begun = w.begun;
    }

texts_more : (done : List Piece) (x : Piece) → texts (done ++ x ∷ []) ≡ texts done ++ text x
texts_more [] x = append-nil (text x)
texts_more (y ∷ done) x = ap (λ bs. text y ++ bs) (texts_more done x) ∙ sym (append_assoc (text y) (texts done) (text x))

cuts_more : (done : List Piece) (x : Piece) (rest : List ℕ) → Cuts done (text x ++ rest) → Fits x rest → Cuts (done ++ x ∷ []) rest
cuts_more [] x rest c f = (f, tt)
cuts_more (y ∷ done) x rest c f =
    (subst (λ bs. Fits y bs) (sym (append_assoc (texts done) (text x) rest) ∙ ap (λ bs. bs ++ rest) (sym (texts_more done x))) c.0, cuts_more done x rest c.1 f)

tokens_more : (done : List Piece) (x : Piece) → tokens (done ++ x ∷ []) ≡ tokens done ++ tokens (x ∷ [])
tokens_more [] x = refl
tokens_more (Blank b ∷ done) x = tokens_more done x
tokens_more (Comment c ∷ done) x = tokens_more done x
tokens_more (Spelled t ∷ done) x = ap (λ ts. t ∷ ts) (tokens_more done x)

-- one piece further
further : (bytes : List ℕ) (done : List Piece) (p : Piece) (rest : List ℕ) (x y : Parsed) → Reached bytes done (text p ++ rest) x → Fits p rest → Passes x.machine.state (tokens (p ∷ [])) y.machine.state
    → Stands (done ++ p ∷ []) y → Reached bytes (done ++ p ∷ []) rest y
further bytes done p rest x y r f h s = record {
  is = r.is ∙ sym (append_assoc (texts done) (text p) rest) ∙ ap (λ bs. bs ++ rest) (sym (texts_more done p));
  cuts = cuts_more done p rest r.cuts f;
  passes = subst (λ ts. Passes at_start ts y.machine.state) (sym (tokens_more done p)) (passes-append at_start x.machine.state y.machine.state (tokens done) (tokens (p ∷ [])) r.passes h);
  stands = s;
}

-- a blank or a comment further
blank_further : (done : List Piece) (p : Piece) (x : Parsed) → tokens (p ∷ []) ≡ [] → Stands done x → Stands (done ++ p ∷ []) x
blank_further done p x e s = record {
  parse = s.parse;
  stands = s.stands;
  read_is = s.read_is ∙ sym (tokens_more done p ∙ ap (λ ts. tokens done ++ ts) e ∙ append-nil (tokens done));
  begun = same_later done p s.parse x.places s.begun;
}

-- what is kept of a token leads to the same
next_alike : (m : Machine) (t : Token) → refusal m.state t ≡ None → next m (token_of (seen t)) ≡ next m t
next_alike m t h = let a = goes_on m.state t h in let b = taken_alike m.state m.work t h in λ i. record { state = a i; work = b i }

-- a token further
token_further : (done : List Piece) (t : Token) (x : Parsed) (place : Position) → place ≡ behind_all start (texts done) → refusal x.machine.state t ≡ None → Stands done x
    → Stands (done ++ Spelled t ∷ []) (with_token x (seen t) place)
token_further done t x place at h s =
    let k : refusal (state_of s.parse) t ≡ None = subst (λ d. refusal d t ≡ None) s.stands.state h in
    let step = steps s.parse t s.stands.sound k in
    let alike : begun_at (part_of x) (token_of (seen t)) place ≡ begun_at (state_of s.parse).part t place =
    begun_alike x.machine.state (part_of x) t place h ∙ ap (λ d. begun_at d.part t place) s.stands.state in
    record {
      parse = parsed s.parse t;
      stands = subst (Represents (parsed s.parse t)) (sym (next_alike x.machine t h)) (followed s.parse x.machine t s.stands h);
      read_is = step.tokens ∙ ap (λ ts. ts ++ t ∷ []) s.read_is ∙ sym (tokens_more done (Spelled t));
      begun = subst (λ ps. HaveBegun (done ++ Spelled t ∷ []) (parsed s.parse t) (x.places ++ ps)) (sym alike) (more_begun done t x.places place s.parse s.read_is at k s.begun);
    }

-- at the end of the pieces
at_end : (bytes : List ℕ) (done : List Piece) (x : Parsed) → Reached bytes done [] x → IsSo bytes (ended x EndMissing (behind_all start (texts done)))
at_end bytes done x r = by (is_done (part_of x)) refl
  where
    by : (b : Bool) → is_done (part_of x) ≡ b → IsSo bytes (if b then Ok (behind_all start (texts done), x) else Err (EndMissing, line_and_column (behind_all start (texts done))))
    by true h = found bytes done [] x r h tt
    by false h = refuse bytes done [] x EndMissing r h tt refl

at_bad : (bytes : List ℕ) (done : List Piece) (rest : List ℕ) (x : Parsed) → Reached bytes done rest x → (rest ≡ [] → ⊥) → IsBad rest → IsSo bytes (ended x BadByte (behind_all start (texts done)))
at_bad bytes done [] x r s b = absurd (s refl)
at_bad bytes done (c ∷ cs) x r s b = by (is_done (part_of x)) refl
  where
    by : (y : Bool) → is_done (part_of x) ≡ y → IsSo bytes (if y then Ok (behind_all start (texts done), x) else Err (BadByte, line_and_column (behind_all start (texts done))))
    by true h = found bytes done (c ∷ cs) x r h b.bare
    by false h = refuse bytes done (c ∷ cs) x BadByte r h b.bare (inl (b.none, refl))

why_token : (t : Token) (after : List ℕ) (d : State) (k : ReadKind) → IsToken t → IsLongest t after → refusal d t ≡ Some k → Why d (spelling t ++ after) k
why_token t after d k i l h = by (spelling t ++ after) refl (bare_token t after i)
  where
    by : (bytes : List ℕ) → bytes ≡ spelling t ++ after → IsBare (spelling t ++ after) → Why d bytes k
    by [] e b = absurd (some_bytes t after i e)
    by (c ∷ cs) e b = inr (record { token = t; behind = after; is = e; spelled = i; longest = l; refused = h })

-- how the pieces end
Ends : List ℕ → Position → Option Position → Position → Type 0
Ends rest last bad end = ((rest ≡ []) × (bad ≡ None) × (end ≡ last)) ⊎ ((rest ≡ [] → ⊥) × IsBad rest × (bad ≡ Some last))

place_more : (done : List Piece) (x : Piece) (p : Position) → p ≡ behind_all start (texts done) → behind_all p (text x) ≡ behind_all start (texts (done ++ x ∷ []))
place_more done x p e = ap (λ q. behind_all q (text x)) e ∙ sym (behind_append start (texts done) (text x)) ∙ ap (behind_all start) (sym (texts_more done x))

last_more : (x : Piece) (ps : List Piece) (p last : Position) → behind_all p (texts (x ∷ ps)) ≡ last → behind_all (behind_all p (text x)) (texts ps) ≡ last
last_more x ps p last e = sym (behind_append p (text x) (texts ps)) ∙ e

regroup : (bytes : List ℕ) (done : List Piece) (p : Piece) (ps : List Piece) (rest : List ℕ) (x : Parsed) → Reached bytes done (texts (p ∷ ps) ++ rest) x → Reached bytes done (text p ++ (texts ps ++ rest)) x
regroup bytes done p ps rest x r = subst (λ bs. Reached bytes done bs x) (append_assoc (text p) (texts ps) rest) r

right : (bytes : List ℕ) (ps done : List Piece) (rest : List ℕ) (x : Parsed) (p last : Position) (bad : Option Position) (end : Position)
    → p ≡ behind_all start (texts done) → behind_all p (texts ps) ≡ last → Cuts ps rest → Reached bytes done (texts ps ++ rest) x → Ends rest last bad end
    → IsSo bytes (judged x (told p ps) bad end)
unfolding Ends
right bytes [] done rest x p last bad end pe le c r (inl e) =
    let r0 : Reached bytes done [] x = subst (λ bs. Reached bytes done bs x) e.0 r in
    let at : end ≡ behind_all start (texts done) = e.2 ∙ sym le ∙ pe in
    subst (λ b. IsSo bytes (judged x [] b end)) (sym e.1) (subst (λ q. IsSo bytes (ended x EndMissing q)) (sym at) (at_end bytes done x r0))
right bytes [] done rest x p last bad end pe le c r (inr e) =
    let at : last ≡ behind_all start (texts done) = sym le ∙ pe in
    subst (λ b. IsSo bytes (judged x [] b end)) (sym e.2) (subst (λ q. IsSo bytes (ended x BadByte q)) (sym at) (at_bad bytes done rest x r e.0 e.1))
right bytes (Blank b ∷ ps) done rest x p last bad end pe le c r e =
    right bytes ps (done ++ Blank b ∷ []) rest x (behind_all p (text (Blank b))) last bad end (place_more done (Blank b) p pe) (last_more (Blank b) ps p last le) c.1
    (further bytes done (Blank b) (texts ps ++ rest) x x (regroup bytes done (Blank b) ps rest x r) c.0 refl (blank_further done (Blank b) x refl r.stands)) e
right bytes (Comment b ∷ ps) done rest x p last bad end pe le c r e =
    right bytes ps (done ++ Comment b ∷ []) rest x (behind_all p (text (Comment b))) last bad end (place_more done (Comment b) p pe) (last_more (Comment b) ps p last le) c.1
    (further bytes done (Comment b) (texts ps ++ rest) x x (regroup bytes done (Comment b) ps rest x r) c.0 refl (blank_further done (Comment b) x refl r.stands)) e
right bytes (Spelled t ∷ ps) done rest x p last bad end pe le c r e = by (is_done (part_of x)) refl (refusal x.machine.state t) refl
    (λ h. right bytes ps (done ++ Spelled t ∷ []) rest (with_token x (seen t) p) (behind_all p (text (Spelled t))) last bad end (place_more done (Spelled t) p pe) (last_more (Spelled t) ps p last le) c.1
    (further bytes done (Spelled t) (texts ps ++ rest) x (with_token x (seen t) p) (regroup bytes done (Spelled t) ps rest x r) c.0 (h, sym (goes_on x.machine.state t h)) (token_further done t x p pe h r.stands)) e)
  where
    r1 : Reached bytes done (spelling t ++ (texts ps ++ rest)) x
    r1 = regroup bytes done (Spelled t) ps rest x r

    more : List (kept × Position)
    more = told (behind_all p (spelling t)) ps

    by : (b : Bool) → is_done (part_of x) ≡ b → (o : Option ReadKind) → refusal x.machine.state t ≡ o → (refusal x.machine.state t ≡ None → IsSo bytes (judged (with_token x (seen t) p) more bad end))
        → IsSo bytes (if b then Ok (p, x) else refused_or (refusal x.machine.state (token_of (seen t))) p (judged (with_token x (seen t) p) more bad end))
    by true h o k f = subst (λ q. IsParsedText bytes q x) (sym pe) (found bytes done (spelling t ++ (texts ps ++ rest)) x r1 h (bare_token t (texts ps ++ rest) c.0.0))
    by false h (Some w) k f = subst (λ o. IsSo bytes (refused_or o p (judged (with_token x (seen t) p) more bad end))) (sym (judged_alike x.machine.state t c.0.0 ∙ k))
        (subst (λ q. IsFormRefused bytes w (line_and_column q)) (sym pe) (refuse bytes done (spelling t ++ (texts ps ++ rest)) x w r1 h (bare_token t (texts ps ++ rest) c.0.0) (why_token t (texts ps ++ rest) x.machine.state w c.0.0 c.0.1 k)))
    by false h None k f = subst (λ o. IsSo bytes (refused_or o p (judged (with_token x (seen t) p) more bad end))) (sym (judged_alike x.machine.state t c.0.0 ∙ k)) (f k)

-- nothing is read yet
at_the_start : (bytes : List ℕ) → Reached bytes [] bytes nothing_parsed
at_the_start bytes = record {
  is = refl;
  cuts = tt;
  passes = refl;
  stands = record { parse = InPsat; stands = first_stands; read_is = refl; begun = record { many = refl; few = omega arith; each = λ i l. absurd (omega (arith, l)) } };
}

-- the end, or bytes among which none begins a piece
ends_of : (rest : List ℕ) → (rest ≡ []) ⊎ IsBad rest → (rest ≡ []) ⊎ ((rest ≡ [] → ⊥) × IsBad rest)
ends_of [] e = inl refl
ends_of (c ∷ cs) (inl e) = absurd cc
ends_of (c ∷ cs) (inr b) = inr ((λ e. absurd cc), b)

pub answer_so : (bytes : List ℕ) → IsSo bytes (answer new_lexer nothing_parsed bytes)
unfolding answer Ends
answer_so bytes = by (cut bytes)
  where
    by : Cut bytes → IsSo bytes (judged nothing_parsed (lexed new_lexer bytes).0 (lexed new_lexer bytes).1 (behind_all start bytes))
    by c = elim (ends_of c.rest c.ends) [
      | inl e ↦
          let whole : bytes ≡ texts c.pieces = c.is ∙ ap (λ r. texts c.pieces ++ r) e ∙ append-nil (texts c.pieces) in
          let cuts : Cuts c.pieces [] = subst (λ r. Cuts c.pieces r) e c.cuts in
          let s : lexed new_lexer bytes ≡ (told start c.pieces, None) = ap (lexed new_lexer) whole ∙ whole_told c.pieces cuts in
          subst (λ x. IsSo bytes (judged nothing_parsed x.0 x.1 (behind_all start bytes))) (sym s)
          (right bytes c.pieces [] c.rest nothing_parsed start (behind_all start (texts c.pieces)) None (behind_all start bytes) refl refl c.cuts
          (subst (λ bs. Reached bytes [] bs nothing_parsed) c.is (at_the_start bytes)) (inl (e, refl, ap (behind_all start) whole)))
      | inr b ↦
          let s : lexed new_lexer bytes ≡ (told start c.pieces, Some (behind_all start (texts c.pieces))) = ap (lexed new_lexer) c.is ∙ bad_told c.pieces c.rest c.cuts b.0 b.1 in
          subst (λ x. IsSo bytes (judged nothing_parsed x.0 x.1 (behind_all start bytes))) (sym s)
          (right bytes c.pieces [] c.rest nothing_parsed start (behind_all start (texts c.pieces)) (Some (behind_all start (texts c.pieces))) (behind_all start bytes) refl refl c.cuts
          (subst (λ bs. Reached bytes [] bs nothing_parsed) c.is (at_the_start bytes)) (inr (b.0, b.1, refl)))
    ]
