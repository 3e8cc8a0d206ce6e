-- What is known of the bytes that were pushed.
use Rattle.std.proofs.Common.{◌≡◌, ℕ, ◌+◌, ◌<◌, ◌≤◌, ◌^◌, List, [], ◌∷◌, ◌++◌, length, refl, sym, ap, subst, ◌∙◌, arith, append_assoc, append-nil, length-append}
use Rattle.std.specs.Prelude.{Result, Ok, Err, IfOk, IfErr}
use Rattle.ps_io.specs.declared.no_memory.NoMemory.{NoMemory}
use Rattle.ps_lex.specs.declared.position.Position.{Position}
use Rattle.ps_lex.specs.Lexing.{new_lexer}
use Rattle.ps_text.specs.declared.kind.ReadKind.{ReadKind}
use Rattle.ps_read.specs.declared.parser.Parser.{Parser}
use Rattle.ps_problem.specs.Problems.{Parts}
use Rattle.ps_read.specs.declared.read_error.ReadError.{ReadError}
use Rattle.ps_read.specs.declared.read_error.ReadError.TheVariants as error
use Rattle.ps_read.specs.Readings.{SpellsProblem, IsUnread}
use Rattle.ps_read.specs.Reads.{Tells}
use Rattle.ps_read.specs.Answers.{Parsed, Answers, answer, nothing_parsed, parsed_by, AreWhole, IsBuiltOf, IsExcessIn, IsWaiting}
use Rattle.ps_read.proofs.OneReading.{read_once, unread_once, read_excludes}
use Rattle.ps_read.proofs.Returned.{are_whole, built, count_told, form_told}
use Rattle.ps_read.specs.declared.reader.Reader.{Reader}
use Rattle.ps_read.specs.declared.stage.Stage.{Stage}
use Rattle.ps_read.specs.declared.stage.Stage.TheVariants as stage
use Rattle.ps_read.specs.Fronts.{IsProblemPart, ReadsFront, RefusesFront}
use Rattle.ps_read.specs.Takings.{answer_behind, HasTaken, HasFound, IsTaken}
use Rattle.ps_read.specs.Stages.{IsReady, IsSound, StandsBehind, HasRead, IsFollowed, IsRefused, Knows, behind_refusal, IsBehindText, IsRead}
use Rattle.ps_read.proofs.Ends.{ends_here}
use Rattle.ps_read.proofs.Exact.{front_ends, found_there}

-- bytes more were taken

AnswersAll : Reader → List ℕ → Type 0
AnswersAll r bytes = (more : List ℕ) → answer new_lexer nothing_parsed (bytes ++ more) ≡ answer_behind r more

answers_on : (bytes piece : List ℕ) (old new : Reader) → AnswersAll old bytes → HasTaken piece old new → AnswersAll new (bytes ++ piece)
unfolding AnswersAll
answers_on bytes piece old new a t more = ap (answer new_lexer nothing_parsed) (append_assoc bytes piece more) ∙ a (piece ++ more) ∙ t.answer_is more

pub ready_on : (piece : List ℕ) (old new : Reader) (taken : ℕ) → IsReady old → old.lexer.here.offset ≡ taken → taken + length piece + 1 < 2 ^ 32 → HasTaken piece old new → IsReady new
unfolding AnswersAll
ready_on piece old new taken r p room t = record {
  waits = t.waits;
  room = omega (arith, room, t.taken, p);
  bytes = r.bytes ++ piece;
  answer_is = answers_on r.bytes piece old new r.answer_is t;
}

pub known_on : (piece : List ℕ) (old new : Reader) (taken all : ℕ) (bytes : List ℕ) → all ≡ taken + length piece → HasTaken piece old new → HasRead old bytes taken → HasRead new (bytes ++ piece) all
unfolding AnswersAll
known_on piece old new taken all bytes e t h = record { all = let l = length-append bytes piece in omega (arith, l, e, h.all); answer_is = answers_on bytes piece old new h.answer_is t }

-- the text's end was found
module _ (bytes piece : List ℕ) (old new : Reader) (count : ℕ) (answers : (more : List ℕ) → answer new_lexer nothing_parsed (bytes ++ more) ≡ answer_behind old more) (f : HasFound piece old new count) where
  grouped : (more : List ℕ) → (bytes ++ piece) ++ more ≡ bytes ++ (f.before ++ f.byte ∷ (f.after ++ more))
  grouped more = append_assoc bytes piece more ∙ ap (λ xs. bytes ++ (xs ++ more)) f.piece_is ∙ ap (λ xs. bytes ++ xs) (append_assoc f.before (f.byte ∷ f.after) more)

  pub told : (more : List ℕ) → answer new_lexer nothing_parsed ((bytes ++ piece) ++ more) ≡ Ok (f.place, parsed_by new.parser)
  told more = ap (answer new_lexer nothing_parsed) (grouped more) ∙ answers (f.before ++ f.byte ∷ (f.after ++ more)) ∙ f.taken.answer_is (f.byte ∷ (f.after ++ more)) ∙ f.answer_is (f.after ++ more)

  pub whole_there : AreWhole (parsed_by new.parser)
  whole_there = are_whole ((bytes ++ piece) ++ []) new.parser f.place (told [])

  pub count_below : count < length piece
  count_below = let l = ap length f.piece_is in let m = length-append f.before (f.byte ∷ f.after) in omega (arith, l, m, f.count_is)

  module _ (taken : ℕ) (at : old.lexer.here.offset ≡ taken) (long : taken ≡ length bytes) where
    place_is : f.place.offset ≡ taken + count
    place_is =
        let l = length-append bytes f.before in
        let e = found_there f.middle (bytes ++ f.before) f.taken.waits
        (λ more. ap (answer new_lexer nothing_parsed) (append_assoc bytes f.before more) ∙ answers (f.before ++ more) ∙ f.taken.answer_is more)
        (omega (arith, l, f.taken.taken, at, long)) f.byte (parsed_by new.parser) f.place f.answer_is in
        omega (arith, l, e, long, f.count_is)

    pub text_known : (n all : ℕ) (r : Result (Stage × ℕ) NoMemory) → n ≡ taken + count → all ≡ taken + length piece → IsBehindText (parsed_by new.parser) n all r → IfOk r (λ x. Knows x.0 x.1 (bytes ++ piece))
    text_known n all (Ok (stage.Followed p, m)) en ea b = record {
      before = let l = length-append bytes piece in omega (arith, l, b.1, en, long, count_below);
      spells = λ more. subst (SpellsProblem ((bytes ++ piece) ++ more) p) (place_is ∙ sym en ∙ sym b.1) (built ((bytes ++ piece) ++ more) new.parser f.place p (told more) b.0).0;
    }
    text_known n all (Ok (stage.Refused k l c, m)) en ea b = record {
      all = let l = length-append bytes piece in omega (arith, l, b.1, ea, long);
      unread = λ more. count_told ((bytes ++ piece) ++ more) new.parser f.place (error.At k l c) (told more) b.0;
    }
    text_known n all (Ok (stage.Reading x, m)) en ea b = absurd b
    text_known n all (Ok (stage.OutOfMemory, m)) en ea b = absurd b
    text_known n all (Err e) en ea b = tt

pub text_sound : (x : Parsed) (n all : ℕ) (r : Result (Stage × ℕ) NoMemory) → IsBehindText x n all r → IfOk r (λ y. IsSound y.0)
text_sound x n all (Ok (stage.Followed p, m)) b = tt
text_sound x n all (Ok (stage.Refused k l c, m)) b = tt
text_sound x n all (Ok (stage.Reading r, m)) b = absurd b
text_sound x n all (Ok (stage.OutOfMemory, m)) b = tt
text_sound x n all (Err e) b = tt

pub text_place : (x : Parsed) (n all : ℕ) (r : Result (Stage × ℕ) NoMemory) → IsBehindText x n all r → IfOk r (λ y. StandsBehind y.0 y.1)
text_place x n all (Ok (stage.Followed p, m)) b = tt
text_place x n all (Ok (stage.Refused k l c, m)) b = tt
text_place x n all (Ok (stage.Reading r, m)) b = absurd b
text_place x n all (Ok (stage.OutOfMemory, m)) b = tt
text_place x n all (Err e) b = tt

pub text_grows : (x : Parsed) (n all taken most : ℕ) (r : Result (Stage × ℕ) NoMemory) → taken ≤ n → n ≤ all → all ≤ most → IsBehindText x n all r → IfOk r (λ y. (taken ≤ y.1) × (y.1 ≤ most))
text_grows x n all taken most (Ok (stage.Followed p, m)) l k j b = (omega (arith, l, b.1), omega (arith, k, j, b.1))
text_grows x n all taken most (Ok (stage.Refused a d c, m)) l k j b = (omega (arith, l, k, b.1), omega (arith, j, b.1))
text_grows x n all taken most (Ok (stage.Reading r, m)) l k j b = absurd b
text_grows x n all taken most (Ok (stage.OutOfMemory, m)) l k j b = absurd b
text_grows x n all taken most (Err e) l k j b = tt

-- behind a refusal

pub refused_text : (x : Parsed) (n all : ℕ) (e : ReadError) (r : Result (Stage × ℕ) NoMemory) → r ≡ behind_refusal e all → Tells (IsExcessIn x) e → IsBehindText x n all r
refused_text x n all (error.At k l c) r h t = subst (IsBehindText x n all) (sym h) (t, refl)
refused_text x n all error.NoMemory r h t = subst (IsBehindText x n all) (sym h) tt

pub refused_sound : (e : ReadError) (all : ℕ) (r : Result (Stage × ℕ) NoMemory) → r ≡ behind_refusal e all → IfOk r (λ y. IsSound y.0)
refused_sound (error.At k l c) all r h = subst (λ z. IfOk z (λ y. IsSound y.0)) (sym h) tt
refused_sound error.NoMemory all r h = subst (λ z. IfOk z (λ y. IsSound y.0)) (sym h) tt

pub refused_place : (e : ReadError) (all : ℕ) (r : Result (Stage × ℕ) NoMemory) → r ≡ behind_refusal e all → IfOk r (λ y. StandsBehind y.0 y.1)
refused_place (error.At k l c) all r h = subst (λ z. IfOk z (λ y. StandsBehind y.0 y.1)) (sym h) tt
refused_place error.NoMemory all r h = subst (λ z. IfOk z (λ y. StandsBehind y.0 y.1)) (sym h) tt

pub refused_grows : (e : ReadError) (all taken most : ℕ) (r : Result (Stage × ℕ) NoMemory) → taken ≤ all → all ≤ most → r ≡ behind_refusal e all → IfOk r (λ y. (taken ≤ y.1) × (y.1 ≤ most))
refused_grows (error.At k l c) all taken most r a b h = subst (λ z. IfOk z (λ y. (taken ≤ y.1) × (y.1 ≤ most))) (sym h) (a, b)
refused_grows error.NoMemory all taken most r a b h = subst (λ z. IfOk z (λ y. (taken ≤ y.1) × (y.1 ≤ most))) (sym h) tt

pub refused_known : (bytes piece : List ℕ) (old new : Reader) (taken all : ℕ) (e : ReadError) (r : Result (Stage × ℕ) NoMemory) → all ≡ taken + length piece → HasRead old bytes taken → IsTaken piece old new (Err e) → r ≡ behind_refusal e all
    → IfOk r (λ y. Knows y.0 y.1 (bytes ++ piece))
refused_known bytes piece old new taken all (error.At k l c) r ea h t er = subst (λ z. IfOk z (λ y. Knows y.0 y.1 (bytes ++ piece))) (sym er) (record {
  all = let n = length-append bytes piece in omega (arith, n, ea, h.all);
  unread = λ more. form_told ((bytes ++ piece) ++ more) (error.At k l c) (ap (answer new_lexer nothing_parsed) (append_assoc bytes piece more) ∙ h.answer_is (piece ++ more) ∙ t.answer_is more);
})
refused_known bytes piece old new taken all error.NoMemory r ea h t er = subst (λ z. IfOk z (λ y. Knows y.0 y.1 (bytes ++ piece))) (sym er) tt

-- other pieces change nothing

pub followed_on : (p : Parts) (bytes piece : List ℕ) (taken : ℕ) → IsFollowed p bytes taken → IsFollowed p (bytes ++ piece) taken
followed_on p bytes piece taken f = record {
  before = let l = length-append bytes piece in omega (arith, l, f.before);
  spells = λ more. subst (λ bs. SpellsProblem bs p taken) (sym (append_assoc bytes piece more)) (f.spells (piece ++ more));
}

pub refused_on : (kind : ReadKind) (line column : ℕ) (bytes piece : List ℕ) (taken all : ℕ) → all ≡ taken + length piece → IsRefused kind (record { line = line; column = column }) bytes taken → IsRefused kind (record { line = line; column = column }) (bytes ++ piece) all
refused_on kind line column bytes piece taken all e f = record {
  all = let l = length-append bytes piece in omega (arith, l, e, f.all);
  unread = λ more. subst (λ bs. IsUnread bs kind (record { line = line; column = column })) (sym (append_assoc bytes piece more)) (f.unread (piece ++ more));
}

-- the part that is known

pub part_known : (s : Stage) (n : ℕ) (bytes : List ℕ) → IsSound s → StandsBehind s n → Knows s n bytes → IsProblemPart bytes n
part_known (stage.Reading r) n bytes i p k = record {
  within = omega (arith, k.all);
  followed = λ l. absurd (omega (arith, l, k.all));
  only = λ place e. front_ends r bytes i.waits k.answer_is (p ∙ k.all) place e.1.front.text ∙ sym k.all;
}
part_known (stage.Followed q) n bytes i p k =
    let s : SpellsProblem bytes q n = subst (λ bs. SpellsProblem bs q n) (append-nil bytes) (k.spells []) in record {
      within = omega (arith, k.before);
      followed = λ l. (q, s);
      only = λ place e. (read_once bytes e.0 q place n e.1 s).1;
    }
part_known (stage.Refused kind line column) n bytes i p k = record {
  within = omega (arith, k.all);
  followed = λ l. absurd (omega (arith, l, k.all));
  only = λ place e. absurd (read_excludes bytes e.0 place kind (record { line = line; column = column }) e.1 (subst (λ bs. IsUnread bs kind (record { line = line; column = column })) (append-nil bytes) (k.unread [])));
}
part_known stage.OutOfMemory n bytes i p k = absurd k

-- at the end of the bytes

pub spelled_now : (p : Parts) (bytes : List ℕ) (taken : ℕ) → IsFollowed p bytes taken → SpellsProblem bytes p taken
spelled_now p bytes taken f = subst (λ bs. SpellsProblem bs p taken) (append-nil bytes) (f.spells [])

pub unread_now : (kind : ReadKind) (line column : ℕ) (bytes : List ℕ) (taken : ℕ) → IsRefused kind (record { line = line; column = column }) bytes taken → IsUnread bytes kind (record { line = line; column = column })
unread_now kind line column bytes taken f = subst (λ bs. IsUnread bs kind (record { line = line; column = column })) (append-nil bytes) (f.unread [])

module _ (r : Reader) (taken : ℕ) (bytes : List ℕ) (at : r.lexer.here.offset ≡ taken) (h : HasRead r bytes taken) where
  nothing_more : answer new_lexer nothing_parsed bytes ≡ answer_behind r []
  nothing_more = ap (answer new_lexer nothing_parsed) (sym (append-nil bytes)) ∙ h.answer_is []

  pub ended_err : (e : ReadError) → Answers (answer_behind r []) (Err e) → Tells (IsUnread bytes) e
  ended_err e a = form_told bytes e (subst (λ x. Answers x (Err e)) (sym nothing_more) a)

  pub ended : (parser : Parser) (place : Position) (result : Result Parts ReadError) → IsWaiting r → answer_behind r [] ≡ Ok (place, parsed_by parser) → IsBuiltOf (parsed_by parser) result → IsRead bytes taken result
  ended parser place (Ok p) w e b =
      subst (SpellsProblem bytes p) (ap (λ q. q.offset) (ends_here r.lexer (parsed_by r.parser) (parsed_by parser) place w.bad w.begun e) ∙ at) (built bytes parser place p (nothing_more ∙ e) b).0
  ended parser place (Err e) w a b = count_told bytes parser place e (nothing_more ∙ a) b

pub ended_whole : (r : Reader) (parser : Parser) (place : Position) → IsReady r → answer_behind r [] ≡ Ok (place, parsed_by parser) → AreWhole (parsed_by parser)
ended_whole r parser place i e = are_whole (i.bytes ++ []) parser place (i.answer_is [] ∙ e)

-- what `done` answers

pub found_in : (bytes : List ℕ) (taken : ℕ) (r : Result Parts ReadError) → IsRead bytes taken r → IfOk r (λ p. SpellsProblem bytes p taken)
found_in bytes taken (Ok p) h = h
found_in bytes taken (Err e) h = tt

pub told_of : (bytes : List ℕ) (taken : ℕ) (r : Result Parts ReadError) → IsRead bytes taken r → IfErr r (Tells (IsUnread bytes))
told_of bytes taken (Ok p) h = tt
told_of bytes taken (Err e) h = h

pub reads_front : (bytes : List ℕ) (taken : ℕ) (r : Result Parts ReadError) → IsRead bytes taken r → ReadsFront bytes r
reads_front bytes taken (Ok p) h = record { read = λ q n s. (read_once bytes p q taken n h s).0 }
reads_front bytes taken (Err (error.At k l c)) h = record { read = λ q n s. read_excludes bytes q n k (record { line = l; column = c }) s h }
reads_front bytes taken (Err error.NoMemory) h = record { read = λ q n s. tt }

pub refuses_front : (bytes : List ℕ) (taken : ℕ) (r : Result Parts ReadError) → IsRead bytes taken r → RefusesFront bytes r
refuses_front bytes taken (Ok p) h = record { refused = λ k x u. read_excludes bytes p taken k x h u }
refuses_front bytes taken (Err (error.At k l c)) h = record { refused = λ j x u. unread_once bytes k j (record { line = l; column = c }) x h u }
refuses_front bytes taken (Err error.NoMemory) h = record { refused = λ j x u. tt }
