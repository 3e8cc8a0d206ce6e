-- Pieces of a report, cut at their line feeds.
use Rattle.std.proofs.Common.{◌≡◌, ℕ, List, [], ◌∷◌, ◌++◌, ◌+◌, ◌≢◌, length, take, false, refl, sym, ap, subst, ◌∙◌, append_assoc, append-nil}
use Rattle.std.proofs.lemmas.List.Elements.{All-append}
use Rattle.std.proofs.Math.Seq.{take-append-add}
use Rattle.ps_io.specs.LineText.{lines_bytes}
use Rattle.ps_log.specs.FirstLines.{IsOneLine}
use Rattle.ps_check.specs.DueLines.{HasFeed}
use Rattle.ps_check.specs.States as stream
use Rattle.ps_check.specs.Reading.{bytes_of}
use Rattle.ps_check.proofs.ReadLines.{one_more}
use Rattle.ps_check.specs.declared.judge.Judge.{Judge}
use Rattle.ps_check.specs.Judging.{HasTaken, HasTakenOn, HasPassed}

-- the bytes of a line behind others, and its feed
with_feed : (lines : List (List ℕ)) (text : List ℕ) → bytes_of lines text ++ 10 ∷ [] ≡ bytes_of (lines ++ text ∷ []) []
with_feed lines text =
    append_assoc (lines_bytes false lines) text (10 ∷ []) ∙ sym (ap (λ (x : List ℕ). lines_bytes false lines ++ x) (append-nil (text ++ 10 ∷ []))) ∙ sym (one_more lines text [])

-- the end of a line with its feed, behind the part of it that was kept
pub feed_behind : (kept end line : List ℕ) → IsOneLine kept → HasFeed end → line ≡ kept ++ end → HasFeed line
feed_behind kept end line w f e = record {
  text = kept ++ f.text;
  is = e ∙ ap (λ (x : List ℕ). kept ++ x) f.is ∙ sym (append_assoc kept f.text (10 ∷ []));
  whole = All-append (λ b. b ≢ 10) kept f.text w f.whole;
}

-- the end of a line is taken, with its feed, behind the part of it that was kept
pub fed : (old new : Judge) (line end : List ℕ) → HasFeed line → line ≡ old.partial.items ++ end → stream.HasTakenFed old.check line new.check
    → new.check.problem ≡ old.check.problem → new.partial.items ≡ [] → HasTakenOn old end new
fed old new line end f e h p none = record {
  taken = λ bytes t. record {
    lines = t.lines ++ f.text ∷ [];
    judged = (h.on f.text f.whole f.is).taken t.lines t.judged;
    bytes_are =
        ap (λ (x : List ℕ). x ++ end) t.bytes_are ∙ append_assoc (lines_bytes false t.lines) old.partial.items end
        ∙ ap (λ (x : List ℕ). lines_bytes false t.lines ++ x) (sym e ∙ f.is)
        ∙ sym (append_assoc (lines_bytes false t.lines) f.text (10 ∷ [])) ∙ with_feed t.lines f.text ∙ sym (ap (bytes_of (t.lines ++ f.text ∷ [])) none);
  };
  problem = p;
}

-- the first line of some bytes with its feed
first_with_feed : (line rest : List ℕ) → take (length line + 1) (line ++ 10 ∷ rest) ≡ line ++ 10 ∷ []
first_with_feed line rest = take-append-add line (10 ∷ rest) 1

pub next_cut : (bytes line rest : List ℕ) (n : ℕ) → bytes ≡ line ++ 10 ∷ rest → n ≡ length line + 1 → bytes ≡ take n bytes ++ rest
next_cut bytes line rest n e k =
    e ∙ sym (append_assoc line (10 ∷ []) rest)
    ∙ ap (λ (x : List ℕ). x ++ rest) (sym (first_with_feed line rest) ∙ ap (take (length line + 1)) (sym e) ∙ ap (λ m. take m bytes) (sym k))

pub next_feed : (bytes line rest : List ℕ) (n : ℕ) → bytes ≡ line ++ 10 ∷ rest → IsOneLine line → n ≡ length line + 1 → HasFeed (take n bytes)
next_feed bytes line rest n e w k = record {
  text = line;
  is = ap (λ m. take m bytes) k ∙ ap (take (length line + 1)) e ∙ first_with_feed line rest;
  whole = w;
}

-- nothing is taken of no bytes
pub unmoved : (j : Judge) → HasTakenOn j [] j
unmoved j = record {
  taken = λ bytes t. subst (HasTaken j) (sym (append-nil bytes)) t;
  problem = refl;
}

-- one piece behind another
pub then_taken : (a b c : Judge) (xs ys : List ℕ) → HasTakenOn a xs b → HasTakenOn b ys c → HasTakenOn a (xs ++ ys) c
then_taken a b c xs ys h k = record {
  taken = λ bytes t. subst (HasTaken c) (append_assoc bytes xs ys) (k.taken (bytes ++ xs) (h.taken bytes t));
  problem = k.problem ∙ h.problem;
}

-- before the first line
pub none_passed : (j : Judge) (piece : List ℕ) → IsOneLine j.partial.items → HasPassed piece j piece j
none_passed j piece w = record { passed = []; piece_is = refl; taken = unmoved j; whole = w }

-- one more line of a piece
pub line_passed : (a b c : Judge) (piece left line rest : List ℕ) → HasPassed piece a left b → left ≡ line ++ rest → HasTakenOn b line c
    → IsOneLine c.partial.items → HasPassed piece a rest c
line_passed a b c piece left line rest h e k w = record {
  passed = h.passed ++ line;
  piece_is = h.piece_is ∙ ap (λ (x : List ℕ). h.passed ++ x) e ∙ sym (append_assoc h.passed line rest);
  taken = then_taken a b c h.passed line h.taken k;
  whole = w;
}

-- the part of a line behind the last line feed
pub piece_taken : (a b c : Judge) (piece left : List ℕ) → HasPassed piece a left b → HasTakenOn b left c → HasTakenOn a piece c
piece_taken a b c piece left h k = subst (λ (x : List ℕ). HasTakenOn a x c) (sym h.piece_is) (then_taken a b c h.passed left h.taken k)
