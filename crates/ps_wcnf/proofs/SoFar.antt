-- A text that is read line by line.
use Rattle.std.proofs.Common.{◌≡◌, ℕ, ◌+◌, ◌<◌, ◌≤◌, Option, Some, None, List, [], ◌∷◌, ◌++◌, length, map, fold, arith, refl, sym, ap, ◌∙◌, append_assoc, append-nil, length-append, subst}
use Rattle.std.proofs.lemmas.List.{map-append}
use Rattle.ps_log.specs.Numbers.{left_of}
use Rattle.ps_wcnf.specs.Limits.{IsText}
use Rattle.ps_wcnf.specs.Readings.{no_text, with_line, IsRead, IsFirstAtFault}
use Rattle.ps_wcnf.specs.Spelling.{Line, line_of}
use Rattle.ps_wcnf.specs.Splitting.{lines_of, lines_after}
use Rattle.ps_wcnf.specs.Counted.{TakesLine}
use Rattle.ps_wcnf.specs.declared.text.WcnfText.{WcnfText}
use Rattle.ps_wcnf.specs.declared.wcnf_error.WcnfKind.{WcnfKind}
use Rattle.ps_wcnf.proofs.Drafts.{text-none}

-- the lines before the rest are read
pub record IsReadSoFar (bytes : List ℕ) (rest : Option (List ℕ)) (t : WcnfText) (number : ℕ) : Type 0 where
  pub done : List (List ℕ)
  pub cut : lines_of bytes ≡ done ++ lines_after rest
  pub counted : number ≡ length done
  pub read : IsRead done t
  pub few : number + left_of rest ≤ length bytes + 1
  pub text : IsText t

pub read-none : (bytes : List ℕ) → IsReadSoFar bytes (Some bytes) no_text 0
read-none bytes = record {
  done = [];
  cut = refl;
  counted = refl;
  read = record { said = []; forms = refl; text = refl; within = text-none.within };
  few = omega arith;
  text = text-none;
}

said-push : (t : WcnfText) (said : List Line) (l : Line) → fold with_line t (said ++ l ∷ []) ≡ with_line (fold with_line t said) l
said-push t [] l = refl
said-push t (m ∷ said) l = said-push (with_line t m) said l

pub read-more : (bytes text line : List ℕ) (after : Option (List ℕ)) (t new : WcnfText) (number : ℕ) → IsReadSoFar bytes (Some text) t number
    → lines_of text ≡ line ∷ lines_after after → left_of after < length text + 1 → TakesLine t new line None → IsReadSoFar bytes after new (number + 1)
read-more bytes text line after t new number so next shorter taken = record {
  done = so.done ++ line ∷ [];
  cut = so.cut ∙ ap (λ r. so.done ++ r) next ∙ sym (append_assoc so.done (line ∷ []) (lines_after after));
  counted = let n = length-append so.done (line ∷ []) in let k = so.counted in omega (arith, n, k);
  read = record {
    said = so.read.said ++ taken.0 ∷ [];
    forms = map-append line_of so.done (line ∷ []) ∙ ap (λ r. r ++ line_of line ∷ []) so.read.forms ∙ ap (λ o. map Some so.read.said ++ o ∷ []) taken.1 ∙ sym (map-append Some so.read.said (taken.0 ∷ []));
    text = taken.2 ∙ ap (λ r. with_line r taken.0) so.read.text ∙ sym (said-push no_text so.read.said taken.0);
    within = (taken.3 so.text).within;
  };
  few = let k = so.few in omega (arith, k, shorter);
  text = taken.3 so.text;
}

pub read-fault : (bytes text line : List ℕ) (after : Option (List ℕ)) (t new : WcnfText) (number : ℕ) (kind : WcnfKind) → IsReadSoFar bytes (Some text) t number
    → lines_of text ≡ line ∷ lines_after after → TakesLine t new line (Some kind) → IsFirstAtFault (lines_of bytes) kind (number + 1)
read-fault bytes text line after t new number kind so next taken = record {
  before = so.done;
  line = line;
  behind = lines_after after;
  cut = so.cut ∙ ap (λ r. so.done ++ r) next;
  counted = let k = so.counted in omega (arith, k);
  text = t;
  read = so.read;
  fault = taken;
}

pub read-all : (bytes : List ℕ) (t : WcnfText) (number : ℕ) → IsReadSoFar bytes None t number → IsRead (lines_of bytes) t
read-all bytes t number so = subst (λ ls. IsRead ls t) (sym (so.cut ∙ append-nil so.done)) so.read
