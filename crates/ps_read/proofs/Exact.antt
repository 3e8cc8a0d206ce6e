-- The place that a reader finds is that of the byte which shows it.
use Rattle.std.proofs.Common.{◌≡◌, ℕ, zero, suc, ◌+◌, ◌≤◌, ◌⊎◌, inl, inr, List, [], ◌∷◌, ◌++◌, length, refl, sym, ap, subst, ◌∙◌, arith, append_assoc, append-nil, length-append, true≢false}
use Rattle.std.specs.Prelude.{Ok, Err}
use Rattle.ps_lex.specs.declared.position.Position.{Position}
use Rattle.ps_lex.specs.Lexing.{new_lexer}
use Rattle.ps_text.specs.Pieces.{texts, IsBare}
use Rattle.ps_text.specs.Fronts.{IsTextFront}
use Rattle.ps_text.proofs.Once.{front_once}
use Rattle.ps_text.proofs.Excluding.{front_excludes}
use Rattle.ps_read.specs.Answers.{Parsed, Answer, answer, nothing_parsed, parsed_by, IsWaiting}
use Rattle.ps_read.proofs.Right.{IsSo, IsParsedText, answer_so}
use Rattle.ps_read.specs.declared.reader.Reader.{Reader}
use Rattle.ps_read.specs.Takings.{answer_behind}
use Rattle.ps_read.proofs.Alone.{split, front_alone, front_within}
use Rattle.ps_read.proofs.Ends.{ends_here}

-- a space at the front isn't bare
no_space : (between rest : List ℕ) → rest ≡ between ++ 32 ∷ [] → length between ≡ 0 → IsBare rest → ⊥
no_space [] rest e l b = let c : IsBare (32 ∷ []) = subst IsBare e b in true≢false (sym c)
no_space (x ∷ xs) rest e l b = absurd (omega (arith, l))

le_or_eq : (n m : ℕ) → n ≤ m + 1 → (n ≤ m) ⊎ (n ≡ m + 1)
le_or_eq zero m l = inl (omega arith)
le_or_eq (suc n) zero l = inr (omega (arith, l))
le_or_eq (suc n) (suc m) l = elim (le_or_eq n m (omega (arith, l))) [
  | inl h ↦ inl (omega (arith, h))
  | inr h ↦ inr (omega (arith, h))
]

module _ (r : Reader) (bytes : List ℕ) (waits : IsWaiting r) (read : (more : List ℕ) → answer new_lexer nothing_parsed (bytes ++ more) ≡ answer_behind r more) (at : r.lexer.here.offset ≡ length bytes) where
  nothing_more : answer new_lexer nothing_parsed bytes ≡ answer_behind r []
  nothing_more = ap (answer new_lexer nothing_parsed) (sym (append-nil bytes)) ∙ read []

  -- a text at the front of what was read ends where that ends
  pub front_ends : (n : ℕ) → IsTextFront bytes n → n ≡ length bytes
  front_ends n f = by (answer new_lexer nothing_parsed bytes) refl (answer_so bytes)
    where
      by : (a : Answer) → answer new_lexer nothing_parsed bytes ≡ a → IsSo bytes a → n ≡ length bytes
      by (Ok x) e s = (front_once f s.front).place ∙ ap (λ q. q.offset) (ends_here r.lexer (parsed_by r.parser) x.1 x.0 waits.bad waits.begun (sym nothing_more ∙ e)) ∙ at
      by (Err x) e s = absurd (front_excludes bytes n s.place x.0 f s.refused)

  -- a byte more shows that the text ends before it, whatever follows: it is no blank
  module _ (byte : ℕ) (y : Parsed) (place : Position) (known : (more : List ℕ) → answer_behind r (byte ∷ more) ≡ Ok (place, y)) where
    all_known : (more : List ℕ) → answer new_lexer nothing_parsed (bytes ++ byte ∷ more) ≡ Ok (place, y)
    all_known more = read (byte ∷ more) ∙ known more

    parsed : (more : List ℕ) → IsParsedText (bytes ++ byte ∷ more) place y
    parsed more = subst (IsSo (bytes ++ byte ∷ more)) (all_known more) (answer_so (bytes ++ byte ∷ more))

    at_most_one_more : place.offset ≤ length bytes + 1
    at_most_one_more = let w = front_within (bytes ++ byte ∷ []) place.offset (parsed []).front in let l = length-append bytes (byte ∷ []) in omega (arith, w, l)

    -- if the byte were the text's, a space behind it would be too
    not_behind : place.offset ≡ length bytes + 1 → ⊥
    not_behind e =
        let f = (parsed (32 ∷ [])).front in
        let s = split (texts f.pieces) f.rest (bytes ++ byte ∷ []) (32 ∷ []) (sym f.is ∙ sym (append_assoc bytes (byte ∷ []) (32 ∷ []))) (let l = length-append bytes (byte ∷ []) in omega (arith, e, l, f.place_is)) in
        no_space s.between f.rest s.rest_is (let l = length-append bytes (byte ∷ []) in let m = ap length s.bytes_are in let n = length-append (texts f.pieces) s.between in omega (arith, e, l, m, n, f.place_is)) f.bare

    not_before : place.offset ≤ length bytes → place.offset ≡ length bytes
    not_before l = front_ends place.offset (front_alone bytes (byte ∷ []) place.offset (parsed []).front l)

    pub found_there : place.offset ≡ length bytes
    found_there = by (le_or_eq place.offset (length bytes) at_most_one_more)
      where
        by : (place.offset ≤ length bytes) ⊎ (place.offset ≡ length bytes + 1) → place.offset ≡ length bytes
        by (inl l) = not_before l
        by (inr e) = absurd (not_behind e)
