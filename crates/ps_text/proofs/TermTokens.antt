-- The tokens of terms with one more behind them.
use Rattle.std.proofs.Common.{◌≡◌, suc, Bool, false, List, [], ◌∷◌, ◌++◌, length, Option, Some, None, refl, sym, ap, ◌∙◌, append_assoc, append-nil, true≢false, is_some}
use Rattle.ps_text.specs.Tokens.{Token, Sign}
use Rattle.ps_text.specs.Grammar.{FormulaSyntax, Term, alone, prob_tokens, minus_tokens, term_tokens, term_sign, further_tokens, terms_tokens}
use Rattle.ps_text.specs.ExpectedTokens.{terms_so_far}
use Rattle.ps_text.specs.PartialParses.{Left, OneProb, Terms, left_given, left_linear, sign_behind, begun_terms, left_tokens, terms_in}

further-push : (ts : List Term) (t : Term) → further_tokens (ts ++ t ∷ []) ≡ further_tokens ts ++ (Sign (term_sign t.minus) ∷ term_tokens t)
further-push [] t = ap (λ us. Sign (term_sign t.minus) ∷ us) (append-nil (term_tokens t))
further-push (u ∷ ts) t =
    ap (λ us. Sign (term_sign u.minus) ∷ (term_tokens u ++ us)) (further-push ts t)
    ∙ ap (λ us. Sign (term_sign u.minus) ∷ us) (sym (append_assoc (term_tokens u) (further_tokens ts) (Sign (term_sign t.minus) ∷ term_tokens t)))

-- one term more
pub terms-push : (ts : List Term) (t : Term) → terms_tokens (ts ++ t ∷ []) ≡ begun_terms ts t.minus ++ term_tokens t
terms-push [] t = ap (λ us. minus_tokens t.minus ++ us) (append-nil (term_tokens t))
terms-push (u ∷ ts) t =
    let sign : List Token = Sign (term_sign t.minus) ∷ term_tokens t in
    ap (λ us. minus_tokens u.minus ++ (term_tokens u ++ us)) (further-push ts t)
    ∙ ap (λ us. minus_tokens u.minus ++ us) (sym (append_assoc (term_tokens u) (further_tokens ts) sign))
    ∙ sym (append_assoc (minus_tokens u.minus) (term_tokens u ++ further_tokens ts) sign)
    ∙ sym (append_assoc (terms_tokens (u ∷ ts)) (Sign (term_sign t.minus) ∷ []) (term_tokens t))

pub sign_push : (ts : List Term) (t : Term) (m : Bool) → sign_behind (ts ++ t ∷ []) m ≡ Sign (term_sign m) ∷ []
sign_push [] t m = refl
sign_push (u ∷ ts) t m = refl

pub push_count : (ts : List Term) (t : Term) → length (ts ++ t ∷ []) ≡ suc (length ts)
push_count [] t = refl
push_count (u ∷ ts) t = ap suc (push_count ts t)

pub terms_counted : (l : Left) → length (terms_in l) ≡ terms_so_far (left_linear l)
terms_counted (OneProb p) = refl
terms_counted (Terms ts t) = push_count ts t

-- a probability with no condition
alone_tokens : (f : FormulaSyntax) (g : Option FormulaSyntax) → is_some g ≡ false → prob_tokens (alone f) ≡ prob_tokens (record { formula = f; given = g })
alone_tokens f None h = refl
alone_tokens f (Some g) h = absurd (true≢false h)

-- a left side and the sign of one more term
pub left_signed : (l : Left) (m : Bool) → left_given l ≡ false → begun_terms (terms_in l) m ≡ left_tokens l ++ Sign (term_sign m) ∷ []
left_signed (OneProb p) m g = ap (λ ts. ts ++ Sign (term_sign m) ∷ []) (append-nil (prob_tokens (alone p.formula)) ∙ alone_tokens p.formula p.given g)
left_signed (Terms ts t) m g =
    ap (λ us. us ++ sign_behind (ts ++ t ∷ []) m) (terms-push ts t) ∙ ap (λ us. (begun_terms ts t.minus ++ term_tokens t) ++ us) (sign_push ts t m)
