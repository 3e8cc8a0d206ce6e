-- Whole lines that are added one after the other.
use Rattle.std.proofs.Common.{◌≡◌, ℕ, List, [], ◌∷◌, ◌++◌, inl, inr, refl, sym, ap, ◌∙◌, subst, append-nil, append_assoc}
use Rattle.std.proofs.lemmas.Str.{NoCharPasses-append, NoCharPasses-nil}
use Rattle.ps_hints.specs.Shown.{is_command, IsHarmless, EndsLine, AreLines, AddsLines}

-- nothing is added
pub none : (out : List ℕ) → AddsLines out out
unfolding AddsLines AreLines IsHarmless
none out = ([], sym (append-nil out), (NoCharPasses-nil is_command, inl refl))

-- nothing is added, as another value tells
pub none_as : (old new : List ℕ) → new ≡ old → AddsLines old new
unfolding AddsLines AreLines IsHarmless
none_as old new e = ([], e ∙ sym (append-nil old), (NoCharPasses-nil is_command, inl refl))

-- lines, and then more
both : (first second : List ℕ) → AreLines first → AreLines second → AreLines (first ++ second)
unfolding AreLines EndsLine IsHarmless
both first second (h, e) (k, inl none) = subst AreLines (sym (ap (λ bs. first ++ bs) none ∙ append-nil first)) (h, e)
both first second (h, e) (k, inr (front, last)) =
    (NoCharPasses-append is_command first second h k, inr (first ++ front, ap (λ bs. first ++ bs) last ∙ sym (append_assoc first front (10 ∷ []))))

-- lines are added, and then more
pub then : (a b c : List ℕ) → AddsLines a b → AddsLines b c → AddsLines a c
unfolding AddsLines
then a b c (first, e, h) (second, k, l) = (first ++ second, k ∙ ap (λ bs. bs ++ second) e ∙ append_assoc a first second, both first second h l)

-- a line is added
pub line : (old new text : List ℕ) → new ≡ old ++ text → IsHarmless text → EndsLine text → AddsLines old new
unfolding AddsLines AreLines
line old new text e h l = (text, e, (h, inr l))

-- a text with a line feed behind it
pub ends : (old new : List ℕ) → new ≡ old ++ 10 ∷ [] → EndsLine new
unfolding EndsLine
ends old new e = (old, e)
