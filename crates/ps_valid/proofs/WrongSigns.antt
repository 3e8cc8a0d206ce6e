-- Signs of multipliers, up to a place.
use Rattle.std.proofs.Common.{◌≡◌, ℕ, ◌+◌, ◌<◌, ℤ, List, [], ◌∷◌, ◌++◌, Option, Some, None, length, map, take, get_or, slice_get, refl, arith}
use Rattle.std.specs.Prelude.{IsSomeAnd, MatchOption, option_map}
use Rattle.std.proofs.lemmas.List.{take-map, take_more, take_all}
use Rattle.std.proofs.lemmas.Option.{slice_get-map, slice_get-get_or}
use Rattle.ps_formula.specs.declared.node.Node.{Node}
use Rattle.ps_problem.specs.declared.row.Row.{Row}
use Rattle.ps_problem.specs.Rows.{row_of}
use Rattle.ps_claims.specs.Duals.{HasSign, HaveSigns}
use Rattle.ps_claims.specs.Faults.{IsFirstWrongSign}
use Rattle.ps_valid.specs.DualTests.{HaveSignsAt, IsFirstSignAt, FindsSignAt}

zip-push : (rs : List Row) (ys : List ℤ) (r : Row) (y : ℤ) → HaveSignsAt rs ys → HasSign r.side y → HaveSignsAt (rs ++ r ∷ []) (ys ++ y ∷ [])
zip-push [] [] r y h s = (s, tt)
zip-push [] (z ∷ ys) r y h s = absurd h
zip-push (a ∷ rs) [] r y h s = absurd h
zip-push (a ∷ rs) (z ∷ ys) r y h s = (h.0, zip-push rs ys r y h.1 s)

pub signs_more : (rs : List Row) (ys : List ℤ) (i : ℕ) (r : Row) (y : ℤ) → i < length rs → length ys ≡ length rs → HaveSignsAt (take i rs) (take i ys) → HasSign (get_or rs i r).side (get_or ys i y)
    → HaveSignsAt (take (i + 1) rs) (take (i + 1) ys)
signs_more rs ys i r y lt long signs sign = rw (take_more rs i r lt, take_more ys i y (omega (arith, lt, long))) (zip-push (take i rs) (take i ys) (get_or rs i r) (get_or ys i y) signs sign)

pub wrong_at : (rs : List Row) (ys : List ℤ) (i : ℕ) (r : Row) (y : ℤ) → i < length rs → i < length ys → HaveSignsAt (take i rs) (take i ys) → ¬ HasSign (get_or rs i r).side (get_or ys i y)
    → IsFirstSignAt rs ys (i + 1)
wrong_at rs ys i r y lt lt' signs wrong = (i, refl, signs, rw (slice_get-get_or rs i r lt, slice_get-get_or ys i y lt') wrong)

pub signs-all : (rs : List Row) (ys : List ℤ) (i : ℕ) → length ys ≡ length rs → ¬ (i < length rs) → HaveSignsAt (take i rs) (take i ys) → HaveSignsAt rs ys
signs-all rs ys i long past signs = rw (take_all i rs (omega (arith, past)), take_all i ys (omega (arith, past, long))) at signs

have_signs : (ns : List Node) (rs : List Row) (ys : List ℤ) → HaveSignsAt rs ys → HaveSigns (map (row_of ns) rs) ys
have_signs ns [] [] h = tt
have_signs ns [] (y ∷ ys) h = absurd h
have_signs ns (r ∷ rs) [] h = absurd h
have_signs ns (r ∷ rs) (y ∷ ys) h = (h.0, have_signs ns rs ys h.1)

wrong_there : (ns : List Node) (o : Option Row) (y : Option ℤ) → IsSomeAnd o (λ r. IsSomeAnd y (λ z. ¬ HasSign r.side z)) → IsSomeAnd (option_map (row_of ns) o) (λ r. IsSomeAnd y (λ z. ¬ HasSign r.side z))
wrong_there ns None y h = h
wrong_there ns (Some r) y h = h

first_wrong : (ns : List Node) (rs : List Row) (ys : List ℤ) (n : ℕ) → IsFirstSignAt rs ys n → IsFirstWrongSign (map (row_of ns) rs) ys n
first_wrong ns rs ys n (i, is, signs, wrong) = (i, is, rw (take-map (row_of ns) i rs) (have_signs ns (take i rs) (take i ys) signs), rw (slice_get-map (row_of ns) rs i) (wrong_there ns (slice_get rs i) (slice_get ys i) wrong))

-- what is found of stored rows is found of the rows that they stand for
pub judged_signs : (ns : List Node) (rs : List Row) (ys : List ℤ) (found : Option ℕ) → FindsSignAt rs ys found → MatchOption found (HaveSigns (map (row_of ns) rs) ys) (IsFirstWrongSign (map (row_of ns) rs) ys)
judged_signs ns rs ys None h = have_signs ns rs ys h
judged_signs ns rs ys (Some n) h = first_wrong ns rs ys n h
