-- The bytes in which a problem is looked for, by those that were pushed.
use Rattle.std.proofs.Common.{◌≡◌, ◌<◌, ◌≤◌, ◌+◌, ◌-◌, ℕ, List, [], ◌++◌, length, take, drop, Result, Ok, Err, ◌⊎◌, inl, inr, refl, sym, ap, subst, ◌∙◌, append_assoc, append-nil, arith}
use Rattle.std.proofs.lemmas.List.{take_all, take-append-drop, length-append, length-take, drop-drop, drop_at, drop_all}
use Rattle.std.proofs.lemmas.Bool.{cases_lt}
use Rattle.std.proofs.Math.Seq.{take-append-add}
use Rattle.ps_problem.specs.Problems.{Parts}
use Rattle.ps_read.specs.declared.read_error.ReadError.{ReadError}
use Rattle.ps_read.specs.declared.read_error.ReadError.TheVariants as error
use Rattle.ps_read.specs.Readings.{SpellsProblem}
use Rattle.ps_read.specs.Reads.{Gives}
use Rattle.ps_read.specs.declared.stage.Stage.{Stage}
use Rattle.ps_read.specs.declared.stage.Stage.TheVariants as stage
use Rattle.ps_read.specs.Stages.{FrontState, HasPushed, HasPushedOn, IsFollowed, IsRead, Knows}
use Rattle.ps_read.specs.Fronts.{FindsUpTo, ReadsFront, TellsUnread}
use Rattle.ps_check.specs.declared.intake.TheConstants.{MOST_SEARCHED}
use Rattle.ps_check.specs.Checks.{searched_in}
use Rattle.ps_check.specs.Reports.{IsSearched, IsRest}

-- where the problem part ends before the bytes do, its problem is known, whatever follows them
followed : (s : Stage) (taken : ℕ) (bytes : List ℕ) → Knows s taken bytes → taken < length bytes → (p : Parts) × IsFollowed p bytes taken
followed (stage.Reading r) taken bytes k lt = absurd (omega (arith, k.all))
followed (stage.Followed p) taken bytes k lt = (p, k)
followed (stage.Refused kind line column) taken bytes k lt = absurd (omega (arith, k.all))
followed stage.OutOfMemory taken bytes k lt = absurd k

-- the problem that is answered of the bytes is spelled at the front of them and of more
spelled_on : (p : Parts) (bytes more : List ℕ) (taken : ℕ) (result : Result Parts ReadError) → IsFollowed p bytes taken → Gives p result
    → IsRead (bytes ++ more) taken result
spelled_on p bytes more taken (Ok q) h e = subst (λ (x : Parts). SpellsProblem (bytes ++ more) x taken) (sym e) (h.spells more)
spelled_on p bytes more taken (Err (error.At kind line column)) h e = absurd e
spelled_on p bytes more taken (Err error.NoMemory) h e = tt

-- what is answered of the bytes that were pushed is so of those that are searched
at_end : (bytes : List ℕ) (taken : ℕ) (result : Result Parts ReadError) → FindsUpTo bytes taken result → TellsUnread bytes result → IsRead bytes taken result
at_end bytes taken (Ok p) f t = f
at_end bytes taken (Err e) f t = t

read_by : (f : FrontState) (pushed searched more : List ℕ) (result : Result Parts ReadError) → HasPushed f pushed → searched ≡ pushed ++ more
    → (f.taken < length pushed) ⊎ (more ≡ []) → FindsUpTo pushed f.taken result → ReadsFront pushed result → TellsUnread pushed result
    → IsRead searched f.taken result
read_by f pushed searched more result k e (inl lt) found only told =
    let p = followed f.stage f.taken pushed k lt in
    let spells : SpellsProblem pushed p.0 f.taken = subst (λ (x : List ℕ). SpellsProblem x p.0 f.taken) (append-nil pushed) (p.1.spells []) in
    subst (λ (x : List ℕ). IsRead x f.taken result) (sym e) (spelled_on p.0 pushed more f.taken result p.1 (only.read p.0 f.taken spells))
read_by f pushed searched more result k e (inr none) found only told =
    subst (λ (x : List ℕ). IsRead x f.taken result) (sym (e ∙ ap (λ (x : List ℕ). pushed ++ x) none ∙ append-nil pushed)) (at_end pushed f.taken result found told)

pub searched_read : (f : FrontState) (pushed searched : List ℕ) (result : Result Parts ReadError) → IsSearched f pushed searched
    → FindsUpTo pushed f.taken result → ReadsFront pushed result → TellsUnread pushed result → IsRead searched f.taken result
searched_read f pushed searched result s found only told = read_by f pushed searched s.more result s.known s.is s.ends found only told

-- at the end of the bytes, all of which were pushed
pub all_searched : (f : FrontState) (bytes : List ℕ) → HasPushed f bytes → length bytes ≤ MOST_SEARCHED → IsSearched f bytes (searched_in bytes)
all_searched f bytes k le = record {
  known = k;
  more = [];
  is = take_all MOST_SEARCHED bytes le ∙ sym (append-nil bytes);
  ends = inr refl;
}

pub none_left : (taken : ℕ) (bytes : List ℕ) → taken ≡ length bytes → IsRest taken bytes []
none_left taken bytes e = record {
  within = omega (arith, e);
  rest_is = drop_all taken bytes (omega (arith, e));
}

-- as many of the bytes as there is room for, and then as many of the others as there is room for behind them
take_behind : (n : ℕ) (xs ys : List ℕ) → length xs ≤ n → take n (xs ++ ys) ≡ xs ++ take (n - length xs) ys
take_behind n xs ys le =
    let sum : n ≡ length xs + (n - length xs) = omega (arith, le) in
    ap (λ k. take k (xs ++ ys)) sum ∙ take-append-add xs ys (n - length xs)

-- where a piece is cut, what follows both parts
cut_piece : (bytes piece more : List ℕ) (n : ℕ) → (bytes ++ piece) ++ more ≡ (bytes ++ take n piece) ++ (drop n piece ++ more)
cut_piece bytes piece more n =
    append_assoc bytes piece more ∙ ap (λ (x : List ℕ). bytes ++ (x ++ more)) (sym (take-append-drop n piece))
    ∙ ap (λ (x : List ℕ). bytes ++ x) (append_assoc (take n piece) (drop n piece) more) ∙ sym (append_assoc bytes (take n piece) (drop n piece ++ more))

-- either the problem part ended within the bytes that were pushed, or there is room for no more
ends_by : (taken room count : ℕ) (pushed bytes piece rest : List ℕ) → length pushed ≡ length bytes + length (take room piece)
    → length bytes + room ≡ MOST_SEARCHED → taken ≡ length bytes + count → count < length piece
    → (taken < length pushed) ⊎ (take (MOST_SEARCHED - length pushed) rest ≡ [])
ends_by taken room count pushed bytes piece rest len sum all lt =
    elim (cases_lt count (length (take room piece))) [
      | inl l ↦ inl (omega (arith, len, all, l))
      | inr l ↦
          let none : MOST_SEARCHED - length pushed ≡ 0 = omega (arith, len, sum, l, lt, length-take room piece) in
          inr (ap (λ k. take k rest) none)
    ]

-- the first of a piece's bytes were pushed, up to the end of what is searched, and not all of the piece belong to the problem part
pub part_searched : (old new : FrontState) (room count : ℕ) (bytes piece more : List ℕ) → HasPushed old bytes → length bytes + room ≡ MOST_SEARCHED
    → HasPushedOn old (take room piece) new → new.taken ≡ length bytes + count → count < length piece
    → IsSearched new (bytes ++ take room piece) (searched_in ((bytes ++ piece) ++ more))
part_searched old new room count bytes piece more k sum on all lt =
    let len : length (bytes ++ take room piece) ≡ length bytes + length (take room piece) = length-append bytes (take room piece) in
    let short = length-take room piece in
    record {
      known = on.pushed bytes k;
      more = take (MOST_SEARCHED - length (bytes ++ take room piece)) (drop room piece ++ more);
      is = ap (take MOST_SEARCHED) (cut_piece bytes piece more room) ∙ take_behind MOST_SEARCHED (bytes ++ take room piece) (drop room piece ++ more) (omega (arith, len, short, sum));
      ends = ends_by new.taken room count (bytes ++ take room piece) bytes piece (drop room piece ++ more) len sum all lt;
    }

-- the bytes behind those of the problem part
pub rest_of : (count : ℕ) (taken : ℕ) (bytes piece : List ℕ) → taken ≡ length bytes + count → count ≤ length piece → IsRest taken (bytes ++ piece) (drop count piece)
rest_of count taken bytes piece e le = record {
  within = omega (arith, e, length-append bytes piece);
  rest_is = ap (λ k. drop k (bytes ++ piece)) e ∙ sym (drop-drop count (length bytes) (bytes ++ piece)) ∙ ap (drop count) (drop_at bytes piece (length bytes) refl);
}
