-- A dual of the kept bounds, spread over all.
use Rattle.std.proofs.Common.{◌≡◌, ℕ, zero, suc, ◌+◌, ◌<◌, ◌≤◌, ℤ, pos, Bool, true, false, cond, List, [], ◌∷◌, ◌++◌, length, get_or, drop, map, replicate, All, refl, sym, ap, ◌∙◌, subst, arith}
use Rattle.std.proofs.lemmas.List.{append-nil}
use Rattle.std.proofs.lemmas.List.Elements.{All-nil, All-cons, All-head, All-tail}
use Rattle.std.proofs.Math.Seq.{drop-cons}
use Rattle.ps_problem.specs.declared.row.Row.{Row}
use Rattle.ps_problem.specs.declared.sentence.Sentence.{Sentence}
use Rattle.ps_problem.specs.Problems.{Parts, bounds_of_sentence}
use Rattle.ps_problem.specs.Rows.{rows_in}
use Rattle.ps_claims.specs.declared.claim_kind.ClaimKind.{ClaimKind}
use Rattle.ps_claims.specs.Duals as claims
use Rattle.ps_claims.specs.Duals.{AreZeroElsewhere}
use Rattle.ps_claims.specs.Validity.{IsRefuted}
use Rattle.ps_answer.specs.declared.answer.Dual.{Dual}
use Rattle.ps_claims.specs.Certificates.{IsMultiplier}
use Rattle.ps_claims.specs.Printed.{IsPrintedDual}
use Rattle.ps_runs.specs.Kept.{kept_of, flags_of}
use Rattle.ps_runs.specs.Subjects.{given_in, both_in}
use Rattle.ps_runs.proofs.Kept.{same-count, rows-kept, length-flags, refuted-kept, part-next}
use Rattle.ps_generation.specs.Phases.{LimitedSubject, IsSpread}
use Rattle.ps_generation.specs.Spreading.{spread_of, number_for, next_for, IsKeptOf}

-- ---- numbers
pub kept-spread : (ks : List Bool) (ys : List ℤ) → length ys ≡ length (kept_of ks ks) → kept_of ks (spread_of ks ys) ≡ ys
kept-spread [] [] e = refl
kept-spread [] (y ∷ ys) e = absurd (omega (arith, e))
kept-spread (false ∷ ks) ys e = kept-spread ks ys e
kept-spread (true ∷ ks) [] e = absurd (omega (arith, e))
kept-spread (true ∷ ks) (y ∷ ys) e = ap (λ xs. y ∷ xs) (kept-spread ks ys (omega (arith, e)))

pub spread-others : (ks : List Bool) (ys : List ℤ) → AreZeroElsewhere ks (spread_of ks ys)
spread-others [] ys = tt
spread-others (false ∷ ks) ys = (λ e. refl, spread-others ks ys)
spread-others (true ∷ ks) [] = (λ e. refl, spread-others ks [])
spread-others (true ∷ ks) (y ∷ ys) = (λ e. absurd (never e), spread-others ks ys)
  where
    never : true ≡ false → ⊥
    never e = cc

pub spread-each : (P : ℤ → Type 0) (ks : List Bool) (ys : List ℤ) → P (pos 0) → All P ys → All P (spread_of ks ys)
spread-each P [] ys z h = All-nil P
spread-each P (false ∷ ks) ys z h = All-cons P (pos 0) (spread_of ks ys) z (spread-each P ks ys z h)
spread-each P (true ∷ ks) [] z h = All-cons P (pos 0) (spread_of ks []) z (spread-each P ks [] z h)
spread-each P (true ∷ ks) (y ∷ ys) z h = All-cons P y (spread_of ks ys) (All-head P y ys h) (spread-each P ks ys z (All-tail P y ys h))

-- ---- the loop
spread-first : (k : Bool) (ks : List Bool) (ys : List ℤ) → spread_of (k ∷ ks) ys ≡ number_for (k ∷ []) 0 ys 0 ∷ spread_of ks (cond k (drop 1 ys) ys)
spread-first false ks ys = refl
spread-first true ks [] = refl
spread-first true ks (y ∷ ys) = refl

get-drop : (ys : List ℤ) (n : ℕ) → get_or (drop n ys) 0 (pos 0) ≡ get_or ys n (pos 0)
get-drop ys zero = refl
get-drop [] (suc n) = refl
get-drop (y ∷ ys) (suc n) = get-drop ys n

drop-suc : (ys : List ℤ) (n : ℕ) → drop 1 (drop n ys) ≡ drop (suc n) ys
drop-suc ys zero = refl
drop-suc [] (suc n) = refl
drop-suc (y ∷ ys) (suc n) = drop-suc ys n

drop-more : (ys : List ℤ) (n : ℕ) → drop 1 (drop n ys) ≡ drop (n + 1) ys
drop-more ys n = drop-suc ys n ∙ ap (λ k. drop k ys) (one_more n)
  where
    one_more : (n : ℕ) → suc n ≡ n + 1
    one_more n = omega arith

number-from : (k : Bool) (ys : List ℤ) (n : ℕ) → number_for (k ∷ []) 0 (drop n ys) 0 ≡ number_for (k ∷ []) 0 ys n
number-from true ys n = get-drop ys n
number-from false ys n = refl

rest-from : (k : Bool) (ys : List ℤ) (n : ℕ) → cond k (drop 1 (drop n ys)) (drop n ys) ≡ drop (next_for (k ∷ []) 0 n) ys
rest-from true ys n = drop-more ys n
rest-from false ys n = refl

spread-left : (ks : List Bool) (ys : List ℤ) (i n : ℕ) → i < length ks
    → spread_of (drop i ks) (drop n ys) ≡ (number_for ks i ys n ∷ []) ++ spread_of (drop (suc i) ks) (drop (next_for ks i n) ys)
spread-left ks ys i n inside =
    ap (λ ls. spread_of ls (drop n ys)) (drop-cons ks i false inside)
    ∙ spread-first (get_or ks i false) (drop (suc i) ks) (drop n ys)
    ∙ (λ j. number-from (get_or ks i false) ys n j ∷ spread_of (drop (suc i) ks) (rest-from (get_or ks i false) ys n j))

-- as far as a loop has come
pub record IsSpreadTo (ks : List Bool) (ys : List ℤ) (all : List ℤ) (i n : ℕ) : Type 0 where
  pub rest : all ++ spread_of (drop i ks) (drop n ys) ≡ spread_of ks ys
  pub before : n ≤ i

next_low : (k : Bool) (n i : ℕ) → n ≤ i → next_for (k ∷ []) 0 n ≤ i + 1
next_low true n i h = omega (arith, h)
next_low false n i h = omega (arith, h)

pub spread-next : (ks : List Bool) (ys all longer : List ℤ) (i n m : ℕ) → i < length ks → longer ≡ all ++ number_for ks i ys n ∷ [] → m ≡ next_for ks i n
    → IsSpreadTo ks ys all i n → IsSpreadTo ks ys longer (i + 1) m
spread-next ks ys all longer i n m inside is next h = record {
  rest =
      (λ j. longer ++ spread_of (drop (one i j) ks) (drop (next j) ys))
      ∙ part-next all (number_for ks i ys n ∷ []) (spread_of (drop i ks) (drop n ys)) (spread_of (drop (suc i) ks) (drop (next_for ks i n) ys)) (spread_of ks ys) longer
      is (spread-left ks ys i n inside) h.rest;
  before = subst (λ k. k ≤ i + 1) (sym next) (next_low (get_or ks i false) n i h.before);
}
  where
    one : (i : ℕ) → i + 1 ≡ suc i
    one i = omega arith

-- ---- flags
-- a truth value for each bound of a sentence
pub flags-one : (k : Bool) (s : Sentence) → flags_of (k ∷ []) (s ∷ []) ≡ replicate (length (bounds_of_sentence s)) k
flags-one k s = append-nil (map (λ b. k) (bounds_of_sentence s)) ∙ each (bounds_of_sentence s)
  where
    each : {T : Type 0} (xs : List T) → map (λ (x : T). k) xs ≡ replicate (length xs) k
    each [] = refl
    each (x ∷ xs) = ap (λ ks. k ∷ ks) (each xs)

-- ---- duals
-- as many are kept as the problem of the kept sentences has rows
kept_count : (p part : Parts) (flags : List Bool) (h : IsKeptOf p flags part) → length (rows_in part.sentences) ≡ length (kept_of flags flags)
kept_count p part flags h =
    let long : length (flags_of h.kept p.sentences) ≡ length (rows_in p.sentences) = length-flags h.kept p.sentences h.each in
    ap (λ (q : Parts). length (rows_in q.sentences)) h.parts
    ∙ ap (λ (rs : List Row). length rs) (rows-kept h.kept p.sentences)
    ∙ same-count (flags_of h.kept p.sentences) (rows_in p.sentences) (flags_of h.kept p.sentences) (sym long)
    ∙ sym (ap (λ fs. length (kept_of fs fs)) h.flags_are)

refuted_whole : (p part : Parts) (flags : List Bool) (h : IsKeptOf p flags part) (kind : ClaimKind) (given : _) (both : ℕ) (d : claims.Dual) → AreZeroElsewhere flags d.rows
    → IsRefuted part kind given both (record { top = d.top; head = d.head; rows = kept_of flags d.rows; steps = d.steps }) → IsRefuted p kind given both d
refuted_whole p part flags h kind given both d off refuted =
    let fs = flags_of h.kept p.sentences in
    refuted-kept h.kept p kind given both d h.each (subst (λ gs. AreZeroElsewhere gs d.rows) h.flags_are off)
    (subst (λ (q : Parts). IsRefuted q kind given both (record { top = d.top; head = d.head; rows = kept_of fs d.rows; steps = d.steps })) h.parts
    (subst (λ gs. IsRefuted part kind given both (record { top = d.top; head = d.head; rows = kept_of gs d.rows; steps = d.steps })) h.flags_are refuted))

pub is_spread : (r : LimitedSubject) (h : IsKeptOf r.whole r.flags r.subject.parts) (e : Dual) (rows : List ℤ) → length e.rows ≡ length (rows_in r.subject.parts.sentences)
    → rows ≡ spread_of r.flags e.rows → IsSpread r e (record { top = e.top; head = e.head; rows = rows; steps = e.steps })
is_spread r h e rows long is =
    let back : kept_of r.flags rows ≡ e.rows = ap (kept_of r.flags) is ∙ kept-spread r.flags e.rows (long ∙ kept_count r.whole r.subject.parts r.flags h) in
    let off : AreZeroElsewhere r.flags rows = subst (AreZeroElsewhere r.flags) (sym is) (spread-others r.flags e.rows) in
    record {
      numbers = λ i. record { top = e.top; head = e.head; rows = back i; steps = e.steps };
      others = off;
      refuted = λ kind refuted.
          refuted_whole r.whole r.subject.parts r.flags h kind (given_in r.subject.query) (both_in r.subject.query) (record { top = e.top; head = e.head; rows = rows; steps = e.steps }) off
          (subst (λ ys. IsRefuted r.subject.parts kind (given_in r.subject.query) (both_in r.subject.query) (record { top = e.top; head = e.head; rows = ys; steps = e.steps })) (sym back) refuted);
    }

-- what can be printed of the kept bounds can be of all
pub printed_spread : (flags : List Bool) (e : Dual) (rows : List ℤ) → rows ≡ spread_of flags e.rows → IsPrintedDual e
    → IsPrintedDual (record { top = e.top; head = e.head; rows = rows; steps = e.steps })
printed_spread flags e rows is h = record {
  numbers = record {
    top = h.numbers.top;
    head = h.numbers.head;
    rows = subst (All IsMultiplier) (sym is) (spread-each IsMultiplier flags e.rows (omega arith) h.numbers.rows);
  };
  steps = h.steps;
  literals = h.literals;
}
