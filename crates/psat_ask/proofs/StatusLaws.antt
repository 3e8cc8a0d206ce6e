-- The statuses of the answers that were given, and the greatest of them.
use Rattle.std.proofs.Common.{◌≡◌, ◌≢◌, ◌∙◌, ◌⊎◌, inl, inr, ℕ, ◌+◌, ◌<◌, ◌≤◌, List, [], ◌∷◌, ◌++◌, length, get_or, take, map, max, cond, refl, sym, ap, subst, arith}
use Rattle.std.specs.Prelude.{String, string_bytes, codes}
use Rattle.std.specs.declared.alloc.Global.{Global}
use Rattle.std.specs.List.{All, Contains}
use Rattle.std.specs.Cmp.{nat_cmp_is}
use Rattle.std.proofs.Common.{Less, Equal, Greater}
use Rattle.std.specs.Ordering.{is_lt, nat_cmp, ord_max}
use Rattle.std.proofs.Math.Nat.{le-max_left, le-max_right, max-eq_left, max-eq_right}
use Rattle.std.proofs.lemmas.Bool.{cases_lt}
use Rattle.std.proofs.lemmas.List.{get_or-map, length-map, length-take-le, map_push, take_all, take_more}
use Rattle.std.proofs.lemmas.List.Elements.{All-nil, All-push, All-weaker, Contains-append_left, Contains-push}
use Rattle.ps_ask.specs.Statuses.{status_number}
use Rattle.ps_ask.specs.declared.status.Status.{Status}
use Rattle.ps_ask.specs.declared.status.Status.TheVariants.{WriteFault}
use Rattle.psat_ask.specs.Statuses.{AnswersAll, InTurn, IsGreatest, files_read}

-- ---- the greatest of numbers
none-greatest : IsGreatest [] 0
none-greatest = record { all = All-nil (λ m. m ≤ 0); one = inl refl }

one-kept : (ns : List ℕ) (x n : ℕ) → (n ≡ 0) ⊎ Contains ns n → (n ≡ 0) ⊎ Contains (ns ++ x ∷ []) n
one-kept ns x n (inl e) = inl e
one-kept ns x n (inr c) = inr (Contains-append_left ns (x ∷ []) n c)

-- it is the first of two, or the second
max-is : (a b : ℕ) → (max a b ≡ a) ⊎ (max a b ≡ b)
max-is a b = elim (cases_lt a b) [ inl l ↦ inr (max-eq_right (omega (arith, l))) | inr l ↦ inl (max-eq_left l) ]

-- as `max` of numbers answers
pub max_of : (a b : ℕ) → ord_max nat_cmp a b ≡ max a b
max_of a b = elim (cases_lt b a) [
  | inl l ↦ ap (λ o. cond (is_lt o) a b) (sym (nat_cmp_is b a Less l)) ∙ sym (max-eq_left (omega (arith, l)))
  | inr l ↦ elim (cases_lt a b) [
    | inl k ↦ ap (λ o. cond (is_lt o) a b) (sym (nat_cmp_is b a Greater k)) ∙ sym (max-eq_right l)
    | inr k ↦ ap (λ o. cond (is_lt o) a b) (sym (nat_cmp_is b a Equal (omega (arith, l, k)))) ∙ sym (max-eq_right l)
  ]
]

-- one number more
greatest-push : (ns : List ℕ) (old x : ℕ) → IsGreatest ns old → IsGreatest (ns ++ x ∷ []) (max old x)
greatest-push ns old x h = record {
  all = All-push (λ m. m ≤ max old x) ns x (All-weaker (λ m. m ≤ old) (λ m. m ≤ max old x) (λ m k. omega (arith, k, le-max_left old x)) ns h.all) (le-max_right old x);
  one = elim (max-is old x) [
    | inl e ↦ subst (λ k. (k ≡ 0) ⊎ Contains (ns ++ x ∷ []) k) (sym e) (one-kept ns x old h.one)
    | inr e ↦ inr (subst (λ k. Contains (ns ++ x ∷ []) k) (sym e) (Contains-push ns x))
  ];
}

-- ---- answers in turn
abbrev pub Given : Type 0
Given = List ℕ × Status

abbrev numbers : List Given → List ℕ
numbers gs = map (λ a. status_number a.1) gs

module _ {S : Type 0} (answers : S → List ℕ → Status → S → Type 0) where
  -- one answer more
  in-turn-push : (old : S) (gs : List Given) (now new : S) (file : List ℕ) (status : Status) → InTurn answers old gs now → answers now file status new
      → InTurn answers old (gs ++ (file, status) ∷ []) new
  in-turn-push old [] now new file status e h = (new, subst (λ x. answers x file status new) e h, refl)
  in-turn-push old (g ∷ gs) now new file status h k = (h.0, h.1, in-turn-push h.0 gs now new file status h.2 k)

  -- the files before a place were answered so, and this is the greatest number of their statuses
  pub record AnsweredSoFar (files : List (String Global)) (place : ℕ) (old now : S) (n : ℕ) : Type 0 where
    pub answered : List Given
    pub in_turn : InTurn answers old answered now
    pub files_are : map (λ a. a.0) answered ≡ take place (map string_bytes files)
    pub greatest : IsGreatest (numbers answered) n

  pub so_far_none : (files : List (String Global)) (old : S) → AnsweredSoFar files 0 old old 0
  so_far_none files old = record { answered = []; in_turn = refl; files_are = refl; greatest = none-greatest }

  next-file : (files : List (String Global)) (place : ℕ) (file : String Global) → place < length files → file ≡ get_or files place file
      → take (place + 1) (map string_bytes files) ≡ take place (map string_bytes files) ++ string_bytes file ∷ []
  next-file files place file lt is =
      take_more (map string_bytes files) place [] (subst (λ k. place < k) (sym (length-map files string_bytes)) lt)
      ∙ ap (λ (x : List ℕ). take place (map string_bytes files) ++ x ∷ []) (get_or-map string_bytes files place file [] lt ∙ ap string_bytes (sym is))

  pub so_far_one : (files : List (String Global)) (place : ℕ) (file : String Global) (status : Status) (old now new : S) (n : ℕ) → place < length files → file ≡ get_or files place file
      → AnsweredSoFar files place old now n → answers now (string_bytes file) status new
      → AnsweredSoFar files (place + 1) old new (max n (status_number status))
  so_far_one files place file status old now new n lt is h k = record {
    answered = h.answered ++ (string_bytes file, status) ∷ [];
    in_turn = in-turn-push old h.answered now new (string_bytes file) status h.in_turn k;
    files_are = map_push (λ a. a.0) h.answered (string_bytes file, status)
        ∙ ap (λ (fs : List (List ℕ)). fs ++ string_bytes file ∷ []) h.files_are
        ∙ sym (next-file files place file lt is);
    greatest = subst (λ ns. IsGreatest ns (max n (status_number status))) (sym (map_push (λ a. status_number a.1) h.answered (string_bytes file, status)))
        (greatest-push (numbers h.answered) n (status_number status) h.greatest);
  }

  -- as many as there are files before the place
  so-many : (files : List (String Global)) (place : ℕ) (old now : S) (n : ℕ) → place ≤ length files → (h : AnsweredSoFar files place old now n) → length h.answered ≡ place
  so-many files place old now n le h =
      sym (length-map h.answered (λ a. a.0)) ∙ ap (length {A = List ℕ}) h.files_are
      ∙ length-take-le place (map string_bytes files) (subst (λ k. place ≤ k) (sym (length-map files string_bytes)) le)

  pub whole : (files : List (String Global)) (place : ℕ) (old new : S) (n : ℕ) → length files ≡ place → AnsweredSoFar files place old new n
      → AnswersAll answers (map string_bytes files) old new n
  whole files place old new n all h =
      let many : length h.answered ≡ place = so-many files place old new n (omega (arith, all)) h in
      record {
        answered = h.answered;
        in_turn = h.in_turn;
        first = h.files_are ∙ ap (λ k. take k (map string_bytes files)) (sym many);
        whole = inl (many ∙ sym all ∙ sym (length-map files string_bytes));
        greatest = h.greatest;
      }

  pub stopped : (files : List (String Global)) (place : ℕ) (file : String Global) (status : Status) (old now new : S) (n : ℕ) → place < length files → file ≡ get_or files place file
      → AnsweredSoFar files place old now n → answers now (string_bytes file) status new → status ≡ WriteFault
      → AnswersAll answers (map string_bytes files) old new (max n (status_number status))
  unfolding so_far_one
  stopped files place file status old now new n lt is h k fault =
      let one = so_far_one files place file status old now new n lt is h k in
      record {
        answered = one.answered;
        in_turn = one.in_turn;
        first = one.files_are ∙ ap (λ i. take i (map string_bytes files)) (sym (so-many files (place + 1) old new (max n (status_number status)) (omega (arith, lt)) one));
        whole = inr (subst (λ s. Contains (map (λ a. a.1) one.answered) s) fault
            (subst (λ ss. Contains ss status) (sym (map_push (λ a. a.1) h.answered (string_bytes file, status))) (Contains-push (map (λ a. a.1) h.answered) status)));
        greatest = one.greatest;
      }

  pub of_none : (files : List (String Global)) (status : Status) (old new : S) → length files ≡ 0 → answers old (codes "-") status new
      → AnswersAll answers (files_read files) old new (status_number status)
  of_none [] status old new none h = record {
    answered = (codes "-", status) ∷ [];
    in_turn = (new, h, refl);
    first = refl;
    whole = inl refl;
    greatest =
        let e : max 0 (status_number status) ≡ status_number status = max-eq_right (omega arith) in
        subst (λ k. IsGreatest (status_number status ∷ []) k) e (greatest-push [] 0 (status_number status) none-greatest);
  }
  of_none (file ∷ files) status old new none h = absurd (omega (arith, none))

  pub of_some : (files : List (String Global)) (old new : S) (n : ℕ) → 0 < length files → AnswersAll answers (map string_bytes files) old new n
      → AnswersAll answers (files_read files) old new n
  of_some [] old new n some h = absurd (omega (arith, some))
  of_some (file ∷ files) old new n some h = h
