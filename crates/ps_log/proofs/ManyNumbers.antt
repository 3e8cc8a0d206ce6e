-- Numbers of a line, one after another.
use Rattle.std.proofs.Common.{◌≡◌, ℕ, ℤ, pos, suc, ◌+◌, ◌<◌, ◌≤◌, List, [], ◌∷◌, ◌++◌, length, take, drop, min, refl, ap, ◌∙◌, arith, length-append, get_or}
use Rattle.std.specs.List.{flat_map}
use Rattle.std.specs.Fmt.{signed_decimal}
use Rattle.std.proofs.lemmas.List.Sums.{fold-append}
use Rattle.ps_io.specs.LineText.{with_word}
use Rattle.ps_io.proofs.CallerLemmas.{flat_map-at}
use Rattle.ps_io.specs.Lines.{text_of}
use Rattle.ps_io.specs.declared.lines.Lines.{Lines}
use Rattle.ps_pb.specs.Weights.{Weighted}
use Rattle.ps_log.specs.Lines.{HoldsLine}
use Rattle.ps_log.specs.Texts.{with_number, with_numbers, hint_numbers, term_numbers, step_numbers, goal_numbers}

less : {a b : ℕ} → a ≤ b → b < 65536 → a < 65536
less p h = omega (arith, p, h)

-- a word that leaves a line short fits
pub word_fits : (text word : List ℕ) → length (with_word text word) < 65536 → length text + min 40 (length word) < 65536
word_fits [] word h = omega (arith, h)
word_fits (x ∷ xs) word h = omega (arith, h, length-append (x ∷ xs) (32 ∷ word))

-- a line doesn't shrink
grows : (text word : List ℕ) → length text ≤ length (with_word text word)
grows [] word = omega arith
grows (x ∷ xs) word = omega (arith, length-append (x ∷ xs) (32 ∷ word))

pub grows_all : (text : List ℕ) (ns : List ℤ) → length text ≤ length (with_numbers text ns)
grows_all text [] = omega arith
grows_all text (n ∷ ns) = omega (arith, grows text (signed_decimal n), grows_all (with_number text n) ns)

-- the first numbers of a short line leave it short
pub first_short : (text : List ℕ) (ms ns : List ℤ) → length (with_numbers text (ms ++ ns)) < 65536 → length (with_numbers text ms) < 65536
first_short text ms ns h =
    let joined : length (with_numbers (with_numbers text ms) ns) < 65536 = rw (← fold-append with_number text ms ns) h in
    omega (arith, grows_all (with_numbers text ms) ns, joined)

module _ {X : Type 0} (f : X → List ℤ) (text : List ℕ) (xs : List X) (i : ℕ) (x d : X) (lt : i < length xs) (is : x ≡ get_or xs i d) where
  -- one more item leaves the line short where all do
  pub item_short : length (with_numbers text (flat_map f xs)) < 65536 → length (with_numbers (with_numbers text (flat_map f (take i xs))) (f x)) < 65536
  item_short h =
      let parts : length (with_numbers text ((flat_map f (take i xs) ++ f x) ++ flat_map f (drop (suc i) xs))) < 65536 = rw (← flat_map-at f xs i x d lt is) h in
      let short : length (with_numbers text (flat_map f (take i xs) ++ f x)) < 65536 = first_short text (flat_map f (take i xs) ++ f x) (flat_map f (drop (suc i) xs)) parts in
      rw (← fold-append with_number text (flat_map f (take i xs)) (f x)) short

-- literals as numbers
each_number : (ns : List ℤ) → flat_map (λ n. n ∷ []) ns ≡ ns
each_number [] = refl
each_number (n ∷ ns) = ap (λ r. n ∷ r) (each_number ns)

pub lit_short : (text : List ℕ) (lits : List ℤ) (i : ℕ) (x d : ℤ) → i < length lits → x ≡ get_or lits i d → length (with_numbers text lits) < 65536
    → length (with_number (with_numbers text (take i lits)) x) < 65536
lit_short text lits i x d lt is h =
    let whole : length (with_numbers text (flat_map (λ n. n ∷ []) lits)) < 65536 = rw (each_number lits) h in
    let short : length (with_number (with_numbers text (flat_map (λ n. n ∷ []) (take i lits))) x) < 65536 = item_short (λ n. n ∷ []) text lits i x d lt is whole in
    rw (← each_number (take i lits)) short

-- what a call adds to a line that another call left
pub holds_more : {O : Type 0} (f : List ℕ → List ℕ) (a b c : Lines O) (t : List ℕ) → HoldsLine a b t → HoldsLine b c (f (text_of b)) → HoldsLine a c (f t)
holds_more f a b c t p q = record {
  same_reference = q.same_reference ∙ p.same_reference;
  same_mark = q.same_mark ∙ p.same_mark;
  nothing_written = q.nothing_written ∙ p.nothing_written;
  line = q.line ∙ ap f p.line;
}

module _ (text : List ℕ) (id : ℕ) (lits : List ℤ) (hints : List ℕ) where
  abbrev pub with_id : List ℕ
  with_id = with_number text (pos id)

  abbrev pub with_lits : List ℕ
  with_lits = with_numbers with_id lits

  abbrev pub with_middle : List ℕ
  with_middle = with_number with_lits (pos 0)

  abbrev pub with_hints : List ℕ
  with_hints = with_numbers with_middle (hint_numbers hints)

  -- a step's line in its parts
  pub step_parts : with_numbers text (step_numbers id lits hints) ≡ with_number with_hints (pos 0)
  step_parts =
      fold-append with_number with_id lits (pos 0 ∷ (hint_numbers hints ++ pos 0 ∷ []))
      ∙ fold-append with_number with_middle (hint_numbers hints) (pos 0 ∷ [])

  module _ (h : length (with_numbers text (step_numbers id lits hints)) < 65536) where
    pub step_short : length (with_number with_hints (pos 0)) < 65536
    step_short = rw (← step_parts) h

    pub hints_short : length with_hints < 65536
    hints_short = less (grows with_hints (signed_decimal (pos 0))) step_short

    pub middle_short : length with_middle < 65536
    middle_short = less (grows_all with_middle (hint_numbers hints)) hints_short

    pub lits_short : length with_lits < 65536
    lits_short = less (grows with_lits (signed_decimal (pos 0))) middle_short

    pub id_short : length with_id < 65536
    id_short = less (grows_all with_id lits) lits_short

module _ (text : List ℕ) (degree : ℤ) (terms : Weighted) where
  abbrev pub with_degree : List ℕ
  with_degree = with_number text degree

  abbrev pub with_terms : List ℕ
  with_terms = with_numbers with_degree (term_numbers terms)

  -- a goal's line in its parts
  pub goal_parts : with_numbers text (goal_numbers degree terms) ≡ with_number with_terms (pos 0)
  goal_parts = fold-append with_number with_degree (term_numbers terms) (pos 0 ∷ [])

  module _ (h : length (with_numbers text (goal_numbers degree terms)) < 65536) where
    pub goal_short : length (with_number with_terms (pos 0)) < 65536
    goal_short = rw (← goal_parts) h

    pub terms_short : length with_terms < 65536
    terms_short = less (grows with_terms (signed_decimal (pos 0))) goal_short

    pub degree_short : length with_degree < 65536
    degree_short = less (grows_all with_degree (term_numbers terms)) terms_short
