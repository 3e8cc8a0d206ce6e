-- An answer as it goes.
use Rattle.std.proofs.Common.{◌≡◌, ◌∙◌, ℕ, ◌+◌, ◌<◌, ◌≤◌, Bool, true, false, List, [], ◌∷◌, ◌++◌, length, take, get_or, refl, sym, ap, subst, append_assoc, append-nil, inl, inr, arith}
use Rattle.std.specs.Prelude.{◌⊎◌, ◌&&◌, ◌||◌}
use Rattle.std.specs.List.{AllZip}
use Rattle.std.proofs.lemmas.List.{take_all}
use Rattle.std.proofs.lemmas.Slice.Zip.{AllZip-long}
use Rattle.ps_problem.specs.declared.query.Query.{Query}
use Rattle.ps_problem.specs.Problems.{Parts, AreParts}
use Rattle.ps_table.specs.declared.event.Event.{Event}
use Rattle.ps_answer.specs.declared.answer.Answer.{Answer}
use Rattle.ps_answer.specs.declared.answer.QueryPart.{QueryPart}
use Rattle.ps_answer.specs.declared.answer.Verdict.{Verdict}
use Rattle.ps_claims.specs.Validity.{IsValid, IsValidPart, IsValidVerdict}
use Rattle.ps_claims.proofs.Valid.{valid-right}
use Rattle.ps_valid.specs.Answers.{answer_of, part_of, parts_of, verdict_of}
use Rattle.ps_runs.specs.Verdicts.{asked_after}
use Rattle.ps_query.proofs.Reports.{asked_same}
use Rattle.ps_generation.specs.Phases.{AreLimits}
use Rattle.ps_query.proofs.Loops.{zip_next}
use Rattle.ps_guess.specs.Solutions.{IsAnsweredPart, IsAnsweredVerdict}
use Rattle.ps_guess.proofs.Settled.{solution, short}
use Rattle.ps_ask.specs.Details.{AreToldAsAsked, AreTrueOf, IsToldAsAsked, IsTrueOf}
use Rattle.ps_spoken.specs.declared.details.Details.{Details}
use Rattle.ps_spoken.specs.Spoken.{spoken, part_text, parts_text}
use Rattle.ps_spoken.specs.Quiet.{values_of}
use Rattle.ps_spoken.proofs.Values.{values-push}
use Rattle.ps_spoken.proofs.ExactLines.{exact-push}
use Rattle.ps_ask.specs.declared.settings.Settings.{Settings}
use Rattle.ps_ask.specs.declared.settings.Style.{Style}
use Rattle.ps_ask.specs.declared.settings.Style.TheVariants.{Words, Values, Exact, Json, Report}
use Rattle.ps_ask.specs.Late.{is_late, is_late_answer, is_late_in, is_late_verdict}
use Rattle.ps_ask.specs.Fronts.{AreShownParts, AreTrueAfter, AreTrueTo, IsBegunText, IsLatePart, IsLateVerdict, IsShownPart, IsShownVerdict, IsWhole, begun_text, part_piece, parts_pieces, verdict_piece}
use Rattle.ps_ask.specs.Replies.{AreShortInTime, ArePiecesFor, IsPiece, IsVerdictPiece}

-- ---- pieces
begun_is : (style : Style) (digits : ℕ) (p : Parts) (a : Answer) (rs : List Details) → begun_text style digits p a rs ≡ verdict_piece style a.verdict ++ parts_pieces style digits p a.parts rs
unfolding spoken values_of
begun_is Words digits p a rs = refl
begun_is Values digits p a rs = refl
begun_is Exact digits p a rs = refl
begun_is Json digits p a rs = refl
begun_is Report digits p a rs = refl

module _ (digits : ℕ) (p : Parts) where
  texts-none : (qs : List Query) (rs : List Details) → parts_text digits p qs [] rs ≡ []
  texts-none [] rs = refl
  texts-none (q ∷ qs) rs = refl

  texts-next : (qs : List Query) (parts : List QueryPart) (part : QueryPart) (rs : List Details) (r : Details) (d : Query) → length parts < length qs → length rs ≡ length parts
      → parts_text digits p qs (parts ++ part ∷ []) (rs ++ r ∷ []) ≡ parts_text digits p qs parts rs ++ part_text digits p (get_or qs (length parts) d) part r
  texts-next [] parts part rs r d lt same = absurd (omega (arith, lt))
  texts-next (q ∷ qs) [] part [] r d lt same = ap (λ t. part_text digits p q part r ++ t) (texts-none qs []) ∙ append-nil (part_text digits p q part r)
  texts-next (q ∷ qs) [] part (x ∷ rs) r d lt same = absurd (omega (arith, same))
  texts-next (q ∷ qs) (y ∷ parts) part [] r d lt same = absurd (omega (arith, same))
  texts-next (q ∷ qs) (y ∷ parts) part (x ∷ rs) r d lt same =
      ap (λ t. part_text digits p q y x ++ t) (texts-next qs parts part rs r d (omega (arith, lt)) (omega (arith, same)))
      ∙ sym (append_assoc (part_text digits p q y x) (parts_text digits p qs parts rs) (part_text digits p (get_or qs (length parts) d) part r))

pub pieces_none : (style : Style) (digits : ℕ) (p : Parts) (rs : List Details) → parts_pieces style digits p [] rs ≡ []
pieces_none Words digits p rs = texts-none digits p p.queries rs
pieces_none Values digits p rs = refl
pieces_none Exact digits p rs = refl
pieces_none Json digits p rs = refl
pieces_none Report digits p rs = refl

pieces_next : (style : Style) (digits : ℕ) (p : Parts) (parts : List QueryPart) (part : QueryPart) (rs : List Details) (r : Details) (d : Query)
    → length parts < length p.queries → length rs ≡ length parts
    → parts_pieces style digits p (parts ++ part ∷ []) (rs ++ r ∷ []) ≡ parts_pieces style digits p parts rs ++ part_piece style digits p (get_or p.queries (length parts) d) part r
pieces_next Words digits p parts part rs r d lt same = texts-next digits p p.queries parts part rs r d lt same
pieces_next Values digits p parts part rs r d lt same = values-push digits parts part
pieces_next Exact digits p parts part rs r d lt same = exact-push parts part
pieces_next Json digits p parts part rs r d lt same = refl
pieces_next Report digits p parts part rs r d lt same = refl

-- ---- parts, as far as they go
length-next : {A : Type 0} (xs : List A) (x : A) → length (xs ++ x ∷ []) ≡ length xs + 1
length-next [] x = refl
length-next (y ∷ xs) x = let h = length-next xs x in omega (arith, h)

-- what is told with each of some parts is as asked, and so it is with one more
asked-next : (s : Settings) (parts : List QueryPart) (rs : List Details) (part : QueryPart) (r : Details) → AreToldAsAsked s parts rs → IsToldAsAsked s part r
    → AreToldAsAsked s (parts ++ part ∷ []) (rs ++ r ∷ [])
asked-next s [] [] part r h k = (k, tt)
asked-next s [] (x ∷ rs) part r h k = absurd h
asked-next s (y ∷ parts) [] part r h k = absurd h
asked-next s (y ∷ parts) (x ∷ rs) part r h k = (h.0, asked-next s parts rs part r h.1 k)

-- the parts of the first queries, with what is told of each
pub record ArePartsTo (s : Settings) (p : Parts) (i : ℕ) (parts : List QueryPart) (rs : List Details) : Type 0 where
  pub count : length parts ≡ i
  pub shown : AreShownParts s p (take i p.queries) parts
  pub each : length rs ≡ i
  pub told : AreTrueTo p p.queries i rs
  pub asked : AreToldAsAsked s parts rs

pub pieces_begun : (s : Settings) (p : Parts) (i : ℕ) (parts : List QueryPart) (rs : List Details) → ArePartsTo s p i parts rs → ArePiecesFor s p p.queries (parts_pieces s.style s.digits p parts rs)
pieces_begun s p i parts rs h = record {
  parts = parts;
  details = rs;
  shown = subst (λ k. AreShownParts s p (take k p.queries) parts) (sym h.count) h.shown;
  told = subst (λ k. AreTrueTo p p.queries k rs) (sym h.count) h.told;
  asked = h.asked;
  is = refl;
}

module _ (s : Settings) (p : Parts) (i : ℕ) (parts : List QueryPart) (rs : List Details) (q d : Query) (are : ArePartsTo s p i parts rs) (is : q ≡ get_or p.queries i d) (lt : i < length p.queries) where
  pub parts_next : (part : QueryPart) (r : Details) → IsShownPart s p q part → IsTrueOf p q r → IsToldAsAsked s part r → ArePartsTo s p (i + 1) (parts ++ part ∷ []) (rs ++ r ∷ [])
  parts_next part r h k l = record {
    count = length-next parts part ∙ ap (λ k. k + 1) are.count;
    shown = zip_next (IsShownPart s p) p.queries parts i d part lt are.shown (subst (λ x. IsShownPart s p x part) is h);
    each = length-next rs r ∙ ap (λ k. k + 1) are.each;
    told = zip_next (IsTrueOf p) p.queries rs i d r lt are.told (subst (λ x. IsTrueOf p x r) is k);
    asked = asked-next s parts rs part r are.asked l;
  }

  pub text_next : (part : QueryPart) (r : Details)
      → parts_pieces s.style s.digits p (parts ++ part ∷ []) (rs ++ r ∷ []) ≡ parts_pieces s.style s.digits p parts rs ++ part_piece s.style s.digits p q part r
  text_next part r =
      let within : length parts < length p.queries = omega (arith, are.count, lt) in
      let same : length rs ≡ length parts = are.each ∙ sym are.count in
      let there : get_or p.queries (length parts) d ≡ q = ap (λ k. get_or p.queries k d) are.count ∙ sym is in
      pieces_next s.style s.digits p parts part rs r d within same ∙ ap (λ x. parts_pieces s.style s.digits p parts rs ++ part_piece s.style s.digits p x part r) there

  pub pieces_more : (text : List ℕ) → IsPiece s p q text → ArePiecesFor s p p.queries (parts_pieces s.style s.digits p parts rs ++ text)
  pieces_more text h =
      let next = parts_next h.part h.details h.shown h.told h.asked in
      record {
        parts = parts ++ h.part ∷ [];
        details = rs ++ h.details ∷ [];
        shown = subst (λ k. AreShownParts s p (take k p.queries) (parts ++ h.part ∷ [])) (sym next.count) next.shown;
        told = subst (λ k. AreTrueTo p p.queries k (rs ++ h.details ∷ [])) (sym next.count) next.told;
        asked = next.asked;
        is = ap (λ t. parts_pieces s.style s.digits p parts rs ++ t) h.is ∙ sym (text_next h.part h.details);
      }

pub parts_begin : (s : Settings) (p : Parts) → ArePartsTo s p 0 [] []
parts_begin s p = record { count = refl; shown = tt; each = refl; told = tt; asked = tt }

pub parts_end : (s : Settings) (p : Parts) (i : ℕ) (parts : List QueryPart) (rs : List Details) → ArePartsTo s p i parts rs → length p.queries ≤ i → AreShownParts s p p.queries parts
parts_end s p i parts rs h all = subst (λ qs. AreShownParts s p qs parts) (take_all i p.queries all) h.shown

pub told_end : (s : Settings) (p : Parts) (i : ℕ) (parts : List QueryPart) (rs : List Details) → ArePartsTo s p i parts rs → length p.queries ≤ i → AreTrueOf p p.queries rs
told_end s p i parts rs h all = subst (λ qs. AreTrueOf p qs rs) (take_all i p.queries all) h.told

-- ---- an answer under way
pub begun_verdict : (s : Settings) (p : Parts) (text : List ℕ) → IsVerdictPiece s p text → IsBegunText s p text
begun_verdict s p text h =
    let a : Answer = record { verdict = h.verdict; first = h.events; parts = [] } in
    record {
      answer = a;
      details = [];
      under_way = record { verdict = h.shown; parts = tt };
      told = tt;
      asked = tt;
      is = h.is ∙ sym (append-nil (verdict_piece s.style h.verdict)) ∙ ap (λ t. verdict_piece s.style h.verdict ++ t) (sym (pieces_none s.style s.digits p []))
          ∙ sym (begun_is s.style s.digits p a []);
    }

pub begun_after : (s : Settings) (p : Parts) (v : Verdict) (events : List Event) → IsShownVerdict s p v events → (text : List ℕ) → ArePiecesFor s p (asked_after v p.queries) text
    → IsBegunText s p (verdict_piece s.style v ++ text)
begun_after s p v events is text h =
    let a : Answer = record { verdict = v; first = events; parts = h.parts } in
    record {
      answer = a;
      details = h.details;
      under_way = record { verdict = is; parts = h.shown };
      told = h.told;
      asked = h.asked;
      is = ap (λ t. verdict_piece s.style v ++ t) h.is ∙ sym (begun_is s.style s.digits p a h.details);
    }

pub begun_whole : (s : Settings) (p : Parts) (a : Answer) (rs : List Details) → IsWhole s p a → AreTrueAfter p a.verdict rs → AreToldAsAsked s a.parts rs
    → IsBegunText s p (begun_text s.style s.digits p a rs)
begun_whole s p a rs h k asked =
    let long : length (asked_after a.verdict p.queries) ≡ length a.parts = sym (AllZip-long (IsShownPart s p) (asked_after a.verdict p.queries) a.parts h.parts) in
    let all : take (length a.parts) (asked_after a.verdict p.queries) ≡ asked_after a.verdict p.queries = take_all (length a.parts) (asked_after a.verdict p.queries) (omega (arith, long)) in
    record {
      answer = a;
      details = rs;
      under_way = record { verdict = h.verdict; parts = subst (λ qs. AreShownParts s p qs a.parts) (sym all) h.parts };
      told = subst (λ qs. AreTrueOf p qs rs) (sym all) k;
      asked = asked;
      is = refl;
    }

-- the text of a whole answer, from its pieces
pub begun_all : (style : Style) (digits : ℕ) (p : Parts) (v : Verdict) (events : List Event) (parts : List QueryPart) (rs : List Details)
    → verdict_piece style v ++ parts_pieces style digits p parts rs ≡ begun_text style digits p (record { verdict = v; first = events; parts = parts }) rs
begun_all style digits p v events parts rs = sym (begun_is style digits p (record { verdict = v; first = events; parts = parts }) rs)

-- ---- a whole answer
valid-part : (s : Settings) (p : Parts) (q : Query) (part : QueryPart) → IsShownPart s p q part → IsValidPart p q (part_of part.answer)
valid-part s p q part h = by h.judged
  where
    by : IsAnsweredPart s.limits p q part ⊎ IsLatePart s p q part → IsValidPart p q (part_of part.answer)
    by (inl answered) = answered.valid
    by (inr late) = late.valid

valid-verdict : (s : Settings) (p : Parts) (v : Verdict) (events : List Event) → IsAnsweredVerdict s.limits p v events ⊎ IsLateVerdict s v → IsValidVerdict p (verdict_of v)
valid-verdict s p v events (inl answered) = answered.valid
valid-verdict s p v events (inr late) = subst (λ w. IsValidVerdict p (verdict_of w)) (sym late.over) tt

valid-parts : (s : Settings) (p : Parts) (qs : List Query) (parts : List QueryPart) → AreShownParts s p qs parts → AllZip (IsValidPart p) qs (parts_of parts)
valid-parts s p [] [] h = tt
valid-parts s p [] (x ∷ xs) h = h
valid-parts s p (q ∷ qs) [] h = h
valid-parts s p (q ∷ qs) (x ∷ xs) h = (valid-part s p q x h.0, valid-parts s p qs xs h.1)

-- nothing is late
never : (b c : Bool) → b ≡ true → c ≡ true → (b && c) ≡ false → ⊥
never true true e f h = absurd (cc)
never true false e f h = absurd (cc)
never false c e f h = absurd (cc)

or-left : (b c : Bool) → (b || c) ≡ false → b ≡ false
or-left true c h = h
or-left false c h = refl

or-right : (b c : Bool) → (b || c) ≡ false → c ≡ false
or-right true c h = absurd (cc)
or-right false c h = h

and-right : (b c : Bool) → b ≡ true → (b && c) ≡ false → c ≡ false
and-right true c e h = h
and-right false c e h = absurd (cc)

answered-verdict : (s : Settings) (p : Parts) (v : Verdict) (events : List Event) (late : Bool) → (s.is_timed && (is_late_verdict v || late)) ≡ false
    → IsAnsweredVerdict s.limits p v events ⊎ IsLateVerdict s v → IsAnsweredVerdict s.limits p v events
answered-verdict s p v events late h (inl answered) = answered
answered-verdict s p v events late h (inr over) =
    absurd (never s.is_timed (is_late_verdict v || late) over.timed (ap (λ w. is_late_verdict w || late) over.over) h)

answered-part : (s : Settings) (p : Parts) (q : Query) (part : QueryPart) → (s.is_timed ≡ true → is_late_answer part.answer ≡ false)
    → IsAnsweredPart s.limits p q part ⊎ IsLatePart s p q part → IsAnsweredPart s.limits p q part
answered-part s p q part none (inl answered) = answered
answered-part s p q part none (inr late) = let h : is_late_answer part.answer ≡ false = none late.timed in let g = late.late in absurd (cc)

answered-parts : (s : Settings) (p : Parts) (qs : List Query) (parts : List QueryPart) → (s.is_timed ≡ true → is_late_in parts ≡ false) → AreShownParts s p qs parts
    → AllZip (IsAnsweredPart s.limits p) qs parts
answered-parts s p [] [] none h = tt
answered-parts s p [] (x ∷ xs) none h = h
answered-parts s p (q ∷ qs) [] none h = h
answered-parts s p (q ∷ qs) (x ∷ xs) none h = (
  answered-part s p q x (λ t. or-left (is_late_answer x.answer) (is_late_in xs) (none t)) (h.0).judged,
  answered-parts s p qs xs (λ t. or-right (is_late_answer x.answer) (is_late_in xs) (none t)) h.1,
)

module _ (s : Settings) (p : Parts) (v : Verdict) (events : List Event) (parts : List QueryPart) (is : IsShownVerdict s p v events) (each : AreShownParts s p (asked_after v p.queries) parts) (are : AreParts p) where
  abbrev a : Answer
  a = record { verdict = v; first = events; parts = parts }

  module _ (none : is_late s.is_timed a ≡ false) where
    known : IsAnsweredVerdict s.limits p v events
    known = answered-verdict s p v events (is_late_in parts) none is.judged

    all : AllZip (IsAnsweredPart s.limits p) (asked_after v p.queries) parts
    all = answered-parts s p (asked_after v p.queries) parts
        (λ t. or-right (is_late_verdict v) (is_late_in parts) (and-right s.is_timed (is_late_verdict v || is_late_in parts) t none)) each

  valid : IsValid p (answer_of a)
  valid = record {
    verdict = valid-verdict s p v events is.judged;
    parts = subst (λ qs. AllZip (IsValidPart p) qs (parts_of parts)) (sym (asked_same v p.queries)) (valid-parts s p (asked_after v p.queries) parts each);
  }

  pub whole : IsWhole s p a
  whole = record {
    verdict = is;
    parts = each;
    valid = valid;
    right = valid-right p (answer_of a) are valid;
    settled = λ none. solution s.limits p v events parts (known none) (all none) are;
  }

  pub short_in_time : AreLimits s.limits → AreShortInTime s.is_timed a
  short_in_time within none = short s.limits p v events parts (known none) (all none) are within
