-- One token more, within a formula.
use Rattle.std.proofs.Common.{◌≡◌, ℕ, ◌<◌, ◌≤◌, Bool, true, false, not, ◌&&◌, ◌||◌, List, [], ◌∷◌, ◌++◌, length, Option, Some, None, refl, sym, ap, subst, ◌∙◌, arith, add-one, append_assoc, append-nil, true≢false, is_some}
use Rattle.std.proofs.lemmas.Bool.Decides.{nat_tests}
use Rattle.std.proofs.lemmas.Slice.Eq.{bytes_eq-Decides}
use Rattle.std.specs.Prelude.{bytes_eq, codes, if◌then◌else◌, nat_lt}
use Rattle.std.specs.List.{list_any}
use Rattle.ps_text.specs.Tokens.{Token, Word, Number, Sign, Open, Close, Bang, Ampersand, Bar, Arrow, DoubleArrow, is_the_sign, is_the_word}
use Rattle.ps_text.specs.declared.kind.ReadKind.TheVariants.{TooDeep}
use Rattle.ps_text.specs.declared.limits.TheConstants.{MOST_OPEN}
use Rattle.ps_text.specs.Grammar.{is_reserved, FormulaSyntax, Name, Truth, Falsity, Group, spelled, level, IsWellFormed, Nests, TextSyntax, alone, prob_tokens, coefficient_tokens, IsGiven, IsProb, IsWellFormedText, tokens_up_to}
use Rattle.ps_text.specs.declared.part.Part.TheVariants as part
use Rattle.ps_text.specs.declared.part.Opening.{Opening}
use Rattle.ps_text.specs.declared.part.Opening.TheVariants as opening
use Rattle.ps_text.specs.ExpectedTokens.{is_operand_word, is_connective, is_group, may_be_given, is_too_long, without_arrows, prob_ended, closed, after}
use Rattle.ps_text.proofs.Spans.{not_true, both}
use Rattle.ps_text.proofs.Signs.{the_word, the_sign, Either, First, Second, either}
use Rattle.ps_text.specs.BegunFormulas.{Frame, BegunNot, BegunGroup, BegunAnd, BegunOr, BegunImplies, BegunIff, frame_tokens, opened_of, required_level, IsNextOperand, joins}
use Rattle.ps_text.proofs.Frames.{most_required, joins_tokens, joins_fits, joins_level, joins_need, joins_settled, nots_opened, and_opened, or_opened, all_opened, all_joined}
use Rattle.ps_text.specs.PartialParses.{Lead, OfSentence, OfQuery, OfTerm, InOperand, InOperator, prob_of, lead_linear, in_prob, state_of, begun_terms, prob_lead, given_lead, formula_lead, parsed_tokens, IsGivenBehind, IsLead, IsExtendedBy, IsParse, operand_of, behind_prob, behind_close}
use Rattle.ps_text.proofs.Steps.{Passed, unless}

-- an operand of the tightest level
record IsOperand (w : List ℕ) (f : FormulaSyntax) : Type 0 where
  is : spelled f ≡ Word w ∷ []
  formula : IsWellFormed f
  nests : (n : ℕ) → Nests n f
  tight : 5 ≤ level f

the_operand : (w : List ℕ) → is_too_long (Word w) ≡ false → is_operand_word (Word w) ≡ true → IsOperand w (operand_of w)
the_operand w short h = by (bytes_eq w (codes "true")) refl (bytes_eq w (codes "false")) refl
  where
    name : (r : Bool) → is_reserved w ≡ r → (not r || bytes_eq w (codes "true") || bytes_eq w (codes "false")) ≡ true → bytes_eq w (codes "true") ≡ false → bytes_eq w (codes "false") ≡ false → is_reserved w ≡ false
    name false e h a b = e
    name true e h a b = absurd (true≢false (sym h ∙ ap (λ x. false || x || bytes_eq w (codes "false")) a ∙ b))

    by : (a : Bool) → bytes_eq w (codes "true") ≡ a → (b : Bool) → bytes_eq w (codes "false") ≡ b → IsOperand w (if a then Truth else (if b then Falsity else Name w))
    by true e b f = record { is = ap (λ u. Word u ∷ []) (sym ((bytes_eq-Decides w (codes "true")).0 e)); formula = tt; nests = λ n. tt; tight = omega arith }
    by false e true f = record { is = ap (λ u. Word u ∷ []) (sym ((bytes_eq-Decides w (codes "false")).0 f)); formula = tt; nests = λ n. tt; tight = omega arith }
    by false e false f = record { is = refl; formula = (name (is_reserved w) refl h e f, grind (arith, nat_tests)); nests = λ n. tt; tight = omega arith }

-- the nesting that is opened is within the limit
room : (n : ℕ) → unless (nat_lt n MOST_OPEN) TooDeep ≡ None → n < MOST_OPEN
room n h = by (nat_lt n MOST_OPEN) refl h
  where
    by : (b : Bool) → nat_lt n MOST_OPEN ≡ b → unless b TooDeep ≡ None → n < MOST_OPEN
    by true e h = grind (arith, nat_tests)
    by false e h = absurd (true≢false (ap is_some h))

fault_room : (b : Bool) → (if not b then Some TooDeep else None) ≡ None → unless b TooDeep ≡ None
fault_room true h = refl
fault_room false h = absurd (true≢false (ap is_some h))

pub at_operand : (es : TextSyntax) (q : Lead) (c : Option FormulaSyntax) (fs : List Frame) (t : Token) → IsParse (InOperand es q c fs) → Passed (state_of (InOperand es q c fs)) t → IsExtendedBy (InOperand es q c fs) t
unfolding after
at_operand es q c fs t s h = by (either (is_operand_word t || is_the_sign Bang t) (is_the_sign Open t) h.expected)
  where
    word : (u : Token) → is_too_long u ≡ false → is_operand_word u ≡ true → IsExtendedBy (InOperand es q c fs) u
    word (Number x) l e = absurd (true≢false (sym e))
    word (Sign x) l e = absurd (true≢false (sym e))
    word (Word w) l e =
        let o = the_operand w l e in
        let fits : IsNextOperand fs (operand_of w) = record { needed = omega (arith, most_required fs, o.tight); formula = o.formula; nests = o.nests (length (opened_of fs)); frames = s.2 } in
        record {
          state = ap (λ os. in_prob part.Operator es q (is_some c) os) (nots_opened fs (operand_of w) s.2);
          tokens = ap (λ ts. formula_lead es q c ++ ts) (joins_tokens 5 fs (operand_of w) (omega arith) ∙ ap (λ ts. frame_tokens fs ++ ts) o.is)
              ∙ sym (append_assoc (formula_lead es q c) (frame_tokens fs) (Word w ∷ []));
          within = (s.0, s.1, joins_fits 5 fs (operand_of w) (omega arith) fits, joins_settled 5 fs (operand_of w) (omega arith), joins_level 5 fs (operand_of w) (omega arith) o.tight);
        }

    sign : Either (is_operand_word t) (is_the_sign Bang t) → IsExtendedBy (InOperand es q c fs) t
    sign (First e) = word t h.short e
    sign (Second e) =
        let deep : Passed (state_of (InOperand es q c fs)) (Sign Bang) = subst (λ u. Passed (state_of (InOperand es q c fs)) u) (the_sign Bang t e) h in
        subst (λ u. IsExtendedBy (InOperand es q c fs) u) (sym (the_sign Bang t e)) (record {
          state = refl;
          tokens = sym (append_assoc (formula_lead es q c) (frame_tokens fs) (Sign Bang ∷ []));
          within = (s.0, s.1, (room (length (opened_of fs)) (fault_room (nat_lt (length (opened_of fs)) MOST_OPEN) deep.fault), s.2));
        })

    by : Either (is_operand_word t || is_the_sign Bang t) (is_the_sign Open t) → IsExtendedBy (InOperand es q c fs) t
    by (First e) = sign (either (is_operand_word t) (is_the_sign Bang t) e)
    by (Second e) =
        let deep : Passed (state_of (InOperand es q c fs)) (Sign Open) = subst (λ u. Passed (state_of (InOperand es q c fs)) u) (the_sign Open t e) h in
        subst (λ u. IsExtendedBy (InOperand es q c fs) u) (sym (the_sign Open t e)) (record {
          state = refl;
          tokens = sym (append_assoc (formula_lead es q c) (frame_tokens fs) (Sign Open ∷ []));
          within = (s.0, s.1, (room (length (opened_of fs)) (fault_room (nat_lt (length (opened_of fs)) MOST_OPEN) deep.fault), s.2));
        })

-- the last tokens of what was parsed
last_two : (l x : List Token) (t : Token) (y : List Token) → y ≡ x → l ++ (y ++ t ∷ []) ≡ (l ++ x) ++ t ∷ []
last_two l x t y e = ap (λ ts. l ++ (ts ++ t ∷ [])) e ∙ sym (append_assoc l x (t ∷ []))

prob_sound : (c : Option FormulaSyntax) (f : FormulaSyntax) → IsGiven c → IsWellFormed f → Nests 0 f → IsProb (prob_of c f)
prob_sound None f g i n = record { formula = i; nests = n; given = tt }
prob_sound (Some h) f g i n = record { formula = g.0; nests = g.1; given = (i, n) }

-- where a probability ends
prob_tokens_end : (c : Option FormulaSyntax) (f : FormulaSyntax) → prob_tokens (prob_of c f) ≡ ((Word (codes "P") ∷ []) ++ (Sign Open ∷ given_lead c)) ++ spelled f ++ Sign Close ∷ []
prob_tokens_end None f = ap (λ ts. Word (codes "P") ∷ Sign Open ∷ (ts ++ Sign Close ∷ [])) (append-nil (spelled f))
prob_tokens_end (Some g) f = ap (λ ts. Word (codes "P") ∷ Sign Open ∷ (ts ++ Sign Close ∷ [])) (sym (append_assoc (spelled g) (Word (codes "given") ∷ []) (spelled f)))

-- the tokens before a probability, its own, and its `)`
lead_end : (es : TextSyntax) (lead : List Token) (c : Option FormulaSyntax) (f : FormulaSyntax)
    → tokens_up_to es ++ (lead ++ prob_tokens (prob_of c f)) ≡ (tokens_up_to es ++ ((lead ++ Word (codes "P") ∷ []) ++ (Sign Open ∷ given_lead c))) ++ spelled f ++ Sign Close ∷ []
lead_end es lead c f =
    let p : List Token = Word (codes "P") ∷ [] in
    let g : List Token = Sign Open ∷ given_lead c in
    ap (λ ts. tokens_up_to es ++ (lead ++ ts)) (prob_tokens_end c f)
    ∙ ap (λ ts. tokens_up_to es ++ ts) (sym (append_assoc lead ((p ++ g) ++ spelled f) (Sign Close ∷ [])) ∙ ap (λ ts. ts ++ Sign Close ∷ []) (sym (append_assoc lead (p ++ g) (spelled f)) ∙ ap (λ ts. ts ++ spelled f) (sym (append_assoc lead p g))))
    ∙ sym (append_assoc (tokens_up_to es) (((lead ++ p) ++ g) ++ spelled f) (Sign Close ∷ []))
    ∙ ap (λ ts. ts ++ Sign Close ∷ []) (sym (append_assoc (tokens_up_to es) ((lead ++ p) ++ g) (spelled f)))

-- behind the `)` of a probability
prob_close : (es : TextSyntax) (q : Lead) (c : Option FormulaSyntax) (f : FormulaSyntax) → IsGivenBehind q c
    → parsed_tokens (behind_prob es q c f) ≡ formula_lead es q c ++ spelled f ++ Sign Close ∷ []
prob_close es OfQuery c f g = lead_end es (Word (codes "query") ∷ []) c f
prob_close es OfSentence c f g = lead_end es [] c f
prob_close es (OfTerm ts m k) None f g =
    ap (λ us. tokens_up_to es ++ us) (sym (append_assoc (begun_terms ts m) (coefficient_tokens k) (prob_tokens (alone f))))
    ∙ lead_end es (begun_terms ts m ++ coefficient_tokens k) None f
    ∙ ap (λ us. (tokens_up_to es ++ (us ++ (Sign Open ∷ []))) ++ spelled f ++ Sign Close ∷ []) (append_assoc (begun_terms ts m) (coefficient_tokens k) (Word (codes "P") ∷ []))
prob_close es (OfTerm ts m k) (Some c) f g = absurd (true≢false (ap is_some g))

prob_state : (es : TextSyntax) (q : Lead) (c : Option FormulaSyntax) (f : FormulaSyntax) → IsGivenBehind q c
    → state_of (behind_prob es q c f) ≡ prob_ended (in_prob part.Operator es q (is_some c) [])
prob_state es OfQuery c f g = refl
prob_state es OfSentence None f g = refl
prob_state es OfSentence (Some c) f g = refl
prob_state es (OfTerm ts m k) c f g = ap (λ x. prob_ended (in_prob part.Operator es (OfTerm ts m k) x [])) (sym (ap is_some g))

prob_parse : (es : TextSyntax) (q : Lead) (c : Option FormulaSyntax) (f : FormulaSyntax) → IsWellFormedText es × IsLead es q → IsGivenBehind q c → IsWellFormed f → Nests 0 f
    → IsParse (behind_prob es q c f)
prob_parse es OfQuery c f s g i n = (s.0, prob_sound c f g i n)
prob_parse es OfSentence c f s g i n = (s.0, prob_sound c f g i n)
prob_parse es (OfTerm ts m k) c f s g i n = (s.0, (s.1.0, s.1.1, record { coefficient = s.1.2; formula = i; nests = n }))

-- what a `)` gives, where all is joined that is begun behind its `(`
record Closes (es : TextSyntax) (q : Lead) (c : Option FormulaSyntax) (fs : List Frame) (f : FormulaSyntax) : Type 0 where
  state : state_of (behind_close es q c fs f) ≡ closed (in_prob part.Operator es q (is_some c) []) (opened_of fs)
  tokens : parsed_tokens (behind_close es q c fs f) ≡ formula_lead es q c ++ (frame_tokens fs ++ spelled f ++ Sign Close ∷ [])
  within : IsParse (behind_close es q c fs f)

closes : (es : TextSyntax) (q : Lead) (c : Option FormulaSyntax) (fs : List Frame) (f : FormulaSyntax) → IsWellFormedText es × IsLead es q → IsGivenBehind q c → required_level fs ≤ 1 → IsNextOperand fs f → Closes es q c fs f
closes es q c [] f s g n i = record {
  state = prob_state es q c f g;
  tokens = prob_close es q c f g ∙ append_assoc (formula_lead es q c) (spelled f) (Sign Close ∷ []);
  within = prob_parse es q c f s g i.formula i.nests;
}
closes es q c (BegunGroup ∷ fs) f s g n i =
    let fits : IsNextOperand fs (Group f) = record { needed = most_required fs; formula = i.formula; nests = (i.frames.0, subst (λ k. Nests k f) (sym (add-one (length (opened_of fs)))) i.nests); frames = i.frames.1 } in
    record {
      state = ap (λ os. in_prob part.Operator es q (is_some c) os) (nots_opened fs (Group f) i.frames.1);
      tokens = ap (λ ts. formula_lead es q c ++ ts)
          (joins_tokens 5 fs (Group f) (omega arith)
          ∙ sym (append_assoc (frame_tokens fs) (Sign Open ∷ spelled f) (Sign Close ∷ []))
          ∙ ap (λ ts. ts ++ Sign Close ∷ []) (sym (append_assoc (frame_tokens fs) (Sign Open ∷ []) (spelled f))));
      within = (s, g, joins_fits 5 fs (Group f) (omega arith) fits, joins_settled 5 fs (Group f) (omega arith), joins_level 5 fs (Group f) (omega arith) (omega arith));
    }
closes es q c (BegunNot ∷ fs) f s g n i = absurd (omega (arith, n))
closes es q c (BegunAnd h ∷ fs) f s g n i = absurd (omega (arith, n))
closes es q c (BegunOr h ∷ fs) f s g n i = absurd (omega (arith, n))
closes es q c (BegunImplies h ∷ fs) f s g n i = absurd (omega (arith, n))
closes es q c (BegunIff h ∷ fs) f s g n i = absurd (omega (arith, n))

at_close : (es : TextSyntax) (q : Lead) (c : Option FormulaSyntax) (fs : List Frame) (f : FormulaSyntax) → IsParse (InOperator es q c fs f) → IsExtendedBy (InOperator es q c fs f) (Sign Close)
unfolding after
at_close es q c fs f s =
    let gs = (joins 1 fs f).0 in
    let g = (joins 1 fs f).1 in
    let x = closes es q c gs g s.0 s.1 (joins_need 1 fs f (omega arith)) (joins_fits 1 fs f (omega arith) s.2) in
    record {
      state = x.state ∙ ap (λ os. closed (in_prob part.Operator es q (is_some c) []) os) (all_opened fs f s.3 s.2.frames) ∙ closed_same (opened_of fs) (without_arrows (opened_of fs));
      tokens = x.tokens ∙ last_two (formula_lead es q c) (frame_tokens fs ++ spelled f) (Sign Close) (frame_tokens gs ++ spelled g) (joins_tokens 1 fs f (omega arith));
      within = x.within;
    }
  where
    closed_same : (os us : List Opening) → closed (in_prob part.Operator es q (is_some c) []) us ≡ closed (in_prob part.Operator es q (is_some c) os) us
    closed_same os [] = refl
    closed_same os (u ∷ us) = refl

at_and : (es : TextSyntax) (q : Lead) (c : Option FormulaSyntax) (fs : List Frame) (f : FormulaSyntax) → IsParse (InOperator es q c fs f) → IsExtendedBy (InOperator es q c fs f) (Sign Ampersand)
unfolding after
at_and es q c fs f s =
    let i = joins_fits 4 fs f (omega arith) s.2 in
    record {
      state = ap (λ os. in_prob part.Operand es q (is_some c) os) (and_opened fs f s.3 s.2.frames);
      tokens = last_two (formula_lead es q c) (frame_tokens fs ++ spelled f) (Sign Ampersand) (frame_tokens (joins 4 fs f).0 ++ spelled (joins 4 fs f).1) (joins_tokens 4 fs f (omega arith));
      within = (s.0, s.1, (joins_need 4 fs f (omega arith), record { tight = joins_level 4 fs f (omega arith) (omega (arith, s.4)); formula = i.formula; nests = i.nests }, i.frames));
    }

at_or : (es : TextSyntax) (q : Lead) (c : Option FormulaSyntax) (fs : List Frame) (f : FormulaSyntax) → IsParse (InOperator es q c fs f) → IsExtendedBy (InOperator es q c fs f) (Sign Bar)
unfolding after
at_or es q c fs f s =
    let i = joins_fits 3 fs f (omega arith) s.2 in
    record {
      state = ap (λ os. in_prob part.Operand es q (is_some c) os) (or_opened fs f s.3 s.2.frames);
      tokens = last_two (formula_lead es q c) (frame_tokens fs ++ spelled f) (Sign Bar) (frame_tokens (joins 3 fs f).0 ++ spelled (joins 3 fs f).1) (joins_tokens 3 fs f (omega arith));
      within = (s.0, s.1, (omega (arith, joins_need 3 fs f (omega arith)), record { tight = joins_level 3 fs f (omega arith) (omega (arith, s.4)); formula = i.formula; nests = i.nests }, i.frames));
    }

at_implies : (es : TextSyntax) (q : Lead) (c : Option FormulaSyntax) (fs : List Frame) (f : FormulaSyntax) → IsParse (InOperator es q c fs f) → length (opened_of fs) < MOST_OPEN → IsExtendedBy (InOperator es q c fs f) (Sign Arrow)
unfolding after
at_implies es q c fs f s l =
    let i = joins_fits 3 fs f (omega arith) s.2 in
    let o : opened_of (joins 3 fs f).0 ≡ opened_of fs = or_opened fs f s.3 s.2.frames in
    record {
      state = ap (λ os. in_prob part.Operand es q (is_some c) (opening.Arrow ∷ os)) o;
      tokens = last_two (formula_lead es q c) (frame_tokens fs ++ spelled f) (Sign Arrow) (frame_tokens (joins 3 fs f).0 ++ spelled (joins 3 fs f).1) (joins_tokens 3 fs f (omega arith));
      within = (s.0, s.1, (joins_need 3 fs f (omega arith), record { tight = joins_level 3 fs f (omega arith) (omega (arith, s.4)); formula = i.formula; nests = i.nests }, subst (λ os. length os < MOST_OPEN) (sym o) l, i.frames));
    }

at_iff : (es : TextSyntax) (q : Lead) (c : Option FormulaSyntax) (fs : List Frame) (f : FormulaSyntax) → IsParse (InOperator es q c fs f) → IsExtendedBy (InOperator es q c fs f) (Sign DoubleArrow)
unfolding after
at_iff es q c fs f s =
    let i = joins_fits 1 fs f (omega arith) s.2 in
    record {
      state = ap (λ os. in_prob part.Operand es q (is_some c) os) (all_opened fs f s.3 s.2.frames);
      tokens = last_two (formula_lead es q c) (frame_tokens fs ++ spelled f) (Sign DoubleArrow) (frame_tokens (joins 1 fs f).0 ++ spelled (joins 1 fs f).1) (joins_tokens 1 fs f (omega arith));
      within = (s.0, s.1, (joins_need 1 fs f (omega arith), record { tight = joins_level 1 fs f (omega arith) (omega (arith, s.4)); formula = i.formula; nests = i.nests }, i.frames));
    }

-- a condition stands in no term
given_behind : (q : Lead) (f : FormulaSyntax) → is_some (lead_linear q) ≡ false → IsGiven (Some f) → IsGivenBehind q (Some f)
given_behind OfQuery f l i = i
given_behind OfSentence f l i = i
given_behind (OfTerm ts m k) f l i = absurd (true≢false l)

at_given : (es : TextSyntax) (q : Lead) (c : Option FormulaSyntax) (fs : List Frame) (f : FormulaSyntax) → IsParse (InOperator es q c fs f) → list_any is_group (opened_of fs) ≡ false → is_some c ≡ false → is_some (lead_linear q) ≡ false
    → IsExtendedBy (InOperator es q c fs f) (Word (codes "given"))
unfolding after
at_given es q (Some h) fs f s n m l = absurd (true≢false m)
at_given es q None fs f s n m l =
    let i = joins_fits 1 fs f (omega arith) s.2 in
    let e : (joins 1 fs f).0 ≡ [] = all_joined fs f s.3 s.2.frames n in
    let g = (joins 1 fs f).1 in
    record {
      state = refl;
      tokens = append-nil (formula_lead es q (Some g))
          ∙ given_more es q g
          ∙ last_two (formula_lead es q None) (frame_tokens fs ++ spelled f) (Word (codes "given")) (spelled g)
          (ap (λ xs. frame_tokens xs ++ spelled g) (sym e) ∙ joins_tokens 1 fs f (omega arith));
      within = (s.0, given_behind q g l (i.formula, subst (λ xs. Nests (length (opened_of xs)) g) e i.nests), tt);
    }
  where
    given_more : (es : TextSyntax) (q : Lead) (g : FormulaSyntax) → formula_lead es q (Some g) ≡ formula_lead es q None ++ (spelled g ++ Word (codes "given") ∷ [])
    given_more es q g = ap (λ ts. tokens_up_to es ++ ts) (sym (append_assoc (prob_lead q) (Sign Open ∷ []) (spelled g ++ Word (codes "given") ∷ []))) ∙ sym (append_assoc (tokens_up_to es) (prob_lead q ++ Sign Open ∷ []) (spelled g ++ Word (codes "given") ∷ []))

pub at_operator : (es : TextSyntax) (q : Lead) (c : Option FormulaSyntax) (fs : List Frame) (f : FormulaSyntax) (t : Token) → IsParse (InOperator es q c fs f) → Passed (state_of (InOperator es q c fs f)) t → IsExtendedBy (InOperator es q c fs f) t
at_operator es q c fs f t s h = by (either (is_connective t || is_the_sign Close t) (may_be_given (state_of (InOperator es q c fs f)) && is_the_word (codes "given") t) h.expected)
  where
    arrow : t ≡ Sign Arrow → IsExtendedBy (InOperator es q c fs f) t
    arrow e =
        let deep : Passed (state_of (InOperator es q c fs f)) (Sign Arrow) = subst (λ u. Passed (state_of (InOperator es q c fs f)) u) e h in
        subst (λ u. IsExtendedBy (InOperator es q c fs f) u) (sym e) (at_implies es q c fs f s (room (length (opened_of fs)) (fault_room (nat_lt (length (opened_of fs)) MOST_OPEN) deep.fault)))

    first : Either (is_the_sign Ampersand t) (is_the_sign Bar t) → IsExtendedBy (InOperator es q c fs f) t
    first (First e) = subst (λ u. IsExtendedBy (InOperator es q c fs f) u) (sym (the_sign Ampersand t e)) (at_and es q c fs f s)
    first (Second e) = subst (λ u. IsExtendedBy (InOperator es q c fs f) u) (sym (the_sign Bar t e)) (at_or es q c fs f s)

    second : Either (is_the_sign Ampersand t || is_the_sign Bar t) (is_the_sign Arrow t) → IsExtendedBy (InOperator es q c fs f) t
    second (First e) = first (either (is_the_sign Ampersand t) (is_the_sign Bar t) e)
    second (Second e) = arrow (the_sign Arrow t e)

    connective : Either (is_the_sign Ampersand t || is_the_sign Bar t || is_the_sign Arrow t) (is_the_sign DoubleArrow t) → IsExtendedBy (InOperator es q c fs f) t
    connective (First e) = second (either (is_the_sign Ampersand t || is_the_sign Bar t) (is_the_sign Arrow t) e)
    connective (Second e) = subst (λ u. IsExtendedBy (InOperator es q c fs f) u) (sym (the_sign DoubleArrow t e)) (at_iff es q c fs f s)

    signs : Either (is_connective t) (is_the_sign Close t) → IsExtendedBy (InOperator es q c fs f) t
    signs (First e) = connective (either (is_the_sign Ampersand t || is_the_sign Bar t || is_the_sign Arrow t) (is_the_sign DoubleArrow t) e)
    signs (Second e) = subst (λ u. IsExtendedBy (InOperator es q c fs f) u) (sym (the_sign Close t e)) (at_close es q c fs f s)

    by : Either (is_connective t || is_the_sign Close t) (may_be_given (state_of (InOperator es q c fs f)) && is_the_word (codes "given") t) → IsExtendedBy (InOperator es q c fs f) t
    by (First e) = signs (either (is_connective t) (is_the_sign Close t) e)
    by (Second e) =
        let b = both (may_be_given (state_of (InOperator es q c fs f))) (is_the_word (codes "given") t) e in
        let m = both (not (list_any is_group (opened_of fs))) (not (is_some c) && not (is_some (lead_linear q))) b.0 in
        let n = both (not (is_some c)) (not (is_some (lead_linear q))) m.1 in
        subst (λ u. IsExtendedBy (InOperator es q c fs f) u) (sym (the_word (codes "given") t b.1))
        (at_given es q c fs f s (not_true (list_any is_group (opened_of fs)) m.0) (not_true (is_some c) n.0) (not_true (is_some (lead_linear q)) n.1))
