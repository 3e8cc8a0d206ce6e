-- Words that lead from choices to others.
use Rattle.std.proofs.Common.{◌≡◌, ◌∙◌, ◌≢◌, ℕ, zero, suc, ◌+◌, ◌<◌, ◌≤◌, List, [], ◌∷◌, ◌++◌, length, drop, get_or, map, inl, inr, refl, sym, ap, subst, arith}
use Rattle.std.specs.Prelude.{codes, String, string_bytes}
use Rattle.std.specs.List.{Contains}
use Rattle.std.proofs.lemmas.List.{append-nil, append_assoc, drop_all, drop_more, get_or-map, length-map}
use Rattle.std.proofs.lemmas.List.Elements.{Contains-get_or}
use Rattle.std.specs.declared.alloc.Global.{Global}
use Rattle.psat_ask.specs.declared.options.Valued.{Valued}
use Rattle.psat_ask.specs.declared.request.Next.{Next}
use Rattle.psat_ask.specs.declared.request.Next.TheVariants as next
use Rattle.psat_ask.specs.declared.request.Reading.{Reading}
use Rattle.psat_ask.specs.declared.request.Request.{Request}
use Rattle.psat_ask.specs.declared.request.Request.TheVariants as request
use Rattle.psat_ask.specs.Options.{name_of}
use Rattle.psat_ask.specs.Choices.{Choices, choices_of, usual_choices, with_files}
use Rattle.psat_ask.specs.Requests.{Apart, AsksFor, Behind, File, Files, Flag, HasSettings, IsAskedBy, IsFile, IsNoValue, Joined, Nothing, SetBy, Sets, SetsFlag, SetsJoined, Took}

module _ (word : List ℕ) (old new : Reading) where
  abbrev c : Choices
  c = choices_of old.asked

  abbrev d : Choices
  d = choices_of new.asked

  -- from a place where options may stand
  took-word : old.next ≡ next.Word → ((words : List (List ℕ)) (e : Choices) → Behind new.next d words e → SetBy (word ∷ words) c e) → Took word old new
  took-word o h = record { leads = λ words e k. subst (λ (x : Next). Behind x c (word ∷ words) e) (sym o) (h words e k) }

  behind-word : new.next ≡ next.Word → (words : List (List ℕ)) (e : Choices) → Behind new.next d words e → SetBy words d e
  behind-word n words e k = subst (λ (x : Next). Behind x d words e) n k

  pub took_flag : old.next ≡ next.Word → new.next ≡ old.next → SetsFlag word c d → Took word old new
  took_flag o n h = took-word o (λ words e k. Flag word words c d e h (behind-word (n ∙ o) words e k))

  pub took_joined : (name value : List ℕ) → old.next ≡ next.Word → new.next ≡ old.next → word ≡ name ++ (61 ∷ value) → SetsJoined name value c d → Took word old new
  took_joined name value o n is h =
      took-word o (λ words e k. subst (λ (w : List ℕ). SetBy (w ∷ words) c e) (sym is) (Joined name value words c d e h (behind-word (n ∙ o) words e k)))

  pub took_file : old.next ≡ next.Word → new.next ≡ old.next → d ≡ with_files c (word ∷ []) → IsFile word → Took word old new
  took_file o n is h = took-word o (λ words e k. File word words c e h (subst (λ (x : Choices). SetBy words x e) is (behind-word (n ∙ o) words e k)))

  pub took_end : old.next ≡ next.Word → new.next ≡ next.File → d ≡ c → word ≡ codes "--" → Took word old new
  took_end o n same is = took-word o (λ words e k.
      let e-is : e ≡ with_files c words = subst (λ (x : Next). Behind x d words e) n k ∙ ap (λ (x : Choices). with_files x words) same in
      subst (λ (w : List ℕ). SetBy (w ∷ words) c e) (sym is) (subst (λ (x : Choices). SetBy (codes "--" ∷ words) c x) (sym e-is) (Files words c)))

  behind-value : (option : Valued) → d ≡ c → (words : List (List ℕ)) (e : Choices) → Behind (next.Value option) d words e → SetBy (name_of option ∷ words) c e
  behind-value option same [] e k = absurd k
  behind-value option same (value ∷ words) e k = Apart option value words c k.0 e (subst (λ (x : Choices). Sets option value x k.0) same k.1) k.2

  pub took_option : (option : Valued) → old.next ≡ next.Word → new.next ≡ next.Value option → d ≡ c → word ≡ name_of option → Took word old new
  took_option option o n same is = took-word o (λ words e k.
      subst (λ (w : List ℕ). SetBy (w ∷ words) c e) (sym is) (behind-value option same words e (subst (λ (x : Next). Behind x d words e) n k)))

  pub took_value : (option : Valued) → old.next ≡ next.Value option → new.next ≡ next.Word → Sets option word c d → Took word old new
  took_value option o n h = record {
    leads = λ words e k.
        subst (λ (x : Next). Behind x c (word ∷ words) e) (sym o) (d, h, behind-word n words e k);
  }

  pub took_later : old.next ≡ next.File → new.next ≡ old.next → d ≡ with_files c (word ∷ []) → Took word old new
  took_later o n is = record {
    leads = λ words e k.
        subst (λ (x : Next). Behind x c (word ∷ words) e) (sym o)
        (subst (λ (x : Next). Behind x d words e) (n ∙ o) k ∙ ap (λ (x : Choices). with_files x words) is
        ∙ ap (λ (fs : List (List ℕ)). record c { files = fs }) (append_assoc c.files (word ∷ []) words));
  }

-- ---- all words
-- what is behind the words before a place leads where all words lead
pub record LeadsBehind (words : List (String Global)) (place : ℕ) (r : Reading) : Type 0 where
  pub leads : (c : Choices) → Behind r.next (choices_of r.asked) (map string_bytes (drop place words)) c → SetBy (map string_bytes words) usual_choices c

pub leads_first : (words : List (String Global)) (r : Reading) → r.next ≡ next.Word → choices_of r.asked ≡ usual_choices → LeadsBehind words 0 r
leads_first words r n same = record {
  leads = λ c k.
      subst (λ (x : Choices). SetBy (map string_bytes words) x c) same (subst (λ (x : Next). Behind x (choices_of r.asked) (map string_bytes words) c) n k);
}

pub leads_next : (words : List (String Global)) (place : ℕ) (word : String Global) (old new : Reading) → place < length words → word ≡ get_or words place word
    → LeadsBehind words place old → Took (string_bytes word) old new → LeadsBehind words (place + 1) new
leads_next words place word old new lt is h took = record {
  leads = λ c k.
      let there : drop place words ≡ word ∷ drop (place + 1) words = drop_more words place word lt ∙ ap (λ (w : String Global). w ∷ drop (place + 1) words) (sym is) in
      h.leads c (subst (λ (ws : List (String Global)). Behind old.next (choices_of old.asked) (map string_bytes ws) c) (sym there)
      (took.leads (map string_bytes (drop (place + 1) words)) c k));
}

ends : (n : Next) (c : Choices) → IsNoValue n → Behind n c [] c
ends next.Word c h = Nothing c
ends (next.Value option) c h = absurd h
ends next.File c h = ap (λ (fs : List (List ℕ)). record c { files = fs }) (sym (append-nil c.files))

pub leads_last : (words : List (String Global)) (place : ℕ) (r : Reading) → length words ≤ place → IsNoValue r.next → LeadsBehind words place r
    → SetBy (map string_bytes words) usual_choices (choices_of r.asked)
leads_last words place r all none h =
    h.leads (choices_of r.asked) (subst (λ (ws : List (String Global)). Behind r.next (choices_of r.asked) (map string_bytes ws) (choices_of r.asked))
    (sym (drop_all place words all)) (ends r.next (choices_of r.asked) none))

asked-by : (words : List (List ℕ)) (word : List ℕ) (r : Request) → Contains words word → AsksFor word r → IsAskedBy words r
asked-by words word request.Help there h = (word, there, h)
asked-by words word request.Version there h = (word, there, h)
asked-by words word (request.Ask asked) there h = absurd h

-- a request for something else than answers, by one of these words
pub asked_there : (words : List (String Global)) (place : ℕ) (word : String Global) (r : Request) → place < length words → word ≡ get_or words place word
    → AsksFor (string_bytes word) r → IsAskedBy (map string_bytes words) r
asked_there words place word r lt is h =
    asked-by (map string_bytes words) (string_bytes word) r
    (subst (λ (x : List ℕ). Contains (map string_bytes words) x)
    (get_or-map string_bytes words place word [] lt ∙ ap string_bytes (sym is))
    (Contains-get_or (map string_bytes words) place [] (subst (λ k. place < k) (sym (length-map words string_bytes)) lt)))
    h

pub lawful_text : (word : List ℕ) (r : Request) → AsksFor word r → HasSettings r
lawful_text word request.Help h = tt
lawful_text word request.Version h = tt
lawful_text word (request.Ask asked) h = absurd h
