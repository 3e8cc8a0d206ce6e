-- Bytes are cut and refused by all tokens as they are by those of the version.
use Rattle.std.proofs.Common.{◌≡◌, ◌↔◌, ℕ, ◌≤◌, true, ◌⊎◌, inl, inr, List, [], ◌∷◌, ◌++◌, length, Some, refl, sym, ap, subst, ◌∙◌, arith, true≢false}
use Rattle.ps_text.specs.declared.version.Version.{Version}
use Rattle.ps_text.specs.declared.kind.ReadKind.{ReadKind}
use Rattle.ps_text.specs.declared.kind.ReadKind.TheVariants.{BadByte}
use Rattle.ps_text.specs.Tokens.{Token, Word, Number, Sign, Plus, Minus, IsToken, IsLongest, BeginsNone, spelling}
use Rattle.ps_text.specs.Pieces.{Piece, Blank, Comment, Spelled, text, texts, tokens, Cuts, Fits, IsBare, IsBad}
use Rattle.ps_text.specs.ExpectedTokens.{State, is_foreign, refusal, after, Passes}
use Rattle.ps_text.specs.Refusals.{Why}
use Rattle.ps_text.specs.Versions.{IsTokenOf, IsLongestOf, BeginsNoneOf, Reads, WhyOf}
use Rattle.ps_text.proofs.Longest.{IsLongest-def, IsLongest-at}
use Rattle.ps_text.proofs.Cutting.{decide, Next, next}
use Rattle.ps_text.proofs.Once.{append_same, some_bytes, spelled_once, not_blank, not_comment}
use Rattle.ps_text.proofs.Steps.{passed}

longest_at : (v : Version) (t : Token) (after : List ℕ) → IsLongestOf v t after → (u : Token) (more : List ℕ) → IsTokenOf v u → spelling u ++ more ≡ spelling t ++ after → length (spelling u) ≤ length (spelling t)
unfolding IsLongestOf
longest_at v t after h = h

none_of : (v : Version) (bytes : List ℕ) → BeginsNoneOf v bytes → (u : Token) (more : List ℕ) → IsTokenOf v u → bytes ≡ spelling u ++ more → ⊥
unfolding BeginsNoneOf
none_of v bytes h = h

-- a token has a byte
token_some : (t : Token) → IsToken t → 1 ≤ length (spelling t)
token_some t i = by (spelling t) (some_bytes t [] i)
  where
    by : (bs : List ℕ) → ([] ≡ bs ++ [] → ⊥) → 1 ≤ length bs
    by [] h = absurd (h refl)
    by (b ∷ bs) h = omega arith

-- what is none of the version is one byte
foreign_one : (v : Version) (u : Token) → is_foreign v u ≡ true → length (spelling u) ≡ 1
foreign_one v (Sign Plus) h = refl
foreign_one v (Sign Minus) h = refl
foreign_one v (Word w) h = absurd (true≢false (sym h))
foreign_one v (Number n) h = absurd (true≢false (sym h))
foreign_one v (Sign s) h = absurd (true≢false (sym h))

-- the longest token of the version is the longest of all
longest_all : (v : Version) (t : Token) (after : List ℕ) → IsToken t → IsLongestOf v t after → IsLongest t after
longest_all v t after i h = IsLongest-def t after (λ u more j e. elim (decide (is_foreign v u)) [
  | inl f ↦ let a = token_some t i in let b = foreign_one v u f in omega arith
  | inr f ↦ longest_at v t after h u more (j, f) e
])

longest_one : (v : Version) (t : Token) (after : List ℕ) → IsLongest t after → IsLongestOf v t after
unfolding IsLongestOf
longest_one v t after h = λ u more j e. IsLongest-at t after h u more j.0 e

-- pieces

reads : (d e : State) (ps : List Piece) (rest : List ℕ) → Cuts ps rest → Passes d (tokens ps) e → Reads d ps rest e
reads d e [] rest c p = p
reads d e (Blank b ∷ ps) rest c p = (c.0, reads d e ps rest c.1 p)
reads d e (Comment b ∷ ps) rest c p = (c.0, reads d e ps rest c.1 p)
reads d e (Spelled t ∷ ps) rest c p =
    (((c.0.0, (passed d t p.0).known), longest_one d.version t (texts ps ++ rest) c.0.1), p.0, reads (after d t) e ps rest c.1 p.1)

read_cuts : (d e : State) (ps : List Piece) (rest : List ℕ) → Reads d ps rest e → Cuts ps rest × Passes d (tokens ps) e
read_cuts d e [] rest r = (tt, r)
read_cuts d e (Blank b ∷ ps) rest r = let x = read_cuts d e ps rest r.1 in ((r.0, x.0), x.1)
read_cuts d e (Comment b ∷ ps) rest r = let x = read_cuts d e ps rest r.1 in ((r.0, x.0), x.1)
read_cuts d e (Spelled t ∷ ps) rest r =
    let x = read_cuts (after d t) e ps rest r.2 in
    (((r.0.0.0, longest_all d.version t (texts ps ++ rest) r.0.0.0 r.0.1), x.0), (r.1, x.1))

pub read_alike : (d e : State) (ps : List Piece) (rest : List ℕ) → (Cuts ps rest × Passes d (tokens ps) e) ↔ Reads d ps rest e
read_alike d e ps rest = (λ x. reads d e ps rest x.0 x.1, read_cuts d e ps rest)

-- refusals

foreign_refused : (d : State) (t : Token) → is_foreign d.version t ≡ true → refusal d t ≡ Some BadByte
unfolding refusal
foreign_refused d t h = rw h refl

-- where the longest token is none of the version, none of the version begins
foreign_alone : (v : Version) (t : Token) (bytes behind : List ℕ) → IsToken t → IsLongest t behind → bytes ≡ spelling t ++ behind → is_foreign v t ≡ true → BeginsNoneOf v bytes
unfolding BeginsNoneOf
foreign_alone v t bytes behind i l e f = λ u more j h.
    let same : spelling u ++ more ≡ spelling t ++ behind = sym h ∙ e in
    let a = IsLongest-at t behind l u more j.0 same in
    let b = token_some u j.0 in let c = foreign_one v t f in
    let s = append_same (spelling u) (spelling t) more behind (omega arith) same in
    let k : u ≡ t = spelled_once u t j.0 i s.0 in
    true≢false (sym f ∙ ap (is_foreign v) (sym k) ∙ j.1)

some_kind : (k l : ReadKind) → Some k ≡ Some l → l ≡ k
some_kind k l e = sym cc

why_one : (d : State) (rest : List ℕ) (k : ReadKind) → Why d rest k → WhyOf d rest k
unfolding BeginsNoneOf BeginsNone
why_one d [] k w = w
why_one d (b ∷ bs) k (inl w) = inl (λ u more i e. w.0 u more i.0 e, w.1)
why_one d (b ∷ bs) k (inr r) = elim (decide (is_foreign d.version r.token)) [
  | inl f ↦ inl (foreign_alone d.version r.token (b ∷ bs) r.behind r.spelled r.longest r.is f, some_kind BadByte k (sym (foreign_refused d r.token f) ∙ r.refused))
  | inr f ↦ inr (record { token = r.token; behind = r.behind; is = r.is; spelled = (r.spelled, f); longest = longest_one d.version r.token r.behind r.longest; refused = r.refused })
]

-- where no token of the version begins, no token does, or the longest is none of the version
none_or_foreign : (d : State) (b : ℕ) (bs : List ℕ) → IsBare (b ∷ bs) → BeginsNoneOf d.version (b ∷ bs) → Next (b ∷ bs) ⊎ IsBad (b ∷ bs) → Why d (b ∷ bs) BadByte
none_or_foreign d b bs i n (inr bad) = inl (bad.none, refl)
none_or_foreign d b bs i n (inl x) = by x.piece x.after x.is x.fits
  where
    by : (p : Piece) (after : List ℕ) → b ∷ bs ≡ text p ++ after → Fits p after → Why d (b ∷ bs) BadByte
    by (Blank c) after e f = absurd (not_blank c after (b ∷ bs) f (sym e) i)
    by (Comment c) after e f = absurd (not_comment (c ++ after) (b ∷ bs) (sym e) i)
    by (Spelled t) after e f = elim (decide (is_foreign d.version t)) [
      | inl g ↦ inr (record { token = t; behind = after; is = e; spelled = f.0; longest = f.1; refused = foreign_refused d t g })
      | inr g ↦ absurd (none_of d.version (b ∷ bs) n t after (f.0, g) e)
    ]

why_all : (d : State) (rest : List ℕ) (k : ReadKind) → IsBare rest → WhyOf d rest k → Why d rest k
why_all d [] k i w = w
why_all d (b ∷ bs) k i (inl w) = subst (λ x. Why d (b ∷ bs) x) (sym w.1) (none_or_foreign d b bs i w.0 (next b bs))
why_all d (b ∷ bs) k i (inr r) =
    inr (record { token = r.token; behind = r.behind; is = r.is; spelled = r.spelled.0; longest = longest_all d.version r.token r.behind r.spelled.0 r.longest; refused = r.refused })

pub refused_alike : (d : State) (rest : List ℕ) (k : ReadKind) → IsBare rest → Why d rest k ↔ WhyOf d rest k
refused_alike d rest k i = (why_one d rest k, why_all d rest k i)
