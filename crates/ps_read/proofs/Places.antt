-- Where the items' first tokens stand.
use Rattle.std.proofs.Common.{◌≡◌, ℕ, zero, suc, ◌+◌, ◌<◌, ◌≤◌, Bool, true, false, not, ◌&&◌, ◌||◌, inl, inr, List, [], ◌∷◌, ◌++◌, length, get_or, take, Option, None, refl, sym, ap, subst, ◌∙◌, arith, append_assoc, append-nil, true≢false}
use Rattle.std.proofs.lemmas.List.{length-append, take_all, take-append-le}
use Rattle.std.proofs.lemmas.Bool.Decides.{nat_tests}
use Rattle.std.specs.Prelude.{nat_lt, codes, if◌then◌else◌}
use Rattle.ps_text.specs.Tokens.{Token, Word, Number, Sign, is_the_word}
use Rattle.ps_text.specs.declared.symbol.Symbol.{Symbol}
use Rattle.ps_text.specs.declared.symbol.Symbol.TheVariants.{Open, Close, OpenBracket, CloseBracket, Comma, Semicolon, Bang, Ampersand, Bar, Arrow, DoubleArrow, Equals, GreaterEquals, LessEquals, Plus, Minus}
use Rattle.ps_text.specs.declared.version.Version.{Version}
use Rattle.ps_text.specs.declared.version.Version.TheVariants.{One}
use Rattle.ps_text.specs.Pieces.{Piece, Spelled, texts, tokens}
use Rattle.ps_text.specs.Grammar.{FormulaSyntax, ItemSyntax, Signed, Term, TextSyntax, has_linear, tokens_up_to}
use Rattle.ps_text.specs.declared.part.Part.{Part}
use Rattle.ps_text.specs.declared.part.Part.TheVariants as part
use Rattle.ps_text.specs.ExpectedTokens.{State, begins_item, version_of, refusal}
use Rattle.ps_text.proofs.Cutting.{decide}
use Rattle.ps_text.specs.BegunFormulas.{Frame, BegunNot, BegunGroup, BegunAnd, BegunOr, BegunImplies, BegunIff, joins}
use Rattle.ps_text.proofs.Signs.{the_word}
use Rattle.ps_text.proofs.Steps.{passed}
use Rattle.ps_text.specs.PartialParses.{Lead, OfSentence, OfQuery, OfTerm, Left}
use Rattle.ps_text.specs.PartialParses.{Parse, InPsat, InVersion, InHeadEnd, InItem, InQueryProb, InTextEnd, InDone, InTerm, InTermProb, InParen, InOperand, InOperator, InRelation, InBracket, InFirst, InNumber, InComma, InSecond, InBracketEnd, InItemEnd, state_of, parsed_tokens, behind_prob, behind_close, parsed}
use Rattle.ps_lex.specs.declared.position.Position.{Position}
use Rattle.ps_lex.specs.Places.{start}
use Rattle.ps_lex.specs.Seen.{seen, behind_all}
use Rattle.ps_lex.specs.KeptTokens.{token_of}
use Rattle.ps_lex.proofs.Seen.{word_kept}
use Rattle.ps_read.specs.Taking.{is_item, begun_at}

-- the items that are whole
abbrev pub whole_items : Parse → List ItemSyntax
whole_items InPsat = []
whole_items InVersion = []
whole_items (InHeadEnd v) = []
whole_items (InItem es) = es.items
whole_items (InQueryProb es) = es.items
whole_items (InTextEnd es) = es.items
whole_items (InDone es) = es.items
whole_items (InTerm es ts m) = es.items
whole_items (InTermProb es ts m x) = es.items
whole_items (InParen es q) = es.items
whole_items (InOperand es q c fs) = es.items
whole_items (InOperator es q c fs f) = es.items
whole_items (InRelation es l) = es.items
whole_items (InBracket es l) = es.items
whole_items (InFirst es l m) = es.items
whole_items (InNumber es l s m) = es.items
whole_items (InComma es l x) = es.items
whole_items (InSecond es l x m) = es.items
whole_items (InBracketEnd es l x y) = es.items
whole_items (InItemEnd es e) = es.items

-- one more has begun
abbrev pub begun_more : Parse → ℕ
begun_more InPsat = 0
begun_more InVersion = 0
begun_more (InHeadEnd v) = 0
begun_more (InItem es) = 0
begun_more (InQueryProb es) = 1
begun_more (InTextEnd es) = 0
begun_more (InDone es) = 0
begun_more (InTerm es ts m) = 1
begun_more (InTermProb es ts m x) = 1
begun_more (InParen es q) = 1
begun_more (InOperand es q c fs) = 1
begun_more (InOperator es q c fs f) = 1
begun_more (InRelation es l) = 1
begun_more (InBracket es l) = 1
begun_more (InFirst es l m) = 1
begun_more (InNumber es l s m) = 1
begun_more (InComma es l x) = 1
begun_more (InSecond es l x m) = 1
begun_more (InBracketEnd es l x y) = 1
begun_more (InItemEnd es e) = 1

-- the version of what is derived
abbrev pub version_at : Parse → Version
version_at InPsat = One
version_at InVersion = One
version_at (InHeadEnd v) = v
version_at (InItem es) = es.version
version_at (InQueryProb es) = es.version
version_at (InTextEnd es) = es.version
version_at (InDone es) = es.version
version_at (InTerm es ts m) = es.version
version_at (InTermProb es ts m x) = es.version
version_at (InParen es q) = es.version
version_at (InOperand es q c fs) = es.version
version_at (InOperator es q c fs f) = es.version
version_at (InRelation es l) = es.version
version_at (InBracket es l) = es.version
version_at (InFirst es l m) = es.version
version_at (InNumber es l s m) = es.version
version_at (InComma es l x) = es.version
version_at (InSecond es l x m) = es.version
version_at (InBracketEnd es l x y) = es.version
version_at (InItemEnd es e) = es.version

-- the text of a version with these items
abbrev pub text_of : Version → List ItemSyntax → TextSyntax
text_of v es = record { version = v; items = es }

-- an item begins there: before its first token stand the tokens up to the items before it
pub record IsBegun (done : List Piece) (v : Version) (es : List ItemSyntax) (i : ℕ) (position : Position) : Type 0 where
  pub before : List Piece
  pub first : Token
  pub behind : List Piece
  pub pieces_are : done ≡ before ++ Spelled first ∷ behind
  pub tokens_are : tokens before ≡ tokens_up_to (text_of v (take i es))
  pub position_is : position ≡ behind_all start (texts before)

pub record AreBegun (done : List Piece) (v : Version) (es : List ItemSyntax) (count : ℕ) (places : List Position) : Type 0 where
  pub many : length places ≡ count
  pub few : count ≤ length es + 1
  pub each : (i : ℕ) → i < length places → IsBegun done v es i (get_or places i start)

abbrev pub HaveBegun : List Piece → Parse → List Position → Type 0
HaveBegun done p places = AreBegun done (version_at p) (whole_items p) (length (whole_items p) + begun_more p) places

-- one piece more, and perhaps one item more
begun_later : (done : List Piece) (x : Piece) (v : Version) (es fs : List ItemSyntax) (i : ℕ) (position : Position) → i ≤ length es → IsBegun done v es i position → IsBegun (done ++ x ∷ []) v (es ++ fs) i position
begun_later done x v es fs i position l b = record {
  before = b.before;
  first = b.first;
  behind = b.behind ++ x ∷ [];
  pieces_are = ap (λ ps. ps ++ x ∷ []) b.pieces_are ∙ append_assoc b.before (Spelled b.first ∷ b.behind) (x ∷ []);
  tokens_are = b.tokens_are ∙ ap (λ is. tokens_up_to (text_of v is)) (sym (take-append-le i es fs l));
  position_is = b.position_is;
}

later : (done : List Piece) (x : Piece) (v : Version) (es fs : List ItemSyntax) (n m : ℕ) (places : List Position) → n ≡ m → AreBegun done v es n places → AreBegun (done ++ x ∷ []) v (es ++ fs) m places
later done x v es fs n m places e b = record {
  many = b.many ∙ e;
  few = let l = length-append es fs in omega (arith, b.few, e, l);
  each = λ i l. begun_later done x v es fs i (get_or places i start) (omega (arith, l, b.many, b.few)) (b.each i l);
}

pub same_later : (done : List Piece) (x : Piece) (p : Parse) (places : List Position) → HaveBegun done p places → HaveBegun (done ++ x ∷ []) p places
same_later done x p places b =
    subst (λ es. AreBegun (done ++ x ∷ []) (version_at p) es (length (whole_items p) + begun_more p) places) (append-nil (whole_items p))
    (later done x (version_at p) (whole_items p) [] (length (whole_items p) + begun_more p) (length (whole_items p) + begun_more p) places refl b)

-- a token behind which as many have begun
record IsSame (p q : Parse) : Type 0 where
  version : version_at q ≡ version_at p
  written : whole_items q ≡ whole_items p
  more : begun_more q ≡ begun_more p

same_begun : (done : List Piece) (x : Piece) (p q : Parse) (places : List Position) → IsSame p q → HaveBegun done p places → HaveBegun (done ++ x ∷ []) q places
same_begun done x p q places s b =
    subst (λ v. AreBegun (done ++ x ∷ []) v (whole_items q) (length (whole_items q) + begun_more q) places) (sym s.version)
    (subst (λ es. AreBegun (done ++ x ∷ []) (version_at p) es (length es + begun_more q) places) (sym s.written)
    (subst (λ n. AreBegun (done ++ x ∷ []) (version_at p) (whole_items p) (length (whole_items p) + n) places) (sym s.more) (same_later done x p places b)))

-- an item begins with the token
get_first : (ps : List Position) (p : Position) (i : ℕ) → i < length ps → get_or (ps ++ p ∷ []) i start ≡ get_or ps i start
get_first [] p i l = absurd (omega (arith, l))
get_first (q ∷ ps) p zero l = refl
get_first (q ∷ ps) p (suc i) l = get_first ps p i (omega (arith, l))

get_last : (ps : List Position) (p : Position) → get_or (ps ++ p ∷ []) (length ps) start ≡ p
get_last [] p = refl
get_last (q ∷ ps) p = get_last ps p

one_more_begun : (done : List Piece) (t : Token) (v : Version) (es : List ItemSyntax) (places : List Position) (position : Position) → tokens done ≡ tokens_up_to (text_of v es) → position ≡ behind_all start (texts done)
    → AreBegun done v es (length es + 0) places → AreBegun (done ++ Spelled t ∷ []) v es (length es + 1) (places ++ position ∷ [])
one_more_begun done t v es places position e at b = record {
  many = let l = length-append places (position ∷ []) in omega (arith, b.many, l);
  few = omega arith;
  each = λ i l. elim (decide (nat_lt i (length places))) [
    | inl h ↦ let k : i < length places = grind (arith, nat_tests) in
        subst (IsBegun (done ++ Spelled t ∷ []) v es i) (sym (get_first places position i k))
        (subst (λ fs. IsBegun (done ++ Spelled t ∷ []) v fs i (get_or places i start)) (append-nil es) (begun_later done (Spelled t) v es [] i (get_or places i start) (omega (arith, k, b.many)) (b.each i k)))
    | inr h ↦ let a = length-append places (position ∷ []) in let n : length places ≡ i = grind (arith, nat_tests) in
        subst (λ j. IsBegun (done ++ Spelled t ∷ []) v es j (get_or (places ++ position ∷ []) j start)) n
        (subst (IsBegun (done ++ Spelled t ∷ []) v es (length places)) (sym (get_last places position)) (record {
          before = done;
          first = t;
          behind = [];
          pieces_are = refl;
          tokens_are = e ∙ ap (λ is. tokens_up_to (text_of v is)) (sym (take_all (length places) es (omega (arith, b.many))));
          position_is = at;
        }))
  ];
}

item_begun : (done : List Piece) (es : TextSyntax) (t : Token) (places : List Position) (position : Position) → tokens done ≡ tokens_up_to es → position ≡ behind_all start (texts done)
    → refusal (state_of (InItem es)) t ≡ None → HaveBegun done (InItem es) places
    → HaveBegun (done ++ Spelled t ∷ []) (parsed (InItem es) t) (places ++ begun_at part.Item t position)
item_begun done es t places position e at r b = at_token t (passed (state_of (InItem es)) t r).expected
  where
    more : (u : Token) → AreBegun (done ++ Spelled u ∷ []) es.version es.items (length es.items + 1) (places ++ position ∷ [])
    more u = one_more_begun done u es.version es.items places position e at b

    ended : (u : Token) → HaveBegun (done ++ Spelled u ∷ []) (InTextEnd es) (places ++ [])
    ended u = subst (λ ps. HaveBegun (done ++ Spelled u ∷ []) (InTextEnd es) ps) (sym (append-nil places))
        (same_begun done (Spelled u) (InItem es) (InTextEnd es) places (record { version = refl; written = refl; more = refl }) b)

    no_and : (x : Bool) → (x && false) ≡ true → ⊥
    no_and true k = true≢false (sym k)
    no_and false k = true≢false (sym k)

    at_word : (u : List ℕ) (x y z : Bool) → is_the_word (codes "P") (Word u) ≡ x → is_the_word (codes "query") (Word u) ≡ y → is_the_word (codes "end") (Word u) ≡ z
        → (x || y || z || (has_linear es.version && false)) ≡ true
        → HaveBegun (done ++ Spelled (Word u) ∷ []) (if x then InParen es OfSentence else (if y then InQueryProb es else (if z then InTextEnd es else InTerm es [] true))) (places ++ (if not z then position ∷ [] else []))
    at_word u true y true p q s k = absurd (apart (Word u) p s)
      where
        apart : (v : Token) → is_the_word (codes "P") v ≡ true → is_the_word (codes "end") v ≡ true → ⊥
        apart v c d = let f = sym (the_word (codes "P") v c) ∙ the_word (codes "end") v d in cc
    at_word u true y false p q s k = more (Word u)
    at_word u false true true p q s k = absurd (apart (Word u) q s)
      where
        apart : (v : Token) → is_the_word (codes "query") v ≡ true → is_the_word (codes "end") v ≡ true → ⊥
        apart v c d = let f = sym (the_word (codes "query") v c) ∙ the_word (codes "end") v d in cc
    at_word u false true false p q s k = more (Word u)
    at_word u false false true p q s k = ended (Word u)
    at_word u false false false p q s k = absurd (no_and (has_linear es.version) k)

    at_token : (u : Token) → begins_item es.version u ≡ true → HaveBegun (done ++ Spelled u ∷ []) (parsed (InItem es) u) (places ++ begun_at part.Item u position)
    at_token (Word u) k = at_word u (is_the_word (codes "P") (Word u)) (is_the_word (codes "query") (Word u)) (is_the_word (codes "end") (Word u)) refl refl refl k
    at_token (Number x) k = more (Number x)
    at_token (Sign s) k = more (Sign s)

-- within an item as many have begun
behind_prob_same : (es : TextSyntax) (q : Lead) (c : Option FormulaSyntax) (gs : List Frame) (f g : FormulaSyntax) → IsSame (InOperator es q c gs g) (behind_prob es q c f)
behind_prob_same es OfSentence c gs f g = record { version = refl; written = refl; more = refl }
behind_prob_same es OfQuery c gs f g = record { version = refl; written = refl; more = refl }
behind_prob_same es (OfTerm ts m k) c gs f g = record { version = refl; written = refl; more = refl }

behind_close_same : (es : TextSyntax) (q : Lead) (c : Option FormulaSyntax) (gs fs : List Frame) (f g : FormulaSyntax) → IsSame (InOperator es q c gs g) (behind_close es q c fs f)
behind_close_same es q c gs (BegunGroup ∷ fs) f g = record { version = refl; written = refl; more = refl }
behind_close_same es q c gs [] f g = behind_prob_same es q c gs f g
behind_close_same es q c gs (BegunNot ∷ fs) f g = behind_prob_same es q c gs f g
behind_close_same es q c gs (BegunAnd x ∷ fs) f g = behind_prob_same es q c gs f g
behind_close_same es q c gs (BegunOr x ∷ fs) f g = behind_prob_same es q c gs f g
behind_close_same es q c gs (BegunImplies x ∷ fs) f g = behind_prob_same es q c gs f g
behind_close_same es q c gs (BegunIff x ∷ fs) f g = behind_prob_same es q c gs f g

operand_same : (es : TextSyntax) (q : Lead) (c : Option FormulaSyntax) (fs : List Frame) (t : Token) → IsSame (InOperand es q c fs) (parsed (InOperand es q c fs) t)
operand_same es q c fs (Word w) = record { version = refl; written = refl; more = refl }
operand_same es q c fs (Number x) = record { version = refl; written = refl; more = refl }
operand_same es q c fs (Sign Open) = record { version = refl; written = refl; more = refl }
operand_same es q c fs (Sign Close) = record { version = refl; written = refl; more = refl }
operand_same es q c fs (Sign OpenBracket) = record { version = refl; written = refl; more = refl }
operand_same es q c fs (Sign CloseBracket) = record { version = refl; written = refl; more = refl }
operand_same es q c fs (Sign Comma) = record { version = refl; written = refl; more = refl }
operand_same es q c fs (Sign Semicolon) = record { version = refl; written = refl; more = refl }
operand_same es q c fs (Sign Bang) = record { version = refl; written = refl; more = refl }
operand_same es q c fs (Sign Ampersand) = record { version = refl; written = refl; more = refl }
operand_same es q c fs (Sign Bar) = record { version = refl; written = refl; more = refl }
operand_same es q c fs (Sign Arrow) = record { version = refl; written = refl; more = refl }
operand_same es q c fs (Sign DoubleArrow) = record { version = refl; written = refl; more = refl }
operand_same es q c fs (Sign Equals) = record { version = refl; written = refl; more = refl }
operand_same es q c fs (Sign GreaterEquals) = record { version = refl; written = refl; more = refl }
operand_same es q c fs (Sign LessEquals) = record { version = refl; written = refl; more = refl }
operand_same es q c fs (Sign Plus) = record { version = refl; written = refl; more = refl }
operand_same es q c fs (Sign Minus) = record { version = refl; written = refl; more = refl }

operator_same : (es : TextSyntax) (q : Lead) (c : Option FormulaSyntax) (fs : List Frame) (f : FormulaSyntax) (t : Token) → IsSame (InOperator es q c fs f) (parsed (InOperator es q c fs f) t)
operator_same es q c fs f (Word w) = record { version = refl; written = refl; more = refl }
operator_same es q c fs f (Number x) = record { version = refl; written = refl; more = refl }
operator_same es q c fs f (Sign Open) = record { version = refl; written = refl; more = refl }
operator_same es q c fs f (Sign Close) = behind_close_same es q c fs (joins 1 fs f).0 (joins 1 fs f).1 f
operator_same es q c fs f (Sign OpenBracket) = record { version = refl; written = refl; more = refl }
operator_same es q c fs f (Sign CloseBracket) = record { version = refl; written = refl; more = refl }
operator_same es q c fs f (Sign Comma) = record { version = refl; written = refl; more = refl }
operator_same es q c fs f (Sign Semicolon) = record { version = refl; written = refl; more = refl }
operator_same es q c fs f (Sign Bang) = record { version = refl; written = refl; more = refl }
operator_same es q c fs f (Sign Ampersand) = record { version = refl; written = refl; more = refl }
operator_same es q c fs f (Sign Bar) = record { version = refl; written = refl; more = refl }
operator_same es q c fs f (Sign Arrow) = record { version = refl; written = refl; more = refl }
operator_same es q c fs f (Sign DoubleArrow) = record { version = refl; written = refl; more = refl }
operator_same es q c fs f (Sign Equals) = record { version = refl; written = refl; more = refl }
operator_same es q c fs f (Sign GreaterEquals) = record { version = refl; written = refl; more = refl }
operator_same es q c fs f (Sign LessEquals) = record { version = refl; written = refl; more = refl }
operator_same es q c fs f (Sign Plus) = record { version = refl; written = refl; more = refl }
operator_same es q c fs f (Sign Minus) = record { version = refl; written = refl; more = refl }

relation_same : (es : TextSyntax) (l : Left) (t : Token) → IsSame (InRelation es l) (parsed (InRelation es l) t)
relation_same es l (Word w) = record { version = refl; written = refl; more = refl }
relation_same es l (Number x) = record { version = refl; written = refl; more = refl }
relation_same es l (Sign Open) = record { version = refl; written = refl; more = refl }
relation_same es l (Sign Close) = record { version = refl; written = refl; more = refl }
relation_same es l (Sign OpenBracket) = record { version = refl; written = refl; more = refl }
relation_same es l (Sign CloseBracket) = record { version = refl; written = refl; more = refl }
relation_same es l (Sign Comma) = record { version = refl; written = refl; more = refl }
relation_same es l (Sign Semicolon) = record { version = refl; written = refl; more = refl }
relation_same es l (Sign Bang) = record { version = refl; written = refl; more = refl }
relation_same es l (Sign Ampersand) = record { version = refl; written = refl; more = refl }
relation_same es l (Sign Bar) = record { version = refl; written = refl; more = refl }
relation_same es l (Sign Arrow) = record { version = refl; written = refl; more = refl }
relation_same es l (Sign DoubleArrow) = record { version = refl; written = refl; more = refl }
relation_same es l (Sign Equals) = record { version = refl; written = refl; more = refl }
relation_same es l (Sign GreaterEquals) = record { version = refl; written = refl; more = refl }
relation_same es l (Sign LessEquals) = record { version = refl; written = refl; more = refl }
relation_same es l (Sign Plus) = record { version = refl; written = refl; more = refl }
relation_same es l (Sign Minus) = record { version = refl; written = refl; more = refl }

term_same : (es : TextSyntax) (ts : List Term) (m : Bool) (t : Token) → IsSame (InTerm es ts m) (parsed (InTerm es ts m) t)
term_same es ts m (Word w) = record { version = refl; written = refl; more = refl }
term_same es ts m (Number x) = record { version = refl; written = refl; more = refl }
term_same es ts m (Sign s) = record { version = refl; written = refl; more = refl }

first_same : (es : TextSyntax) (l : Left) (m : Bool) (t : Token) → IsSame (InFirst es l m) (parsed (InFirst es l m) t)
first_same es l m (Word w) = record { version = refl; written = refl; more = refl }
first_same es l m (Number x) = record { version = refl; written = refl; more = refl }
first_same es l m (Sign s) = record { version = refl; written = refl; more = refl }

number_same : (es : TextSyntax) (l : Left) (s : Symbol) (m : Bool) (t : Token) → IsSame (InNumber es l s m) (parsed (InNumber es l s m) t)
number_same es l s m (Word w) = record { version = refl; written = refl; more = refl }
number_same es l s m (Number x) = record { version = refl; written = refl; more = refl }
number_same es l s m (Sign u) = record { version = refl; written = refl; more = refl }

second_same : (es : TextSyntax) (l : Left) (x : Signed) (m : Bool) (t : Token) → IsSame (InSecond es l x m) (parsed (InSecond es l x m) t)
second_same es l x m (Word w) = record { version = refl; written = refl; more = refl }
second_same es l x m (Number y) = record { version = refl; written = refl; more = refl }
second_same es l x m (Sign s) = record { version = refl; written = refl; more = refl }

-- where no item is expected, none begins
module _ (done : List Piece) (t : Token) (places : List Position) (position : Position) where
  within : (p : Parse) → is_item (state_of p).part ≡ false → IsSame p (parsed p t) → HaveBegun done p places
      → HaveBegun (done ++ Spelled t ∷ []) (parsed p t) (places ++ begun_at (state_of p).part t position)
  within p n s b = rw n (subst (λ ps. HaveBegun (done ++ Spelled t ∷ []) (parsed p t) ps) (sym (append-nil places)) (same_begun done (Spelled t) p (parsed p t) places s b))

  item_ended : (es : TextSyntax) (e : ItemSyntax) → HaveBegun done (InItemEnd es e) places → HaveBegun (done ++ Spelled t ∷ []) (InItem (text_of es.version (es.items ++ e ∷ []))) (places ++ [])
  item_ended es e b = subst (λ ps. HaveBegun (done ++ Spelled t ∷ []) (InItem (text_of es.version (es.items ++ e ∷ []))) ps) (sym (append-nil places))
      (later done (Spelled t) es.version es.items (e ∷ []) (length es.items + 1) (length (es.items ++ e ∷ []) + 0) places (let l = length-append es.items (e ∷ []) in omega (arith, l)) b)

  -- no item has begun before the version
  version_known : (v : Version) → HaveBegun done InVersion places → HaveBegun (done ++ Spelled t ∷ []) (InHeadEnd v) (places ++ [])
  version_known v b = subst (λ ps. HaveBegun (done ++ Spelled t ∷ []) (InHeadEnd v) ps) (sym (append-nil places))
      (record { many = b.many; few = b.few; each = λ i l. absurd (let n = b.many in omega (arith, l, n)) })

  -- behind a token that isn't refused
  pub more_begun : (p : Parse) → parsed_tokens p ≡ tokens done → position ≡ behind_all start (texts done) → refusal (state_of p) t ≡ None → HaveBegun done p places
      → HaveBegun (done ++ Spelled t ∷ []) (parsed p t) (places ++ begun_at (state_of p).part t position)
  more_begun InPsat e at r b = within InPsat refl (record { version = refl; written = refl; more = refl }) b
  more_begun InVersion e at r b = version_known (version_of t) b
  more_begun (InHeadEnd v) e at r b = within (InHeadEnd v) refl (record { version = refl; written = refl; more = refl }) b
  more_begun (InItem es) e at r b = item_begun done es t places position (sym e) at r b
  more_begun (InQueryProb es) e at r b = within (InQueryProb es) refl (record { version = refl; written = refl; more = refl }) b
  more_begun (InTextEnd es) e at r b = within (InTextEnd es) refl (record { version = refl; written = refl; more = refl }) b
  more_begun (InDone es) e at r b = within (InDone es) refl (record { version = refl; written = refl; more = refl }) b
  more_begun (InTerm es ts m) e at r b = within (InTerm es ts m) refl (term_same es ts m t) b
  more_begun (InTermProb es ts m x) e at r b = within (InTermProb es ts m x) refl (record { version = refl; written = refl; more = refl }) b
  more_begun (InParen es q) e at r b = within (InParen es q) refl (record { version = refl; written = refl; more = refl }) b
  more_begun (InOperand es q c fs) e at r b = within (InOperand es q c fs) refl (operand_same es q c fs t) b
  more_begun (InOperator es q c fs f) e at r b = within (InOperator es q c fs f) refl (operator_same es q c fs f t) b
  more_begun (InRelation es l) e at r b = within (InRelation es l) refl (relation_same es l t) b
  more_begun (InBracket es l) e at r b = within (InBracket es l) refl (record { version = refl; written = refl; more = refl }) b
  more_begun (InFirst es l m) e at r b = within (InFirst es l m) refl (first_same es l m t) b
  more_begun (InNumber es l x m) e at r b = within (InNumber es l x m) refl (number_same es l x m t) b
  more_begun (InComma es l x) e at r b = within (InComma es l x) refl (record { version = refl; written = refl; more = refl }) b
  more_begun (InSecond es l x m) e at r b = within (InSecond es l x m) refl (second_same es l x m t) b
  more_begun (InBracketEnd es l x y) e at r b = within (InBracketEnd es l x y) refl (record { version = refl; written = refl; more = refl }) b
  more_begun (InItemEnd es x) e at r b = item_ended es x b

-- what is kept of a token begins an item where the token does
pub begun_alike : (d : State) (p : Part) (t : Token) (position : Position) → refusal d t ≡ None → begun_at p (token_of (seen t)) position ≡ begun_at p t position
begun_alike d p (Word w) position h = ap (λ u. begun_at p (Word u) position) (word_kept d w h)
begun_alike d p (Number x) position h = refl
begun_alike d p (Sign s) position h = refl
