-- What is returned is right, and the only right answer.
use Rattle.std.proofs.Common.{◌≡◌, ℕ, zero, suc, ◌-◌, ◌<◌, ◌≤◌, inl, inr, List, [], ◌∷◌, length, get_or, Option, Some, None, refl, sym, ap, subst, ◌∙◌, arith}
use Rattle.std.proofs.lemmas.List.{length-append}
use Rattle.std.specs.Prelude.{Result, Ok, Err, IfSome, option_map}
use Rattle.ps_text.specs.Pieces.{texts}
use Rattle.ps_text.specs.Fronts.{IsTextFront}
use Rattle.ps_lex.specs.declared.position.Position.{Position}
use Rattle.ps_lex.specs.Places.{start, line_and_column}
use Rattle.ps_lex.specs.Lexing.{new_lexer}
use Rattle.ps_meaning.specs.Statements.{Item}
use Rattle.ps_problem.specs.Problems.{Parts}
use Rattle.ps_problem.specs.Drafts.{Drafted}
use Rattle.ps_problem.specs.Counts.{ItemExcess, counted}
use Rattle.ps_read.specs.Kinds.{count_kind}
use Rattle.ps_read.specs.declared.parser.Parser.{Parser}
use Rattle.ps_read.specs.Kept.{drafted_in}
use Rattle.ps_read.specs.declared.read_error.ReadError.{ReadError}
use Rattle.ps_read.specs.declared.read_error.ReadError.TheVariants as error
use Rattle.ps_text.specs.declared.kind.ReadKind.{ReadKind}
use Rattle.ps_text.specs.declared.kind.ReadKind.TheVariants.{MoreAfterEnd}
use Rattle.ps_read.specs.declared.reader.Reader.{Reader}
use Rattle.ps_read.specs.Readings.{SpellsProblem, SpellsWhole, IsUnread, IsUnreadWhole}
use Rattle.ps_read.specs.Reads.{Tells, ReadsEach, RefusesEach, ReadsEachWhole, RefusesEachWhole}
use Rattle.ps_read.specs.Answers.{Parsed, nothing_parsed, parsed_by, Answer, answer, IsFed, HasPassed, Answers, IsExcessIn, IsBuiltOf, AreWhole, IsRight}
use Rattle.ps_read.proofs.OneReading.{read_once, unread_once, read_excludes, whole_excludes, unread_whole_once}
use Rattle.ps_read.proofs.Right.{IsParsedText, IsSo, answer_so}
use Rattle.ps_read.proofs.Counts.{refused_least, refused_most, items_many, spelled, refused}

-- the loop

-- behind a byte with which nothing is known, and the bytes that were passed then
pub not_yet : (old fed new : Reader) (b : ℕ) (more left : List ℕ) (all : Answer) → IsFed b old fed (Ok None) → HasPassed more fed left new → answer old.lexer (parsed_by old.parser) (b ∷ more) ≡ all
    → answer new.lexer (parsed_by new.parser) left ≡ all
not_yet old fed new b more left all f p h = sym (f.agrees more ∙ p.answer_is) ∙ h

-- behind a byte with which the text's end is known
pub known : (old new : Reader) (b : ℕ) (more : List ℕ) (all : Answer) (place : Position) → IsFed b old new (Ok (Some place)) → answer old.lexer (parsed_by old.parser) (b ∷ more) ≡ all
    → all ≡ Ok (place, parsed_by new.parser)
known old new b more all place f h = sym h ∙ f.agrees more

-- behind a byte at which the form is refused
pub known_err : (old new : Reader) (b : ℕ) (more : List ℕ) (all : Answer) (e : ReadError) (r : Result (Parser × Position) ReadError) → IsFed b old new (Err e)
    → answer old.lexer (parsed_by old.parser) (b ∷ more) ≡ all → r ≡ Err e → Answers all r
known_err old new b more all (error.At k l c) r f h er = subst (Answers all) (sym er) (sym h ∙ f.agrees more)
known_err old new b more all error.NoMemory r f h er = subst (Answers all) (sym er) tt

-- what was parsed

pub parsed_text : (bytes : List ℕ) (parser : Parser) (place : Position) → answer new_lexer nothing_parsed bytes ≡ Ok (place, parsed_by parser) → IsParsedText bytes place (parsed_by parser)
parsed_text bytes parser place e = subst (IsSo bytes) e (answer_so bytes)

pub are_whole : (bytes : List ℕ) (parser : Parser) (place : Position) → answer new_lexer nothing_parsed bytes ≡ Ok (place, parsed_by parser) → AreWhole (parsed_by parser)
are_whole bytes parser place e =
    let t = parsed_text bytes parser place e in
    t.begun.many ∙ sym (items_many t.front.written.items (drafted_in (parsed_by parser).machine).items t.items)

-- the form is refused
pub form_told : (bytes : List ℕ) (e : ReadError) → Answers (answer new_lexer nothing_parsed bytes) (Err e) → Tells (IsUnread bytes) e
form_told bytes (error.At k l c) a = inl (subst (IsSo bytes) a (answer_so bytes))
form_told bytes error.NoMemory a = tt

-- a count is refused, or a problem made
pub built : (bytes : List ℕ) (parser : Parser) (place : Position) (p : Parts) → answer new_lexer nothing_parsed bytes ≡ Ok (place, parsed_by parser) → IsBuiltOf (parsed_by parser) (Ok p) → IsRight bytes (Ok (p, place))
built bytes parser place p e b = let t = parsed_text bytes parser place e in (spelled bytes place (parsed_by parser) p t b, t.position_is)

pub count_told : (bytes : List ℕ) (parser : Parser) (place : Position) (e : ReadError) → answer new_lexer nothing_parsed bytes ≡ Ok (place, parsed_by parser) → IsBuiltOf (parsed_by parser) (Err e) → Tells (IsUnread bytes) e
count_told bytes parser place (error.At k l c) e b = refused bytes place (parsed_by parser) k (record { line = l; column = c }) (parsed_text bytes parser place e) b
count_told bytes parser place error.NoMemory e b = tt

-- the item of a count's refusal, and its kind
record IsKnown (items : List Item) (kind : ReadKind) (item : ℕ) : Type 0 where
  first : ItemExcess
  counts : counted items ≡ Err first
  kind_is : kind ≡ count_kind first.excess
  item_is : item ≡ first.item

same_pair : (a b : ReadKind × ℕ) → Some a ≡ Some b → a ≡ b
same_pair a b e = cc

known_item : (items : List Item) (o : Option ItemExcess) (kind : ReadKind) (item : ℕ) → IfSome o (λ r. counted items ≡ Err r) → option_map {U = ReadKind × ℕ} (λ r. (count_kind r.excess, r.item)) o ≡ Some (kind, item) → IsKnown items kind item
known_item items None kind item h e = absurd cc
known_item items (Some r) kind item h e =
    let same = same_pair (count_kind r.excess, r.item) (kind, item) e in
    record { first = r; counts = h; kind_is = sym (ap (λ x. x.0) same); item_is = sym (ap (λ x. x.1) same) }

-- what the error of a count says of what was parsed
excess_in : (x : Parsed) (d : Drafted) (o : Option ItemExcess) (kind : ReadKind) (item : ℕ) → d ≡ drafted_in x.machine → IfSome o (λ r. counted d.items ≡ Err r) → option_map {U = ReadKind × ℕ} (λ r. (count_kind r.excess, r.item)) o ≡ Some (kind, item)
    → IsKnown (drafted_in x.machine).items kind item
excess_in x d o kind item e h f = subst (λ y. IsKnown y.items kind item) e (known_item d.items o kind item h f)

pub excess_least : (x : Parsed) (d : Drafted) (o : Option ItemExcess) (kind : ReadKind) (item : ℕ) → d ≡ drafted_in x.machine → IfSome o (λ r. counted d.items ≡ Err r) → option_map {U = ReadKind × ℕ} (λ r. (count_kind r.excess, r.item)) o ≡ Some (kind, item)
    → 1 ≤ item
excess_least x d o kind item e h f = let k = excess_in x d o kind item e h f in omega (arith, k.item_is, refused_least (drafted_in x.machine).items k.first k.counts)

pub excess_below : (x : Parsed) (d : Drafted) (o : Option ItemExcess) (kind : ReadKind) (item : ℕ) (places : List Position) → d ≡ drafted_in x.machine → IfSome o (λ r. counted d.items ≡ Err r)
    → option_map {U = ReadKind × ℕ} (λ r. (count_kind r.excess, r.item)) o ≡ Some (kind, item) → AreWhole x → places ≡ x.places → item - 1 < length places
excess_below x d o kind item places e h f w p =
    let k = excess_in x d o kind item e h f in
    let l = refused_least (drafted_in x.machine).items k.first k.counts in
    let m = refused_most (drafted_in x.machine).items k.first k.counts in
    let n = ap length p in
    omega (arith, k.item_is, l, m, w, n)

other : (ps : List Position) (i : ℕ) → i < length ps → get_or ps i (record { line = 0; column = 0; offset = 0 }) ≡ get_or ps i start
other [] i l = absurd (omega (arith, l))
other (p ∷ ps) zero l = refl
other (p ∷ ps) (suc i) l = other ps i (omega (arith, l))

pub excess_told : (x : Parsed) (d : Drafted) (o : Option ItemExcess) (kind : ReadKind) (item : ℕ) (places : List Position) (place : Position) (r : ReadError) → d ≡ drafted_in x.machine → IfSome o (λ r. counted d.items ≡ Err r)
    → option_map {U = ReadKind × ℕ} (λ r. (count_kind r.excess, r.item)) o ≡ Some (kind, item) → places ≡ x.places → item - 1 < length places → place ≡ get_or places (item - 1) (record { line = 0; column = 0; offset = 0 }) → r ≡ error.At kind place.line place.column → Tells (IsExcessIn x) r
excess_told x d o kind item places place r e h f p b q t =
    let k = excess_in x d o kind item e h f in
    subst (Tells (IsExcessIn x)) (sym t) (record {
      first = k.first;
      counts = k.counts;
      kind_is = k.kind_is;
      position_is = ap line_and_column (q ∙ other places (item - 1) b ∙ ap (λ ps. get_or ps (item - 1) start) p ∙ ap (λ n. get_or x.places (n - 1) start) k.item_is);
    })

-- the answers of the public calls

pub right_err : (bytes : List ℕ) (r : Result (Parts × Position) ReadError) (e : ReadError) → Tells (IsUnread bytes) e → r ≡ Err e → IsRight bytes r
right_err bytes r e t h = subst (IsRight bytes) (sym h) t

front_within : (bytes : List ℕ) (place : ℕ) → IsTextFront bytes place → place ≤ length bytes
front_within bytes place f =
    let l = length-append (texts f.pieces) f.rest in
    let e = ap length f.is in
    omega (arith, l, e, f.place_is)

pub place_within : (bytes : List ℕ) (p : Parts) (place : ℕ) → SpellsProblem bytes p place → place ≤ length bytes
place_within bytes p place s = front_within bytes place s.front.text

pub reads_each : (bytes : List ℕ) (p : Parts) (place : ℕ) → SpellsProblem bytes p place → ReadsEach bytes (Ok (p, place))
reads_each bytes p place s = record { read = λ q n t. let e = read_once bytes p q place n s t in λ i. (e.0 i, e.1 i) }

pub reads_none : (bytes : List ℕ) (r : Result (Parts × ℕ) ReadError) (e : ReadError) → r ≡ Err e → Tells (IsUnread bytes) e → ReadsEach bytes r
reads_none bytes r (error.At k l c) h t =
    subst (ReadsEach bytes) (sym h) (record { read = λ p n s. read_excludes bytes p n k (record { line = l; column = c }) s t })
reads_none bytes r error.NoMemory h t = subst (ReadsEach bytes) (sym h) (record { read = λ p n s. tt })

pub refuses_none : (bytes : List ℕ) (p : Parts) (place : ℕ) → SpellsProblem bytes p place → RefusesEach bytes (Ok (p, place))
refuses_none bytes p place s = record { refused = λ k x u. read_excludes bytes p place k x s u }

pub refuses_each : (bytes : List ℕ) (r : Result (Parts × ℕ) ReadError) (e : ReadError) → r ≡ Err e → Tells (IsUnread bytes) e → RefusesEach bytes r
refuses_each bytes r (error.At k l c) h t =
    subst (RefusesEach bytes) (sym h) (record { refused = λ j x u. unread_once bytes k j (record { line = l; column = c }) x t u })
refuses_each bytes r error.NoMemory h t = subst (RefusesEach bytes) (sym h) (record { refused = λ j x u. tt })

-- and those of all bytes

pub whole_told : (bytes : List ℕ) (e : ReadError) → Tells (IsUnread bytes) e → Tells (IsUnreadWhole bytes) e
whole_told bytes (error.At k l c) t = inl t
whole_told bytes error.NoMemory t = tt

pub reads_each_whole : (bytes : List ℕ) (p : Parts) → SpellsWhole bytes p → ReadsEachWhole bytes (Ok p)
reads_each_whole bytes p s = record { read = λ q t. (read_once bytes p q (length bytes) (length bytes) s t).0 }

pub refuses_none_whole : (bytes : List ℕ) (p : Parts) → SpellsWhole bytes p → RefusesEachWhole bytes (Ok p)
refuses_none_whole bytes p s = record { refused = λ k x u. whole_excludes bytes p k x s u }

pub reads_none_whole : (bytes : List ℕ) (r : Result Parts ReadError) (e : ReadError) → r ≡ Err e → Tells (IsUnreadWhole bytes) e → ReadsEachWhole bytes r
reads_none_whole bytes r (error.At k l c) h t =
    subst (ReadsEachWhole bytes) (sym h) (record { read = λ p s. whole_excludes bytes p k (record { line = l; column = c }) s t })
reads_none_whole bytes r error.NoMemory h t = subst (ReadsEachWhole bytes) (sym h) (record { read = λ p s. tt })

pub refuses_each_whole : (bytes : List ℕ) (r : Result Parts ReadError) (e : ReadError) → r ≡ Err e → Tells (IsUnreadWhole bytes) e → RefusesEachWhole bytes r
refuses_each_whole bytes r (error.At k l c) h t =
    subst (RefusesEachWhole bytes) (sym h) (record { refused = λ j x u. unread_whole_once bytes k j (record { line = l; column = c }) x t u })
refuses_each_whole bytes r error.NoMemory h t = subst (RefusesEachWhole bytes) (sym h) (record { refused = λ j x u. tt })

-- where the text ends before the bytes do, more follows
pub more_told : (bytes : List ℕ) (p : Parts) (place : Position) (r : ReadError) → IsRight bytes (Ok (p, place)) → place.offset < length bytes → r ≡ error.At MoreAfterEnd place.line place.column
    → Tells (IsUnreadWhole bytes) r
more_told bytes p place r s l h = subst (Tells (IsUnreadWhole bytes)) (sym h)
    (inr (refl, record { problem = p; place = place.offset; spells = s.0; more = l; position_is = s.1 }))

-- and where it doesn't, all of them spell the problem
pub all_spell : (bytes : List ℕ) (p : Parts) (place : Position) → IsRight bytes (Ok (p, place)) → length bytes ≤ place.offset → SpellsWhole bytes p
all_spell bytes p place s l =
    let w = place_within bytes p place.offset s.0 in
    let e : place.offset ≡ length bytes = omega (arith, w, l) in
    subst (SpellsProblem bytes p) e s.0
