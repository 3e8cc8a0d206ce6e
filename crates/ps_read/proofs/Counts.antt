-- What a count's refusal says of the items and of the text.
use Rattle.std.proofs.Common.{◌≡◌, ℕ, zero, suc, ◌+◌, ◌-◌, ◌<◌, ◌≤◌, List, [], ◌∷◌, ◌++◌, length, take, inr, refl, ap, subst, ◌∙◌, arith, append_assoc}
use Rattle.std.proofs.lemmas.List.{length-take-le}
use Rattle.std.specs.Prelude.{Result, Ok, Err, nat_lt, if◌then◌else◌}
use Rattle.ps_meaning.specs.Formula.{Formula}
use Rattle.ps_meaning.specs.Statements.{Name, Item, Stated, Asked}
use Rattle.ps_text.specs.Pieces.{Spelled, texts}
use Rattle.ps_text.specs.Grammar.{ItemSyntax}
use Rattle.ps_text.specs.Meanings.{AreItems}
use Rattle.ps_text.specs.Positions as text
use Rattle.ps_text.proofs.Laying.{texts-append}
use Rattle.ps_lex.specs.declared.position.Position.{Position}
use Rattle.ps_lex.specs.Places.{line_and_column}
use Rattle.ps_problem.specs.declared.limits.TheConstants.{MOST_QUERIES}
use Rattle.ps_problem.specs.Numbering.{numbered_for, numbered_in}
use Rattle.ps_problem.specs.Problems.{Parts}
use Rattle.ps_problem.specs.declared.excess.Excess.{Excess}
use Rattle.ps_problem.specs.declared.excess.Excess.TheVariants.{Queries}
use Rattle.ps_problem.specs.Counts.{ItemExcess, count_bounds, statement_excess, unless, with_formulas, at_item, with_statements, with_questions, after, counted}
use Rattle.ps_read.specs.Kept.{drafted_in}
use Rattle.ps_text.specs.declared.kind.ReadKind.{ReadKind}
use Rattle.ps_read.specs.Readings.{IsProblemOf, SpellsProblem, IsUnread}
use Rattle.ps_read.specs.Answers.{Parsed, IsExcessIn}
use Rattle.ps_read.proofs.OneReading.{err_same}
use Rattle.ps_read.proofs.Right.{IsParsedText, is_position}

-- an item's number is one of those from `before` on
record IsAmong (before : ℕ) (items : List Item) (r : ItemExcess) : Type 0 where
  least : before + 1 ≤ r.item
  most : r.item ≤ before + length items

further_on : (before : ℕ) (i : Item) (items : List Item) (r : ItemExcess) → IsAmong (before + 1) items r → IsAmong before (i ∷ items) r
further_on before i items r h = record { least = omega (arith, h.least); most = omega (arith, h.most) }

at_this : (before : ℕ) (i : Item) (items : List Item) (x : Result (List (Formula Name)) Excess) (more : List (Formula Name) → Result (List (Formula Name)) ItemExcess) (r : ItemExcess)
    → at_item (before + 1) x more ≡ Err r → ((fs : List (Formula Name)) → more fs ≡ Err r → IsAmong before (i ∷ items) r) → IsAmong before (i ∷ items) r
at_this before i items (Err e) more r h k = subst (IsAmong before (i ∷ items)) (err_same (record { excess = e; item = before + 1 }) r (Err (record { excess = e; item = before + 1 })) refl h) (record { least = omega arith; most = omega arith })
at_this before i items (Ok fs) more r h k = k fs h

statements_among : (before bounds : ℕ) (fs : List (Formula Name)) (items : List Item) (r : ItemExcess) → with_statements before bounds fs items ≡ Err r → IsAmong before items r
statements_among before bounds fs [] r h = absurd cc
statements_among before bounds fs (Asked q ∷ items) r h = further_on before (Asked q) items r (statements_among (before + 1) bounds fs items r h)
statements_among before bounds fs (Stated s ∷ items) r h =
    at_this before (Stated s) items (unless (statement_excess bounds s) (with_formulas fs (numbered_in s)))
    (λ gs. with_statements (before + 1) (bounds + count_bounds s) gs items) r h
    (λ gs k. further_on before (Stated s) items r (statements_among (before + 1) (bounds + count_bounds s) gs items r k))

questions_among : (before asked : ℕ) (fs : List (Formula Name)) (items : List Item) (r : ItemExcess) → with_questions before asked fs items ≡ Err r → IsAmong before items r
questions_among before asked fs [] r h = absurd cc
questions_among before asked fs (Stated s ∷ items) r h = further_on before (Stated s) items r (questions_among (before + 1) asked fs items r h)
questions_among before asked fs (Asked q ∷ items) r h =
    at_this before (Asked q) items (if nat_lt MOST_QUERIES (asked + 1) then Err Queries else with_formulas fs (numbered_for q.formula q.given))
    (λ gs. with_questions (before + 1) (asked + 1) gs items) r h
    (λ gs k. further_on before (Asked q) items r (questions_among (before + 1) (asked + 1) gs items r k))

-- a count is refused at one of the items
counted_among : (items : List Item) (r : ItemExcess) → counted items ≡ Err r → IsAmong 0 items r
counted_among items r h = by (with_statements 0 0 [] items) refl h
  where
    by : (x : Result (List (Formula Name)) ItemExcess) → with_statements 0 0 [] items ≡ x → after x (λ fs. with_questions 0 0 fs items) ≡ Err r → IsAmong 0 items r
    by (Err e) k l = statements_among 0 0 [] items r (k ∙ l)
    by (Ok fs) k l = questions_among 0 0 fs items r l

pub refused_least : (items : List Item) (r : ItemExcess) → counted items ≡ Err r → 1 ≤ r.item
refused_least items r h = omega (arith, (counted_among items r h).least)

pub refused_most : (items : List Item) (r : ItemExcess) → counted items ≡ Err r → r.item ≤ length items
refused_most items r h = omega (arith, (counted_among items r h).most)

-- as many items as are written
pub items_many : (es : List ItemSyntax) (is : List Item) → AreItems es is → length is ≡ length es
items_many [] [] h = refl
items_many [] (i ∷ is) h = absurd h
items_many (e ∷ es) [] h = absurd h
items_many (e ∷ es) (i ∷ is) h = let n = items_many es is h.1 in omega (arith, n)

-- a list about one of its members
record Split (es : List ItemSyntax) (i : ℕ) : Type 0 where
  item : ItemSyntax
  later : List ItemSyntax
  is : es ≡ take i es ++ item ∷ later

split : (es : List ItemSyntax) (i : ℕ) → i < length es → Split es i
split [] i l = absurd (omega (arith, l))
split (e ∷ es) zero l = record { item = e; later = es; is = refl }
split (e ∷ es) (suc i) l = let s = split es i (omega (arith, l)) in record { item = s.item; later = s.later; is = ap (λ fs. e ∷ fs) s.is }

-- a problem is spelled where what was parsed makes it
pub spelled : (bytes : List ℕ) (place : Position) (x : Parsed) (p : Parts) → IsParsedText bytes place x → IsProblemOf (drafted_in x.machine).items p → SpellsProblem bytes p place.offset
spelled bytes place x p t m = record { items = (drafted_in x.machine).items; front = record { text = t.front; meant = t.items }; made = m }

-- and a count is refused where its first excess is
pub refused : (bytes : List ℕ) (place : Position) (x : Parsed) (kind : ReadKind) (position : text.Position) → IsParsedText bytes place x → IsExcessIn x kind position → IsUnread bytes kind position
refused bytes place x kind position t e =
    let items = (drafted_in x.machine).items in
    let many : length items ≡ length t.front.written.items = items_many t.front.written.items items t.items in
    let least : 1 ≤ e.first.item = refused_least items e.first e.counts in
    let most : e.first.item ≤ length items = refused_most items e.first e.counts in
    let i = e.first.item - 1 in
    let s = split t.front.written.items (e.first.item - 1) (omega (arith, least, most, many)) in
    let b = t.begun.each (e.first.item - 1) (omega (arith, least, most, many, t.begun.many)) in
    let there : bytes ≡ texts b.before ++ (texts (Spelled b.first ∷ b.behind) ++ t.front.rest) =
    t.front.is ∙ ap (λ ps. texts ps ++ t.front.rest) b.pieces_are ∙ ap (λ bs. bs ++ t.front.rest) (texts-append b.before (Spelled b.first ∷ b.behind))
    ∙ append_assoc (texts b.before) (texts (Spelled b.first ∷ b.behind)) t.front.rest in
    inr (record {
      items = items;
      behind = place.offset;
      front = record { text = t.front; meant = t.items };
      first = e.first;
      counts = e.counts;
      place = length (texts b.before);
      begins = record {
        earlier = take (e.first.item - 1) t.front.written.items;
        item = s.item;
        later = s.later;
        written_are = s.is;
        number_is = let l = length-take-le (e.first.item - 1) t.front.written.items (omega (arith, least, most, many)) in omega (arith, l, least);
        before = b.before;
        first = b.first;
        behind = b.behind;
        pieces_are = b.pieces_are;
        tokens_are = b.tokens_are;
        place_is = refl;
      };
      kind_is = e.kind_is;
      position_is = e.position_is ∙ ap line_and_column b.position_is ∙ is_position bytes b.before (texts (Spelled b.first ∷ b.behind) ++ t.front.rest) there;
    })
