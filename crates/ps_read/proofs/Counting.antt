-- One token more counts for at most one name, one formula and one item.
use Rattle.std.proofs.Common.{◌≡◌, ℕ, ◌+◌, ◌-◌, ◌≤◌, Bool, true, false, List, [], ◌∷◌, ◌++◌, length, refl, sym, subst, arith}
use Rattle.std.proofs.lemmas.List.{length-append}
use Rattle.std.specs.Prelude.{bytes_eq, codes, nat_le, if◌then◌else◌}
use Rattle.std.specs.List.{list_any}
use Rattle.ps_meaning.specs.Statements.{Name, Item}
use Rattle.ps_text.specs.Tokens.{Token, Word, Number, Sign}
use Rattle.ps_text.specs.declared.symbol.Symbol.{Symbol}
use Rattle.ps_text.specs.declared.symbol.Symbol.TheVariants.{Open, Close, OpenBracket, CloseBracket, Comma, Semicolon, Bang, Ampersand, Bar, Arrow, DoubleArrow, Equals, GreaterEquals, LessEquals, Plus, Minus}
use Rattle.ps_text.specs.declared.part.Part.{Part}
use Rattle.ps_text.specs.declared.part.Part.TheVariants as part
use Rattle.ps_problem.specs.declared.limits.TheConstants.{MOST_DRAFTED}
use Rattle.ps_problem.specs.declared.mark.Mark.TheVariants as mark
use Rattle.ps_problem.specs.Numbering.{same_name}
use Rattle.ps_problem.specs.Drafts.{Drafted, with_mark, with_formula, with_item}
use Rattle.ps_read.specs.declared.operator.Operator.{Operator}
use Rattle.ps_read.specs.Pending.{Pending, binding, mark_of, reduced, reduced_from, IsEndable}
use Rattle.ps_read.specs.Machine.{at_first, ItemSoFar, Work, Machine, with_pending, with_atom, with_word, operand_taken, given_taken, probability_ended, closed_behind, operator_taken, relation_taken, taken_at, next}
use Rattle.ps_read.specs.Taking.{CountsAtMost}
use Rattle.ps_read.specs.Ready.{HasRoom, IsWhole, MayEnd, MayBeTaken}

-- names, formulas and items of a draft are at most so many
record IsFew (n : ℕ) (d : Drafted) : Type 0 where
  names : length d.names ≤ n
  formulas : length d.formulas ≤ n
  items : length d.items ≤ n

few_more : (n : ℕ) (d : Drafted) → IsFew n d → IsFew (n + 1) d
few_more n d h = record { names = omega (arith, h.names); formulas = omega (arith, h.formulas); items = omega (arith, h.items) }

-- what is marked changes no count
few_reduced : (n k : ℕ) (os : List Operator) (d : Drafted) → IsFew n d → IsFew n (reduced_from k os d).draft
few_reduced n k [] d h = h
few_reduced n k (o ∷ os) d h = by (nat_le k (binding o)) (few_reduced n k os (with_mark d (mark_of o)) (record { names = h.names; formulas = h.formulas; items = h.items }))
  where
    by : (b : Bool) → IsFew n (reduced_from k os (with_mark d (mark_of o))).draft → IsFew n (if b then reduced_from k os (with_mark d (mark_of o)) else record { operators = o ∷ os; draft = d }).draft
    by true rest = rest
    by false rest = h

one_behind : {X : Type 0} (xs : List X) (x : X) (n : ℕ) → length xs ≤ n → length (xs ++ x ∷ []) ≤ n + 1
one_behind xs x n h = let l : length (xs ++ x ∷ []) ≡ length xs + 1 = length-append xs (x ∷ []) in omega (arith, l, h)

few_atom : (n : ℕ) (d : Drafted) (w : Name) → IsFew n d → IsFew (n + 1) (with_atom d w)
few_atom n d w h = record { names = by (list_any (same_name w) d.names); formulas = omega (arith, h.formulas); items = omega (arith, h.items) }
  where
    by : (b : Bool) → length (if b then d.names else d.names ++ w ∷ []) ≤ n + 1
    by true = omega (arith, h.names)
    by false = one_behind d.names w n h.names

few_word : (n : ℕ) (d : Drafted) (w : Name) → IsFew n d → IsFew (n + 1) (with_word d w)
few_word n d w h = by (bytes_eq w (codes "true")) (bytes_eq w (codes "false"))
  where
    by : (a b : Bool) → IsFew (n + 1) (if a then with_mark d mark.True else (if b then with_mark d mark.False else with_atom d w))
    by true b = let m = few_more n d h in record { names = m.names; formulas = m.formulas; items = m.items }
    by false true = let m = few_more n d h in record { names = m.names; formulas = m.formulas; items = m.items }
    by false false = few_atom n d w h

few_operand : (n : ℕ) (p : Pending) (t : Token) → IsFew n p.draft → IsFew (n + 1) (operand_taken p t).draft
few_operand n p (Word w) h = few_reduced (n + 1) 5 p.operators (with_word p.draft w) (few_word n p.draft w h)
few_operand n p (Number x) h = let m = few_more n p.draft h in few_reduced (n + 1) 5 p.operators (with_mark p.draft mark.True) (record { names = m.names; formulas = m.formulas; items = m.items })
few_operand n p (Sign s) h = few_sign s
  where
    few_sign : (s : Symbol) → IsFew (n + 1) (operand_taken p (Sign s)).draft
    few_sign Bang = few_more n p.draft h
    few_sign Open = few_more n p.draft h
    few_sign Close = few_more n p.draft h
    few_sign OpenBracket = few_more n p.draft h
    few_sign CloseBracket = few_more n p.draft h
    few_sign Comma = few_more n p.draft h
    few_sign Semicolon = few_more n p.draft h
    few_sign Ampersand = few_more n p.draft h
    few_sign Bar = few_more n p.draft h
    few_sign Arrow = few_more n p.draft h
    few_sign DoubleArrow = few_more n p.draft h
    few_sign Equals = few_more n p.draft h
    few_sign GreaterEquals = few_more n p.draft h
    few_sign LessEquals = few_more n p.draft h
    few_sign Plus = few_more n p.draft h
    few_sign Minus = few_more n p.draft h

few_formula : (n : ℕ) (d : Drafted) → IsEndable d → IsFew n d → IsFew (n + 1) (with_formula d)
few_formula n d e h =
    let l : length (d.formulas ++ d.«open») ≡ length d.formulas + length d.«open» = length-append d.formulas d.«open» in
    record { names = omega (arith, h.names); formulas = omega (arith, l, e.one, h.formulas); items = omega (arith, h.items) }

few_closed : (n : ℕ) (i : ItemSoFar) (os : List Operator) (d : Drafted) → (os ≡ [] → IsEndable d) → IsFew n d → IsFew (n + 1) (closed_behind i os d).pending.draft
few_closed n i [] d e h = by i.query
  where
    by : (b : Bool) → IsFew (n + 1) (probability_ended b (record { pending = record { operators = []; draft = d }; item = i })).pending.draft
    by false = few_formula n d (e refl) h
    by true = let m = few_formula n d (e refl) h in record { names = m.names; formulas = m.formulas; items = one_behind d.items _ n h.items }
few_closed n i (o ∷ os) d e h = few_reduced (n + 1) 5 os d (few_more n d h)

few_operator : (n : ℕ) (w : Work) (t : Token) → MayEnd w t → IsFew n w.pending.draft → IsFew (n + 1) (operator_taken w t).pending.draft
few_operator n w t m h = at_operator t m
  where
    marked : (k : ℕ) → IsFew (n + 1) (reduced k w.pending).draft
    marked k = few_more n (reduced k w.pending).draft (few_reduced n k w.pending.operators w.pending.draft h)

    given : IsWhole w → IsFew (n + 1) (given_taken w).pending.draft
    given i = few_formula n (reduced 1 w.pending).draft i.formula (few_reduced n 1 w.pending.operators w.pending.draft h)

    at_operator : (t : Token) → MayEnd w t → IsFew (n + 1) (operator_taken w t).pending.draft
    at_operator (Sign Close) m = few_closed n w.item (reduced 1 w.pending).operators (reduced 1 w.pending).draft m.formula (few_reduced n 1 w.pending.operators w.pending.draft h)
    at_operator (Sign Ampersand) m = marked 4
    at_operator (Sign Bar) m = marked 3
    at_operator (Sign Arrow) m = marked 3
    at_operator (Sign DoubleArrow) m = marked 1
    at_operator (Word u) m = given m
    at_operator (Number x) m = given m
    at_operator (Sign Open) m = given m
    at_operator (Sign OpenBracket) m = given m
    at_operator (Sign CloseBracket) m = given m
    at_operator (Sign Comma) m = given m
    at_operator (Sign Semicolon) m = given m
    at_operator (Sign Bang) m = given m
    at_operator (Sign Equals) m = given m
    at_operator (Sign GreaterEquals) m = given m
    at_operator (Sign LessEquals) m = given m
    at_operator (Sign Plus) m = given m
    at_operator (Sign Minus) m = given m

few_item : (n : ℕ) (d : Drafted) (i : Item) → IsFew n d → IsFew (n + 1) (with_item d i)
few_item n d i h = record { names = omega (arith, h.names); formulas = omega (arith, h.formulas); items = one_behind d.items i n h.items }

few_relation : (n : ℕ) (w : Work) (t : Token) → IsFew n w.pending.draft → IsFew (n + 1) (relation_taken w t).pending.draft
few_relation n w (Word u) h = few_more n w.pending.draft h
few_relation n w (Number x) h = few_more n w.pending.draft h
few_relation n w (Sign s) h = by s
  where
    by : (s : Symbol) → IsFew (n + 1) (relation_taken w (Sign s)).pending.draft
    by Open = few_more n w.pending.draft h
    by Close = few_more n w.pending.draft h
    by OpenBracket = few_more n w.pending.draft h
    by CloseBracket = few_more n w.pending.draft h
    by Comma = few_more n w.pending.draft h
    by Semicolon = few_more n w.pending.draft h
    by Bang = few_more n w.pending.draft h
    by Ampersand = few_more n w.pending.draft h
    by Bar = few_more n w.pending.draft h
    by Arrow = few_more n w.pending.draft h
    by DoubleArrow = few_more n w.pending.draft h
    by Equals = few_more n w.pending.draft h
    by GreaterEquals = few_more n w.pending.draft h
    by LessEquals = few_more n w.pending.draft h
    by Plus = few_more n w.pending.draft h
    by Minus = few_more n w.pending.draft h

few : (n : ℕ) (p : Part) (w : Work) (t : Token) → MayBeTaken p w t → IsFew n w.pending.draft → IsFew (n + 1) (taken_at p w t).pending.draft
few n part.Psat w t r h = few_more n w.pending.draft h
few n part.Version w t r h = few_more n w.pending.draft h
few n part.HeadEnd w t r h = few_more n w.pending.draft h
few n part.Item w (Word u) r h = few_more n w.pending.draft h
few n part.Item w (Number x) r h = few_more n w.pending.draft h
few n part.Item w (Sign s) r h = few_more n w.pending.draft h
few n part.Term w (Word u) r h = few_more n w.pending.draft h
few n part.Term w (Number x) r h = few_more n w.pending.draft h
few n part.Term w (Sign s) r h = few_more n w.pending.draft h
few n part.TermProb w t r h = few_more n w.pending.draft h
few n part.QueryProb w t r h = few_more n w.pending.draft h
few n part.Paren w t r h = few_more n w.pending.draft h
few n part.Operand w t r h = few_operand n w.pending t h
few n part.Operator w t r h = few_operator n w t r.1 h
few n part.Relation w t r h = few_relation n w t h
few n part.Number w (Word u) r h = few_more n w.pending.draft h
few n part.Number w (Sign s) r h = few_more n w.pending.draft h
few n part.Number w (Number x) r h = few_item n w.pending.draft _ h
few n part.ItemEnd w t r h = few_more n w.pending.draft h
few n part.Bracket w t r h = few_more n w.pending.draft h
few n part.First w (Word u) r h = few_more n w.pending.draft h
few n part.First w (Sign s) r h = few_more n w.pending.draft h
few n part.First w (Number x) r h = few_more n w.pending.draft h
few n part.Comma w t r h = few_more n w.pending.draft h
few n part.Second w (Word u) r h = few_more n w.pending.draft h
few n part.Second w (Sign s) r h = few_more n w.pending.draft h
few n part.Second w (Number x) r h = few_item n w.pending.draft _ h
few n part.BracketEnd w t r h = few_more n w.pending.draft h
few n part.TextEnd w t r h = few_more n w.pending.draft h
few n part.Done w t r h = few_more n w.pending.draft h

pub counted : (n : ℕ) (m : Machine) (t : Token) → MayBeTaken m.state.part m.work t → CountsAtMost n m → CountsAtMost (n + 1) (next m t)
counted n m t r h =
    let f = few n m.state.part m.work t r (record { names = h.names; formulas = h.formulas; items = h.items }) in
    record { names = f.names; formulas = f.formulas; items = f.items }

pub has_room : (m : Machine) → CountsAtMost (MOST_DRAFTED - 1) m → HasRoom m.work
has_room m h = record { names = omega (arith, h.names); formulas = omega (arith, h.formulas); items = omega (arith, h.items) }

-- what is marked takes no room
pub room_reduced : (k : ℕ) (w : Work) → HasRoom w → HasRoom (with_pending w (reduced k w.pending))
room_reduced k w h =
    let f = few_reduced (MOST_DRAFTED - 1) k w.pending.operators w.pending.draft (record { names = omega (arith, h.names); formulas = omega (arith, h.formulas); items = omega (arith, h.items) }) in
    record { names = omega (arith, f.names); formulas = omega (arith, f.formulas); items = omega (arith, f.items) }

pub counts_more : (n : ℕ) (m : Machine) → CountsAtMost n m → CountsAtMost (n + 1) m
counts_more n m h = record { names = omega (arith, h.names); formulas = omega (arith, h.formulas); items = omega (arith, h.items) }

-- before the first token nothing is counted
pub first_counts : (m : Machine) → m ≡ at_first → CountsAtMost 0 m
first_counts m e = subst (λ x. CountsAtMost 0 x) (sym e) (record { names = omega arith; formulas = omega arith; items = omega arith })
