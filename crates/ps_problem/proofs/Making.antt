-- Going through the items of a draft, first for its statements and then for its questions.
use Rattle.std.proofs.Common.{◌≡◌, ℕ, ◌+◌, ◌<◌, ◌≤◌, Bool, true, false, nat_lt, List, [], ◌∷◌, ◌++◌, Option, Some, None, Ok, Err, length, map, take, drop, slice_get, refl, sym, ap, subst, ◌∙◌, arith, if◌then◌else◌}
use Rattle.std.proofs.lemmas.List.{take_more, take_all, drop_more, drop_all, length-append, length_push, append-nil}
use Rattle.std.proofs.lemmas.List.Elements.{All-nil}
use Rattle.std.proofs.lemmas.Option.{slice_get_within, get_or_from_slice_get}
use Rattle.std.proofs.lemmas.Bool.Decides.{nat_tests}
use Rattle.ps_meaning.specs.Statements.{Name, Statement, Question, Item, Stated, Asked, statements_of, questions_of}
use Rattle.ps_problem.specs.declared.limits.TheConstants.{MOST_BOUNDS, MOST_QUERIES}
use Rattle.ps_problem.specs.declared.query.Query.{Query}
use Rattle.ps_problem.specs.declared.fault.Fault.{Fault}
use Rattle.ps_problem.specs.declared.fault.Fault.TheVariants as fault
use Rattle.ps_problem.specs.declared.building.Building.{Building}
use Rattle.ps_problem.specs.declared.assembly.Assembly.{Assembly}
use Rattle.ps_problem.specs.Drafts.{Drafted}
use Rattle.ps_problem.specs.Problems.{parts_of}
use Rattle.ps_problem.specs.Rows.{rows_in}
use Rattle.ps_problem.specs.Numbering.{AreOnce, same_name, names_among, sentence_in, query_in, numbered_for, numbered_in, problem_of, formulas_of, node_in}
use Rattle.ps_problem.specs.declared.excess.Excess.TheVariants.{Bounds, Queries, Numbers}
use Rattle.ps_problem.specs.declared.excess.Excess.{Excess}
use Rattle.ps_problem.specs.Counts.{count_bounds, has_large_numbers, statement_excess, unless, with_formulas, at_item, with_statements, with_questions, after, counted}
use Rattle.ps_problem.specs.Numbered.{Built, AreOperandsAmong, HasQuestion, GivesQuery, IsFaultOf}
use Rattle.ps_problem.specs.Problems.{name_at}
use Rattle.ps_problem.specs.Making.{HasItems, HasStatement, SentencesMade, QueriesMade, IsExcess, question_on}
use Rattle.ps_problem.proofs.Turns.{with-more}
use Rattle.ps_problem.proofs.Growth.{length-rows, holds-more, holds-statement, holds-question}
use Rattle.ps_problem.proofs.Counted.{counted-formulas}

statements-append : (xs ys : List Item) → statements_of (xs ++ ys) ≡ statements_of xs ++ statements_of ys
statements-append [] ys = refl
statements-append (Stated s ∷ xs) ys = ap (λ ss. s ∷ ss) (statements-append xs ys)
statements-append (Asked q ∷ xs) ys = statements-append xs ys

questions-append : (xs ys : List Item) → questions_of (xs ++ ys) ≡ questions_of xs ++ questions_of ys
questions-append [] ys = refl
questions-append (Stated s ∷ xs) ys = questions-append xs ys
questions-append (Asked q ∷ xs) ys = ap (λ qs. q ∷ qs) (questions-append xs ys)

-- what is left begins with the item that stands there
left-at : (items : List Item) (i : ℕ) (x : Item) → slice_get items i ≡ Some x → drop i items ≡ x ∷ drop (i + 1) items
left-at items i x at = drop_more items i x (slice_get_within items i x at) ∙ ap (λ y. y ∷ drop (i + 1) items) (get_or_from_slice_get items i x x at)

-- one item more has been gone through
done-at : (items : List Item) (i : ℕ) (x : Item) → slice_get items i ≡ Some x → take (i + 1) items ≡ take i items ++ x ∷ []
done-at items i x at = take_more items i x (slice_get_within items i x at) ∙ ap (λ y. take i items ++ y ∷ []) (get_or_from_slice_get items i x x at)

module _ (d : Drafted) where
  module _ (i : ℕ) (a : Assembly) (r : SentencesMade d i a) where
    -- the item is a question
    pub stating-skip : (q : Question) → slice_get d.items i ≡ Some (Asked q) → SentencesMade d (i + 1) a
    stating-skip q at = record {
      built = r.built;
      holds = subst (λ ss. HasItems r.built.formulas ss [] a.sentences a.rows a.queries)
          (sym (ap statements_of (done-at d.items i (Asked q) at) ∙ statements-append (take i d.items) (Asked q ∷ []) ∙ append-nil (statements_of (take i d.items)))) r.holds;
      rest = ap (λ xs. after (with_statements i (length a.rows) r.built.formulas xs) (λ fs. with_questions 0 0 fs d.items)) (sym (left-at d.items i (Asked q) at)) ∙ r.rest;
    }

    module _ (s : Statement) (at : slice_get d.items i ≡ Some (Stated s)) where
      turn : after (with_statements i (length a.rows) r.built.formulas (Stated s ∷ drop (i + 1) d.items)) (λ fs. with_questions 0 0 fs d.items) ≡ counted d.items
      turn = ap (λ xs. after (with_statements i (length a.rows) r.built.formulas xs) (λ fs. with_questions 0 0 fs d.items)) (sym (left-at d.items i (Stated s) at)) ∙ r.rest

      split : (o : Option Excess) → statement_excess (length a.rows) s ≡ o
          → after (at_item (i + 1) (unless o (with_formulas r.built.formulas (numbered_in s))) (λ gs. with_statements (i + 1) (length a.rows + count_bounds s) gs (drop (i + 1) d.items))) (λ fs. with_questions 0 0 fs d.items)
          ≡ counted d.items
      split o e = ap (λ c. after (at_item (i + 1) (unless c (with_formulas r.built.formulas (numbered_in s))) (λ gs. with_statements (i + 1) (length a.rows + count_bounds s) gs (drop (i + 1) d.items))) (λ fs. with_questions 0 0 fs d.items)) (sym e) ∙ turn

      excess-is : (l c : Bool) → has_large_numbers s ≡ l → nat_lt MOST_BOUNDS (length a.rows + count_bounds s) ≡ c
          → statement_excess (length a.rows) s ≡ (if l then Some Numbers else (if c then Some Bounds else None))
      excess-is l c p q = ap (λ x. if x then Some Numbers else (if nat_lt MOST_BOUNDS (length a.rows + count_bounds s) then Some Bounds else None)) p
          ∙ ap (λ x. if l then Some Numbers else (if x then Some Bounds else None)) q

      -- its numbers are too large
      pub stating-large : has_large_numbers s ≡ true → counted d.items ≡ Err (record { excess = Numbers; item = i + 1 })
      stating-large large = sym (split (Some Numbers) (excess-is true (nat_lt MOST_BOUNDS (length a.rows + count_bounds s)) large refl))

      module _ (small : has_large_numbers s ≡ false) where
        -- its bounds are too many
        pub stating-full : MOST_BOUNDS < length a.rows + count_bounds s → counted d.items ≡ Err (record { excess = Bounds; item = i + 1 })
        stating-full lt = let t : nat_lt MOST_BOUNDS (length a.rows + count_bounds s) ≡ true = grind (arith, nat_tests) in sym (split (Some Bounds) (excess-is false true small t))

        module _ (few : length a.rows + count_bounds s ≤ MOST_BOUNDS) where
          fits : after (at_item (i + 1) (with_formulas r.built.formulas (numbered_in s)) (λ gs. with_statements (i + 1) (length a.rows + count_bounds s) gs (drop (i + 1) d.items))) (λ fs. with_questions 0 0 fs d.items)
              ≡ counted d.items
          fits = let t : nat_lt MOST_BOUNDS (length a.rows + count_bounds s) ≡ false = grind (arith, nat_tests) in split None (excess-is false false small t)

          -- its formulas don't fit
          pub stating-stop : (x : Fault) → IsFaultOf (with_formulas r.built.formulas (numbered_in s)) x → IsExcess d.items (i + 1) x
          stating-stop x t = by x t
            where
              by : (x : Fault) → IsFaultOf (with_formulas r.built.formulas (numbered_in s)) x → IsExcess d.items (i + 1) x
              by fault.NoMemory t = tt
              by (fault.TooMany e) t = sym fits ∙ ap (λ w. after (at_item (i + 1) w (λ gs. with_statements (i + 1) (length a.rows + count_bounds s) gs (drop (i + 1) d.items))) (λ fs. with_questions 0 0 fs d.items)) t

          pub stating-next : (b : Building) (h : Built d.names b.atoms b.formulas) → with_formulas r.built.formulas (numbered_in s) ≡ Ok h.formulas → HasStatement h.formulas s
              → SentencesMade d (i + 1) (record { building = b; sentences = a.sentences ++ sentence_in h.formulas s ∷ []; rows = a.rows ++ rows_in (sentence_in h.formulas s ∷ []); queries = a.queries })
          stating-next b h expected there =
              let more = with-more r.built.formulas (numbered_in s) h.formulas expected in
              let kept = subst (λ gs. HasItems gs (statements_of (take i d.items)) [] a.sentences a.rows a.queries) (sym more.1)
              (holds-more r.built.formulas (statements_of (take i d.items)) [] a.sentences a.rows a.queries r.holds more.0) in
              let n = length-append a.rows (rows_in (sentence_in h.formulas s ∷ [])) ∙ ap (λ k. length a.rows + k) (length-rows h.formulas s) in
              record {
                built = h;
                holds = subst (λ ss. HasItems h.formulas ss [] (a.sentences ++ sentence_in h.formulas s ∷ []) (a.rows ++ rows_in (sentence_in h.formulas s ∷ [])) a.queries)
                    (sym (ap statements_of (done-at d.items i (Stated s) at) ∙ statements-append (take i d.items) (Stated s ∷ [])))
                    (holds-statement h.formulas (statements_of (take i d.items)) [] a.sentences a.rows a.queries kept s there);
                rest = ap (λ k. after (with_statements (i + 1) k h.formulas (drop (i + 1) d.items)) (λ fs. with_questions 0 0 fs d.items)) n
                    ∙ sym (ap (λ w. after (at_item (i + 1) w (λ gs. with_statements (i + 1) (length a.rows + count_bounds s) gs (drop (i + 1) d.items))) (λ fs. with_questions 0 0 fs d.items)) expected) ∙ fits;
              }

  module _ (i : ℕ) (a : Assembly) (r : QueriesMade d i a) where
    -- the item is a statement
    pub asking-skip : (s : Statement) → slice_get d.items i ≡ Some (Stated s) → QueriesMade d (i + 1) a
    asking-skip s at = record {
      built = r.built;
      holds = subst (λ qs. HasItems r.built.formulas (statements_of d.items) qs a.sentences a.rows a.queries)
          (sym (ap questions_of (done-at d.items i (Stated s) at) ∙ questions-append (take i d.items) (Stated s ∷ []) ∙ append-nil (questions_of (take i d.items)))) r.holds;
      rest = ap (with_questions i (length a.queries) r.built.formulas) (sym (left-at d.items i (Stated s) at)) ∙ r.rest;
    }

    module _ (q : Question) (at : slice_get d.items i ≡ Some (Asked q)) where
      asked-split : (b : Bool) → nat_lt MOST_QUERIES (length a.queries + 1) ≡ b
          → at_item (i + 1) (if b then Err Queries else with_formulas r.built.formulas (numbered_for q.formula q.given)) (λ gs. with_questions (i + 1) (length a.queries + 1) gs (drop (i + 1) d.items)) ≡ counted d.items
      asked-split b e = ap (λ c. at_item (i + 1) (if c then Err Queries else with_formulas r.built.formulas (numbered_for q.formula q.given)) (λ gs. with_questions (i + 1) (length a.queries + 1) gs (drop (i + 1) d.items))) (sym e)
          ∙ ap (with_questions i (length a.queries) r.built.formulas) (sym (left-at d.items i (Asked q) at)) ∙ r.rest

      -- there are enough questions already
      pub asking-full : MOST_QUERIES ≤ length a.queries → counted d.items ≡ Err (record { excess = Queries; item = i + 1 })
      asking-full le = sym (asked-split true (grind (arith, nat_tests)))

      module _ (few : length a.queries < MOST_QUERIES) where
        asked-fits : at_item (i + 1) (with_formulas r.built.formulas (numbered_for q.formula q.given)) (λ gs. with_questions (i + 1) (length a.queries + 1) gs (drop (i + 1) d.items)) ≡ counted d.items
        asked-fits = asked-split false (grind (arith, nat_tests))

        -- its formulas don't fit
        pub asking-stop : (x : Fault) → IsFaultOf (with_formulas r.built.formulas (numbered_for q.formula q.given)) x → IsExcess d.items (i + 1) x
        asking-stop x t = by x t
          where
            by : (x : Fault) → IsFaultOf (with_formulas r.built.formulas (numbered_for q.formula q.given)) x → IsExcess d.items (i + 1) x
            by fault.NoMemory t = tt
            by (fault.TooMany e) t = sym asked-fits ∙ ap (λ w. at_item (i + 1) w (λ gs. with_questions (i + 1) (length a.queries + 1) gs (drop (i + 1) d.items))) t

        pub asking-next : (b : Building) (query : Query)
            → GivesQuery d.names (with_formulas r.built.formulas (numbered_for q.formula q.given)) q b.atoms b.formulas (Ok query)
            → QueriesMade d (i + 1) (record { building = b; sentences = a.sentences; rows = a.rows; queries = a.queries ++ query ∷ [] })
        asking-next b query f =
            let more = with-more r.built.formulas (numbered_for q.formula q.given) f.0.formulas f.1 in
            let kept = subst (λ gs. HasItems gs (statements_of d.items) (questions_of (take i d.items)) a.sentences a.rows a.queries) (sym more.1)
            (holds-more r.built.formulas (statements_of d.items) (questions_of (take i d.items)) a.sentences a.rows a.queries r.holds more.0) in
            record {
              built = f.0;
              holds = subst (λ qs. HasItems f.0.formulas (statements_of d.items) qs a.sentences a.rows (a.queries ++ query ∷ []))
                  (sym (ap questions_of (done-at d.items i (Asked q) at) ∙ questions-append (take i d.items) (Asked q ∷ [])))
                  (subst (λ x. HasItems f.0.formulas (statements_of d.items) (questions_of (take i d.items) ++ q ∷ []) a.sentences a.rows (a.queries ++ x ∷ [])) (sym f.3)
                  (holds-question f.0.formulas (statements_of d.items) (questions_of (take i d.items)) a.sentences a.rows a.queries kept q f.2));
              rest = ap (λ k. with_questions (i + 1) k f.0.formulas (drop (i + 1) d.items)) (length_push a.queries query)
                  ∙ sym (ap (λ w. at_item (i + 1) w (λ gs. with_questions (i + 1) (length a.queries + 1) gs (drop (i + 1) d.items))) f.1) ∙ asked-fits;
            }

  -- before the first item
  pub stating-start : AreOnce same_name d.names → SentencesMade d 0 (record { building = record { atoms = []; formulas = [] }; sentences = []; rows = []; queries = [] })
  stating-start once = record {
    built = record {
      formulas = [];
      different = once;
      atoms_are = refl;
      nodes_are = refl;
      operands = All-nil (AreOperandsAmong []);
      once = λ k e lt. absurd (omega arith);
      within = All-nil (λ a. a < length d.names);
      few_atoms = omega arith;
      few = omega arith;
    };
    holds = record {
      stated_there = All-nil (HasStatement []);
      asked_there = All-nil (HasQuestion []);
      sentences_are = refl;
      rows_are = refl;
      queries_are = refl;
    };
    rest = refl;
  }

  -- after the last statement
  pub asking-start : (a : Assembly) → SentencesMade d (length d.items) a → QueriesMade d 0 a
  asking-start a r = record {
    built = r.built;
    holds = subst (λ xs. HasItems r.built.formulas (statements_of xs) [] a.sentences a.rows a.queries) (take_all (length d.items) d.items (omega arith)) r.holds;
    rest = ap (λ qs. with_questions 0 (length qs) r.built.formulas d.items) r.holds.queries_are
        ∙ sym (ap (λ xs. after (with_statements (length d.items) (length a.rows) r.built.formulas xs) (λ fs. with_questions 0 0 fs d.items)) (drop_all (length d.items) d.items (omega arith))) ∙ r.rest;
  }

  -- after the last question
  pub asking-end : (a : Assembly) (r : QueriesMade d (length d.items) a) → counted d.items ≡ Ok r.built.formulas
  asking-end a r =
      sym r.rest ∙ ap (with_questions (length d.items) (length a.queries) r.built.formulas) (drop_all (length d.items) d.items (omega arith))

  pub asking-problem : (a : Assembly) (texts : List Name) (r : QueriesMade d (length d.items) a) → texts ≡ map (name_at d.names) a.building.atoms
      → parts_of texts a.building.formulas a.sentences a.queries ≡ problem_of d.items
  asking-problem a texts r e =
      let fs : r.built.formulas ≡ formulas_of d.items = counted-formulas d.items r.built.formulas (asking-end a r) in
      let qs = r.holds.queries_are ∙ ap (λ xs. map (query_in r.built.formulas) (questions_of xs)) (take_all (length d.items) d.items (omega arith)) in
      let ns = e ∙ r.built.atoms_are in
      (λ t. record { names = ns t; nodes = r.built.nodes_are t; sentences = r.holds.sentences_are t; queries = qs t })
      ∙ ap (λ gs. record { names = names_among gs; nodes = map (node_in gs) gs; sentences = map (sentence_in gs) (statements_of d.items); queries = map (query_in gs) (questions_of d.items) }) fs
