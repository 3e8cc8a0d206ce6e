-- Sentences first: the same sentences and queries, and lawful where all are.
use Rattle.std.proofs.Common.{◌≡◌, List, [], ◌∷◌, ◌++◌, map, refl, ap}
use Rattle.ps_meaning.specs.Statements.{Statement, Question, Item, Stated, Asked, statements_of, questions_of}
use Rattle.ps_text.specs.Canonical.{listed, sentences_first, AreLawful}

pub statements-listed : (ss : List Statement) (qs : List Question) → statements_of (listed ss qs) ≡ ss
statements-listed [] [] = refl
statements-listed [] (q ∷ qs) = statements-listed [] qs
statements-listed (s ∷ ss) qs = ap (λ x. s ∷ x) (statements-listed ss qs)

pub questions-listed : (ss : List Statement) (qs : List Question) → questions_of (listed ss qs) ≡ qs
questions-listed [] [] = refl
questions-listed [] (q ∷ qs) = ap (λ x. q ∷ x) (questions-listed [] qs)
questions-listed (s ∷ ss) qs = questions-listed ss qs

pub same_statements : (items : List Item) → statements_of (sentences_first items) ≡ statements_of items
same_statements items = statements-listed (statements_of items) (questions_of items)

pub same_questions : (items : List Item) → questions_of (sentences_first items) ≡ questions_of items
same_questions items = questions-listed (statements_of items) (questions_of items)

lawful_questions : (items : List Item) → AreLawful items → AreLawful (map Asked (questions_of items))
lawful_questions [] h = tt
lawful_questions (Stated s ∷ items) h = lawful_questions items h.1
lawful_questions (Asked q ∷ items) h = (h.0, lawful_questions items h.1)

lawful_front : (items more : List Item) → AreLawful items → AreLawful more → AreLawful (map Stated (statements_of items) ++ more)
lawful_front [] more h k = k
lawful_front (Stated s ∷ items) more h k = (h.0, lawful_front items more h.1 k)
lawful_front (Asked q ∷ items) more h k = lawful_front items more h.1 k

pub sentences_first_lawful : (items : List Item) → AreLawful items → AreLawful (sentences_first items)
sentences_first_lawful items h = lawful_front items (map Asked (questions_of items)) h (lawful_questions items h)
