-- A dual that was found shows that a condition has no weight.
use Rattle.std.proofs.Common.{◌≡◌, List, [], ◌∷◌, Option, Some, None, All, sym, subst}
use Rattle.std.proofs.lemmas.List.Elements.{All-head}
use Rattle.ps_formula.specs.declared.node.Node.{Node}
use Rattle.ps_problem.specs.declared.bound.Bound.{Bound}
use Rattle.ps_problem.specs.declared.sentence.Sentence.{Sentence}
use Rattle.ps_problem.specs.declared.sentence.Sentence.TheVariants as sentence
use Rattle.ps_problem.specs.declared.query.Query.{Query}
use Rattle.ps_problem.specs.Problems.{Parts, AreParts, HasNodes, BoundIn, PlainIn, bounds_of_sentence, IsBoundIn, IsSentence}
use Rattle.ps_answer.specs.declared.answer.Dual.{Dual}
use Rattle.ps_claims.specs.Certificates.{dual_of}
use Rattle.ps_guess.specs.Trials.{IsFoundDual}
use Rattle.ps_claims.specs.Answers.{Impossible}
use Rattle.ps_guess.proofs.Right.{right_part}
use Rattle.ps_ask.specs.Conditions.{IsIdle, condition_of}

-- the query for a bound's formula, given its condition
abbrev query_of : Bound → Query
query_of b = record { formula = b.formula; given = b.given; both = b.both }

abbrev rest_of : Option Bound → List BoundIn
rest_of None = []
rest_of (Some b) = PlainIn b ∷ []

bounds-are : (ns : List Node) (s : Sentence) (first : Bound) (second : Option Bound) → s ≡ sentence.Plain first second → IsSentence ns s → All (IsBoundIn ns) (PlainIn first ∷ rest_of second)
bounds-are ns s first None e h = subst (λ x. All (IsBoundIn ns) (bounds_of_sentence x)) e h
bounds-are ns s first (Some b) e h = subst (λ x. All (IsBoundIn ns) (bounds_of_sentence x)) e h

pub idle_shown : (p : Parts) (q : Query) (d : Dual) → AreParts p → HasNodes p.nodes q.formula q.given q.both → IsFoundDual p (Some q) d → IsIdle p q.given
idle_shown p q d are has h = right_part p q (Impossible (dual_of d)) are has h.valid

-- the same of a sentence with this first bound
pub idle_sentence : (p : Parts) (s : Sentence) (first : Bound) (second : Option Bound) (q : Query) (d : Dual) → s ≡ sentence.Plain first second → q ≡ query_of first → AreParts p → IsSentence p.nodes s
    → IsFoundDual p (Some q) d → IsIdle p (condition_of s)
idle_sentence p s first second q d e k are there h =
    let has = (All-head (IsBoundIn p.nodes) (PlainIn first) (rest_of second) (bounds-are p.nodes s first second e there)).nodes in
    subst (λ x. IsIdle p (condition_of x)) (sym e) (idle_shown p (query_of first) d are has (subst (λ x. IsFoundDual p (Some x) d) k h))
