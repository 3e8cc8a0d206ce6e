-- The line behind the text of a made problem: what was answered to it, and that the answer was accepted.
use Rattle.std.specs.Prelude.{ℕ, List, [], ◌∷◌, ◌++◌, length, codes, decimal}
use Rattle.ps_problem.specs.Problems.{Parts}
use Rattle.ps_answer.specs.declared.answer.Answer.{Answer}
use Rattle.ps_answer.specs.declared.answer.Verdict.{Verdict}
use Rattle.ps_answer.specs.declared.answer.Verdict.TheVariants as verdict
use Rattle.ps_answer.specs.declared.answer.SideAnswer.{SideAnswer}
use Rattle.ps_answer.specs.declared.answer.SideAnswer.TheVariants as side
use Rattle.ps_answer.specs.declared.answer.QueryAnswer.{QueryAnswer}
use Rattle.ps_answer.specs.declared.answer.QueryAnswer.TheVariants as query
use Rattle.ps_answer.specs.declared.answer.QueryPart.{QueryPart}
use Rattle.ps_answer.specs.Answers.{ratio_of}
use Rattle.ps_answer.specs.Words.{Fraction, word_text}
use Rattle.ps_claims.specs.Claims.{claims_of, unfinished_of}
use Rattle.ps_valid.specs.Answers.{answer_of}

-- the word of a verdict
unfoldable pub verdict_word : Verdict → List ℕ
verdict_word (verdict.Consistent m) = codes "consistent"
verdict_word (verdict.Inconsistent d) = codes "inconsistent"
verdict_word (verdict.Open cause) = codes "open"

-- the bound on a side, or that it is open
unfoldable pub side_words : SideAnswer → List ℕ
side_words (side.Bound value m d) = word_text (Fraction (ratio_of value))
side_words (side.Open cause) = codes "open"

-- what is answered to a query
unfoldable pub query_words : QueryAnswer → List ℕ
query_words (query.Bounds lower t upper u) = side_words lower ++ (codes " to " ++ side_words upper)
query_words (query.Impossible d) = codes "impossible"
query_words (query.Open cause) = codes "open"

-- what is answered to the one query of a made problem, where its sentences are consistent
unfoldable pub part_words : List QueryPart → List ℕ
part_words [] = []
part_words (x ∷ xs) = codes "; query 1: " ++ query_words x.answer

-- how many claims were accepted, and how much is open
unfoldable pub counts_words : ℕ → ℕ → List ℕ
counts_words claims unfinished = codes "; check accepted: claims " ++ (decimal claims ++ (codes ", open " ++ decimal unfinished))

-- the summary of an answer, with so many claims, and so much open
abbrev pub summary_with : Answer → ℕ → ℕ → List ℕ
summary_with a claims unfinished = codes "# "
    ++ (verdict_word a.verdict ++ (part_words a.parts ++ (counts_words claims unfinished ++ codes "\n")))

-- the summary of an answer to a problem, a line
abbrev pub summary : Parts → Answer → List ℕ
summary p a = summary_with a (length (claims_of p (answer_of a))) (unfinished_of (answer_of a))
