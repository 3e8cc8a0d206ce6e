use Rattle.std.proofs.Common.{length, map}
use Rattle.ps_domains.specs.Lexed.{pair_of}
use Rattle.ps_domains.proofs.Telling.{IsLexing}
use Rattle.ps_domains.proofs.lexed.lex.Given as goal

abbrev pub invariant-loop-left : goal.invariant-loop-left
invariant-loop-left l = IsLexing (map pair_of l.tokens) l.lexer l.left l.bytes

abbrev pub decreases-loop-left : goal.decreases-loop-left
decreases-loop-left l = length l.left
