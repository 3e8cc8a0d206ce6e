use Rattle.std.proofs.Common.{◌≡◌, ◌+◌, length}
use Rattle.ps_lex.specs.Lexing.{new_lexer}
use Rattle.ps_read.specs.Answers.{answer, nothing_parsed, parsed_by, BelongsTogether}
use Rattle.ps_read.proofs.reading.parse.Given as goal

abbrev pub invariant-loop-left : goal.invariant-loop-left
invariant-loop-left l = record {
  same : answer l.reader.lexer (parsed_by l.reader.parser) l.left ≡ answer new_lexer nothing_parsed l.bytes;
  together : BelongsTogether l.reader;
  place : l.reader.lexer.here.offset + length l.left ≡ length l.bytes;
}

abbrev pub decreases-loop-left : goal.decreases-loop-left
decreases-loop-left l = length l.left
