use Rattle.std.proofs.Common.{subst}
use Rattle.ps_lex.specs.Lexing.{new_lexer}
use Rattle.ps_read.specs.Answers.{answer, nothing_parsed, parsed_by, Answers, IsBuiltOf}
use Rattle.ps_read.proofs.Steps.{passed_on}
use Rattle.ps_read.proofs.Returned.{are_whole, form_told, built, count_told, right_err}
use Rattle.ps_read.proofs.reading.read.Goals as goal

pub returns-in_err-parser : goal.returns-in_err-parser
returns-in_err-parser c = right_err c.args.bytes.now c.from_residual.result c.in_err-parser.field-0.0
    (form_told c.args.bytes.now c.in_err-parser.field-0.0 (subst (Answers (answer new_lexer nothing_parsed c.args.bytes.now)) c.in_err-parser.was c.parse.ensures))
    (passed_on c.from_residual.result c.in_err-parser.field-0.0 c.from_residual.ensures.0 c.from_residual.ensures.1)

pub problem_of-requires : goal.problem_of-requires
problem_of-requires c = are_whole c.args.bytes.now c.in_ok-parser.parser c.in_ok-parser.place (subst (Answers (answer new_lexer nothing_parsed c.args.bytes.now)) c.in_ok-parser.was c.parse.ensures)

pub returns-in_err-problem : goal.returns-in_err-problem
returns-in_err-problem c = right_err c.args.bytes.now c.from_residual-in_err-problem.result c.in_err-problem.field-0.0
    (count_told c.args.bytes.now c.in_ok-parser.parser c.in_ok-parser.place c.in_err-problem.field-0.0 (subst (Answers (answer new_lexer nothing_parsed c.args.bytes.now)) c.in_ok-parser.was c.parse.ensures)
    (subst (IsBuiltOf (parsed_by c.in_ok-parser.parser)) c.in_err-problem.was c.problem_of.ensures))
    (passed_on c.from_residual-in_err-problem.result c.in_err-problem.field-0.0 c.from_residual-in_err-problem.ensures.0 c.from_residual-in_err-problem.ensures.1)

pub returns : goal.returns
returns c = built c.args.bytes.now c.in_ok-parser.parser c.in_ok-parser.place c.in_ok-problem.problem (subst (Answers (answer new_lexer nothing_parsed c.args.bytes.now)) c.in_ok-parser.was c.parse.ensures)
    (subst (IsBuiltOf (parsed_by c.in_ok-parser.parser)) c.in_ok-problem.was c.problem_of.ensures)
