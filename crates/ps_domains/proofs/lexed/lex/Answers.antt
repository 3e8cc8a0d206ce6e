use Rattle.std.proofs.Common.{◌-◌, ◌<◌, length, map, get_or, take, drop, is_some, sym, subst, ap, ◌∙◌, true≢false, arith}
use Rattle.ps_lex.proofs.Passing.{first_and_others, room_more}
use Rattle.ps_domains.specs.Lexed.{pair_of}
use Rattle.ps_domains.proofs.Telling.{IsLexing, tells-on, tells-bad, all-told, end-told}
use Rattle.ps_domains.proofs.lexed.lex.Goals as goal

pub returns-in-Some : goal.returns-in-Some
returns-in-Some c =
    let left = c.loop-left.left.now in
    let cut = first_and_others left (omega (arith, c.in-len1-up.len_at_least)) in
    let lexing = subst (λ xs. IsLexing (map pair_of c.loop-left.tokens) c.loop-left.lexer xs c.args.bytes.now) cut c.loop-left.invariant in
    record {
      told = tells-bad (map pair_of c.loop-left.tokens) c.loop-left.lexer (get_or left 0 0) (take (length left - 1) (drop 1 left)) c.args.bytes.now lexing (map pair_of c.push.new.tokens) c.take-token.result c.began-began.result c.take-token.new.self c.in-Some.place
          c.in_ok-push.ensures c.take-token.ensures.token c.began-began.ensures c.take-token.ensures.state (sym c.bad.ensures ∙ c.in-Some.is);
      end = λ e. absurd (true≢false (ap is_some e));
    }

pub pass-left-requires : goal.pass-left-requires
pass-left-requires c =
    let left = c.loop-left.left.now in
    let cut = first_and_others left (omega (arith, c.in-len1-up.len_at_least)) in
    let lexing = subst (λ xs. IsLexing (map pair_of c.loop-left.tokens) c.loop-left.lexer xs c.args.bytes.now) cut c.loop-left.invariant in
    record { room = room_more c.loop-left.lexer c.take-token.new.self (get_or left 0 0) (take (length left - 1) (drop 1 left)) lexing.room c.take-token.ensures.state }

pub loop-left-preserved : goal.loop-left-preserved
loop-left-preserved c =
    let left = c.loop-left.left.now in
    let cut = first_and_others left (omega (arith, c.in-len1-up.len_at_least)) in
    let lexing = subst (λ xs. IsLexing (map pair_of c.loop-left.tokens) c.loop-left.lexer xs c.args.bytes.now) cut c.loop-left.invariant in
    tells-on (map pair_of c.loop-left.tokens) c.loop-left.lexer (get_or left 0 0) (take (length left - 1) (drop 1 left)) c.args.bytes.now lexing (map pair_of c.push.new.tokens) c.take-token.result c.began-began.result c.take-token.new.self c.pass-left.new.self c.pass-left.result.now
    c.in_ok-push.ensures c.take-token.ensures.token c.began-began.ensures c.take-token.ensures.state (sym c.bad.ensures ∙ c.in_default-bad.is) c.pass-left.ensures.passes

pub returns : goal.returns
returns c =
    let left = c.loop-left.left.now in
    let few : length left < 1 = omega (arith, c.in_default.len_below) in
    record {
      told = all-told (map pair_of c.loop-left.tokens) (map pair_of c.push-2.new.tokens) c.loop-left.lexer left c.args.bytes.now c.finish.result c.began-began-2.result c.last_bad-bad.result
          c.loop-left.invariant few c.in_ok-push-2.ensures c.finish.ensures c.began-began-2.ensures c.last_bad-bad.ensures;
      end = λ e. c.here-end.ensures ∙ end-told (map pair_of c.loop-left.tokens) c.loop-left.lexer left c.args.bytes.now c.loop-left.invariant few;
    }
