use Rattle.std.proofs.Common.{ℕ, List, [], subst, sym, string_bytes, arith}
use Rattle.std.proofs.lemmas.List.{length-map}
use Rattle.ps_commands.specs.Commands.{default_of, words_of, SetOne}
use Rattle.ps_commands.specs.Settings.{FindsOne}
use Rattle.ps_commands.proofs.CommandLaws.{one_default, words-empty, words-two, two_found, others_unset}
use Rattle.ps_commands.proofs.command.parse_limit.Goals as goal

pub returns-in-empty : goal.returns-in-empty
returns-in-empty c =
    subst (λ (n : ℕ). SetOne [] c.args.limit n (words_of c.args.settings.now)) (sym c.default.ensures)
    (subst (λ (ws : List (List ℕ)). SetOne [] c.args.limit (default_of c.args.limit) ws) (sym (words-empty c.args.settings.now (omega arith))) (one_default c.args.limit))

pub returns-in-len2 : goal.returns-in-len2
returns-in-len2 c =
    subst (λ (ws : List (List ℕ)). FindsOne c.args.limit ws c.parse_setting.result)
    (sym (words-two c.args.settings.now c.word-item.result c.digits-item.result (omega arith) c.word-item.is c.digits-item.is))
    (two_found c.args.limit (string_bytes c.word-item.result) (string_bytes c.digits-item.result) c.parse_setting.result c.parse_setting.ensures)

pub returns-in_default-2 : goal.returns-in_default-2
returns-in_default-2 c =
    let same = length-map c.args.settings.now string_bytes in others_unset c.args.limit (words_of c.args.settings.now) (λ e. omega (arith, e, same)) (λ e. omega (arith, e, same))
