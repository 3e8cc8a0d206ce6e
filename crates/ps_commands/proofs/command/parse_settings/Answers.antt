use Rattle.std.proofs.Common.{ℕ, List, subst, sym, string_bytes, arith}
use Rattle.std.proofs.lemmas.List.{length-map}
use Rattle.ps_commands.specs.Commands.{words_of}
use Rattle.ps_commands.specs.Settings.{FindsSettings}
use Rattle.ps_commands.proofs.CommandLaws.{words-empty, words-two}
use Rattle.ps_commands.proofs.RunWords.{words-four, none_set, odd_unset}
use Rattle.ps_commands.proofs.command.parse_settings.Goals as goal

pub returns-in-empty : goal.returns-in-empty
returns-in-empty c = none_set (words_of c.args.settings.now) (words-empty c.args.settings.now (omega arith))

pub returns-in-len2 : goal.returns-in-len2
returns-in-len2 c =
    subst (λ (ws : List (List ℕ)). FindsSettings ws c.settings_by.result)
    (sym (words-two c.args.settings.now c.word-item.result c.value-item.result (omega arith) c.word-item.is c.value-item.is)) c.settings_by.ensures

pub returns-in-len4 : goal.returns-in-len4
returns-in-len4 c =
    subst (λ (ws : List (List ℕ)). FindsSettings ws c.settings_by_both.result)
    (sym (words-four c.args.settings.now c.first-item.result c.m-item.result c.second-item.result c.n-item.result (omega arith) c.first-item.is c.m-item.is c.second-item.is c.n-item.is))
    c.settings_by_both.ensures

pub returns-in_default : goal.returns-in_default
returns-in_default c = let n = length-map c.args.settings.now string_bytes in odd_unset (words_of c.args.settings.now) (omega arith) (omega arith) (omega arith)

pub returns-in_default-2 : goal.returns-in_default-2
returns-in_default-2 c = let n = length-map c.args.settings.now string_bytes in odd_unset (words_of c.args.settings.now) (omega arith) (omega arith) (omega arith)

pub returns-in_default-3 : goal.returns-in_default-3
returns-in_default-3 c = let n = length-map c.args.settings.now string_bytes in odd_unset (words_of c.args.settings.now) (omega arith) (omega arith) (omega arith)
