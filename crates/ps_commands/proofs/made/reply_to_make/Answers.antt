use Rattle.std.proofs.Common.{ℕ, List, length, ap, subst, ◌∙◌, arith}
use Rattle.ps_read.specs.Readings.{SpellsWhole}
use Rattle.ps_commands.proofs.MadeText.{made_due, never_unread}
use Rattle.ps_commands.proofs.made.reply_to_make.Goals as goal

pub read_whole-requires : goal.read_whole-requires
read_whole-requires c =
    let few = c.in_ok-text.ensures.few in
    let same = ap length c.deref.ensures.value in record { room = omega (arith, few, same) }

pub unreachable-requires : goal.unreachable-requires
unreachable-requires c =
    never_unread c.args.links c.deref.result.now c.in-Err-At.field-0 c.in-Err-At.field-0-0 c.in-Err-At.field-0-1 c.in-Err-At.field-0-2 c.in-Err-At.field-0-is c.in-Err-At.ensures.told
    (c.deref.ensures.value ∙ c.in_ok-text.ensures.text) (c.made_texts_are_read.ensures.spell c.args.links c.requires.limits.few)

pub returns-in_ok-summed_up-in-Ok-clause-due : goal.returns-in_ok-summed_up-in-Ok-clause-due
returns-in_ok-summed_up-in-Ok-clause-due c =
    made_due c.args.links c.args.limits c.in_ok-text.text.items c.in-Ok.problem c.in_ok-summed_up-in-Ok.field-0 c.in_ok-text.ensures.text
    (c.made_texts_are_read.ensures.one c.args.links c.in-Ok.problem c.requires.limits.few
    (subst (λ (x : List ℕ). SpellsWhole x c.in-Ok.problem) (c.deref.ensures.value ∙ c.in_ok-text.ensures.text) c.in-Ok.ensures.found))
    c.in_ok-summed_up-in-Ok.ensures
