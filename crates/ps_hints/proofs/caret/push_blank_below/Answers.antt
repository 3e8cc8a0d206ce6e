use Rattle.std.proofs.Common.{◌≡◌, ◌++◌, OnOk, subst}
use Rattle.ps_hints.proofs.Shows.{blank_tab}
use Rattle.ps_hints.proofs.caret.push_blank_below.Goals as goal

pub returns-then-c-eq9 : goal.returns-then-c-eq9
returns-then-c-eq9 c = subst (λ bs. OnOk c.push.result (c.push.new.self ≡ c.args.message.now ++ bs)) (blank_tab c.args.c c.if-c-eq9.true) c.push.ensures
