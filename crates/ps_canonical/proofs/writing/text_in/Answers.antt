use Rattle.std.proofs.Common.{◌∙◌, ◌++◌, ap}
use Rattle.ps_canonical.proofs.Laid.{whole}
use Rattle.ps_canonical.proofs.writing.text_in.Goals as goal

pub returns : goal.returns
returns c =
    whole c.args.problem.now c.args.version c.append.new.out.items c.sentences.new.out.items c.queries.new.out.items c.append-2.new.out.items
    (c.in_ok-append.ensures ∙ ap (λ bs. bs ++ c.first_line.result.now) c.new-out.ensures.items ∙ c.first_line.ensures)
    c.in_ok-sentences.ensures c.in_ok-queries.ensures c.in_ok-append-2.ensures
