use Rattle.ps_make.proofs.Laid.{link-written}
use Rattle.ps_make.proofs.made.write_link.Goals as goal

pub returns : goal.returns
returns c = link-written c.append-2.result c.args.atom c.args.out.now.items c.append.new.out.items c.implication.new.out.items c.append-2.new.out.items
    c.in_ok-append.ensures c.in_ok-implication.ensures c.append-2.ensures
