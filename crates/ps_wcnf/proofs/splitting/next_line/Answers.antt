use Rattle.std.proofs.Common.{ap, ◌∷◌, ◌∙◌, sym, refl}
use Rattle.ps_wcnf.specs.Splitting.{lines_of}
use Rattle.ps_wcnf.proofs.Cutting.{lines-cut, lines-one}
use Rattle.ps_wcnf.proofs.splitting.next_line.Goals as goal

pub returns-in-Some-clause-lines : goal.returns-in-Some-clause-lines
returns-in-Some-clause-lines c =
    lines-cut c.args.text.now c.in-Some.line.now c.in-Some.after.now c.in-Some.ensures.found.0 c.in-Some.ensures.found.1
    ∙ ap (λ r. r ∷ lines_of c.in-Some.after.now) (sym c.without_return.ensures)

pub returns-in-None-clause-lines : goal.returns-in-None-clause-lines
returns-in-None-clause-lines c = lines-one c.args.text.now c.in-None.ensures.none

pub returns-in-Some-clause-cut : goal.returns-in-Some-clause-cut
returns-in-Some-clause-cut c = record {
  part = c.in-Some.line.now;
  first = record { is = c.in-Some.ensures.found.0; whole = c.in-Some.ensures.found.1 };
  is = c.without_return.ensures;
}

pub returns-in-None-clause-cut : goal.returns-in-None-clause-cut
returns-in-None-clause-cut c = (refl, c.in-None.ensures.none)
