use Rattle.std.proofs.Common.{rules, ◌≡◌, length, sym, subst}
use Rattle.ps_problem.specs.Rows.{rows_in}
use Rattle.ps_claims.specs.Printed.{IsPrintedDual}
use Rattle.ps_answer.specs.declared.answer.Dual.{Dual}
use Rattle.ps_generation.specs.Phases.{LimitedSubject, IsSpread}
use Rattle.ps_generation.specs.Spreading.{spread_of}
use Rattle.ps_generation.proofs.AllBounds.{is_spread, printed_spread}
use Rattle.ps_generation.proofs.setting.Setting.spread.Goals as goal

pub returns : goal.returns
returns c =
    let e = c.args.dual in
    let r : LimitedSubject = record {
      whole = c.self.inside.problem.now;
      flags = c.self.inside.flags;
      subject = c.self.inside.pricer.subject;
      limits = c.self.inside.limits;
    } in
    let rows : c.in_ok-rows.rows ≡ spread_of c.self.inside.flags e.rows = search rules in
    let is : c.with_rows.result ≡ record { top = e.top; head = e.head; rows = c.in_ok-rows.rows; steps = e.steps } = c.with_rows.ensures in
    let long : length e.rows ≡ length (rows_in r.subject.parts.sentences) =
    subst (λ (s : LimitedSubject). length e.rows ≡ length (rows_in s.subject.parts.sentences)) (sym c.self.view_is) c.requires.rows in
    record {
      spread =
          subst (λ (d : Dual). IsSpread c.args.self.now e d) (sym is)
          (subst (λ (s : LimitedSubject). IsSpread s e (record { top = e.top; head = e.head; rows = c.in_ok-rows.rows; steps = e.steps })) c.self.view_is
          (is_spread r c.self.invariant.0 e c.in_ok-rows.rows long rows));
      printed = λ h. subst IsPrintedDual (sym is) (printed_spread c.self.inside.flags e c.in_ok-rows.rows rows h);
    }
