use Rattle.ps_explain.proofs.writing.write_body.Goals as goal

pub returns-in-Core : goal.returns-in-Core
returns-in-Core g c = rw c.in-Core.is (rw (c.as_slice.ensures, c.as_slice-in-Core.ensures) at c.write_core.ensures)

pub returns-in-Open : goal.returns-in-Open
returns-in-Open g c = rw c.in-Open.is (rw (c.as_slice-in-Open.ensures, c.as_slice-in-Open-2.ensures) at c.write_open.ensures)
