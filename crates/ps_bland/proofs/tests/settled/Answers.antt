use Rattle.ps_bland.proofs.tests.settled.Goals as goal

pub returns-then-is_ready : goal.returns-then-is_ready
returns-then-is_ready g c = λ A h. c.settle.ensures.stands A (c.requires.stands A h)

pub returns-then-is_ready_below : goal.returns-then-is_ready_below
returns-then-is_ready_below g c = λ A h. c.settle-then-is_ready_below.ensures.stands A (c.requires.stands A h)

pub returns-then-is_ready_above : goal.returns-then-is_ready_above
returns-then-is_ready_above g c = λ A h. c.settle-then-is_ready_above.ensures.stands A (c.requires.stands A h)
