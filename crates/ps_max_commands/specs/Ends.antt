-- The statuses of the two commands that go with a text.
use Rattle.ps_messages.specs.declared.status.Status.{Status}
use Rattle.ps_messages.specs.declared.status.Status.TheVariants.{Done, Inconsistent, Unreadable, Unfinished, Refused}

-- a status of `maxsat` that goes with a text
abbrev pub EndsMaxSat : Status → Type 0
EndsMaxSat Done = Unit {0}
EndsMaxSat Inconsistent = Unit {0}
EndsMaxSat Unreadable = Unit {0}
EndsMaxSat Unfinished = Unit {0}
EndsMaxSat other = ⊥

-- a status of `check-maxsat` that goes with a text
abbrev pub EndsCheckMaxSat : Status → Type 0
EndsCheckMaxSat Done = Unit {0}
EndsCheckMaxSat Unreadable = Unit {0}
EndsCheckMaxSat Refused = Unit {0}
EndsCheckMaxSat other = ⊥
