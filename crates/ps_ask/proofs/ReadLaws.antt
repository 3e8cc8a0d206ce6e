-- How much was read of an input.
use Rattle.std.proofs.Common.{◌≡◌, ◌≢◌, ◌+◌, ◌≤◌, ℕ, Bool, List, length, Option, Some, None, Ok, Err, refl, subst, arith}
use Rattle.std.specs.Prelude.{Result}
use Rattle.ps_io.specs.declared.limits.TheConstants.{LONGEST_READ}
use Rattle.ps_io.specs.Transfer.{ReadAll, TookMore, TookWithin}
use Rattle.ps_ask.specs.declared.answering.TheConstants.{MOST_PROBLEM}
use Rattle.ps_ask.specs.declared.reply.Reply.{Reply}
use Rattle.ps_ask.specs.declared.reply.ReplyError.{ReplyError}
use Rattle.ps_ask.specs.declared.reply.ReplyError.TheVariants as errors
use Rattle.ps_ask.specs.declared.status.Status.{Status}
use Rattle.ps_ask.specs.declared.status.Status.TheVariants as status
use Rattle.ps_ask.specs.Statuses.{HasText}
use Rattle.ps_ask.specs.Replies.{status_of, status_with}
use Rattle.ps_ask.specs.Reads.{Took, WasRead}
use Rattle.ps_ask.proofs.DueLaws.{has_text, more_is, whole-is}

whole : (limit : ℕ) (old new : Option (List ℕ)) (taken : List ℕ) → ReadAll limit old new taken → WasRead limit old new
whole limit None new taken h = record { within = tt; long = tt }
whole limit (Some xs) new taken h =
    let is : taken ≡ xs = whole-is limit (Some xs) new taken xs h refl in
    let few : length xs ≤ limit = subst (λ (x : List ℕ). length x ≤ limit) is h.within in
    record { within = λ le. h.at_end; long = λ more. absurd (omega (arith, more, few)) }

more : (limit : ℕ) (old new : Option (List ℕ)) → TookMore limit old new → WasRead limit old new
more limit None new h = record { within = tt; long = tt }
more limit (Some xs) new h = let above = more_is limit xs new h in record { within = λ le. absurd (omega (arith, above, le)); long = λ _. h }

within : (limit n : ℕ) (old new : Option (List ℕ)) → TookWithin limit old new → TookWithin (limit + n) old new
within limit n old new h = record { taken = h.taken; consumed = h.consumed; within = let w = h.within in omega arith }

-- a status that goes with an output
took-text : (st : Status) (old new : Option (List ℕ)) → HasText st → WasRead MOST_PROBLEM old new → Took st old new
took-text status.ReadFault old new g h = absurd g
took-text status.NoMemory old new g h = absurd g
took-text st old new g h = h

text-took : (st : Status) (old new : Option (List ℕ)) → HasText st → Took st old new → WasRead MOST_PROBLEM old new
text-took status.ReadFault old new g h = absurd g
text-took status.NoMemory old new g h = absurd g
text-took st old new g h = h

-- all bytes were read, and then there is a reply, or there is none
pub took_by : (timed : Bool) (r : Result Reply ReplyError) (old new : Option (List ℕ)) (taken : List ℕ) → r ≢ Err errors.ReadFault → ReadAll MOST_PROBLEM old new taken
    → Took (status_with timed r) old new
took_by timed (Ok r) old new taken none h = took-text (status_of timed r) old new (has_text timed r) (whole MOST_PROBLEM old new taken h)
took_by timed (Err errors.ReadFault) old new taken none h = absurd (none refl)
took_by timed (Err errors.WriteFault) old new taken none h = whole MOST_PROBLEM old new taken h
took_by timed (Err errors.NoMemory) old new taken none h =
    within MOST_PROBLEM LONGEST_READ old new (record { taken = taken; consumed = h.consumed; within = h.within })

-- more than the limit were read, or memory ran out
pub took_more : (old new : Option (List ℕ)) → TookMore MOST_PROBLEM old new → Took status.Unreadable old new
took_more old new h = more MOST_PROBLEM old new h

pub took_long : (old new : Option (List ℕ)) → TookMore MOST_PROBLEM old new → Took status.NoMemory old new
took_long old new h = record { taken = h.taken; consumed = h.consumed; within = h.within }

pub took_less : (old new : Option (List ℕ)) → TookWithin MOST_PROBLEM old new → Took status.NoMemory old new
took_less old new h = within MOST_PROBLEM LONGEST_READ old new h

-- what was taken where there is a reply, whatever is written then
pub was_read : (timed : Bool) (r : Reply) (old new : Option (List ℕ)) → Took (status_of timed r) old new → WasRead MOST_PROBLEM old new
was_read timed r old new h = text-took (status_of timed r) old new (has_text timed r) h
