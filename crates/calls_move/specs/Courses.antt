-- What deciding a move comes to.
use Rattle.std.specs.Prelude.{◌≡◌, List, ℕ, ◌<◌, Result, Ok, Err}
use Rattle.base.specs.Out.{Out, done, refused}
use Rattle.base.specs.Told.{number}
use Rattle.base.specs.declared.reasons.Reason.{Reason}
use Rattle.sefs.specs.Create.{After}
use Rattle.table.specs.declared.Table.{Table}
use Rattle.calls.specs.declared.Reply as answered
use Rattle.calls.specs.Answers.{done_with, refused_with}
use Rattle.calls_move.specs.declared.Course.{Course}
use Rattle.calls_move.specs.declared.Course.TheVariants.{Made, Same}

-- by what the steps answered
abbrev pub course_of : Result Unit Reason → Result Course Reason
course_of (Ok x) = Ok Made
course_of (Err e) = Err e

-- the move itself: the arena was a and is b, memory's table was t and is u
pub data EndedMove (o : Out After) (t : Table) (a b : List ℕ) (u : Table) : Result Course Reason → Type 0 where
  moves : o ≡ done (record { arena = b; table = u }) → EndedMove o t a b u (Ok Made)
  rests : o ≡ done (record { arena = a; table = t }) → b ≡ a → EndedMove o t a b u (Ok Same)
  denied : {e : Reason} → 0 < number e → o ≡ refused (number e) → b ≡ a → EndedMove o t a b u (Err e)

-- and what the call returns then: t is the table that it was given, u the one that memory has
abbrev pub course_as : Table → Table → Result Course Reason → answered.Reply Reason
course_as t u (Ok Made) = done_with u
course_as t u (Ok Same) = done_with t
course_as t u (Err e) = refused_with t e
