-- The calls' answers: the outcome that a result tells, and what of a definition's outcome an answer has.
use Rattle.std.specs.Prelude.{◌≡◌, List, ℕ, ◌/◌, ◌<◌, length, eqb, Result, Ok, Err}
use Rattle.std.specs.Result.{is_ok}
use Rattle.base.specs.Out.{Out, done, refused, kept}
use Rattle.base.specs.Told.{number, code}
use Rattle.base.specs.Parts.{paste}
use Rattle.base.specs.Search.{pick}
use Rattle.base.specs.declared.reasons.Reason.{Reason}
use Rattle.table.specs.declared.Table.{Table}
use Rattle.table.specs.declared.Handle.{Handle}
use Rattle.table.specs.declared.Added.{Added}
use Rattle.calls.specs.declared.Reply.{Reply}
use Rattle.calls.specs.declared.HeldReply.{HeldReply}

-- the outcome that a result tells: what it gives, or its reason's number
abbrev pub out_of : {A : Type 0} → Result A Reason → Out A
out_of (Ok x) = done x
out_of (Err e) = refused (number e)

-- the number that a result tells: 0 where it was done, or its refusal's number by f
abbrev pub told_by : {A E : Type 0} → (E → ℕ) → Result A E → ℕ
told_by f (Ok x) = 0
told_by f (Err e) = f e

-- ---- what an answer has of its call's outcome

-- a call that gives nothing else
abbrev pub answer_of : {A : Type 0} → Out A → Out Unit
answer_of (done x) = done tt
answer_of (refused n) = refused n

-- a call that makes a hold
abbrev pub got_of : Out Added → Out Handle
got_of (done x) = done x.handle
got_of (refused n) = refused n

-- the table afterwards: "A refusal returns its number only; .. table .. keep their bytes"
abbrev pub held_table : Table → Out Added → Table
held_table t (done x) = x.table
held_table t (refused n) = t

-- listing: as many slots as were written, of 264 bytes each
abbrev pub listed_of : Out (List ℕ) → Out ℕ
listed_of (done l) = done (length l / 264)
listed_of (refused n) = refused n

-- read: as many bytes as were written
abbrev pub taken_of : Out (List ℕ) → Out ℕ
taken_of (done l) = done (length l)
taken_of (refused n) = refused n

-- ---- an output

-- "Slots are written as stored, the output's rest stays"; a refusal leaves it
abbrev pub laid : List ℕ → Out (List ℕ) → List ℕ
laid out (done l) = paste out 0 l
laid out (refused n) = out

-- code that lays an outcome's bytes over the start of an output answers, by its code r: 0 where the n bytes are there, or the reason, and the output is
-- as it was
pub data Laid (o : Out (List ℕ)) (out now : List ℕ) (n : ℕ) : ℕ → Type 0 where
  lay : {l : List ℕ} → o ≡ done l → length l ≡ n → now ≡ paste out 0 l → Laid o out now n 0
  leave : {r : ℕ} → 0 < r → o ≡ refused r → now ≡ out → Laid o out now n r

-- the answer f that the outcome gives, and its bytes at the output's start: the output was `out` and is `now`
abbrev pub Lays : {A : Type 0} → (Out (List ℕ) → Out A) → Out (List ℕ) → List ℕ → List ℕ → Result A Reason → Type 0
Lays f o out now r = (out_of r ≡ f o) × (now ≡ laid out o)

-- ---- an answer with a table

-- what the outcome says, with its table; t is the one that stays where it is refused
abbrev pub Replies : Table → Out Table → Reply Reason → Type 0
Replies t o r = (out_of r.answer ≡ answer_of o) × (r.table ≡ kept t o)

-- what a reply says: its answer's outcome, and its table
abbrev pub said : Reply Reason → Out Unit × Table
said r = (out_of r.answer, r.table)

abbrev pub said_held : HeldReply → Out Handle × Table
said_held r = (out_of r.answer, r.table)

abbrev pub done_with : {E : Type 0} → Table → Reply E
done_with t = record { answer = Ok tt; table = t }

abbrev pub refused_with : {E : Type 0} → Table → E → Reply E
refused_with t e = record { answer = Err e; table = t }

-- a hold that was made, and the table with it
abbrev pub added_as : Handle → Table → Added
added_as h u = record { handle = h; table = u }

-- what stands for a handle where none is given
abbrev pub no_handle : Handle
no_handle = record { hold = 0; stamp = 0 }

-- a handle h for a row that was opened, or why none was
abbrev pub handed_by : {E : Type 0} → Result ℕ E → Handle → Result Handle E
handed_by (Ok row) h = Ok h
handed_by (Err e) h = Err e

-- by what its steps answered: t is the table that the call was given, u the one that they left
unfoldable pub after_of : {E : Type 0} → Table → Table → Result Unit E → Reply E
after_of t u r = record { answer = r; table = pick (is_ok r) u t }

unfoldable pub given_of : Table → Table → Result Handle Reason → HeldReply
given_of t u r = record { answer = r; table = pick (eqb (code r) 0) u t }
