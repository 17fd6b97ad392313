-- The listing by a place: "the call moves it on by the slots written", and a refusal leaves it.
use Rattle.std.specs.Prelude.{◌≡◌, Bool, List, ℕ, ◌+◌, ◌/◌, length, Result}
use Rattle.base.specs.Out.{Out, done, refused}
use Rattle.base.specs.declared.reasons.Reason.{Reason}
use Rattle.table.specs.declared.Table.{Table}
use Rattle.sefs.specs.Read.{call_listing}
use Rattle.calls.specs.Answers.{listed_of, Lays}
use Rattle.verdicts.specs.Starts.{start_of}
use Rattle.calls_list.specs.declared.Place.{Place}
use Rattle.calls_list.specs.declared.Moved.{Moved}

-- what is written for a place at the start of an output of `room` bytes
abbrev pub list_at : List ℕ → Table → ℕ → Place → ℕ → Out (List ℕ)
list_at a t w p room = call_listing a t w p.handle (start_of p.dots p.next) room

-- a slot is 264 bytes. Order 6: "unless refused, set to 2 plus the slots written", where it was below 2 and the dots were not asked for
abbrev pub next_after : Bool → ℕ → Out (List ℕ) → ℕ
next_after dots next (done l) = start_of dots next + length l / 264
next_after dots next (refused n) = next

abbrev pub place_after : Place → Out (List ℕ) → Place
place_after p o = record { handle = p.handle; next = next_after p.dots p.next o; dots = p.dots }

-- the same by value: the answer, and the slot that comes next
abbrev pub Moves : Bool → ℕ → Out (List ℕ) → List ℕ → List ℕ → Moved → Type 0
Moves dots next o out now r = (r.next ≡ next_after dots next o) × Lays listed_of o out now r.answer

-- the listing from the place p: its answer r, and place and output afterwards
abbrev pub ListsAt : List ℕ → Table → ℕ → Place → List ℕ → Place → List ℕ → Result ℕ Reason → Type 0
ListsAt a t w p out q now r = (q ≡ place_after p (list_at a t w p (length out))) × Lays listed_of (list_at a t w p (length out)) out now r
