-- How a call that changes the arena and makes a hold ends, by the outcome that its definition gives.
use Rattle.std.specs.Prelude.{◌≡◌, List, ℕ, ◌<◌}
use Rattle.base.specs.Out.{Out, done, refused, bind}
use Rattle.table.specs.declared.Table.{Table}
use Rattle.table.specs.declared.Handle.{Handle}
use Rattle.table.specs.declared.Added.{Added}
use Rattle.table.specs.Table.{add_hold}
use Rattle.sefs.specs.Nodes.{Opened}
use Rattle.sefs.specs.Create.{Given, given}
use Rattle.mem.specs.Mem.{table_in, Whole}
use Rattle.calls.specs.declared.HeldReply as answered
use Rattle.calls.specs.Answers.{said_held}

-- "A refusal returns its number only; arena, table .. keep their bytes"
abbrev pub arena_held : List ℕ → Out Given → List ℕ
arena_held a (done x) = x.arena
arena_held a (refused n) = a

-- what the call says: the handle, and its table; or the reason, and the table that it was given
abbrev pub held_as : Table → Out Given → Out Handle × Table
held_as t (done x) = (done x.handle, x.table)
held_as t (refused n) = (refused n, t)

-- what is left once the steps are done: the hold of w's on the row that they opened
abbrev pub holding : ℕ → Out Opened → Out Given
holding w o = bind o (λ x. done (given x.state (add_hold x.state.table w x.row)))

abbrev pub leaving : List ℕ → Added → Given
leaving b x = record { arena = b; table = x.table; handle = x.handle }

-- the steps, that their definition sends to o, answer, by their code r: the arena was a and is b, the memory is m, and `row` is the node's, whoever has the hold then
pub data EndedOpen (o : Out Opened) (a b m : List ℕ) (row : ℕ) : ℕ → Type 0 where
  opens : Whole m → row < 34 → ((w : ℕ) → holding w o ≡ done (leaving b (add_hold (table_in m) w row))) → EndedOpen o a b m row 0
  stays : {r : ℕ} → 0 < r → o ≡ refused r → b ≡ a → EndedOpen o a b m row r

-- with the hold on that row: x is the handle, and memory's table
pub data EndedHeld (o : Out Given) (a b : List ℕ) (x : Added) : ℕ → Type 0 where
  held : o ≡ done (leaving b x) → EndedHeld o a b x 0
  stopped : {r : ℕ} → 0 < r → o ≡ refused r → b ≡ a → EndedHeld o a b x r

-- the call, that its definition sends to o, returns r: t is the table that it was given, the arena was a and is b
pub record ReturnedHeld (t : Table) (o : Out Given) (a b : List ℕ) (r : answered.HeldReply) : Type 0 where
  pub answer : said_held r ≡ held_as t o
  pub arena : b ≡ arena_held a o
