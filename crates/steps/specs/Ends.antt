-- How a call with a table begins and ends, by the outcome that its definition gives.
use Rattle.std.specs.Prelude.{◌≡◌, List, ℕ, ◌<◌}
use Rattle.base.specs.Out.{Out, done, refused, bind}
use Rattle.table.specs.declared.Table.{Table}
use Rattle.chains.specs.Led.{Led}
use Rattle.sefs.specs.State.{Fs}
use Rattle.sefs.specs.Meta.{load_meta}
use Rattle.sefs.specs.Create.{After, after}
use Rattle.mem.specs.Mem.{table_in, meta_in, Whole}
use Rattle.base.specs.declared.reasons.Reason.{Reason}
use Rattle.calls.specs.declared.Reply as answered
use Rattle.calls.specs.Answers.{said}

-- ---- before the first store

-- the memory was m and is n: superblock and maps are read, and the chains lead to the arena's blocks
pub record Begun (a first next m n : List ℕ) : Type 0 where
  pub led : Led a first next
  pub meta : meta_in n ≡ load_meta a
  pub table : table_in n ≡ table_in m
  pub whole : Whole n

-- code that asks what a call o asks, and finds what its steps need, answers, by its code r: 0 where o is the rest e, and P holds; or o's reason
pub data Rest {A : Type 0} (o e : Out A) (P : Type 0) : ℕ → Type 0 where
  on : o ≡ e → P → Rest o e P 0
  off : {r : ℕ} → 0 < r → o ≡ refused r → Rest o e P r

-- ---- the end

-- "A refusal returns its number only; arena, table .. keep their bytes"
abbrev pub arena_after : List ℕ → Out After → List ℕ
arena_after a (done x) = x.arena
arena_after a (refused n) = a

-- what the call says: that it was done, and its table; or the reason, and the table that it was given
abbrev pub after_as : Table → Out After → Out Unit × Table
after_as t (done x) = (done tt, x.table)
after_as t (refused n) = (refused n, t)

-- what is left once the steps are done
abbrev pub ending : Out Fs → Out After
ending o = bind o (λ s. done (after s))

-- the steps, that their definition sends to o, answer, by their code r: the arena was a and is b, and memory has the table u
pub data Ended (o : Out After) (a b : List ℕ) (u : Table) : ℕ → Type 0 where
  went : o ≡ done (record { arena = b; table = u }) → Ended o a b u 0
  stopped : {r : ℕ} → 0 < r → o ≡ refused r → b ≡ a → Ended o a b u r

-- the call, that its definition sends to o, returns r: t is the table that it was given, the arena was a and is b
pub record Returned (t : Table) (o : Out After) (a b : List ℕ) (r : answered.Reply Reason) : Type 0 where
  pub answer : said r ≡ after_as t o
  pub arena : b ≡ arena_after a o
