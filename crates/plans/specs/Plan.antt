-- Where the blocks of a file are, and how a store of bytes is decided before it: which blocks it touches, where they are, and whether the free ones
-- are enough for those that are not there.
use Rattle.std.specs.Prelude.{◌≡◌, not, List, ℕ, ◌+◌, ◌-◌, ◌/◌, ◌%◌, ◌≤◌, ◌<◌, length, get_or, eqb}
use Rattle.base.specs.Count.{count_to}
use Rattle.base.specs.Out.{refused}
use Rattle.base.specs.Search.{pick}
use Rattle.arena.specs.Blocks.{blk, blocks}
use Rattle.arena.specs.Fields.{File}
use Rattle.arena.specs.Places.{free_count}
use Rattle.files.specs.Read.{present}
use Rattle.files.specs.Store.{touched, put_file}
use Rattle.files_laws.specs.Laws.{lacking}
use Rattle.chains.specs.Led.{block_at}

-- how many of k blocks from the one at pos on are absent
abbrev pub absent_to : List ℕ → File → ℕ → ℕ → ℕ
absent_to a f pos k = count_to (λ i. not (present a f (pos / 480 + i))) k

-- of the first k of these blocks, the plan has where each is: one more than its number, or 0
abbrev pub Places : List ℕ → File → ℕ → List ℕ → ℕ → Type 0
Places a f pos plan k = (i : ℕ) → i < k → get_or plan i 0 ≡ block_at a f (pos / 480 + i)

-- n bytes can be written from pos on
pub record Planned (a : List ℕ) (f : File) (pos n : ℕ) (plan : List ℕ) : Type 0 where
  pub few : touched pos n ≤ length plan
  pub room : lacking a f pos n ≤ free_count a
  pub places : Places a f pos plan (touched pos n)

-- the code that decides so answers, by its code r: 0, or the reason that any n bytes meet
pub data Decided (a : List ℕ) (f : File) (pos n : ℕ) (plan : List ℕ) : ℕ → Type 0 where
  can : Planned a f pos n plan → Decided a f pos n plan 0
  cannot : {r : ℕ} → 0 < r → ((src : List ℕ) → length src ≡ n → put_file a f pos src ≡ refused r) → Decided a f pos n plan r

-- ---- what is read by places

-- byte i of the payload at a place: zero where no block is there
abbrev pub payload_by : List ℕ → ℕ → ℕ → ℕ
payload_by a c i = pick (eqb c 0) 0 (get_or (blk a (c - 1)) (24 + i) 0)

-- byte p of a file whose blocks from block q on have those places
abbrev pub byte_by : List ℕ → List ℕ → ℕ → ℕ → ℕ
byte_by a places q p = payload_by a (get_or places (p / 480 - q) 0) (p % 480)

-- places lie in the arena
abbrev pub InArena : List ℕ → List ℕ → Type 0
InArena a places = (i : ℕ) → get_or places i 0 ≤ blocks a

-- where the blocks are of which n bytes from pos on are read
pub record Sourced (a : List ℕ) (f : File) (pos n : ℕ) (places : List ℕ) : Type 0 where
  pub few : touched pos n ≤ length places
  pub at : Places a f pos places (touched pos n)
