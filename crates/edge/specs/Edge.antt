-- The calls at the C edge: what a call returns, and what it leaves in the slices that it was lent, by the outcome that its definition gives.
use Rattle.std.specs.Prelude.{◌≡◌, not, List, [], ◌∷◌, ℕ, ◌+◌, ◌/◌, length, get_or, eqb, Result, Ok, Err}
use Rattle.base.specs.Out.{Out, done, refused, guard, answer}
use Rattle.base.specs.Parts.{paste}
use Rattle.base.specs.Search.{pick}
use Rattle.structs.specs.declared.Timespec.{Timespec}
use Rattle.table.specs.declared.Table.{Table}
use Rattle.table.specs.declared.Added.{Added}
use Rattle.table_bytes.specs.Layout.{table_of, bytes_of_table}
use Rattle.sefs.specs.Create.{After, Given}
use Rattle.calls_create.specs.declared.New.{New}
use Rattle.calls_move.specs.declared.Course.{Course}
use Rattle.calls_move.specs.declared.Course.TheVariants.{Made, Same}
use Rattle.verdicts.specs.Starts.{start_of}
use Rattle.walk.specs.Walk.{Walked, walked, most_links}
use Rattle.fsck.specs.declared.Verdict.{Verdict}
use Rattle.fsck.specs.declared.Verdict.TheVariants.{Pass, Fail}
use Rattle.edge_words.specs.Words.{handle_words}

-- what create is to make, by its arguments
abbrev pub new_of : ℕ → ℕ → Timespec → List ℕ → New
new_of kind mode time file = record { kind = kind; mode = mode; time = time; file = file }

-- "a slice of a wrong fixed size gets 255, and then nothing is called and nothing changes": as if the call were refused with that number
abbrev pub sized : {A : Type 0} → ℕ → List ℕ → Out A → Out A
sized n l o = guard (eqb (length l) n) 255 o

-- the same for a walk, which then has read no target
abbrev pub sized_walk : {A : Type 0} → ℕ → List ℕ → Walked A → Walked A
sized_walk n l x = pick (eqb (length l) n) x (walked [] most_links (refused 255))

-- what a call leaves where it may write: f of what it gives; "A refusal returns its number only"
abbrev pub lent : {A P : Type 0} → (A → P) → P → Out A → P
lent f l (done x) = f x
lent f l (refused n) = l

-- ---- one relation for every function. A call is sent to the outcome o by its definition and returns n. What the slices that it may write held is
-- `before`, what they hold is `after`, in the order of its arguments; where the call is done with x they hold `leaves x`
pub record Answers {A P : Type 0} (o : Out A) (leaves : A → P) (before after : P) (n : ℕ) : Type 0 where
  pub number : n ≡ answer o
  pub places : after ≡ lent leaves before o

-- ---- what a call that is done leaves. (open and set metadata: `bytes_of_table`; metadata: `metadata_words`; get entry: `paste` over its output's start)

-- sync, close, link, the removals, move, write, resize, fallocate, format: arena and table
abbrev pub left_of : After → List ℕ × List ℕ
left_of x = (x.arena, bytes_of_table x.table)

-- create: arena, table and the handle's words
abbrev pub made_of : Given → List ℕ × List ℕ × List ℕ
made_of x = (x.arena, bytes_of_table x.table, handle_words x.handle)

-- root, find, walk: table and the handle's words
abbrev pub held_of : Added → List ℕ × List ℕ
held_of x = (bytes_of_table x.table, handle_words x.handle)

-- walk: the link buffer was p and is q. "a refusal leaves those already read there and the bytes after them unchanged"
pub record Walks (x : Walked Added) (p q : List ℕ) (before after : List ℕ × List ℕ) (n : ℕ) : Type 0 where
  pub answers : Answers x.end held_of before after n
  pub links : q ≡ paste p 0 x.links

-- where a listing starts: the word is the place's next slot, and a mark that is not 0 asks for the dots
abbrev pub start_in : ℕ → List ℕ → ℕ
start_in dots w = start_of (not (eqb dots 0)) (get_or w 0 0)

-- listing: the word is the slot where it started, moved on by the slots of 264 bytes that were written over the output's start
abbrev pub listed_in : ℕ → List ℕ → List ℕ → List ℕ × List ℕ
listed_in from out l = ((from + length l / 264) ∷ [], paste out 0 l)

-- read, inventory, path: the bytes over the output's start, and the word is how many they are
abbrev pub read_in : List ℕ → List ℕ → List ℕ × List ℕ
read_in out l = (paste out 0 l, length l ∷ [])

-- the check's verdict as an outcome: "0 for a pass", with nodes, unused and free; "or the failing rule's number"
abbrev pub counted : Verdict → Out (List ℕ)
counted (Pass nodes unused free) = done (nodes ∷ unused ∷ free ∷ [])
counted (Fail rule) = refused rule

-- check: these words
abbrev pub counts_of : List ℕ → List ℕ
counts_of w = w

-- mend: the arena
abbrev pub mended_of : List ℕ → List ℕ
mended_of a = a

-- ---- move, by what it came to: the table's bytes, which were l. u is the table that memory has

abbrev pub course_table_by : {E : Type 0} → List ℕ → Table → Result Course E → List ℕ
course_table_by l u (Ok Made) = bytes_of_table u
course_table_by l u (Ok Same) = bytes_of_table (table_of l)
course_table_by l u (Err e) = l
