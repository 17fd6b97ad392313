-- How sync decides before it stores: it counts the blocks that the records would need.
use Rattle.std.specs.Prelude.{◌≡◌, Bool, true, not, ◌&&◌, List, ℕ, ◌+◌, ◌*◌, ◌/◌, ◌≤◌, ◌<◌, leb}
use Rattle.base.specs.Count.{count_to}
use Rattle.base.specs.Out.{Out, done, refused}
use Rattle.arena.specs.Places.{free_count}
use Rattle.files.specs.Read.{there, present}
use Rattle.files.specs.Store.{touched}
use Rattle.sefs.specs.State.{Fs}
use Rattle.sefs.specs.Meta.{meta_file}
use Rattle.mem.specs.Mem.{Whole}
use Rattle.mem.specs.State.{fs_at}
use Rattle.calls_sync.specs.declared.Room.{Room}

-- whether o can be done is answered with r: 0, and then P holds of what it leaves; or its reason
pub data Judged {A : Type 0} (o : Out A) (P : A → Type 0) : ℕ → Type 0 where
  can : {x : A} → o ≡ done x → P x → Judged o P 0
  cannot : {r : ℕ} → 0 < r → o ≡ refused r → Judged o P r

-- it is done
abbrev pub Does : Out Fs → Type 0
Does o = (s : Fs) × (o ≡ done s)

-- ---- blocks of the metadata file

-- block q would have to be made; none below `from` has to
abbrev pub is_lacking : List ℕ → ℕ → ℕ → Bool
is_lacking a from q = leb from q && not (present a meta_file q)

-- how many would have to be, for a record of 112 bytes from pos on
unfoldable pub needed : List ℕ → ℕ → ℕ → ℕ
needed a from pos = count_to (λ i. is_lacking a from (pos / 480 + i)) (touched pos 112)

-- d is the arena a with records stored, up to that of id `low` at the most. Block from - 1 of the metadata file is the last that they
-- touched: it is there, and the blocks behind it are as they were. So many blocks are free
pub record Counted (a d : List ℕ) (low from free : ℕ) : Type 0 where
  pub head : there d meta_file ≡ there a meta_file
  pub room : free_count d ≡ free
  pub rest : (q : ℕ) → from ≤ q → present d meta_file q ≡ present a meta_file q
  pub last : (q : ℕ) → q + 1 ≡ from → present d meta_file q ≡ true
  pub near : 480 * from ≤ 128 * low + 591

-- s is such an arena, with the memory n
pub record Left (a n : List ℕ) (low from free : ℕ) (s : Fs) : Type 0 where
  pub arena : List ℕ
  pub is : s ≡ fs_at arena n
  pub whole : Whole n
  pub counted : Counted a arena low from free

-- what stands for the room where none is given
abbrev pub no_room : Room
no_room = record { from = 0; free = 0 }
