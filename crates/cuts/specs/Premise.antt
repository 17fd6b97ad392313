-- "Let a create that succeeds begin just after sync on a passed pair, and stop it between any two stores of 000's order."
use Rattle.std.specs.Prelude.{◌≡◌, false, List, ℕ, ◌<◌, Some}
use Rattle.base.specs.Out.{done}
use Rattle.structs.specs.declared.Timespec.{Timespec}
use Rattle.table.specs.declared.Table.{Table}
use Rattle.table.specs.declared.Handle.{Handle}
use Rattle.table.specs.Table.{row_at, live_row}
use Rattle.sefs.specs.Create.{Given, call_create}
use Rattle.sequences.specs.Pairs.{Pair, Passed}
use Rattle.sequences.specs.Calls.{create, sync, Fits, does}
use Rattle.cuts.specs.Stores.{cut_after}
use Rattle.cuts.specs.Creates.{Birth, birth_of, create_stores}

-- no row is dirty
abbrev pub NoneDirty : Table → Type 0
NoneDirty t = (i : ℕ) → i < 34 → (row_at t i).dirty ≡ false

-- so it is "just after sync", and the pair passes still
unfoldable pub AfterSync : Type 0
AfterSync = (p q : Pair) → Passed p → does sync p ≡ done q → Passed q × NoneDirty q.table

-- w's create, by a handle on row i, is done with g; what it is about is c
pub record Creation (p : Pair) (c : Birth) (g : Given) : Type 0 where
  pub passed : Passed p
  pub synced : NoneDirty p.table
  pub w : ℕ
  pub h : Handle
  pub i : ℕ
  pub kind : ℕ
  pub mode : ℕ
  pub time : Timespec
  pub uuid : List ℕ
  pub live : live_row p.table w h ≡ Some i
  pub fits : Fits (create w h c.name kind mode time uuid)
  pub about : birth_of p.arena p.table i c.name kind mode time uuid ≡ done c
  pub succeeds : call_create p.arena p.table w h c.name kind mode time uuid ≡ done g

-- every create that succeeds there is one: there is such a c
unfoldable pub EveryCreate : Type 0
EveryCreate = (p : Pair) → Passed p → NoneDirty p.table
    → (w : ℕ) (h : Handle) (name : List ℕ) (kind mode : ℕ) (time : Timespec) (uuid : List ℕ) → Fits (create w h name kind mode time uuid)
    → (g : Given) → call_create p.arena p.table w h name kind mode time uuid ≡ done g → (c : Birth) × Creation p c g × (c.name ≡ name)

-- there is a cut after each number of stores; beyond the last one they are all done
unfoldable pub EachCut : Type 0
EachCut = (p : Pair) (c : Birth) (g : Given) → Creation p c g → (n : ℕ) → (b : List ℕ) × (cut_after n (create_stores c) p.arena ≡ done b)

-- P holds of each cut: of the arena before, what the create is about, how many stores are done, and the arena that they leave
abbrev pub OfCuts : (List ℕ → Birth → ℕ → List ℕ → Type 0) → Type 0
OfCuts P = (p : Pair) (c : Birth) (g : Given) → Creation p c g → (n : ℕ) (b : List ℕ) → cut_after n (create_stores c) p.arena ≡ done b → P p.arena c n b
