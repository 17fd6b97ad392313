-- What holds before the steps of a move: two folders with links, a slot of the one, and a name that no slot of the other has, but for the slot
-- of the node that is replaced.
use mathlib.Core.Path.{◌≡◌}
use mathlib.Core.Bool.{true, false}
use mathlib.Core.List.{List}
use mathlib.Core.Logic.{◌≢◌}
use Prim.Native.Nat.{ℕ, ◌≤◌, ◌<◌}
use lib.ListN.{length}
use Rattle.base.specs.Out.{done}
use Rattle.le.specs.Le.{Bytes}
use Rattle.structs.specs.Types.{is_folder}
use Rattle.utf8.specs.Names.{has_slash, name_of, GoodName, is_special}
use Rattle.table.specs.Table.{row_at}
use Rattle.sefs.specs.State.{Fs}
use Rattle.sefs.specs.Nodes.{rec_at, id_at}
use Rattle.sefs.specs.Slots.{Slot}
use Rattle.sefs.specs.Move.{Replaced, none, node}
use Rattle.rules.specs.Image.{rec_of, slot_in}
use Rattle.tree.specs.Tree.{Spelling}
use Rattle.image.specs.Midway.{Used, stored_meta, Midway}
use Rattle.image.proofs.NewNames.{NewName}
use Rattle.table_laws.specs.Rules as rows

-- the call's own rows: those it has, and that of the node that is replaced
abbrev pub owns : (ℕ → Type 0) → Replaced → ℕ → Type 0
owns own none = own
owns own (node d k) = rows.also own d

-- row i is a folder's, with links
pub record LiveFolder (s : Fs) (i : ℕ) : Type 0 where
  pub used : Used s.table i
  pub folder : is_folder (rec_at s i).kind ≡ true
  pub links : (rec_at s i).nlinks ≢ 0

-- slot k of folder j has the name, and names the node of row d, which may go: it is another than the one that moves, of its kind, and empty
-- if it is a folder
pub record Replaces (s : Fs) (j : ℕ) (old : Slot) (name : List ℕ) (d k : ℕ) : Type 0 where
  pub used : Used s.table d
  pub later : 2 ≤ k
  pub inside : k < (rec_at s j).blocks
  pub names : (slot_in s.arena (rec_at s j) k).id ≡ id_at s d
  pub named : name_of (slot_in s.arena (rec_at s j) k).name ≡ name
  pub apart : id_at s d ≢ old.entry.id
  pub kinds : is_folder (rec_of s.arena s.table old.entry.id).kind ≡ is_folder (rec_at s d).kind
  pub small : is_folder (rec_at s d).kind ≡ true → (rec_at s d).blocks ≤ 2

-- the name is new in folder j, or that of the slot that goes
abbrev pub Onto : Fs → ℕ → Slot → List ℕ → Replaced → Type 0
Onto s j old name none = NewName s.arena (rec_at s j) name
Onto s j old name (node d k) = Replaces s j old name d k

-- before the slot `old` of folder i moves to folder j, to be named `name` there
pub record Moving (style : Spelling) (own : ℕ → Type 0) (s : Fs) (i j : ℕ) (old : Slot) (name : List ℕ) (r : Replaced) : Type 0 where
  pub mid : Midway style (owns own r) s.arena s.table
  -- a row that the call has of its own is that of the node that moves
  pub mine : (m : ℕ) → own m → Used s.table m × ((row_at s.table m).id ≡ old.entry.id)
  pub meta : s.meta ≡ done (stored_meta s.arena)
  pub from : LiveFolder s i
  pub to : LiveFolder s j
  pub later : 2 ≤ old.place
  pub inside : old.place < (rec_at s i).blocks
  pub is : old.entry ≡ slot_in s.arena (rec_at s i) old.place
  pub good : GoodName name
  pub no_slash : has_slash name ≡ false
  pub plain : is_special name ≡ false
  pub short : length name ≤ 255
  pub bytes : Bytes name
  pub onto : Onto s j old name r
