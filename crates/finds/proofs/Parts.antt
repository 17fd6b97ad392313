-- A hold on a node, and a slot's id: from what the code answers to the definitions.
use mathlib.Core.Path.{◌≡◌, refl, ◌∙◌, ap, subst}
use mathlib.Core.List.{List}
use Prim.Native.Nat.{ℕ, ◌<◌}
use Rattle.base.specs.Out.{Out, done, Went, well, ill}
use Rattle.le.specs.Le.{le_at}
use Rattle.structs.specs.Layout.{entry_of}
use Rattle.structs.specs.declared.DiskINode.{DiskINode}
use Rattle.table.specs.declared.Table.{Table}
use Rattle.table.specs.declared.Added.{Added}
use Rattle.table.specs.Table.{add_hold}
use Rattle.sefs.specs.State.{Fs}
use Rattle.sefs.specs.Meta.{load_meta}
use Rattle.sefs.specs.Nodes.{Opened, opened, get_node}
use Rattle.sefs.specs.Slots.{Slot, find_slot}
use Rattle.sefs.specs.Ask.{start}
use Rattle.sefs.specs.Open.{hold_node}
use Rattle.mem.specs.Mem.{table_in, meta_in, Whole}
use Rattle.mem.specs.State.{fs_at}
use Rattle.calls.proofs.General.{went-last}
use Rattle.finds.specs.Parts.{find_id}

-- ---- a node opened, and the hold on it

-- the state at a call's start, as the code has it
fs-start : (a m : List ℕ) (t : Table) → table_in m ≡ t → meta_in m ≡ load_meta a → fs_at a m ≡ start a t
fs-start a m t f g = rw (f, g)

-- the node that was opened, and the hold
pub hold-went : (a m n : List ℕ) (t : Table) (who id row r : ℕ) → table_in m ≡ t → meta_in m ≡ load_meta a → Went (get_node (fs_at a m) id) (opened (fs_at a n) row) (Whole n × (row < 34)) r → Went (hold_node (start a t) who id) (add_hold (table_in n) who row) (Whole n × (row < 34)) r
unfolding hold_node
hold-went a m n t who id row r e f g =
    subst (λ (s : Fs). Went (hold_node s who id) (add_hold (table_in n) who row) (Whole n × (row < 34)) r) (fs-start a m t e f) (went-last (λ (o : Opened). add_hold o.state.table who o.row) (λ (p : Whole n × (row < 34)). p) g)

-- the hold x by the handle and the table that it left
pub handed : {o : Out Added} {x y : Added} {P : Type 0} {n r : ℕ} → r ≡ n → (n ≡ 0 → x ≡ y) → Went o x P n → Went o y Unit r
handed q k (well e p) = rw q (well (e ∙ ap done (k refl)) tt)
handed q k (ill l e) = rw q (ill l e)

-- ---- the id

-- a slot's first field
pub entry-id : (l : List ℕ) → le_at l 0 4 ≡ (entry_of l).id
unfolding entry_of
entry-id l = refl

-- the id in the slot that was found
pub id-went : (a : List ℕ) (r : DiskINode) (name l : List ℕ) (place n id : ℕ) (P : Type 0) → id ≡ (entry_of l).id → Went (find_slot a r name) (record { place = place; entry = entry_of l }) P n → Went (find_id a r name) id Unit n
unfolding find_id
id-went a r name l place n id P f g = rw f (went-last (λ (s : Slot). s.entry.id) (λ (p : P). tt) g)
