-- The steps that calls share, in their parts.
use mathlib.Core.Path.{◌≡◌, refl, ◌∙◌, ap, subst}
use mathlib.Core.Bool.{Bool, true, false, not, ◌&&◌}
use mathlib.Core.List.{List}
use Prim.Native.Nat.{ℕ, ◌-◌, ◌≤◌, ◌<◌}
use native.Mathlib.Omega.{arith}
use lib.ListN.{length, get_or, replicate}
use lib.Dec.{eqb, ltb, leb}
use borrow.Author.Tests.{leb-true}
use Rattle.base.specs.Out.{ensure, answer, Went, well, ill}
use Rattle.base.proofs.Outs.{went-is, went-has, went-stop}
use Rattle.base.proofs.Searches.{found_at, found_nothing}
use Rattle.base.proofs.Parts.{get_or-zero-list}
use Rattle.structs.specs.declared.DiskINode.{DiskINode}
use Rattle.structs.specs.declared.DiskEntry.{DiskEntry}
use Rattle.structs.specs.Layout.{entry_of, entry_bytes}
use Rattle.structs.specs.Fits.{EntryFits}
use Rattle.structs.proofs.Layouts.{entry_of-entry_bytes}
use Rattle.structs.proofs.Joins.{bytes-append}
use Rattle.le.specs.Le.{Bytes}
use Rattle.utf8.specs.Names.{name_verdict, early_reason, new_reason, is_special, name_bytes}
use Rattle.utf8.proofs.Names.{length-name_bytes}
use Rattle.table.specs.Table.{row_at}
use Rattle.sefs.specs.Nodes.{rec_at, id_at, sync_row}
use Rattle.sefs.specs.Slots.{look_to}
use Rattle.sefs.specs.Folders.{entry, dirent_append}
use Rattle.sefs.specs.Ask.{good_name, new_name, not_long, not_special, known}
use Rattle.mem.specs.Mem.{table_in}
use Rattle.mem.specs.State.{fs_of, Stepped}
use Rattle.folders.proofs.States.{stepped-next}
use Rattle.chains.proofs.Lookups.{lookup-is}
use Rattle.calls.proofs.Asks.{Asks, asks-ensure}
use Rattle.steps.specs.Steps.{no_slot, sync_two}

-- ---- a name that is free

module _ (a : List ℕ) (r : DiskINode) (name : List ℕ) {k : ℕ} {P : Type 0} {x : ℕ} (g : Went (look_to a r name r.blocks) k P x) where
  pub slot-stop : (x ≡ 0 → ⊥) → Went (no_slot a r name) tt Unit x
  unfolding no_slot
  slot-stop z = went-stop _ tt z (lookup-is a r name g)

  pub slot-there : x ≡ 0 → k < r.blocks → Went (no_slot a r name) tt Unit 12
  unfolding no_slot
  slot-there z l = ill {r = 12} (omega arith) (rw (went-is (lookup-is a r name g) z, found_at k r.blocks l))

  pub slot-none : x ≡ 0 → r.blocks ≤ k → Went (no_slot a r name) tt Unit 0
  unfolding no_slot
  slot-none z l = well (rw (went-is (lookup-is a r name g) z, found_nothing k r.blocks l)) tt

-- ---- what is asked of a name and of a record

pub asks-good : (name : List ℕ) → Asks (good_name name)
asks-good name = asks-ensure (eqb (early_reason (name_verdict name)) 0) 5 (omega arith)

pub asks-new : (name : List ℕ) → Asks (new_name name)
asks-new name = asks-ensure (eqb (new_reason (name_verdict name)) 0) 5 (omega arith)

pub asks-known : (r : DiskINode) → Asks (known r)
asks-known r = asks-ensure (ltb 0 r.kind && leb r.kind 4) 19 (omega arith)

pub long : (name : List ℕ) (x : ℕ) → x ≡ answer (not_long name) → Went (not_long name) tt (length name ≤ 255) x
long name x e = go (leb (length name) 255) refl e
  where
    go : (b : Bool) → leb (length name) 255 ≡ b → x ≡ answer (ensure b 10) → Went (ensure b 10) tt (length name ≤ 255) x
    go true q d = rw d (well refl (leb-true _ _ q))
    go false q d = rw d (ill {r = 10} (omega arith) refl)

pub asks-special : (name : List ℕ) → Asks (not_special name)
asks-special name = asks-ensure (not (is_special name)) 9 (omega arith)

-- ---- a slot with a node's id

pub name-bytes : (name : List ℕ) → Bytes name → Bytes (name_bytes name)
unfolding name_bytes
name-bytes name b = bytes-append name _ b (λ i. let z : get_or (replicate {A = ℕ} (256 - length name) 0) i 0 ≡ 0 = get_or-zero-list (256 - length name) i in omega arith)

pub appended : {a w u n : List ℕ} {r : ℕ} (m l name : List ℕ) (i c id kind : ℕ) → Bytes name → length name ≤ 255 → id < 4294967296 → kind < 4294967296
    → l ≡ entry_bytes (entry id name kind) → id ≡ id_at (fs_of a w m) c
    → Stepped (dirent_append (fs_of a w m) i (entry_of l)) a w u n 3 r → Stepped (dirent_append (fs_of a w m) i (entry (id_at (fs_of a w m) c) name kind)) a w u n 3 r
appended {a} {w} {u} {n} {r} m l name i c id kind b s hi hk e q g =
    let f : EntryFits (entry id name kind) = record { id = hi; kind = hk; name = length-name_bytes name (omega arith); name_bytes = name-bytes name b } in
    let k : entry_of l ≡ entry (id_at (fs_of a w m) c) name kind = ap entry_of e ∙ entry_of-entry_bytes (entry id name kind) f ∙ ap (λ (x : ℕ). entry x name kind) q in
    subst (λ (x : DiskEntry). Stepped (dirent_append (fs_of a w m) i x) a w u n 3 r) k g

-- a record in memory is the state's
pub rec-of : (a w m : List ℕ) (i : ℕ) (x : DiskINode) → x ≡ (row_at (table_in m) i).rec → x ≡ rec_at (fs_of a w m) i
unfolding fs_of
rec-of a w m i x e = e

-- ---- two rows

module _ {a w u n : List ℕ} {r : ℕ} (m : List ℕ) (i c : ℕ) (g : Stepped (sync_row (fs_of a w m) c) a w u n 3 r) where
  pub sync-stop : (t l : List ℕ) → (r ≡ 0 → ⊥) → Stepped (sync_two (fs_of a w m) i c) a w t l 6 r
  unfolding sync_two
  sync-stop t l z = went-stop _ _ z g

  pub sync-done : {t l : List ℕ} {q : ℕ} → r ≡ 0 → Stepped (sync_row (fs_of a u n) i) a u t l 3 q → Stepped (sync_two (fs_of a w m) i c) a w t l 6 q
  unfolding sync_two
  sync-done z h = stepped-next (λ s. sync_row s i) 3 6 (went-is g z) (went-has g z) h (omega arith)
