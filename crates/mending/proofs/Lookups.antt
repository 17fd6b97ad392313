-- A lookup goes by a folder's slots alone: where as many slots of two folders read the same, a name is found in both alike.
use mathlib.Core.Path.{◌≡◌, refl, ap, ◌∙◌}
use mathlib.Core.Bool.{Bool, true, false}
use mathlib.Core.List.{List}
use Prim.Native.Nat.{ℕ, zero, suc, ◌+◌, ◌*◌, ◌<◌}
use native.Mathlib.Omega.{arith}
use lib.Dec.{ltb, leb}
use borrow.Author.Tests.{ltb-true}
use Rattle.base.specs.Out.{Out, done, refused, bind, guard}
use Rattle.base.specs.Parts.{tab}
use Rattle.base.specs.Reasons.{stuck}
use Rattle.base.specs.Search.{pick, found_below}
use Rattle.std.specs.Prelude.{Option, Some, None}
use Rattle.base.proofs.Lists.{tab-cong}
use Rattle.structs.specs.Layout.{entry_of}
use Rattle.structs.specs.declared.DiskEntry.{DiskEntry}
use Rattle.structs.specs.declared.DiskINode.{DiskINode}
use Rattle.utf8.specs.Names.{stored_name, is_named}
use Rattle.arena.specs.Fields.{File}
use Rattle.files.specs.Read.{there, length_of, byte_at, read_file}
use Rattle.files_laws.specs.Laws.{Kept}
use Rattle.sefs.specs.Nodes.{node_file}
use Rattle.sefs.specs.Slots.{is_ended, slot_bytes, slot_at, look_to, lookup, or_not_found, find_slot, Slot}

-- a file that is kept reads as it did
pub read_kept : (x y : List ℕ) (f : File) (pos n : ℕ) → Kept y x f → read_file x f pos n ≡ read_file y f pos n
unfolding read_file
read_kept x y f pos n K =
    ap (λ (b : Bool). guard b stuck (guard (leb (pos + n) (length_of x f)) stuck (done (tab (byte_at x f) pos n)))) K.exists
    ∙ ap (λ (l : ℕ). guard (there y f) stuck (guard (leb (pos + n) l) stuck (done (tab (byte_at x f) pos n)))) K.long
    ∙ ap (λ (l : List ℕ). guard (there y f) stuck (guard (leb (pos + n) (length_of y f)) stuck (done l))) (tab-cong (byte_at x f) (byte_at y f) pos pos n (λ i l. K.byte (pos + i)))

pub slot_same : (x y : List ℕ) (r s : DiskINode) (k : ℕ) → read_file x (node_file r) (264 * k) 264 ≡ read_file y (node_file s) (264 * k) 264 → slot_at x r k ≡ slot_at y s k
unfolding slot_at slot_bytes
slot_same x y r s k e =
    ap (λ (o : Out (List ℕ)). bind (bind o (λ l. guard (leb (entry_of l).kind 4) stuck (done l))) (λ l. guard (is_ended (stored_name (entry_of l).name)) stuck (done (entry_of l)))) e

-- the first n slots read the same
abbrev pub Alike : List ℕ → List ℕ → DiskINode → DiskINode → ℕ → Type 0
Alike x y r s n = (k : ℕ) → k < n → read_file x (node_file r) (264 * k) 264 ≡ read_file y (node_file s) (264 * k) 264

pub look-same : (x y : List ℕ) (r s : DiskINode) (name : List ℕ) (n : ℕ) → Alike x y r s n → look_to x r name n ≡ look_to y s name n
unfolding look_to
look-same x y r s name zero h = refl
look-same x y r s name (suc n) h =
    ap (λ (o : Out ℕ). bind o (λ k. pick (ltb k n) (done k) (bind (slot_at x r n) (λ e. done (pick (is_named e.name name) n (suc n)))))) (look-same x y r s name n (λ k l. h k (omega arith)))
    ∙ ap (λ (o : Out DiskEntry). bind (look_to y s name n) (λ k. pick (ltb k n) (done k) (bind o (λ e. done (pick (is_named e.name name) n (suc n)))))) (slot_same x y r s n (h n (omega arith)))

pub lookup-same : (x y : List ℕ) (r s : DiskINode) (name : List ℕ) → r.blocks ≡ s.blocks → Alike x y r s s.blocks → lookup x r name ≡ lookup y s name
unfolding lookup
lookup-same x y r s name q h =
    ap (λ (n : ℕ). bind (look_to x r name n) (λ k. done (found_below k n))) q ∙ ap (λ (o : Out ℕ). bind o (λ k. done (found_below k s.blocks))) (look-same x y r s name s.blocks h)

-- the slot that a lookup found
abbrev pub slot_of : List ℕ → DiskINode → Option ℕ → Out Slot
slot_of x r f = bind (or_not_found f) (λ k. bind (slot_at x r k) (λ e. done (record { place = k; entry = e })))

pub find-same : (x y : List ℕ) (r s : DiskINode) (name : List ℕ) → r.blocks ≡ s.blocks → Alike x y r s s.blocks → find_slot x r name ≡ find_slot y s name
unfolding find_slot lookup found_below
find-same x y r s name q h = ap (λ (o : Out (Option ℕ)). bind o (slot_of x r)) (lookup-same x y r s name q h) ∙ go (look_to y s name s.blocks)
  where
    go : (o : Out ℕ) → bind (bind o (λ k. done (found_below k s.blocks))) (slot_of x r) ≡ bind (bind o (λ k. done (found_below k s.blocks))) (slot_of y s)
    go (refused m) = refl
    go (done k) = at (ltb k s.blocks) refl
      where
        at : (b : Bool) → ltb k s.blocks ≡ b → slot_of x r (pick b (Some k) None) ≡ slot_of y s (pick b (Some k) None)
        at true t = ap (λ (o : Out DiskEntry). bind o (λ e. done (record { place = k; entry = e }))) (slot_same x y r s k (h k (ltb-true k s.blocks t)))
        at false t = refl

-- so where its file is kept, and its number of slots
pub find-kept : (x y : List ℕ) (r s : DiskINode) (name : List ℕ) → r.blocks ≡ s.blocks → node_file r ≡ node_file s → Kept y x (node_file s) → find_slot x r name ≡ find_slot y s name
find-kept x y r s name q f K = find-same x y r s name q (λ k l. ap (λ (g : File). read_file x g (264 * k) 264) f ∙ read_kept x y (node_file s) (264 * k) 264 K)
