-- Superblock, maps and table in memory say of nodes and records what the image says.
use mathlib.Core.Path.{◌≡◌, sym, ap, ◌∙◌}
use mathlib.Core.Bool.{Bool, true, false, not}
use mathlib.Core.List.{List}
use Prim.Native.Nat.{ℕ, ◌+◌, ◌*◌, ◌≤◌, ◌<◌}
use native.Mathlib.Omega.{arith}
use lib.Dec.{ltb}
use lib.ListN.{length}
use borrow.Author.Tests.{eq-eqb}
use Rattle.base.specs.Count.{bit, count_to}
use Rattle.base.specs.Parts.{part}
use Rattle.std.specs.Prelude.{Option, Some, None}
use Rattle.base.proofs.Bools.{and-false}
use Rattle.base.proofs.Counts.{count_to-more, count_to-none}
use Rattle.base.proofs.Lists.{length-tab}
use Rattle.base.proofs.Parts.{part-whole}
use Rattle.structs.specs.Layout.{super_of, record_of}
use Rattle.structs.specs.declared.SuperBlock.{SuperBlock}
use Rattle.table.specs.declared.Table.{Table}
use Rattle.table.specs.Table.{row_at, row_of}
use Rattle.files.specs.Read.{byte_at}
use Rattle.sefs.specs.Meta.{meta_file}
use Rattle.sefs.specs.Nodes.{no_row}
use Rattle.mem.specs.Mem as memory
use Rattle.rules.specs.Image.{run, stored_super, ids_in, is_node, stored_bytes, rec_by, rec_of, is_open, node_count}
use Rattle.fsck_read.specs.Loaded.{Loaded, Of}

pub groups-some : (m : List ℕ) → Loaded m → (0 < (memory.super_in m).groups) × ((memory.super_in m).groups ≤ 4)
groups-some m L = (L.whole.some L.read, L.whole.few L.read)

-- ---- nodes

module _ (a m : List ℕ) (O : Of a m) where
  pub ids-is : 1024 * (memory.super_in m).groups ≡ ids_in a
  ids-is = ap (λ (b : SuperBlock). 1024 * b.groups) O.super

pub node-zero : (a : List ℕ) (id : ℕ) → id ≡ 0 → false ≡ is_node a id
unfolding is_node
node-zero a id z = sym (rw (eq-eqb id 0 z) (and-false (ltb id (ids_in a))))

-- ---- how many nodes there are

pub nodes-none : (a : List ℕ) → 0 ≡ count_to (is_node a) 0
nodes-none a = sym (count_to-none (is_node a) 0 (λ j l. absurd (omega arith)))

pub nodes-more : (a : List ℕ) (id n k : ℕ) (b : Bool) → n ≡ count_to (is_node a) id → k ≡ bit b → b ≡ is_node a id → n + k ≡ count_to (is_node a) (id + 1)
nodes-more a id n k b e f g = (λ x. e x + (f ∙ ap bit g) x) ∙ sym (count_to-more (is_node a) id)

pub nodes-all : (a : List ℕ) (id n r : ℕ) → r ≡ count_to (is_node a) id → n ≡ ids_in a → id ≤ n → n ≤ id → r ≡ node_count a
unfolding node_count
nodes-all a id n r e f l g = e ∙ ap (count_to (is_node a)) (let z : id ≡ n = omega arith in z ∙ f)

-- ---- superblock and records, from the bytes that were read

-- n bytes that were read, as one part
read_all : (a l o : List ℕ) (pos n : ℕ) → length o ≡ n → l ≡ run a meta_file pos (length o) → part l 0 n ≡ run a meta_file pos n
read_all a l o pos n e q =
    ap (λ (x : List ℕ). part x 0 n) (q ∙ ap (run a meta_file pos) e) ∙ part-whole (run a meta_file pos n) n (length-tab (byte_at a meta_file) pos n)

pub super-read : (a l o : List ℕ) → length o ≡ 16 → l ≡ run a meta_file 0 (length o) → super_of (part l 0 16) ≡ stored_super a
unfolding stored_super
super-read a l o e q = ap super_of (read_all a l o 0 16 e q)

pub stored-read : (a l o : List ℕ) (id : ℕ) → length o ≡ 112 → l ≡ run a meta_file (128 * id) (length o) → record_of (part l 0 112) ≡ record_of (stored_bytes a id)
unfolding stored_bytes
stored-read a l o id e q = ap record_of (read_all a l o (128 * id) 112 e q)

-- ---- rows

module _ (t : Table) (id : ℕ) where
  pub rec-row : (a : List ℕ) (i : ℕ) → row_of t id ≡ Some i → (row_at t i).rec ≡ rec_of a t id
  unfolding rec_of
  rec-row a i e = sym (ap (rec_by a t id) e)

  pub rec-stored : (a : List ℕ) → row_of t id ≡ None → record_of (stored_bytes a id) ≡ rec_of a t id
  unfolding rec_of
  rec-stored a e = sym (ap (rec_by a t id) e)

  pub open_row : (i : ℕ) → row_of t id ≡ Some i → true ≡ is_open t id
  unfolding is_open
  open_row i e = sym (ap (λ (f : Option ℕ). not (no_row f)) e)

  pub open-not : row_of t id ≡ None → false ≡ is_open t id
  unfolding is_open
  open-not e = sym (ap (λ (f : Option ℕ). not (no_row f)) e)
