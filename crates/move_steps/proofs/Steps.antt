-- The steps of move, one after another.
use mathlib.Core.Path.{◌≡◌, refl, sym, ◌∙◌, ap, subst}
use mathlib.Core.List.{List}
use Prim.Native.Nat.{ℕ, ◌≤◌, ◌<◌}
use native.Mathlib.Omega.{arith}
use lib.ListN.{length}
use borrow.Author.Tests.{eq-eqb, ne_eqb, le-leb, lt-leb}
use Rattle.base.specs.Out.{bind, Went, well, ill}
use Rattle.base.proofs.Outs.{went-is, went-has, went-next, went-stop}
use Rattle.le.specs.Le.{le_at, Bytes}
use Rattle.structs.specs.declared.DiskEntry.{DiskEntry}
use Rattle.structs.specs.Layout.{entry_of, entry_bytes}
use Rattle.structs.specs.Fits.{EntryFits}
use Rattle.structs.proofs.Layouts.{entry_of-entry_bytes, entry_bytes-entry_of}
use Rattle.utf8.proofs.Names.{length-name_bytes}
use Rattle.overlay.specs.View.{view}
use Rattle.table.specs.Table.{row_at}
use Rattle.sefs.specs.State.{Fs}
use Rattle.sefs.specs.Nodes.{rec_at, id_at, opened, get_node, sync_row, release}
use Rattle.sefs.specs.Slots.{Slot, find_slot}
use Rattle.sefs.specs.Folders.{entry, dots_entry, put_slot, dirent_append, dirent_remove, dirent_node_remove}
use Rattle.sefs.specs.Move.{renamed, move_dots, move_links, move_parent}
use Rattle.mem.specs.Mem.{table_in, Whole}
use Rattle.mem.specs.State.{fs_of, Ready, Stepped}
use Rattle.folders.proofs.Folders.{id-of}
use Rattle.folders.proofs.States.{stepped-next, stepped-more}
use Rattle.steps.specs.Steps.{sync_two}
use Rattle.steps.proofs.Steps.{name-bytes}
use Rattle.move_steps.specs.declared.Gone.{Gone}
use Rattle.move_steps.specs.declared.Gone.TheVariants.{Free, Node}
use Rattle.move_steps.specs.Steps.{InRow, remove_gone, within_folder, end_folders, end_move, open_moved, rest_move, between_folders, move_slot, move_named, move_over}

-- ---- the replaced node

module _ (a w m : List ℕ) (j : ℕ) (g : Gone) where
  pub gone-free : g ≡ Free → Ready a w m → Stepped (remove_gone (fs_of a w m) j g) a w w m 18 0
  unfolding remove_gone
  gone-free e h = rw e (well refl (record { fine = h.fine; whole = h.whole; room = omega arith }))

  pub gone-node : {u n : List ℕ} {r : ℕ} (d k : ℕ) → g ≡ Node d k → Stepped (dirent_node_remove (fs_of a w m) j d k) a w u n 18 r → Stepped (remove_gone (fs_of a w m) j g) a w u n 18 r
  unfolding remove_gone
  gone-node d k e h = rw e h

pub gone-row : (g : Gone) (d k : ℕ) → g ≡ Node d k → InRow g → d < 34
gone-row g d k e h = subst InRow e h

-- ---- within one folder

module _ {a w u : List ℕ} {r : ℕ} (m l : List ℕ) (i k : ℕ) (g : Gone) (b : Bytes l) (y : length l ≡ 264) (p : Stepped (put_slot (fs_of a w m) i k l) a w u m 3 r) where
  slotted : Stepped (put_slot (fs_of a w m) i k (entry_bytes (entry_of l))) a w u m 3 r
  slotted = subst (λ (x : List ℕ). Stepped (put_slot (fs_of a w m) i k x) a w u m 3 r) (sym (entry_bytes-entry_of l b y)) p

  pub within-stop : (v q : List ℕ) → (r ≡ 0 → ⊥) → Stepped (within_folder (fs_of a w m) i k (entry_of l) g) a w v q 24 r
  unfolding within_folder
  within-stop v q z = went-stop _ _ z slotted

  module _ {v q : List ℕ} {x : ℕ} (z : r ≡ 0) (d : Stepped (remove_gone (fs_of a u m) i g) a u v q 18 x) where
    pub within-gone : (t n : List ℕ) → (x ≡ 0 → ⊥) → Stepped (within_folder (fs_of a w m) i k (entry_of l) g) a w t n 24 x
    unfolding within_folder
    within-gone t n o = went-next _ (went-is slotted z) (went-stop _ _ o d)

    pub within-done : {t n : List ℕ} {f : ℕ} → x ≡ 0 → Stepped (sync_row (fs_of a v q) i) a v t n 3 f → Stepped (within_folder (fs_of a w m) i k (entry_of l) g) a w t n 24 f
    unfolding within_folder
    within-done o h = stepped-next (λ s. bind (remove_gone s i g) (λ s. sync_row s i)) 3 24 (went-is slotted z) (went-has p z) (stepped-next (λ s. sync_row s i) 18 21 (went-is d o) (went-has d o) h (omega arith)) (omega arith)

-- ---- the links of both folders, by the moved node's type x

kind-of : (a w m : List ℕ) (c x : ℕ) → x ≡ (row_at (table_in m) c).rec.kind → x ≡ (rec_at (fs_of a w m) c).kind
unfolding fs_of
kind-of a w m c x e = e

module _ (m : List ℕ) (i j c x : ℕ) (e : x ≡ (row_at (table_in m) c).rec.kind) where
  pub links-stuck : (n : List ℕ) → 4 < x → (a w : List ℕ) → Went (move_links (fs_of a w m) i j c) (fs_of a w n) (Whole n) 19
  unfolding move_links
  links-stuck n l a w = ill {r = 19} (omega arith) (rw (← kind-of a w m c x e, lt-leb x 4 l))

  pub links-folder : {n : List ℕ} {r : ℕ} → x ≤ 4 → x ≡ 2 → ((a w : List ℕ) → Went (move_dots (fs_of a w m) i j) (fs_of a w n) (Whole n) r) → (a w : List ℕ) → Went (move_links (fs_of a w m) i j c) (fs_of a w n) (Whole n) r
  unfolding move_links
  links-folder l k h a w = rw (← kind-of a w m c x e, le-leb x 4 l, eq-eqb x 2 k) (h a w)

  pub links-other : x ≤ 4 → (x ≡ 2 → ⊥) → Whole m → (a w : List ℕ) → Went (move_links (fs_of a w m) i j c) (fs_of a w m) (Whole m) 0
  unfolding move_links
  links-other l k h a w = well (rw (← kind-of a w m c x e, le-leb x 4 l, ne_eqb x 2 k)) h

-- ---- between folders

-- the moved node is in row c, and its type is x
module _ (a w m : List ℕ) (j c x : ℕ) (e : x ≡ (row_at (table_in m) c).rec.kind) where
  pub parent-folder : {u : List ℕ} {r : ℕ} (y : ℕ) → y ≡ (row_at (table_in m) j).id → x ≡ 2 → Stepped (put_slot (fs_of a w m) c 1 (entry_bytes (dots_entry y))) a w u m 3 r → Stepped (move_parent (fs_of a w m) j c) a w u m 3 r
  unfolding move_parent
  parent-folder y f k h = rw (← kind-of a w m c x e, eq-eqb x 2 k, ← id-of a w m j y f) h

  pub parent-other : (x ≡ 2 → ⊥) → Ready a w m → Stepped (move_parent (fs_of a w m) j c) a w w m 3 0
  unfolding move_parent
  parent-other k h = rw (← kind-of a w m c x e, ne_eqb x 2 k) (well refl (record { fine = h.fine; whole = h.whole; room = omega arith }))

module _ {a w u : List ℕ} {r : ℕ} (m : List ℕ) (i j c : ℕ) (g : Stepped (move_parent (fs_of a w m) j c) a w u m 3 r) where
  pub folders-stop : (v q : List ℕ) → (r ≡ 0 → ⊥) → Stepped (end_folders (fs_of a w m) i j c) a w v q 9 r
  unfolding end_folders
  folders-stop v q z = went-stop _ _ z g

  pub folders-done : {v q : List ℕ} {x : ℕ} → r ≡ 0 → Stepped (sync_two (fs_of a u m) j i) a u v q 6 x → Stepped (end_folders (fs_of a w m) i j c) a w v q 9 x
  unfolding end_folders
  folders-done z h = stepped-next (λ s. sync_two s j i) 3 9 (went-is g z) (went-has g z) h (omega arith)

module _ {a w n : List ℕ} {r : ℕ} (m : List ℕ) (i j c : ℕ) (g : Went (move_links (fs_of a w m) i j c) (fs_of a w n) (Whole n) r) where
  pub end-stop : (v q : List ℕ) → (r ≡ 0 → ⊥) → Stepped (end_move (fs_of a w m) i j c) a w v q 22 r
  unfolding end_move
  end-stop v q z = went-stop _ _ z g

  module _ {u q : List ℕ} {x : ℕ} (z : r ≡ 0) (d : Stepped (end_folders (fs_of a w n) i j c) a w u q 9 x) where
    pub end-sync : (v t : List ℕ) → (x ≡ 0 → ⊥) → Stepped (end_move (fs_of a w m) i j c) a w v t 22 x
    unfolding end_move
    end-sync v t o = went-next _ (went-is g z) (went-stop _ _ o d)

    pub end-done : {v t : List ℕ} {y : ℕ} → x ≡ 0 → Stepped (release (fs_of a u q) c) a u v t 13 y → Stepped (end_move (fs_of a w m) i j c) a w v t 22 y
    unfolding end_move
    end-done o h = went-next (λ s. bind (end_folders s i j c) (λ s. release s c)) (went-is g z) (stepped-next (λ s. release s c) 9 22 (went-is d o) (went-has d o) h (omega arith))

-- it is opened
module _ (a w m n : List ℕ) (i j id c : ℕ) {r : ℕ} {P : Type 0} (g : Went (get_node (fs_of a w m) id) (opened (fs_of a w n) c) P r) where
  pub open-stop : (v q : List ℕ) → (r ≡ 0 → ⊥) → Stepped (open_moved (fs_of a w m) i j id) a w v q 22 r
  unfolding open_moved
  open-stop v q z = went-stop _ _ z g

  pub open_next : {u q : List ℕ} {x : ℕ} → r ≡ 0 → Stepped (end_move (fs_of a w n) i j c) a w u q 22 x → Stepped (open_moved (fs_of a w m) i j id) a w u q 22 x
  unfolding open_moved
  open_next z h = went-next (λ o. end_move o.state i j o.row) (went-is g z) h

-- the replaced node goes first
module _ {a w u n : List ℕ} {r : ℕ} (m : List ℕ) (i j id : ℕ) (e : Gone) (g : Stepped (remove_gone (fs_of a w m) j e) a w u n 18 r) where
  pub rest-stop : (v q : List ℕ) → (r ≡ 0 → ⊥) → Stepped (rest_move (fs_of a w m) i j id e) a w v q 40 r
  unfolding rest_move
  rest-stop v q z = went-stop _ _ z g

  pub rest-next : {v q : List ℕ} {x : ℕ} → r ≡ 0 → Stepped (open_moved (fs_of a u n) i j id) a u v q 22 x → Stepped (rest_move (fs_of a w m) i j id e) a w v q 40 x
  unfolding rest_move
  rest-next z h = stepped-next (λ s. open_moved s i j id) 18 40 (went-is g z) (went-has g z) h (omega arith)

-- the slots go first
module _ {a w u n : List ℕ} {r : ℕ} (m l : List ℕ) (i j k : ℕ) (e : Gone) (g : Stepped (dirent_append (fs_of a w m) j (entry_of l)) a w u n 3 r) where
  pub between-stop : (v q : List ℕ) → (r ≡ 0 → ⊥) → Stepped (between_folders (fs_of a w m) i j k (entry_of l) e) a w v q 48 r
  unfolding between_folders
  between-stop v q z = went-stop _ _ z g

  module _ {v q : List ℕ} {x : ℕ} (z : r ≡ 0) (d : Stepped (dirent_remove (fs_of a u n) i k) a u v q 5 x) where
    pub between-remove : (t p : List ℕ) → (x ≡ 0 → ⊥) → Stepped (between_folders (fs_of a w m) i j k (entry_of l) e) a w t p 48 x
    unfolding between_folders
    between-remove t p o = went-next _ (went-is g z) (went-stop _ _ o d)

    pub between_next : {t p : List ℕ} {y : ℕ} (id : ℕ) → id ≡ le_at l 0 4 → x ≡ 0 → Stepped (rest_move (fs_of a v q) i j id e) a v t p 40 y → Stepped (between_folders (fs_of a w m) i j k (entry_of l) e) a w t p 48 y
    unfolding between_folders entry_of
    between_next id f o h =
        stepped-next (λ s. bind (dirent_remove s i k) (λ s. rest_move s i j (le_at l 0 4) e)) 3 48 (went-is g z) (went-has g z)
        (stepped-next (λ s. rest_move s i j (le_at l 0 4) e) 5 45 (went-is d o) (went-has d o) (rw f at h) (omega arith))
        (omega arith)

-- ---- within or between: x and y are the folders' ids

module _ (a w m : List ℕ) (i j k : ℕ) (d : DiskEntry) (g : Gone) (x y : ℕ) (p : x ≡ (row_at (table_in m) i).id) (q : y ≡ (row_at (table_in m) j).id) where
  pub slot-within : {u n : List ℕ} {r : ℕ} → x ≡ y → Stepped (within_folder (fs_of a w m) i k d g) a w u n 24 r → Stepped (move_slot (fs_of a w m) i j k d g) a w u n 48 r
  unfolding move_slot
  slot-within e h = rw (eq-eqb (id_at (fs_of a w m) i) (id_at (fs_of a w m) j) (sym (id-of a w m i x p) ∙ e ∙ id-of a w m j y q)) (stepped-more 48 (omega arith) h)

  pub slot-between : {u n : List ℕ} {r : ℕ} → (x ≡ y → ⊥) → Stepped (between_folders (fs_of a w m) i j k d g) a w u n 48 r → Stepped (move_slot (fs_of a w m) i j k d g) a w u n 48 r
  unfolding move_slot
  slot-between e h = rw (ne_eqb (id_at (fs_of a w m) i) (id_at (fs_of a w m) j) (λ o. e (id-of a w m i x p ∙ o ∙ sym (id-of a w m j y q)))) h

-- ---- the moved slot

pub renamed-is : (l v name : List ℕ) (id kind : ℕ) → Bytes name → length name ≤ 255 → id < 4294967296 → kind < 4294967296 → id ≡ le_at l 0 4 → kind ≡ le_at l 260 4
    → v ≡ entry_bytes (entry id name kind) → entry_of v ≡ renamed (entry_of l) name
unfolding entry_of
renamed-is l v name id kind b h hi hk p q e =
    let f : EntryFits (entry id name kind) = record { id = hi; kind = hk; name = length-name_bytes name (omega arith); name_bytes = name-bytes name b } in
    ap entry_of e ∙ entry_of-entry_bytes (entry id name kind) f ∙ rw (p, q)

-- a slot that was found, in the state
pub find-fs : {v : Slot} {P : Type 0} {r : ℕ} (a w m : List ℕ) (i : ℕ) (name : List ℕ) → Went (find_slot (view a w) (row_at (table_in m) i).rec name) v P r → Went (find_slot (fs_of a w m).arena (rec_at (fs_of a w m) i) name) v P r
unfolding fs_of
find-fs a w m i name f = f

-- found by its name
module _ (a w m : List ℕ) (i j : ℕ) (old name l : List ℕ) (k r : ℕ) {P : Type 0} (g : Gone) (f : Went (find_slot (view a w) (row_at (table_in m) i).rec old) (record { place = k; entry = entry_of l }) P r) where
  pub named-stop : (v : Fs) {Q : Type 0} → (r ≡ 0 → ⊥) → Went (move_named (fs_of a w m) i j old name g) v Q r
  unfolding move_named
  named-stop v z = went-stop (λ f. move_slot (fs_of a w m) i j f.place (renamed f.entry name) g) v z (find-fs a w m i old f)

  pub named-next : {v : Fs} {Q : Type 0} {q : ℕ} (t : List ℕ) → entry_of t ≡ renamed (entry_of l) name → r ≡ 0 → Went (move_slot (fs_of a w m) i j k (entry_of t) g) v Q q → Went (move_named (fs_of a w m) i j old name g) v Q q
  unfolding move_named
  named-next {v} {Q} {q} t d z h =
      went-next (λ f. move_slot (fs_of a w m) i j f.place (renamed f.entry name) g) (went-is (find-fs a w m i old f) z)
      (subst (λ (y : DiskEntry). Went (move_slot (fs_of a w m) i j k y g) v Q q) d h)

-- ---- node c in the place of node d

module _ {a w u n : List ℕ} {r : ℕ} (m : List ℕ) (i j : ℕ) (old name : List ℕ) (c d k : ℕ) (g : Stepped (release (fs_of a w m) c) a w u n 13 r) where
  pub over-stop : (v q : List ℕ) → (r ≡ 0 → ⊥) → Stepped (move_over (fs_of a w m) i j old name c d k) a w v q 61 r
  unfolding move_over
  over-stop v q z = went-stop _ _ z g

  pub over-next : {v q : List ℕ} {y : ℕ} → r ≡ 0 → Stepped (move_named (fs_of a u n) i j old name (Node d k)) a u v q 48 y → Stepped (move_over (fs_of a w m) i j old name c d k) a w v q 61 y
  unfolding move_over
  over-next z f = stepped-next (λ s. move_named s i j old name (Node d k)) 13 61 (went-is g z) (went-has g z) f (omega arith)
