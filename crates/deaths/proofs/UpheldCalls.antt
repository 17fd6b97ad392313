-- Each call keeps what `Upheld` says. A folder's number of slots differs from the stored one from the change of its slots to its store: so its row is let
-- off, and in the end only clean rows are.
use mathlib.Core.Path.{◌≡◌, refl}
use mathlib.Core.Bool.{false}
use mathlib.Core.List.{List}
use mathlib.Core.Logic.{◌⊎◌, inl, inr, ⊎_elim}
use Prim.Native.Nat.{ℕ, zero, suc, ◌+◌, ◌*◌, ◌-◌}
use native.Mathlib.Omega.{arith}
use lib.Dec.{eqb, ltb, leb}
use lib.ListN.{length}
use Rattle.base.specs.Out.{done, Ok, went, said}
use Rattle.std.specs.Prelude.{Option, Some, None}
use Rattle.base.proofs.Outs.{ok-bind}
use Rattle.structs.specs.Types.{is_folder, move_verdict_of}
use Rattle.structs.specs.declared.DiskEntry.{DiskEntry}
use Rattle.structs.specs.declared.MoveVerdict.{MoveVerdict}
use Rattle.structs.specs.declared.MoveVerdict.TheVariants.{Allowed, NotDir, IsDir, IfEmpty}
use Rattle.table.specs.declared.Table.{Table}
use Rattle.table.specs.Table.{add_hold}
use Rattle.arena.specs.Fields.{file}
use Rattle.files_laws.specs.Laws.{Named, Cut}
use Rattle.structs.specs.declared.Timespec.{Timespec}
use Rattle.image.proofs.Holds.{add-rows}
use Rattle.sefs.specs.Meta.{meta_file}
use Rattle.sefs.specs.State.{Fs, Meta, with_arena}
use Rattle.sefs.specs.Nodes.{rec_at, id_at, sync_row}
use Rattle.sefs.specs.Ask.{known, type_in_range}
use Rattle.sefs.specs.Slots.{Slot, slot_bytes, slot_at, find_slot}
use Rattle.sefs.specs.Folders.{put_slot, dirent_init, dirent_append, dirent_remove, dirent_node_remove, nlinks_inc, nlinks_dec, unlink_folder}
use Rattle.sefs.specs.Create.{Given, after, birth, name_folder, named, create_steps, link_steps}
use Rattle.sefs.specs.Remove.{remove_steps}
use Rattle.sefs.specs.Contents.{resize_steps, write_steps}
use Rattle.sefs.specs.Move.{Replaced, none, node, read_slots, judge, remove_replaced, move_within, move_dots, move_links, move_parent, move_between, move_steps, not_below, move_onto, replace, move_free, move_to}
use Rattle.ranges.specs.Ranges.{mode_steps}
use Rattle.ranges.specs.declared.FallocateMode.{FallocateMode}
use Rattle.sefs_laws.proofs.Rows.{Any, any, any-guard, any-pick, Leaves, LeavesAfter, Stores}
use Rattle.sequences.specs.Pairs.{Pair}
use Rattle.sequences.proofs.RangeSteps.{goes-mode}
use Rattle.deaths.proofs.Upheld.{RecordsStay, LetOff, By, Upheld, knowing, upheld-more, upheld-fill, upheld-cut, upheld-store, upheld-sync, upheld-release, upheld-node, upheld-set, upheld-meta, upheld-new, upheld-rows}

-- in the beginning no row is let off, in the end only clean ones
abbrev pub Nobody : ℕ → Type 0
Nobody i = ⊥

abbrev pub Clean : LetOff
Clean i d = d ≡ false

-- in between row i is, or one of two
abbrev pub Sole : ℕ → ℕ → Type 0
Sole i k = k ≡ i

abbrev Either : ℕ → ℕ → ℕ → Type 0
Either i j k = (k ≡ i) ⊎ (k ≡ j)

module _ (p : Pair) where
  -- ---- whoever is let off

  module _ (X : LetOff) where
    slot : (s : Fs) (i k : ℕ) (l : List ℕ) → Upheld p X s.arena s.table → Leaves (Upheld p X) (put_slot s i k l)
    unfolding put_slot
    slot s i k l h = ok-bind (upheld-fill (rec_at s i).file _ _ h) λ a g. went g

    reads : (s : Fs) (i n : ℕ) → Upheld p X s.arena s.table → Leaves (Upheld p X) (read_slots s i n)
    unfolding read_slots
    reads s i zero h = went h
    reads s i (suc n) h = ok-bind (reads s i n h) λ u g. ok-bind (any (slot_at u.arena (rec_at u i) n)) λ e _. went g

    judges : (v : MoveVerdict) (s : Fs) (d : ℕ) → Upheld p X s.arena s.table → Leaves (Upheld p X) (judge v s d)
    judges Allowed s d h = went h
    judges NotDir s d h = said tt
    judges IsDir s d h = said tt
    judges IfEmpty s d h = any-guard (leb (rec_at s d).blocks 2) 13 (λ _. reads s d _ h)

    parent : (s : Fs) (j i : ℕ) → Upheld p X s.arena s.table → Leaves (Upheld p X) (move_parent s j i)
    unfolding move_parent
    parent s j i h = any-pick (is_folder (rec_at s i).kind) (put_slot s i 1 _) (done s) (λ _. slot s i 1 _ h) (λ _. went h)

  -- ---- links change, and nothing that lasts

  module _ (own : ℕ → Type 0) where
    pub inc : (s : Fs) (i : ℕ) → Upheld p (By own) s.arena s.table → Leaves (Upheld p (By own)) (nlinks_inc s i)
    unfolding nlinks_inc
    inc s i h = any-guard (ltb (rec_at s i).nlinks 65535) 15 (λ _. went (upheld-set i _ refl refl refl (inr refl) h))

    dec : (s : Fs) (i : ℕ) → Upheld p (By own) s.arena s.table → Leaves (Upheld p (By own)) (nlinks_dec s i)
    unfolding nlinks_dec
    dec s i h = any-guard (ltb 0 (rec_at s i).nlinks) 19 (λ _. went (upheld-set i _ refl refl refl (inr refl) h))

    unlinks : (s : Fs) (i c : ℕ) → Upheld p (By own) s.arena s.table → Leaves (Upheld p (By own)) (unlink_folder s i c)
    unfolding unlink_folder
    unlinks s i c h = ok-bind (dec s c h) λ u g. dec u i g

    names : (s : Fs) (i c kind : ℕ) → Upheld p (By own) s.arena s.table → Leaves (Upheld p (By own)) (named s i c kind)
    unfolding named name_folder
    names s i c kind h =
        ok-bind (inc s c h) λ u g. any-pick (is_folder kind) (name_folder u i c) (done u) (λ _. ok-bind (inc u c g) λ v k. inc v i k) (λ _. went g)

    links : (s : Fs) (i j c : ℕ) → Upheld p (By own) s.arena s.table → Leaves (Upheld p (By own)) (move_links s i j c)
    unfolding move_links move_dots
    links s i j c h =
        ok-bind (any (type_in_range (rec_at s c))) λ _ _.
        any-pick (is_folder (rec_at s c).kind) (move_dots s i j) (done s) (λ _. ok-bind (dec s i h) λ u g. inc u j g) (λ _. went h)

    -- ---- the slots of a row that is let off

    module _ (i : ℕ) (o : own i) where
      pub inits : (s : Fs) (up : ℕ) → Upheld p (By own) s.arena s.table → Leaves (Upheld p (By own)) (dirent_init s i up)
      unfolding dirent_init
      inits s up h = ok-bind (slot (By own) _ i 0 _ (upheld-set i _ refl refl refl (inl o) h)) λ u g. slot (By own) u i 1 _ g

      bears : (s : Fs) (up kind : ℕ) → Upheld p (By own) s.arena s.table → Leaves (Upheld p (By own)) (birth s up i kind)
      unfolding birth
      bears s up kind h = any-pick (is_folder kind) (dirent_init s i (id_at s up)) (done s) (λ _. inits s _ h) (λ _. went h)

      appends : (s : Fs) (e : DiskEntry) → Upheld p (By own) s.arena s.table → Leaves (Upheld p (By own)) (dirent_append s i e)
      unfolding dirent_append
      appends s e h = ok-bind (slot (By own) s i _ _ h) λ u g. went (upheld-set i _ refl refl refl (inl o) g)

      removes : (s : Fs) (k : ℕ) → Upheld p (By own) s.arena s.table → Leaves (Upheld p (By own)) (dirent_remove s i k)
      unfolding dirent_remove
      removes s k h =
          any-guard (ltb 0 (rec_at s i).blocks) 19 (λ _.
          ok-bind (any (slot_bytes s.arena (rec_at s i) ((rec_at s i).blocks - 1))) λ l _.
          ok-bind {P = λ (u : Fs). Upheld p (By own) u.arena u.table} (any-pick (eqb k ((rec_at s i).blocks - 1)) (done s) (put_slot s i k l) (λ _. went h) (λ _. slot (By own) s i k l h)) λ u g.
          ok-bind (upheld-cut (rec_at u i).file _ g) λ a m. went (upheld-set i _ refl refl refl (inl o) m))

      removes-node : (s : Fs) (c k : ℕ) → Upheld p (By own) s.arena s.table → Leaves (Upheld p (By own)) (dirent_node_remove s i c k)
      unfolding dirent_node_remove
      removes-node s c k h =
          ok-bind (removes s k h) λ u g.
          ok-bind (dec u c g) λ v l.
          ok-bind {P = λ (w : Fs). Upheld p (By own) w.arena w.table} (any-pick (is_folder (rec_at v c).kind) (unlink_folder v i c) (done v) (λ _. unlinks v i c l) (λ _. went l)) λ w m.
          upheld-release w c m

      replaces : (s : Fs) (r : Replaced) → Upheld p (By own) s.arena s.table → Leaves (Upheld p (By own)) (remove_replaced s i r)
      replaces s none h = went h
      replaces s (node d k) h = removes-node s d k h

  -- ---- rows are stored, and let off no more

  -- the last of the rows that are let off
  settles : (s : Fs) (i : ℕ) → Upheld p (λ k d. (k ≡ i) ⊎ (d ≡ false)) s.arena s.table → Leaves (Upheld p Clean) (sync_row s i)
  settles s i h = upheld-sync s i (λ j d n x. ⊎_elim (λ e. absurd (n e)) (λ e. e) x) refl h

  pub settles-sole : (s : Fs) (i : ℕ) → Upheld p (By (Sole i)) s.arena s.table → Leaves (Upheld p Clean) (sync_row s i)
  settles-sole s i h = settles s i (upheld-more (λ k x. inl x) h)

  -- ---- the calls' steps

  pub link-upheld : (s : Fs) (i : ℕ) (name : List ℕ) (c : ℕ) → Upheld p (By Nobody) s.arena s.table → LeavesAfter (Upheld p Clean) (link_steps s i name c)
  unfolding link_steps
  link-upheld s i name c h =
      ok-bind (appends (Sole i) i refl s _ (upheld-more (λ k x. absurd x) h)) λ s h.
      ok-bind (inc (Sole i) s c h) λ s h.
      ok-bind (upheld-sync {Y = λ k d. (k ≡ i) ⊎ (d ≡ false)} s c (λ k d n x. inl x) (inr refl) h) λ s h.
      ok-bind (settles s i h) λ s h. went h

  pub remove-upheld : (s : Fs) (i c k : ℕ) → Upheld p (By Nobody) s.arena s.table → LeavesAfter (Upheld p Clean) (remove_steps s i c k)
  unfolding remove_steps
  remove-upheld s i c k h = ok-bind (removes-node (Sole i) i refl s c k (upheld-more (λ k x. absurd x) h)) λ s h. ok-bind (settles-sole s i h) λ s h. went h

  -- clean rows alone are let off, and more rows are stored
  pub upheld-stores : Stores (Upheld p Clean)
  upheld-stores a b t i l P h = upheld-store i (omega (arith, l, h.rows)) (λ j d n x. x) refl P h

  module _ (own : ℕ → Type 0) where
    pub resize-upheld : (s : Fs) (i n : ℕ) → Upheld p (By own) s.arena s.table → Leaves (Upheld p (By own)) (resize_steps s i n)
    unfolding resize_steps
    resize-upheld s i n h = ok-bind (upheld-cut (rec_at s i).file n h) λ a g. went (upheld-set i _ refl refl refl (inr refl) g)

    pub write-upheld : (s : Fs) (i place : ℕ) (bytes : List ℕ) → Upheld p (By own) s.arena s.table → Leaves (Upheld p (By own)) (write_steps s i place bytes)
    unfolding write_steps
    write-upheld s i place bytes h =
        ok-bind (upheld-fill (rec_at s i).file place bytes h) λ a g.
        any-pick (ltb (rec_at s i).size (place + length bytes)) (resize_steps (with_arena s a) i (place + length bytes)) (done (with_arena s a))
        (λ _. resize-upheld (with_arena s a) i (place + length bytes) g) (λ _. went g)

    pub mode-upheld : (mode : FallocateMode) (s : Fs) (i from len : ℕ) → Upheld p (By own) s.arena s.table → Leaves (Upheld p (By own)) (mode_steps mode s i from len)
    mode-upheld mode s i =
        goes-mode Any tt tt (Upheld p (By own)) i (λ s pos src h. upheld-fill (rec_at s i).file pos src h) (λ s n h. resize-upheld s i n h) tt mode s

  -- ---- a move

  within : (s : Fs) (i : ℕ) (old : Slot) (name : List ℕ) (r : Replaced) → Upheld p (By Nobody) s.arena s.table → LeavesAfter (Upheld p Clean) (move_within s i old name r)
  unfolding move_within
  within s i old name r h =
      ok-bind (slot (By (Sole i)) s i _ _ (upheld-more (λ k x. absurd x) h)) λ s h.
      ok-bind (replaces (Sole i) i refl s r h) λ s h.
      ok-bind (settles-sole s i h) λ s h. went h

  -- its two folders are rows i and j
  module _ (i j : ℕ) where
    between : (s : Fs) (old : Slot) (name : List ℕ) (r : Replaced) → Upheld p (By Nobody) s.arena s.table → LeavesAfter (Upheld p Clean) (move_between s i j old name r)
    unfolding move_between
    between s old name r h =
        ok-bind (appends (Either i j) j (inr refl) s _ (upheld-more (λ k x. absurd x) h)) λ s h.
        ok-bind (removes (Either i j) i (inl refl) s _ h) λ s h.
        ok-bind (replaces (Either i j) j (inr refl) s r h) λ s h.
        ok-bind (upheld-node s _ h) λ o h.
        ok-bind (links (Either i j) o.state i j o.row h) λ s h.
        ok-bind (parent (By (Either i j)) s j o.row h) λ s h.
        ok-bind (upheld-sync {Y = λ k d. (k ≡ j) ⊎ (d ≡ false)} s i (λ k d n x. ⊎_elim (λ e. absurd (n e)) (λ e. inl e) x) (inr refl) h) λ s h.
        ok-bind (settles s j h) λ s h.
        ok-bind (upheld-release s o.row h) λ s h. went h

    steps : (s : Fs) (old name : List ℕ) (r : Replaced) → Upheld p (By Nobody) s.arena s.table → LeavesAfter (Upheld p Clean) (move_steps s i j old name r)
    unfolding move_steps
    steps s old name r h =
        ok-bind (any (find_slot s.arena (rec_at s i) old)) λ e _.
        any-pick (eqb (id_at s i) (id_at s j)) (move_within s i e name r) (move_between s i j e name r) (λ _. within s i e name r h) (λ _. between s e name r h)

    onto : (s : Fs) (old name : List ℕ) (c d k : ℕ) → Upheld p (By Nobody) s.arena s.table → LeavesAfter (Upheld p Clean) (move_onto s i j old name c d k)
    unfolding move_onto
    onto s old name c d k h =
        ok-bind (judges (By Nobody) (move_verdict_of (rec_at s c).kind (rec_at s d).kind) s d h) λ s h.
        ok-bind (any (not_below s i j c)) λ _ _.
        ok-bind (upheld-release s c h) λ s h. steps s old name (node d k) h

    replacing : (s : Fs) (old name : List ℕ) (k : ℕ) → Upheld p (By Nobody) s.arena s.table → LeavesAfter (Upheld p Clean) (replace s i j old name k)
    unfolding replace
    replacing s old name k h =
        ok-bind (any (slot_at s.arena (rec_at s j) k)) λ new _.
        ok-bind (any (find_slot s.arena (rec_at s i) old)) λ was _.
        ok-bind (upheld-node s new.id h) λ d g.
        ok-bind (upheld-node d.state was.entry.id g) λ c l.
        ok-bind (any (known (rec_at c.state c.row))) λ _ _.
        ok-bind (any (known (rec_at c.state d.row))) λ _ _.
        any-pick (eqb was.entry.id new.id) (done (after s)) (move_onto c.state i j old name c.row d.row k)
        (λ _. went (upheld-more (λ k x. absurd x) h)) (λ _. onto c.state old name c.row d.row k l)

    pub move-upheld : (s : Fs) (old name : List ℕ) (f : Option ℕ) → Upheld p (By Nobody) s.arena s.table → LeavesAfter (Upheld p Clean) (move_to s i j old name f)
    unfolding move_free
    move-upheld s old name (Some k) h = replacing s old name k h
    move-upheld s old name None h =
        any-pick (eqb (id_at s i) (id_at s j)) (move_steps s i j old name none) _ (λ _. steps s old name none h) λ _.
        ok-bind (any (find_slot s.arena (rec_at s i) old)) λ was _.
        ok-bind (upheld-node s was.entry.id h) λ c g.
        ok-bind (any (type_in_range (rec_at c.state c.row))) λ _ _.
        ok-bind (any (not_below c.state i j c.row)) λ _ _. steps c.state old name none g

  -- ---- a create

  pub create-upheld : (a : List ℕ) (t : Table) (m : Meta) → ((b : List ℕ) → Cut a meta_file (131072 * (m.super.groups + 1)) b → RecordsStay a b)
      → (w i : ℕ) (name : List ℕ) (kind mode : ℕ) (time : Timespec) (uuid : List ℕ) → Named (file 1 uuid) → Upheld p (By Nobody) a t
      → Ok (λ (x : Given). Upheld p Clean x.arena x.table) Any (create_steps (knowing a t m) w i name kind mode time uuid)
  unfolding create_steps
  create-upheld a t m grows w i name kind mode time uuid N h =
      ok-bind (upheld-new a t m grows kind mode time uuid N h) λ x h.
      ok-bind (bears (Either i x.row) x.row (inr refl) x.state i kind (upheld-more (λ k y. ⊎_elim (λ z. absurd z) (λ e. inr e) y) h)) λ s h.
      ok-bind (appends (Either i x.row) i (inl refl) s _ h) λ s h.
      ok-bind (names (Either i x.row) s i x.row kind h) λ s h.
      ok-bind (upheld-meta s h) λ s h.
      ok-bind (upheld-sync {Y = λ k d. (k ≡ i) ⊎ (d ≡ false)} s x.row (λ k d n y. ⊎_elim (λ e. inl e) (λ e. absurd (n e)) y) (inr refl) h) λ s h.
      ok-bind (settles s i h) λ s h. went (upheld-rows s.table (add_hold s.table w x.row).table (add-rows s.table w x.row) h)
