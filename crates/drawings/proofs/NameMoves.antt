-- What a move leaves of a folder's later slot: it stands in some later place of the folder's file, unless it moves or is replaced. And a slot that
-- moves stands, with its id, in the target.
use mathlib.Core.Path.{◌≡◌, refl, sym, ap, ◌∙◌, subst}
use mathlib.Core.Bool.{true, false, not}
use mathlib.Core.List.{List}
use mathlib.Core.Logic.{◌≢◌, ◌⊎◌, inl, inr, ⊎_elim}
use Prim.Native.Nat.{ℕ, ◌+◌, ◌-◌, ◌≤◌, ◌<◌}
use native.Mathlib.Omega.{arith}
use lib.Dec.{eqb}
use lib.ListN.{length, get_or-eq_default}
use borrow.Author.Tests.{not-true, eqb-true, eqb-false}
use Rattle.base.specs.Out.{done, bind, Ok, went}
use Rattle.base.proofs.Outs.{ok-bind, ok-weaken}
use Rattle.base.proofs.Finds.{eq-cases}
use Rattle.base.proofs.Numbers.{lt-or-le}
use Rattle.base.specs.Search.{pick}
use Rattle.std.specs.Prelude.{Option}
use Rattle.le.specs.Le.{Bytes}
use Rattle.structs.specs.Constants.{type_dir}
use Rattle.structs.specs.Fits.{EntryFits}
use Rattle.structs.specs.Layout.{entry_of, entry_bytes}
use Rattle.structs.proofs.Layouts.{entry_of-entry_bytes}
use Rattle.structs.specs.Types.{is_folder}
use Rattle.structs.specs.declared.DiskINode.{DiskINode}
use Rattle.structs.specs.declared.DiskEntry.{DiskEntry}
use Rattle.utf8.specs.Names.{name_of, is_named, is_special, name_verdict, new_reason}
use Rattle.arena.specs.Fields.{File, file}
use Rattle.files_laws.proofs.Parts.{file-cases}
use Rattle.table.specs.declared.Table.{Table}
use Rattle.table.specs.declared.Row.{Row}
use Rattle.table.specs.declared.Handle.{Handle}
use Rattle.table.specs.Table.{off_row, row_at}
use Rattle.table_laws.specs.Rules.{Live}
use Rattle.table_laws.proofs.Rows.{row_here, row_apart}
use Rattle.table_laws.specs.Rules as rows
use Rattle.sefs.specs.State.{Fs, with_arena}
use Rattle.sefs.specs.Records.{with_blocks}
use Rattle.sefs.specs.Nodes.{Opened, rec_at, id_at, set_rec, get_node, sync_row, release}
use Rattle.sefs.specs.Slots.{Slot, slot_at, find_slot}
use Rattle.sefs.specs.Folders.{dots_entry, put_slot, dirent_remove}
use Rattle.sefs.specs.Ask.{admit, good_name, known, type_in_range, not_long, start}
use Rattle.sefs.specs.Create.{after}
use Rattle.sefs.specs.Move.{Replaced, none, node, remove_replaced, renamed, move_within, move_links, move_parent, move_between, move_steps, not_below, move_onto, replace, move_free, move_to, call_move}
use Rattle.rules.specs.Image.{is_node, rec_of, is_folder_at, slot_in}
use Rattle.rules.specs.Image as image
use Rattle.rules.specs.Rules.{Allowed}
use Rattle.rules.proofs.Files.{node-below}
use Rattle.tree.specs.Tree as tree
use Rattle.sefs_laws.proofs.Says.{ensure-asks}
use Rattle.sefs_laws.proofs.Rows.{Any, any, any-pick, ok-and, Leaves, LeavesAfter, leaves-node, leaves-sync, leaves-release, leaves-moved}
use Rattle.image.specs.Midway.{Used, plain}
use Rattle.image.proofs.Handles.{formed, row-rec, row-node, row-folder}
use Rattle.image.proofs.Images.{fair}
use Rattle.image.proofs.Slots.{slot_is}
use Rattle.image.proofs.Lookups.{Hit}
use Rattle.image.proofs.Hits.{row-hit}
use Rattle.image.proofs.NewNames.{good-name, entry-fits}
use Rattle.image.proofs.Takes.{Gets, Got, get-law, get-more}
use Rattle.image.proofs.Drops.{mid-rec}
use Rattle.image.proofs.Movings.{named-links, live-named}
use Rattle.image.proofs.MoveAsks.{judge-law, ends-law}
use Rattle.sequences.specs.Pairs.{Pair, Passed}
use Rattle.drawings.specs.Rests.{Named}
use Rattle.sequences.proofs.Passing.{allowed, spelled-any, spelled-midway}
use Rattle.sequences.proofs.Asks.{live-folder}
use Rattle.sequences.proofs.MoveSteps.{ok-own}
use Rattle.sequences.proofs.Moves.{Looked, here, new, look-law}
use Rattle.sequences.proofs.Tables.{handle-live}
use Rattle.sequences.proofs.Bytes.{live-row}
use Rattle.drawings.proofs.NameSlots.{Holds, holds-bears, puts, puts-new, appends, appends-new, Somewhere, takes, node-takes}
use Rattle.drawings.proofs.NameCalls.{Remains, Filled, bytes_of, entry_length, short-asks, holds-start, remains, same_row, same-rec, in_row, hit_later, hit-node, hit-name, this-name, this-id, not-empty}

-- ---- the slot that goes with a replaced node, where there is one: it is one of the folder's n, and not slot k

abbrev Past : Replaced → ℕ → ℕ → Type 0
Past none n k = Unit
Past (node c m) n k = (m ≢ k) × (k < n) × (m < n)

abbrev LaterOne : Replaced → Type 0
LaterOne none = Unit
LaterOne (node c m) = 2 ≤ m

module _ (p : Pair) (y : Passed p) (f l : List ℕ) where
  replaces : (s : Fs) (j : ℕ) (r : Replaced) (k : ℕ) → 2 ≤ k → LaterOne r → ((rec_at s j).file ≡ f → Past r (rec_at s j).blocks k) → Holds p f k l s.arena s.table → Leaves (Somewhere p f l) (remove_replaced s j r)
  replaces s j none k lk lr past h = went (record { place = k; later = lk; holds = h })
  replaces s j (node c m) k lk lr past h = node-takes p y f l s j m k lk lr past h c

  -- once the slot of a move within a folder is put
  within-ends : (s : Fs) (i : ℕ) (r : Replaced) (k : ℕ) → 2 ≤ k → LaterOne r → ((rec_at s i).file ≡ f → Past r (rec_at s i).blocks k) → Holds p f k l s.arena s.table
      → LeavesAfter (Somewhere p f l) (bind (remove_replaced s i r) (λ s. bind (sync_row s i) (λ s. done (after s))))
  within-ends s i r k lk lr past h =
      ok-bind (replaces s i r k lk lr past h) λ s S.
      ok-bind (leaves-sync (Holds p f S.place l) (holds-bears p y f S.place l).stores s i S.holds) λ s h. went (record { place = S.place; later = S.later; holds = h })

  -- slot 1 of a folder that moves
  parent : (k : ℕ) → 2 ≤ k → (j : ℕ) (s : Fs) (c : ℕ) → Holds p f k l s.arena s.table → Leaves (Holds p f k l) (move_parent s j c)
  unfolding move_parent
  parent k lk j s c h =
      any-pick (is_folder (rec_at s c).kind) (put_slot s c 1 (entry_bytes (dots_entry (id_at s j)))) (done s)
      (λ _. ok-weaken (λ x g. g.0) (λ r q. q) (puts p y f k l s c 1 (entry_bytes (dots_entry (id_at s j))) (entry_length (id_at s j) _ type_dir (omega arith)) (λ _ z. omega arith) h)) (λ _. went h)

  -- once the target has the slot of a move between two folders
  between_ends : (s : Fs) (i j : ℕ) (e : Slot) (r : Replaced) (k : ℕ) → 2 ≤ k → 2 ≤ e.place → j ≢ i → LaterOne r
      → ((rec_at s i).file ≡ f → (e.place ≢ k) × (k < (rec_at s i).blocks) × (e.place < (rec_at s i).blocks))
      → ((rec_at s j).file ≡ f → ((rec_at s i).file ≢ f) × Past r (rec_at s j).blocks k)
      → Holds p f k l s.arena s.table
      → LeavesAfter (Somewhere p f l) (bind (dirent_remove s i e.place) (λ s. bind (remove_replaced s j r) (λ s. bind (get_node s e.entry.id) (λ o. bind (move_links o.state i j o.row) (λ s.
      bind (move_parent s j o.row) (λ s. bind (sync_row s i) (λ s. bind (sync_row s j) (λ s. bind (release s o.row) (λ s. done (after s))))))))))
  between_ends s i j e r k lk le apart lr goes past h =
      ok-bind (takes p y f l s i e.place k lk le goes h) λ x T.
      let row : row_at x.table j ≡ row_at s.table j = ap (λ (z : Fs). row_at z.table j) T.is ∙ row_apart s.table i (record { id = id_at s i; dirty = true; rec = with_blocks (rec_at s i) ((rec_at s i).blocks - 1) }) j apart in
      ok-bind (replaces x j r T.some.place T.some.later lr
      (λ q.
      let z = past (ap (λ (w : Row). w.rec.file) (sym row) ∙ q) in
      subst (λ (w : Row). Past r w.rec.blocks T.some.place) (sym row) (subst (Past r (rec_at s j).blocks) (sym (T.fixed z.0)) z.1))
      T.some.holds) λ x S.
      ok-weaken (λ x h. record { place = S.place; later = S.later; holds = h }) (λ r q. q)
      (leaves-moved (Holds p f S.place l) (holds-bears p y f S.place l) i j (parent S.place S.later j) x e.entry.id S.holds)

-- ---- of slot k of folder d, which has the name `own` for node n

-- a slot with that id stands in folder g
pub record Rehomed (p : Pair) (g x : ℕ) (b : List ℕ) (u : Table) : Type 0 where
  pub folder : is_folder_at p.arena p.table g ≡ true
  pub bytes : List ℕ
  pub id : (entry_of bytes).id ≡ x
  pub home : Remains p g bytes b u

module _ (p : Pair) (y : Passed p) {d n : ℕ} {own : List ℕ} (N : Named d own n p) where
  abbrev a : List ℕ
  a = p.arena

  abbrev t : Table
  t = p.table

  abbrev k : ℕ
  k = N.slot

  abbrev f : List ℕ
  f = (rec_of p.arena p.table d).file

  abbrev l : List ℕ
  l = bytes_of p d N.slot

  abbrev H : List ℕ → Table → Type 0
  H b u = Holds p f k l b u

  A : Allowed p.arena p.table
  A = allowed p y

  -- it is neither the slot that moves nor the one that is replaced; or it names a folder that has names
  abbrev Spared : ℕ → ℕ → List ℕ → List ℕ → Type 0
  Spared i j old name = (((row_at t i).id ≡ d → own ≡ old → ⊥) × ((row_at t j).id ≡ d → own ≡ name → ⊥)) ⊎ Filled p n

  -- then it stands in its folder; or it is the one that moves
  abbrev Fate : (i j : ℕ) (old name : List ℕ) → Spared i j old name → List ℕ → Table → Type 0
  Fate i j old name (inl free) b u = Remains p d l b u
  Fate i j old name (inr full) b u = Remains p d l b u ⊎ Rehomed p (row_at t j).id n b u

  module _ (i j : ℕ) (ui : Used p.table i) (uj : Used p.table j) (from : is_folder (row_at p.table i).rec.kind ≡ true) (to : is_folder (row_at p.table j).rec.kind ≡ true)
      (old name : List ℕ) (plain-old : is_special old ≡ false) (short : length name ≤ 255) (nb : Bytes name) (spared : Spared i j old name) where
    abbrev Q : List ℕ → Table → Type 0
    Q b u = Fate i j old name spared b u

    module _ (e : Slot) (hit : Hit p.arena (row_at p.table i).rec old e) where
      place-later : 2 ≤ e.place
      place-later = hit_later p y i ui from old plain-old e hit

      node-e : is_node p.arena e.entry.id ≡ true
      node-e = hit-node p y i ui from old plain-old e hit

      -- the slot as it will be
      abbrev bytes : List ℕ
      bytes = entry_bytes (renamed e.entry name)

      long : length bytes ≡ 264
      long = entry_length e.entry.id name e.entry.kind short

      rec-i : rec_of p.arena p.table (row_at p.table i).id ≡ (row_at p.table i).rec
      rec-i = row-rec a t A i ui

      rec-j : rec_of p.arena p.table (row_at p.table j).id ≡ (row_at p.table j).rec
      rec-j = row-rec a t A j uj

      kind-most : e.entry.kind ≤ 4
      kind-most =
          let L = (A.rule6.folder (row_at t i).id (row-folder a t A i ui from)).later e.place place-later (subst (λ (r : DiskINode). e.place < r.blocks) (sym rec-i) hit.inside) in
          let q : slot_in a (rec_of a t (row_at t i).id) e.place ≡ e.entry = ap (λ (r : DiskINode). slot_in a r e.place) rec-i ∙ sym hit.is in
          omega (arith, L.kind, ap (λ (x : DiskEntry). x.kind) q, A.rule5.most (slot_in a (rec_of a t (row_at t i).id) e.place).id L.node)

      fits : EntryFits (renamed e.entry name)
      fits = entry-fits e.entry.id name e.entry.kind (omega (arith, node-below a e.entry.id node-e, A.rule3.few)) kind-most short nb

      -- the slot that is replaced has the new name, and names another node, which is no folder with names
      record Over (m : ℕ) : Type 0 where
        late : 2 ≤ m
        below : m < (row_at p.table j).rec.blocks
        named : name_of (slot_in p.arena (row_at p.table j).rec m).name ≡ name
        other : (slot_in p.arena (row_at p.table j).rec m).id ≢ e.entry.id
        empty : Filled p (slot_in p.arena (row_at p.table j).rec m).id → ⊥

      abbrev Onto : Replaced → Type 0
      Onto none = Unit
      Onto (node c m) = Over m

      later-one : (r : Replaced) → Onto r → LaterOne r
      later-one none o = tt
      later-one (node c m) o = o.late

      -- slot k is not the one that is replaced
      past : (r : Replaced) → Onto r → (n : ℕ) → (row_at p.table j).rec.blocks ≤ n → (row_at p.table j).rec.file ≡ f → Past r n k
      past none o n b q = tt
      past (node c m) o n b q =
          let z : k < (row_at t j).rec.blocks = in_row p y N j uj q in
          let w : m ≡ k → slot_in a (rec_of a t d) k ≡ slot_in a (row_at t j).rec m = λ s. ap (λ (r : DiskINode). slot_in a r k) (same-rec p y N j uj q) ∙ ap (slot_in a (row_at t j).rec) (sym s) in (
            λ s. ⊎_elim
                (λ (free : ((row_at t i).id ≡ d → own ≡ old → ⊥) × ((row_at t j).id ≡ d → own ≡ name → ⊥)).
                free.1 (same_row p y N j uj q) (sym N.is ∙ ap (λ (x : DiskEntry). name_of x.name) (w s) ∙ o.named))
                (λ F. o.empty (subst (Filled p) (sym N.at.names ∙ ap (λ (x : DiskEntry). x.id) (w s)) F))
                spared,
            omega arith,
            omega (arith, o.below),
          )

      stays : (b : List ℕ) (u : Table) → Somewhere p f l b u → Q b u
      stays b u S = go spared
        where
          go : (s : Spared i j old name) → Fate i j old name s b u
          go (inl free) = S
          go (inr full) = inl S

      -- the file of the target
      abbrev g : List ℕ
      g = (rec_of p.arena p.table (row_at p.table j).id).file

      file-j : (row_at p.table j).rec.file ≡ g
      file-j = ap (λ (r : DiskINode). r.file) (sym rec-j)

      -- slot k is the one that moves
      moves : (row_at p.table i).rec.file ≡ f → e.place ≡ k → (b : List ℕ) (u : Table) → Somewhere p g bytes b u → Q b u
      moves q z b u S = go spared
        where
          go : (s : Spared i j old name) → Fate i j old name s b u
          go (inl free) = absurd (free.0 (same_row p y N i ui q) (this-name p y N i ui from old plain-old e hit q z))
          go (inr full) = inr (record {
            folder = row-folder a t A j uj to;
            bytes = bytes;
            id = ap (λ (x : DiskEntry). x.id) (entry_of-entry_bytes (renamed e.entry name) fits) ∙ sym (this-id p y N i ui from old plain-old e hit q z);
            home = S;
          })

      -- either
      splits : (m : Type 0) → ((row_at p.table i).rec.file ≡ f → e.place ≡ k → m) → (((row_at p.table i).rec.file ≡ f → e.place ≢ k) → m) → m
      splits m this other =
          ⊎_elim
          (λ (q : file 1 (row_at t i).rec.file ≡ file 1 f). ⊎_elim (λ z. this (ap (λ (x : File). x.name) q) z) (λ n. other (λ _. n)) (eq-cases e.place k))
          (λ n. other (λ q. absurd (n (ap (file 1) q))))
          (file-cases (file 1 (row_at t i).rec.file) (file 1 f))

      -- ---- the steps, from a table with the same two rows

      module _ (v : Table) (row-i : row_at v i ≡ row_at p.table i) (row-j : row_at v j ≡ row_at p.table j) (h : Holds p f k l p.arena v) (r : Replaced) (o : Onto r) where
        within : i ≡ j → LeavesAfter Q (move_within (start p.arena v) i e name r)
        unfolding move_within
        within same = splits (LeavesAfter Q (move_within (start a v) i e name r))
            (λ q z.
            ok-bind (puts-new p y g (start a v) i (ap (λ (x : Row). x.rec.file) row-i ∙ ap (λ (m : ℕ). (row_at t m).rec.file) same ∙ file-j) h.0 e.place bytes long) λ x w.
            ok-weaken (λ x S. moves q z x.arena x.table S) (λ n r. r)
            (within-ends p y g bytes x i r e.place place-later (later-one r o)
            (λ _. subst (λ (m : DiskINode). Past r m.blocks e.place) (sym (ap (λ (y : Fs). rec_at y i) w.1.1 ∙ ap (λ (x : Row). x.rec) row-i)) (apart r o)) w.0))
            (λ n.
            ok-bind (puts p y f k l (start a v) i e.place bytes long (λ q. n (ap (λ (x : Row). x.rec.file) (sym row-i) ∙ q)) h) λ x w.
            let rec : rec_at x i ≡ (row_at t j).rec = ap (λ (y : Fs). rec_at y i) w.1.1 ∙ ap (λ (x : Row). x.rec) row-i ∙ ap (λ (m : ℕ). (row_at t m).rec) same in
            ok-weaken (λ x S. stays x.arena x.table S) (λ n r. r)
            (within-ends p y f l x i r k N.at.later (later-one r o)
            (λ q. subst (λ (m : DiskINode). Past r m.blocks k) (sym rec) (past r o (row_at t j).rec.blocks (omega arith) (ap (λ (m : DiskINode). m.file) (sym rec) ∙ q))) w.0))
          where
            -- the slot that moves is not the one that is replaced
            apart : (r : Replaced) → Onto r → Past r (row_at p.table i).rec.blocks e.place
            apart none o = tt
            apart (node c m) o = (
              λ s. o.other (ap (λ (x : ℕ). (slot_in a (row_at t x).rec m).id) (sym same) ∙ ap (λ (x : ℕ). (slot_in a (row_at t i).rec x).id) s ∙ ap (λ (x : DiskEntry). x.id) (sym hit.is)),
              hit.inside,
              subst (λ (x : ℕ). m < (row_at t x).rec.blocks) (sym same) o.below,
            )

        between : (row_at p.table i).id ≢ (row_at p.table j).id → LeavesAfter Q (move_between (start p.arena v) i j e name r)
        unfolding move_between
        between ids = splits (LeavesAfter Q (move_between (start a v) i j e name r))
            (λ q z.
            ok-bind (appends-new p y g (start a v) j (ap (λ (x : Row). x.rec.file) row-j ∙ file-j) h.0 (renamed e.entry name) long) λ x w.
            let E = after-append x w.1.0 w.1.1 in
            ok-weaken (λ x S. moves q z x.arena x.table S) (λ n r. r)
            (between_ends p y g bytes x i j e r (row_at v j).rec.blocks (subst (λ (m : Row). 2 ≤ m.rec.blocks) (sym row-j) two) place-later (λ s. ids (ap (λ (m : ℕ). (row_at t m).id) (sym s))) (later-one r o)
            (λ s. absurd (files (ap (λ (m : DiskINode). m.file) (sym E.0) ∙ s ∙ sym file-j)))
            (λ s. (λ n. files (ap (λ (m : DiskINode). m.file) (sym E.0) ∙ n ∙ sym file-j), subst (λ (m : ℕ). Past r m (row_at v j).rec.blocks) (sym (E.1 ∙ ap (λ (m : Row). m.rec.blocks + 1) (sym row-j))) (apart r o))) w.0))
            (λ n.
            ok-bind (appends p y f k l (start a v) j (renamed e.entry name) long
            (λ q s. let m = in_row p y N j uj (ap (λ (x : Row). x.rec.file) (sym row-j) ∙ q) in omega (arith, m, s, ap (λ (x : Row). x.rec.blocks) row-j)) h) λ x w.
            let E = after-append x w.1.0 w.1.1 in
            ok-weaken (λ x S. stays x.arena x.table S) (λ n r. r)
            (between_ends p y f l x i j e r k N.at.later place-later (λ s. ids (ap (λ (m : ℕ). (row_at t m).id) (sym s))) (later-one r o)
            (λ s.
            let q : (row_at t i).rec.file ≡ f = ap (λ (m : DiskINode). m.file) (sym E.0) ∙ s in
            subst (λ (m : DiskINode). (e.place ≢ k) × (k < m.blocks) × (e.place < m.blocks)) (sym E.0) (n q, in_row p y N i ui q, hit.inside))
            (λ s.
            let q : (row_at t j).rec.file ≡ f = sym E.2 ∙ s in
            (λ m. files (ap (λ (x : DiskINode). x.file) (sym E.0) ∙ m ∙ sym q), subst (λ (m : ℕ). Past r m k) (sym E.1) (past r o ((row_at t j).rec.blocks + 1) (omega arith) q))) w.0))
          where
            rows_apart : i ≢ j
            rows_apart s = ids (ap (λ (m : ℕ). (row_at t m).id) s)

            -- the two folders have two files
            files : (row_at p.table i).rec.file ≢ (row_at p.table j).rec.file
            files q = ids (A.rule5.distinct (row_at t i).id (row_at t j).id (row-node a t A i ui) (row-node a t A j uj) (ap (λ (m : DiskINode). m.file) rec-i ∙ q ∙ file-j))

            two : 2 ≤ (row_at p.table j).rec.blocks
            two = subst (λ (m : DiskINode). 2 ≤ m.blocks) rec-j (A.rule6.folder (row_at t j).id (row-folder a t A j uj to)).blocks

            -- the new slot is not the one that is replaced
            apart : (r : Replaced) → Onto r → Past r ((row_at v j).rec.blocks + 1) (row_at v j).rec.blocks
            apart none o = tt
            apart (node c m) o = let b : (row_at v j).rec.blocks ≡ (row_at t j).rec.blocks = ap (λ (x : Row). x.rec.blocks) row-j in (λ s. omega (arith, o.below, b), omega arith, omega (arith, o.below, b))

            -- a row in use is there
            is_row : j < length v.rows
            is_row = ⊎_elim (λ m. m) (λ m. absurd (uj.node (ap (λ (x : Row). x.id) (sym row-j ∙ get_or-eq_default v.rows off_row m)))) (lt-or-le j (length v.rows))

            -- the source's row stays, the target's has a slot more
            after-append : (x : Fs) (b : List ℕ) → x ≡ set_rec (with_arena (start p.arena v) b) j (with_blocks (row_at v j).rec ((row_at v j).rec.blocks + 1))
                → (rec_at x i ≡ (row_at p.table i).rec) × ((rec_at x j).blocks ≡ (row_at p.table j).rec.blocks + 1) × ((rec_at x j).file ≡ (row_at p.table j).rec.file)
            after-append x b q =
                let n : Row = record { id = (row_at v j).id; dirty = true; rec = with_blocks (row_at v j).rec ((row_at v j).rec.blocks + 1) } in
                let own : rec_at x j ≡ with_blocks (row_at v j).rec ((row_at v j).rec.blocks + 1) = ap (λ (z : Fs). rec_at z j) q ∙ ap (λ (z : Row). z.rec) (row_here v j n is_row) in (
                  ap (λ (z : Fs). rec_at z i) q ∙ ap (λ (z : Row). z.rec) (row_apart v j n i rows_apart ∙ row-i),
                  ap (λ (z : DiskINode). z.blocks) own ∙ ap (λ (z : Row). z.rec.blocks + 1) row-j,
                  ap (λ (z : DiskINode). z.file) own ∙ ap (λ (z : Row). z.rec.file) row-j,
                )

    -- ---- before the steps the arena is as it was, and so are the two rows

    hits : Ok (λ (e : Slot). Hit p.arena (row_at p.table i).rec old e × (find_slot p.arena (row_at p.table i).rec old ≡ done e)) Any (find_slot p.arena (row_at p.table i).rec old)
    hits = ok-own (ok-weaken (λ e h. h) (λ n r. tt) (row-hit a t A y.typed.bytes i ui from old))

    module _ (e : Slot) (hit : Hit p.arena (row_at p.table i).rec old e) (v : Table) (row-i : row_at v i ≡ row_at p.table i) (row-j : row_at v j ≡ row_at p.table j) (h : Holds p f k l p.arena v) (r : Replaced) (o : Onto e hit r) where
      chosen : LeavesAfter Q (pick (eqb (row_at v i).id (row_at v j).id) (move_within (start p.arena v) i e name r) (move_between (start p.arena v) i j e name r))
      chosen =
          let same : (row_at t i).id ≡ (row_at t j).id → (row_at v i).id ≡ (row_at v j).id = λ q. ap (λ (x : Row). x.id) row-i ∙ q ∙ ap (λ (x : Row). x.id) (sym row-j) in
          any-pick (eqb (row_at v i).id (row_at v j).id) (move_within (start a v) i e name r) (move_between (start a v) i j e name r)
          (λ q. within e hit v row-i row-j h r o ((formed a t A).one-row i j ui.below uj.below ui.node (ap (λ (x : Row). x.id) (sym row-i) ∙ eqb-true (row_at v i).id (row_at v j).id q ∙ ap (λ (x : Row). x.id) row-j)))
          (λ q. between e hit v row-i row-j h r o (λ z. eqb-false (row_at v i).id (row_at v j).id q (same z)))

      steps : find_slot p.arena (row_at p.table i).rec old ≡ done e → LeavesAfter Q (move_steps (start p.arena v) i j old name r)
      unfolding move_steps
      steps found = rw (ap (λ (x : Row). find_slot a x.rec old) row-i ∙ found) chosen

    -- the new name is not there
    free-moves : LeavesAfter Q (move_free (start p.arena p.table) i j old name)
    unfolding move_free move_steps
    free-moves =
        any-pick (eqb (row_at t i).id (row_at t j).id) _ _
        (λ _. ok-bind hits λ e h. chosen e h.0 t refl refl start-h none tt)
        (λ _. ok-bind hits λ e h.
        ok-bind (ok-and (leaves-node H (holds-bears p y f k l).loads (start a t) e.entry.id start-h) (get-law {R = Any} a t (spelled-midway a t (spelled-any p y)) e.entry.id (node-e e h.0))) λ w g.
        subst (λ (z : Opened). H z.state.arena z.state.table → LeavesAfter Q (bind (type_in_range (rec_at z.state z.row)) (λ _. bind (not_below z.state i j z.row) (λ _. move_steps z.state i j old name none)))) (sym g.1.is)
        (λ m. ok-bind (any (type_in_range (row_at g.1.table g.1.row).rec)) λ _ _. ok-bind (any (not_below (start a g.1.table) i j g.1.row)) λ _ _. steps e h.0 g.1.table (g.1.rows i ui) (g.1.rows j uj) m none tt h.1) g.0)
      where
        start-h : Holds p f k l p.arena p.table
        start-h = holds-start p y N

    -- a node has it, and both are opened
    module _ (lives : (row_at p.table i).rec.nlinks ≢ 0) (plain-new : is_special name ≡ false) (m : ℕ) (below : m < (row_at p.table j).rec.blocks) (named : is_named (slot_in p.arena (row_at p.table j).rec m).name name ≡ true) where
      abbrev idd : ℕ
      idd = (slot_in p.arena (row_at p.table j).rec m).id

      abbrev there-is : Slot
      there-is = record { place = m; entry = slot_in p.arena (row_at p.table j).rec m }

      new-hit : Hit p.arena (row_at p.table j).rec name there-is
      new-hit = record { inside = below; is = refl; named = named }

      node-d : is_node p.arena idd ≡ true
      node-d = hit-node p y j uj to name plain-new there-is new-hit

      module _ (e : Slot) (hit : Hit p.arena (row_at p.table i).rec old e) (found : find_slot p.arena (row_at p.table i).rec old ≡ done e) (o : Opened) (D : Got tree.any p.arena p.table idd o)
          (w : Opened) (W : Gets (plain tree.any) (rows.also rows.none D.row) p.arena D.table e.entry.id w) where
        rec-d : (row_at W.table D.row).rec ≡ rec_of p.arena p.table idd
        rec-d = ap (λ (x : Row). x.rec) (W.rows D.row D.used) ∙ sym (mid-rec a D.table D.mid.formed D.row D.used) ∙ ap (rec_of a D.table) D.same ∙ D.recs idd node-d

        rec-c : (row_at W.table W.row).rec ≡ rec_of p.arena p.table e.entry.id
        rec-c =
            sym (mid-rec a W.table W.mid.formed W.row W.used) ∙ ap (rec_of a W.table) W.same
            ∙ W.recs e.entry.id (node-e e hit) ∙ D.recs e.entry.id (node-e e hit)

        -- the node that moves has links
        linked : (row_at W.table W.row).rec.nlinks ≢ 0
        linked z =
            let c : 1 ≤ image.named a t e.entry.id = subst (λ (x : DiskEntry). 1 ≤ image.named a t x.id) (sym hit.is)
            (live-named (start a t) (spelled-midway a t (spelled-any p y)) i (record { used = ui; folder = from; links = lives }) e.place (place-later e hit) hit.inside) in
            omega (arith, z, ap (λ (x : DiskINode). x.nlinks) rec-c, named-links a t (fair a t A) e.entry.id (node-e e hit) c)

        onto : e.entry.id ≢ idd → Holds p f k l p.arena W.table → LeavesAfter Q (move_onto (start p.arena W.table) i j old name W.row D.row m)
        unfolding move_onto
        onto other h =
            ok-bind (ok-weaken (λ x J. J) (λ n r. tt) (judge-law a t A y.typed.bytes W.table D.row idd rec-d node-d (row_at W.table W.row).rec.kind)) λ x J.
            subst (λ (z : Fs). LeavesAfter Q (bind (not_below z i j W.row) (λ _. bind (release z W.row) (λ s. move_steps s i j old name (node D.row m))))) (sym J.is)
            (ok-bind (any (not_below (start a W.table) i j W.row)) λ _ _.
            ok-bind (ok-and (leaves-release H (holds-bears p y f k l) (start a W.table) W.row h)
            (ends-law a t idd e.entry.id o D w W other linked)) λ x g.
            let E = g.1 in
            subst (λ (z : Fs). H z.arena z.table → LeavesAfter Q (move_steps z i j old name (node D.row m))) (sym E.is)
            (λ s. steps e hit E.table (E.rows i ui) (E.rows j uj) s (node D.row m) (record {
              late = hit_later p y j uj to name plain-new there-is new-hit;
              below = below;
              named = hit-name p y j uj to name plain-new there-is new-hit;
              other = λ q. other (sym q);
              empty = λ F. not-empty p y (row_at W.table D.row).rec idd F rec-d J.small;
            }) found) g.0)

      onto-moves : LeavesAfter Q (replace (start p.arena p.table) i j old name m)
      unfolding replace
      onto-moves =
          rw is-slot
          (ok-bind hits λ e h.
          ok-bind (ok-and (leaves-node H (holds-bears p y f k l).loads (start a t) idd (holds-start p y N)) (get-law {R = Any} a t (spelled-midway a t (spelled-any p y)) idd node-d)) λ o q.
          let D = q.1 in
          subst (λ (z : Opened). H z.state.arena z.state.table → LeavesAfter Q (bind (get_node z.state e.entry.id) (λ c. bind (known (rec_at c.state c.row)) (λ _. bind (known (rec_at c.state z.row))
          (λ _. pick (eqb e.entry.id idd) (done (after (start a t))) (move_onto c.state i j old name c.row z.row m)))))) (sym D.is)
          (λ s. ok-bind (ok-and (leaves-node H (holds-bears p y f k l).loads (start a D.table) e.entry.id s) (get-more {R = Any} a D.table D.mid D.row (λ m q. ⊎_elim (λ z. absurd z) (λ z. z) q) e.entry.id (node-e e h.0))) λ w x.
          let W = x.1 in
          subst (λ (z : Opened). H z.state.arena z.state.table → LeavesAfter Q (bind (known (rec_at z.state z.row)) (λ _. bind (known (rec_at z.state D.row))
          (λ _. pick (eqb e.entry.id idd) (done (after (start a t))) (move_onto z.state i j old name z.row D.row m))))) (sym W.is)
          (λ s. ok-bind (any (known (row_at W.table W.row).rec)) λ _ _. ok-bind (any (known (row_at W.table D.row).rec)) λ _ _.
          any-pick (eqb e.entry.id idd) (done (after (start a t))) (move_onto (start a W.table) i j old name W.row D.row m)
          (λ _. went (stays e h.0 a t (remains p y N a t (holds-start p y N))))
          (λ z. onto e h.0 h.1 o D w W (eqb-false e.entry.id idd z) s)) x.0) q.0)
        where
          is-slot : slot_at p.arena (row_at p.table j).rec m ≡ done (slot_in p.arena (row_at p.table j).rec m)
          is-slot = subst (λ (r : DiskINode). m < r.blocks → slot_at a r m ≡ done (slot_in a r m)) (row-rec a t A j uj) (slot_is a t A y.typed.bytes (row_at t j).id (row-folder a t A j uj to) m) below

    goes : (row_at p.table i).rec.nlinks ≢ 0 → is_special name ≡ false → (x : Option ℕ) → Looked p.arena (row_at p.table j).rec name x → LeavesAfter Q (move_to (start p.arena p.table) i j old name x)
    goes lives plain-new x (here m below named) = onto-moves lives plain-new m below named
    goes lives plain-new x (new _) = free-moves

  -- ---- the call

  module _ (w : ℕ) (g : Handle) (old : List ℕ) (target : Handle) (name : List ℕ) (nb : Bytes name) where
    call : (spared : (i j : ℕ) → Live p.table w g i → Live p.table w target j → Spared i j old name) (R : List ℕ → Table → Type 0)
        → ((i j : ℕ) (m : Live p.table w g i) (n : Live p.table w target j) (b : List ℕ) (u : Table) → Fate i j old name (spared i j m n) b u → R b u) → LeavesAfter R (call_move p.arena p.table w g old target name)
    unfolding call_move
    call spared R gives =
        ok-bind (any (admit a t)) λ _ _. ok-bind (handle-live t w g) λ i m. ok-bind (handle-live t w target) λ j n.
        ok-bind (any (good_name old)) λ _ _. ok-bind (ensure-asks {R = Any} (eqb (new_reason (name_verdict name)) 0) 5 tt) λ _ good.
        let ui = live-row p y w g i m in
        let uj = live-row p y w target j n in
        ok-bind (ok-weaken (λ _ q. q) (λ n r. tt) (live-folder a t A i ui)) λ _ from.
        ok-bind (ensure-asks {R = Any} (not (is_special old)) 9 tt) λ _ plain-old. ok-bind (ensure-asks {R = Any} (not (is_special name)) 9 tt) λ _ plain-new.
        ok-bind (any (not_long old)) λ _ _. ok-bind (short-asks name) λ _ short.
        ok-bind (ok-weaken (λ _ q. q) (λ n r. tt) (live-folder a t A j uj)) λ _ to.
        ok-bind (ok-weaken (λ x q. q) (λ n r. tt) (look-law a t A y.typed.bytes j uj to.0 name (good-name name good) short)) λ x found.
        ok-weaken (λ x q. gives i j m n x.arena x.table q) (λ n r. r)
        (goes i j ui uj from.0 to.0 old name (not-true (is_special old) plain-old) short nb (spared i j m n) from.1 (not-true (is_special name) plain-new) x found)

    -- neither its source nor its target
    pub slot-moves : ((i : ℕ) → Live p.table w g i → (row_at p.table i).id ≡ d → own ≡ old → ⊥)
        → ((j : ℕ) → Live p.table w target j → (row_at p.table j).id ≡ d → own ≡ name → ⊥)
        → LeavesAfter (Remains p d (bytes_of p d N.slot)) (call_move p.arena p.table w g old target name)
    slot-moves source onto = call (λ i j m n. inl (source i m, onto j n)) (Remains p d l) (λ i j m n b u q. q)

    -- a folder that has names: it is named where it was, or by the target
    pub folder-moves : Filled p n
        → LeavesAfter (λ b u. Remains p d (bytes_of p d N.slot) b u ⊎ ((j : ℕ) × Live p.table w target j × Rehomed p (row_at p.table j).id n b u)) (call_move p.arena p.table w g old target name)
    folder-moves F =
        call (λ i j m n. inr F) (λ b u. Remains p d l b u ⊎ ((j : ℕ) × Live t w target j × Rehomed p (row_at t j).id n b u))
        (λ i j m n b u q. ⊎_elim (λ r. inl r) (λ r. inr (j, n, r)) q)
