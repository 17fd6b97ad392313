-- A move between two folders: the slots, the replaced node, the links, the moved folder's `..`. Then the pair passes.
use mathlib.Core.Path.{refl, ◌≡◌, sym, ap, ◌∙◌, subst}
use Rattle.sefs_laws.proofs.Clear.{Clear, clear-17}
use mathlib.Core.Bool.{Bool, true, false}
use mathlib.Core.List.{List}
use mathlib.Core.Logic.{◌≢◌, inr, ⊎_elim}
use Prim.Native.Nat.{ℕ, ◌≤◌}
use native.Mathlib.Omega.{arith}
use Rattle.base.specs.Out.{done, bind, Ok, went}
use Rattle.base.proofs.Outs.{ok-bind, ok-weaken, bind_assoc}
use Rattle.base.proofs.Sames.{decided-yes}
use Rattle.base.proofs.Tests.{decides-leb}
use Rattle.structs.specs.Types.{is_folder}
use Rattle.structs.specs.declared.DiskINode.{DiskINode}
use Rattle.table.specs.declared.Table.{Table}
use Rattle.table.specs.declared.Row.{Row}
use Rattle.table.specs.Table.{row_at}
use Rattle.table_laws.proofs.Rows.{formed-more}
use Rattle.sefs.specs.State.{Fs, with_table}
use Rattle.sefs.specs.Ask.{start}
use Rattle.sefs.specs.Nodes.{Opened, id_at, node_file, get_node, sync_row, release}
use Rattle.sefs.specs.Slots.{Slot}
use Rattle.sefs.specs.Create.{After, after}
use Rattle.base.specs.Search.{pick}
use Rattle.sefs.specs.Move.{Replaced, none, node, remove_replaced, renamed, move_dots, move_links, move_parent, move_between}
use Rattle.rules.specs.Image.{is_node, rec_of}
use Rattle.sequences.specs.Pairs.{pair}
use Rattle.sefs_laws.proofs.Rows.{ok-and, Bears, Fills, leaves-node, leaves-append, leaves-remove, leaves-dots, leaves-sync, leaves-release, leaves-replaced}
use Rattle.tree.specs.Tree.{Spelling}
use Rattle.image.specs.Midway.{Used}
use Rattle.image.proofs.Nodes.{meta-is}
use Rattle.sequences.proofs.Passing.{Spelled, midway-spelled}
use Rattle.image.proofs.Stores.{sync-mid}
use Rattle.image.proofs.Drops.{mid-rec, release-law}
use Rattle.image.proofs.Appends.{append-law}
use Rattle.image.proofs.Takes.{Gets, get-more}
use Rattle.image.proofs.Moving.{Moving}
use Rattle.image.proofs.Movings.{live-there, moves-fits, moves-kind, moves-most}
use Rattle.image.proofs.BetweenSlots.{Carrying, carry-law}
use Rattle.image.proofs.Settling.{moved_kind, Avoids, way_by, way_of, Settled, settle-none}
use Rattle.image.proofs.Replacing.{replace-law}
use Rattle.image.proofs.Turned.{Ready, dots-law, parent-law}
use Rattle.files_laws.specs.Laws.{Kept}
use Rattle.arena.specs.Fields.{File}

-- the replaced node goes, if there is one
replaced-law : {style : Spelling} {own : ℕ → Type 0} (s : Fs) (i j : ℕ) (old : Slot) (name : List ℕ) (r : Replaced) → Moving style own s i j old name r → id_at s i ≢ id_at s j → Avoids s j old → (x : Fs) → Carrying own s i j old name r x
    → Ok (Settled style own s i j old) (λ n. n ≡ 17) (remove_replaced x j r)
replaced-law s i j old name none M apart avoids x X = went (settle-none s i j old name M apart avoids x X)
replaced-law s i j old name (node d k) M apart avoids x X = replace-law s i j old name d k M apart avoids x X

module _ {style : Spelling} (P : List ℕ → Table → Type 0) (K : Bears P) {own : ℕ → Type 0} (k : ℕ) (only : (m : ℕ) → own m → m ≡ k)
    (s : Fs) (i j : ℕ) (old : Slot) (name : List ℕ) (r : Replaced) (M : Moving style own s i j old name r) (apart : (row_at s.table i).id ≢ (row_at s.table j).id) (avoids : Avoids s j old)
    (fills-i : Fills P i) (fills-j : Fills P j)
    (turns : (row : ℕ) (y : Fs) → is_folder (moved_kind s old) ≡ true → (row_at y.table row).id ≡ old.entry.id → (b : List ℕ) → ((g : File) → node_file (row_at y.table row).rec ≢ g → Kept y.arena b g)
    → P y.arena y.table → P b y.table) where
  abbrev c : ℕ
  c = old.entry.id

  abbrev kd : ℕ
  kd = moved_kind s old

  abbrev Left : Fs → Type 0
  Left x = P x.arena x.table

  abbrev Q : After → Type 0
  Q x = Spelled style (pair x.arena x.table) × P x.arena x.table

  -- the row is open, and the image is as it is looked at
  abbrev Open : Bool → ℕ → Fs → Type 0
  Open dir row x = Ready (way_by style dir s i j old) old.entry.id (id_at s i) (id_at s j) (moved_kind s old) i j row x

  -- ---- the moved node is open

  module _ (z : Fs) (Z : Settled style own s i j old z) where
    used : (m n : ℕ) → Used s.table m → (row_at z.table m).id ≡ (row_at s.table m).id → Used z.table m
    used m n w q = record { below = w.below; node = λ e. w.node (sym q ∙ e) }

    used-i : Used z.table i
    used-i = used i 0 M.from.used Z.from

    gets : Ok (Gets (way_of style s i j old) own z.arena z.table c) Clear (get_node z c)
    gets =
        subst (λ (y : Fs). Ok (Gets (way_of style s i j old) own z.arena z.table c) Clear (get_node y c))
        (λ y. record { arena = z.arena; table = z.table; meta = (meta-is z.arena z.table Z.mid.fair ∙ sym Z.meta) y })
        (get-more z.arena z.table Z.mid k only c Z.node)

    module _ (o : Opened) (G : Gets (way_of style s i j old) own z.arena z.table c o) where
      abbrev x : Fs
      x = with_table (start z.arena z.table) G.table

      still : (m : ℕ) → Used z.table m → (row_at G.table m).id ≡ (row_at z.table m).id
      still m w = ap (λ (y : Row). y.id) (G.rows m w)

      -- a row that the call had of its own is this one
      mine : (m : ℕ) → own m → m ≡ G.row
      mine m h =
          let w = M.mine m h in
          let q = Z.mine m h in
          let e : (row_at G.table m).id ≡ c = still m (used m 0 w.0 (q ∙ sym w.1)) ∙ q in
          G.mid.formed.one-row m G.row w.0.below G.used.below (λ n. w.0.node (w.1 ∙ sym e ∙ n)) (e ∙ sym G.same)

      ready : Open (is_folder kd) G.row x
      ready = record {
        mid = record {
          fair = G.mid.fair;
          formed = formed-more G.table (λ m h. inr (⊎_elim (λ y. mine m y) (λ y. y) h)) G.mid.formed;
          bytes = G.mid.bytes;
          fits = G.mid.fits;
        };
        meta = meta-is z.arena z.table Z.mid.fair;
        from = still i used-i ∙ Z.from;
        to = still j (used j 0 M.to.used Z.to) ∙ Z.to;
        used = G.used;
        same = G.same;
        kind = ap (λ (y : DiskINode). y.kind) (sym (mid-rec z.arena G.table G.mid.formed G.row G.used) ∙ ap (rec_of z.arena G.table) G.same ∙ G.recs c Z.node) ∙ Z.kind;
      }

      links : 2 ≤ (rec_of z.arena G.table (id_at s i)).nlinks
      links =
          let n : is_node z.arena (id_at s i) ≡ true = ap (is_node z.arena) (sym Z.from) ∙ Z.mid.fair.rule4.node i M.from.used.below used-i.node in
          omega (arith, ap (λ (y : DiskINode). y.nlinks) (G.recs (id_at s i) n), Z.links)

  -- ---- its folders' links and its `..`

  most : kd ≤ 4
  most = omega (arith, moves-kind s i j old name r M, moves-most s i j old name r M)

  -- the two steps, by the type of what moves
  links-are : (row : ℕ) (x : Fs) → (row_at x.table row).rec.kind ≡ kd → (dir : Bool) → is_folder kd ≡ dir → move_links x i j row ≡ pick dir (move_dots x i j) (done x)
  unfolding move_links
  links-are row x e dir q = rw (e, decided-yes (decides-leb kd 4) most, q)

  parent-none : (row : ℕ) (x : Fs) → (row_at x.table row).rec.kind ≡ kd → is_folder kd ≡ false → move_parent x j row ≡ done x
  unfolding move_parent
  parent-none row x e q = rw (e, q)

  some-i : id_at s i ≢ 0
  some-i = M.from.used.node

  some-j : id_at s j ≢ 0
  some-j = M.to.used.node

  turn_by : (row : ℕ) (x : Fs) → 2 ≤ (rec_of x.arena x.table (id_at s i)).nlinks → P x.arena x.table → (dir : Bool) → is_folder kd ≡ dir → Open dir row x
      → Ok (λ (d : Fs). Open false row d × Left d) Clear (bind (move_links x i j row) (λ y. move_parent y j row))
  turn_by row x links h false q R = rw (links-are row x R.kind false q, parent-none row x R.kind q) (went (R, h))
  turn_by row x links h true q R =
      rw (links-are row x R.kind true q)
      (ok-bind (ok-and (dots-law c (id_at s i) (id_at s j) kd i j row M.from.used.below M.to.used.below some-i some-j apart x R links) (leaves-dots P K.changes x i j h)) λ y e.
      ok-weaken
      (λ d w. (w.ready, subst (P d.arena) (sym w.table) (turns row y q (ap (λ (z : Fs). (row_at z.table row).id) e.0.is ∙ e.0.rows.ids row ∙ R.same) d.arena w.others e.1)))
      (λ n z. z)
      (parent-law c (id_at s i) (id_at s j) kd i j row M.from.used.below M.to.used.below some-i some-j apart x R q y e.0))

  -- ---- the records are stored, and the node is let go

  module _ (row : ℕ) where
    sync-law : (x : Fs) → Open false row x → P x.arena x.table → (m : ℕ) → Used x.table m → Ok (λ (d : Fs). Open false row d × Left d) Clear (sync_row x m)
    sync-law x R h m w =
        ok-and
        (ok-weaken
        (λ d S. record {
          mid = S.mid;
          meta = S.meta ∙ R.meta ∙ λ y. done (record { super = sym S.super y; maps = sym S.maps y });
          from = S.ids i ∙ R.from;
          to = S.ids j ∙ R.to;
          used = record { below = R.used.below; node = λ e. R.used.node (sym (S.ids row) ∙ e) };
          same = S.ids row ∙ R.same;
          kind = ap (λ (y : DiskINode). y.kind) (S.recs row) ∙ R.kind;
        })
        clear-17 (sync-mid x R.mid m w))
        (leaves-sync P K.stores x m h)

    from-used : (x : Fs) → Open false row x → Used x.table i
    from-used x R = record { below = M.from.used.below; node = λ e. some-i (sym R.from ∙ e) }

    to-used : (x : Fs) → Open false row x → Used x.table j
    to-used x R = record { below = M.to.used.below; node = λ e. some-j (sym R.to ∙ e) }

    ends : (x : Fs) → Open false row x → P x.arena x.table
        → Ok Q Clear (bind (sync_row x i) (λ s. bind (sync_row s j) (λ s. bind (release s row) (λ s. done (after s)))))
    ends x R h =
        ok-bind (sync-law x R h i (from-used x R)) λ x e.
        ok-bind (sync-law x e.0 e.1 j (to-used x e.0)) λ x e.
        ok-bind (ok-and (ok-weaken (λ d D. midway-spelled d.arena d.table D.mid) clear-17 (release-law x row e.0.mid e.0.used (λ v. refl) e.0.meta))
        (leaves-release P K x row e.1)) λ x q. went q

  rest : (z : Fs) → Settled style own s i j old z → P z.arena z.table
      → Ok Q Clear (bind (get_node z c) (λ o. bind (move_links o.state i j o.row) (λ s. bind (move_parent s j o.row) (λ s. bind (sync_row s i) (λ s. bind (sync_row s j) (λ s. bind (release s o.row) (λ s. done (after s))))))))
  rest z Z h =
      ok-bind (ok-and (gets z Z) (leaves-node P K.loads z c h)) λ o e.
      let G = e.0 in
      subst (λ (w : Opened). P w.state.arena w.state.table
      → Ok Q Clear (bind (move_links w.state i j w.row) (λ s. bind (move_parent s j w.row) (λ s. bind (sync_row s i) (λ s. bind (sync_row s j) (λ s. bind (release s w.row) (λ s. done (after s))))))))
      (sym G.is)
      (λ p. subst (Ok Q Clear) (bind_assoc (move_links (x z Z o G) i j G.row) (λ s. move_parent s j G.row) (λ s. bind (sync_row s i) (λ s. bind (sync_row s j) (λ s. bind (release s G.row) (λ s. done (after s))))))
      (ok-bind (turn_by G.row (x z Z o G) (links z Z o G) p (is_folder kd) refl (ready z Z o G)) λ d w. ends G.row d w.0 w.1))
      e.1

  pub between-law : P s.arena s.table → Ok (λ (x : After). Spelled style (pair x.arena x.table) × P x.arena x.table) Clear (move_between s i j old name r)
  unfolding move_between
  between-law h =
      ok-bind (ok-and (ok-weaken (λ x A. A) clear-17 (append-law s j (renamed old.entry name) (moves-fits s i j old name r M) (live-there s M.mid j M.to))) (leaves-append P j fills-j K.changes s _ h)) λ x e.
      ok-bind (ok-and (ok-weaken (λ x X. X) clear-17 (carry-law s i j old name r M apart x e.0)) (leaves-remove P i fills-i K.changes x _ e.1)) λ x e.
      ok-bind (ok-and (ok-weaken (λ z Z. Z) clear-17 (replaced-law s i j old name r M apart avoids x e.0)) (leaves-replaced P K x j fills-j r e.1)) λ z e.
      rest z e.0 e.1
