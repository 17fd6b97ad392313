-- A move between folders, once the slots have changed: where nothing was replaced, and where a replaced node is let go.
use mathlib.Core.Path.{◌≡◌, refl, sym, ap, ◌∙◌, subst}
use mathlib.Core.Bool.{Bool, true, false}
use mathlib.Core.List.{List}
use mathlib.Core.Logic.{◌≢◌, ⊎_elim}
use Prim.Native.Nat.{ℕ, ◌+◌, ◌-◌, ◌≤◌, ◌<◌}
use native.Mathlib.Omega.{arith}
use lib.Dec.{eqb}
use lib.ListN.{length}
use borrow.Author.Tests.{ne_eqb}
use Rattle.base.specs.Out.{done, Ok}
use Rattle.base.specs.Search.{pick}
use Rattle.base.proofs.Outs.{ok-weaken}
use Rattle.base.proofs.Bools.{true-false}
use Rattle.base.proofs.Numbers.{lt-or-le}
use Rattle.structs.specs.Types.{is_folder}
use Rattle.structs.specs.declared.DiskINode.{DiskINode}
use Rattle.structs.specs.declared.DiskEntry.{DiskEntry}
use Rattle.utf8.specs.Names.{has_slash, name_of, name_bytes}
use Rattle.utf8.proofs.Names.{not-special}
use Rattle.table.specs.Table.{row_at}
use Rattle.sefs.specs.State.{Fs}
use Rattle.sefs.specs.Nodes.{rec_at, id_at, release}
use Rattle.sefs.specs.Slots.{Slot}
use Rattle.sefs.specs.Move.{Replaced, none, node, renamed}
use Rattle.rules.specs.Image.{is_node, rec_of, slot_in}
use Rattle.image.specs.Midway.{stored_meta, tree_of, Look, plain, turning, Amid}
use Rattle.tree.specs.Tree.{Spelling, Tree, Tidy, up}
use Rattle.tree.specs.Moves.{Spot, end, Takes, MayMove}
use Rattle.tree.proofs.Naming.{May}
use Rattle.tree.proofs.Trees.{at, at_here, at-else}
use Rattle.tree.proofs.Redirects.{onto, longer-tidy}
use Rattle.image.proofs.Images.{Off}
use Rattle.image.proofs.Drops.{mid-rec, super-kept, maps-kept, Dropped, release-law}
use Rattle.image.proofs.Resets.{recs-kept, nodes-kept}
use Rattle.image.proofs.NewNames.{NewName}
use Rattle.image.proofs.Moving.{Moving, owns}
use Rattle.image.proofs.Movings.{live-rec, live-node, live-lives, live-links, moves-node, moves-kind, moves-ended, moves-name}
use Rattle.image.proofs.Counts.{Counts, counts-used}
use Rattle.image.proofs.Carries.{Carried}
use Rattle.image.proofs.Transfers.{transferred}
use Rattle.image.proofs.Turning.{turning-mid}
use Rattle.image.proofs.BetweenSlots.{slots_of, links_of, Carrying}

-- the type of what moves
abbrev pub moved_kind : Fs → Slot → ℕ
moved_kind s old = (rec_of s.arena s.table old.entry.id).kind

-- the climb from the target does not meet a folder that moves
abbrev pub Avoids : Fs → ℕ → Slot → Type 0
Avoids s j old = is_folder (moved_kind s old) ≡ true → (n : ℕ) → up (tree_of s.arena s.table) (id_at s j) n ≢ old.entry.id

-- the image is fair as it is where a file moved, and as it will be where a folder did
abbrev pub way_by : Spelling → Bool → Fs → ℕ → ℕ → Slot → Look
way_by style dir s i j old = pick dir (turning style old.entry.id (id_at s i) (id_at s j)) (plain style)

abbrev pub way_of : Spelling → Fs → ℕ → ℕ → Slot → Look
way_of style s i j old = way_by style (is_folder (moved_kind s old)) s i j old

pub record Settled (style : Spelling) (own : ℕ → Type 0) (s : Fs) (i j : ℕ) (old : Slot) (z : Fs) : Type 0 where
  pub mid : Amid (way_of style s i j old) own z.arena z.table
  pub mine : (m : ℕ) → own m → (row_at z.table m).id ≡ old.entry.id
  pub meta : z.meta ≡ done (stored_meta z.arena)
  pub from : (row_at z.table i).id ≡ id_at s i
  pub to : (row_at z.table j).id ≡ id_at s j
  pub node : is_node z.arena old.entry.id ≡ true
  pub kind : (rec_of z.arena z.table old.entry.id).kind ≡ moved_kind s old
  pub links : 2 ≤ (rec_of z.arena z.table (id_at s i)).nlinks

-- the links of other nodes look as they are
off-way : (style : Spelling) (dir : Bool) (s : Fs) (i j : ℕ) (old : Slot) (x : ℕ) → x ≢ id_at s i → x ≢ id_at s j → Off (way_by style dir s i j old) x
off-way style false s i j old x n m v = refl
off-way style true s i j old x n m v =
    ap (λ (b : Bool). pick b (v.links x - 1) (pick (eqb x (id_at s j)) (v.links x + 1) (v.links x))) (ne_eqb x (id_at s i) n)
    ∙ ap (λ (b : Bool). pick b (v.links x + 1) (v.links x)) (ne_eqb x (id_at s j) m)

module _ {style : Spelling} {own : ℕ → Type 0} (s : Fs) (i j : ℕ) (old : Slot) (name : List ℕ) (r : Replaced) (M : Moving style own s i j old name r) (apart : id_at s i ≢ id_at s j) (avoids : Avoids s j old) where
  abbrev v : Tree
  v = tree_of s.arena s.table

  rec-i : rec_of s.arena s.table (id_at s i) ≡ rec_at s i
  rec-i = live-rec s M.mid i M.from

  -- a folder may move
  pub may-move : is_folder (moved_kind s old) ≡ true → (k : ℕ) (o : Spot)
      → ((m : ℕ) → 2 ≤ m → m < (rec_of s.arena s.table (id_at s j)).blocks → m ≢ k → name_of (slot_in s.arena (rec_of s.arena s.table (id_at s j)) m).name ≢ name_of (name_bytes name))
      → Takes (tree_of s.arena s.table) (id_at s j) k old.entry.id o
      → MayMove (tree_of s.arena s.table) (id_at s i) old.place (id_at s j) k old.entry.id o (renamed old.entry name)
  may-move dir k o fresh takes =
      let q : name_of (name_bytes name) ≡ name = moves-name s i j old name r M in
      let n = not-special name M.plain in
      record {
        source = live-lives s M.mid i M.from;
        target = live-lives s M.mid j M.to;
        apart = apart;
        later = M.later;
        inside = omega (arith, M.inside, ap (λ (y : DiskINode). y.blocks) rec-i);
        names = ap (λ (y : DiskINode). (slot_in s.arena y old.place).id) rec-i ∙ ap (λ (y : DiskEntry). y.id) (sym M.is);
        folder = dir;
        avoids = avoids dir;
        id = refl;
        kind = sym (moves-kind s i j old name r M);
        ended = moves-ended s i j old name r M;
        some = λ z. n.0 (ap length (sym q ∙ z));
        no-dot = λ z. n.1.0 (sym q ∙ z);
        no-dots = λ z. n.1.1 (sym q ∙ z);
        no_slash = ap has_slash q ∙ M.no_slash;
        fresh = fresh;
        takes = takes;
      }

-- ---- nothing was replaced

module _ {style : Spelling} {own : ℕ → Type 0} (s : Fs) (i j : ℕ) (old : Slot) (name : List ℕ) (M : Moving style own s i j old name none) (apart : id_at s i ≢ id_at s j) (avoids : Avoids s j old)
    (x : Fs) (X : Carrying own s i j old name none x) where
  abbrev c : ℕ
  c = old.entry.id

  abbrev to_slots : ℕ → ℕ
  to_slots = at (id_at s j) ((rec_at s j).blocks + 1) (slots_of s)

  abbrev slots : ℕ → ℕ
  slots = at (id_at s i) ((rec_at s i).blocks - 1) (at (id_at s j) ((rec_at s j).blocks + 1) (slots_of s))

  rec-j : rec_of s.arena s.table (id_at s j) ≡ rec_at s j
  rec-j = live-rec s M.mid j M.to

  new : NewName s.arena (rec_of s.arena s.table (id_at s j)) name
  new = subst (λ (y : DiskINode). NewName s.arena y name) (sym rec-j) M.onto

  may : is_folder (moved_kind s old) ≡ false → May (tree_of s.arena s.table) (id_at s j) c (renamed old.entry name)
  may no-dir = record {
    lives = live-lives s M.mid j M.to;
    node = moves-node s i j old name none M;
    apart = λ q. true-false (ap (λ (y : ℕ). is_folder (rec_of s.arena s.table y).kind) q ∙ ap (λ (y : DiskINode). is_folder y.kind) rec-j ∙ M.to.folder) no-dir;
    id = refl;
    kind = sym (moves-kind s i j old name none M);
    ended = M.onto.ended;
    some = M.onto.some;
    no-dot = M.onto.no-dot;
    no-dots = M.onto.no-dots;
    no_slash = M.onto.no_slash;
    fresh = new.fresh;
    loose = λ y. absurd (true-false y no-dir);
    under = λ y. absurd (true-false y no-dir);
  }

  tidy : is_folder (moved_kind s old) ≡ false
      → Tidy style (onto (tree_of s.arena s.table) (id_at s j) (rec_at s j).blocks ((rec_at s j).blocks + 1) (renamed old.entry name) (at c (links_of s c + 1) (links_of s)))
  tidy no-dir =
      subst (λ (n : ℕ). Tidy style (onto (tree_of s.arena s.table) (id_at s j) n (n + 1) (renamed old.entry name) (at c (links_of s c + 1) (links_of s)))) (ap (λ (y : DiskINode). y.blocks) rec-j)
      (longer-tidy (tree_of s.arena s.table) (id_at s j) c (renamed old.entry name) M.mid.fair.tidy (may no-dir) no-dir)

  within : (y : ℕ) → y < (rec_at s j).blocks + 1 → y ≢ (rec_at s j).blocks → y < (rec_at s j).blocks
  within y l n = ⊎_elim (λ w. w) (λ w. absurd (n (omega arith))) (lt-or-le y (rec_at s j).blocks)

  b-from : slots (id_at s i) ≡ (rec_at s i).blocks - 1
  b-from = at_here (id_at s i) ((rec_at s i).blocks - 1) to_slots

  b-to : slots (id_at s j) ≡ (rec_at s j).blocks + 1
  b-to = at-else (id_at s i) ((rec_at s i).blocks - 1) to_slots (id_at s j) (λ q. apart (sym q)) ∙ at_here (id_at s j) ((rec_at s j).blocks + 1) (slots_of s)

  b-else : (y : ℕ) → y ≢ id_at s i → y ≢ id_at s j → slots y ≡ slots_of s y
  b-else y d n = at-else (id_at s i) ((rec_at s i).blocks - 1) to_slots y d ∙ at-else (id_at s j) ((rec_at s j).blocks + 1) (slots_of s) y n

  mid_by : (dir : Bool) → is_folder (moved_kind s old) ≡ dir → Amid (way_by style dir s i j old) own x.arena x.table
  mid_by false q =
      transferred s i j old name none M apart q (rec_at s j).blocks ((rec_at s j).blocks + 1) within x.arena X.files slots (links_of s) x.table X.rows
      b-from b-to b-else refl refl (tidy q)
  mid_by true q =
      turning-mid s i j old name none M apart (rec_at s j).blocks ((rec_at s j).blocks + 1) end
      (may-move s i j old name none M apart avoids q (rec_at s j).blocks end (λ m y z n. new.fresh m y z) (ap (λ (y : DiskINode). y.blocks) (sym rec-j)))
      within (omega arith) x.arena X.files slots (links_of s) x.table X.rows
      b-from b-to b-else refl (omega arith) (λ y z. absurd (true-false z refl)) (λ y n z. refl)

  rec-x : (y : ℕ) → rec_of x.arena x.table y ≡ rec_of s.arena x.table y
  rec-x = recs-kept s.arena x.arena x.table X.files.meta

  pub settle-none : Settled style own s i j old x
  settle-none = record {
    mid = mid_by (is_folder (moved_kind s old)) refl;
    mine = λ m o. X.rows.ids m ∙ (M.mine m o).1;
    meta = X.meta ∙ M.meta ∙ λ y. done (record { super = sym (super-kept s.arena x.arena X.files.meta) y; maps = sym (maps-kept s.arena x.arena X.files.meta) y });
    from = X.rows.ids i;
    to = X.rows.ids j;
    node = nodes-kept s.arena x.arena X.files.meta c ∙ moves-node s i j old name none M;
    kind = ap (λ (y : DiskINode). y.kind) (rec-x c) ∙ X.rows.kinds c;
    links = omega (
      arith,
      ap (λ (y : DiskINode). y.nlinks) (rec-x (id_at s i)),
      X.rows.links (id_at s i),
      live-links s M.mid i M.from,
      ap (λ (y : DiskINode). y.nlinks) (live-rec s M.mid i M.from),
    );
  }

-- ---- the replaced node is let go

module _ {style : Spelling} {own : ℕ → Type 0} (s : Fs) (i j : ℕ) (old : Slot) (name : List ℕ) (d k : ℕ) (M : Moving style own s i j old name (node d k)) where
  -- it is neither folder: they have more than two slots
  blocks-apart : (x m : ℕ) → 2 ≤ m → m < (rec_at s x).blocks → is_folder (rec_at s x).kind ≡ true → rec_at s d ≡ rec_at s x → ⊥
  blocks-apart x m l h f q = omega (arith, ap (λ (y : DiskINode). y.blocks) q, M.onto.small (ap (λ (y : DiskINode). is_folder y.kind) q ∙ f))

  pub rec-d : rec_of s.arena s.table (id_at s d) ≡ rec_at s d
  rec-d = mid-rec s.arena s.table M.mid.formed d M.onto.used

  pub d-not-i : id_at s d ≢ id_at s i
  d-not-i q = blocks-apart i old.place M.later M.inside M.from.folder (sym rec-d ∙ ap (rec_of s.arena s.table) q ∙ live-rec s M.mid i M.from)

  pub d-not-j : id_at s d ≢ id_at s j
  d-not-j q = blocks-apart j k M.onto.later M.onto.inside M.to.folder (sym rec-d ∙ ap (rec_of s.arena s.table) q ∙ live-rec s M.mid j M.to)

  pub node-d : is_node s.arena (id_at s d) ≡ true
  node-d = M.mid.fair.rule4.node d M.onto.used.below M.onto.used.node

  module _ (y : Fs) (l : ℕ)
      (C : Carried s.arena (rec_at s i).file ((rec_at s i).blocks - 1) old.place (rec_at s j).file (rec_at s j).blocks k l (renamed old.entry name) y.arena)
      (B L : ℕ → ℕ) (S : Counts (owns own (node d k)) s.arena s.table B L y.table) (meta : y.meta ≡ s.meta) (links : 2 ≤ L (id_at s i))
      (fair : Amid (way_of style s i j old) (owns own (node d k)) y.arena y.table) where
    rec-y : (x : ℕ) → rec_of y.arena y.table x ≡ rec_of s.arena y.table x
    rec-y = recs-kept s.arena y.arena y.table C.meta

    ends : (z : Fs) → Dropped (way_of style s i j old) own y d z → Settled style own s i j old z
    ends z D =
        let node-c = nodes-kept s.arena y.arena C.meta old.entry.id ∙ moves-node s i j old name (node d k) M in
        let c-still = D.others old.entry.id node-c (λ q. M.onto.apart (sym (S.ids d) ∙ sym q)) in
        let i-still = D.others (id_at s i) (nodes-kept s.arena y.arena C.meta (id_at s i) ∙ live-node s M.mid i M.from) (λ q. d-not-i (sym (q ∙ S.ids d))) in
        record {
          mid = D.mid;
          mine = λ m o. let w = (M.mine m o).1 in D.ids m (λ q. M.onto.apart (ap (λ (x : ℕ). id_at s x) (sym q) ∙ w)) ∙ S.ids m ∙ w;
          meta = D.meta;
          from = D.ids i (λ q. d-not-i (ap (λ (x : ℕ). id_at s x) (sym q))) ∙ S.ids i;
          to = D.ids j (λ q. d-not-j (ap (λ (x : ℕ). id_at s x) (sym q))) ∙ S.ids j;
          node = c-still.node;
          kind = ap (λ (x : DiskINode). x.kind) (c-still.rec ∙ rec-y old.entry.id) ∙ S.kinds old.entry.id;
          links = omega (arith, ap (λ (x : DiskINode). x.nlinks) (i-still.rec ∙ rec-y (id_at s i)), S.links (id_at s i));
        }

    pub settle-node : Ok (Settled style own s i j old) (λ n. n ≡ 17) (release y d)
    settle-node =
        ok-weaken ends (λ n q. q)
        (release-law y d fair (counts-used s.arena s.table B L y.table S d M.onto.used)
        (subst (Off (way_of style s i j old)) (sym (S.ids d)) (off-way style (is_folder (moved_kind s old)) s i j old (id_at s d) d-not-i d-not-j))
        (meta ∙ M.meta ∙ λ x. done (record { super = sym (super-kept s.arena y.arena C.meta) x; maps = sym (maps-kept s.arena y.arena C.meta) x })))
