-- Where a pass stands, in an arena that passes: at root, past a line, at its end, and up again. The steps themselves are the inventory's.
use mathlib.Core.Path.{◌≡◌, refl, sym, ap, subst, ◌∙◌}
use mathlib.Core.Bool.{true, false}
use mathlib.Core.List.{List, [], ◌∷◌}
use mathlib.Core.Logic.{◌≢◌}
use Prim.Native.Nat.{ℕ, suc, ◌+◌, ◌*◌, ◌-◌, ◌≤◌, ◌<◌}
use native.Mathlib.Omega.{arith}
use native.Mathlib.Numerals.{add-one}
use lib.ListN.{length, length-append, length-take}
use Rattle.base.specs.Parts.{tab, part}
use Rattle.base.proofs.Bools.{and_both}
use Rattle.base.proofs.Lists.{length-tab}
use Rattle.le.specs.Le.{le_at}
use Rattle.structs.specs.Layout.{record_of, entry_of}
use Rattle.structs.specs.Types.{is_folder}
use Rattle.structs.specs.declared.DiskINode.{DiskINode}
use Rattle.structs.specs.declared.DiskEntry.{DiskEntry}
use Rattle.utf8.specs.Names.{name_of, zero_at}
use Rattle.table.specs.Table.{empty_table}
use Rattle.arena.specs.Fields.{file}
use Rattle.files.specs.Read.{byte_at}
use Rattle.sefs.specs.Nodes.{node_file}
use Rattle.rules.specs.Image.{run, is_node, stored_bytes, rec_of, is_folder_at, slot_in}
use Rattle.rules.specs.Tests.{checked}
use Rattle.rules.proofs.Check.{check-pass}
use Rattle.rules.proofs.Folders.{folder-node}
use Rattle.fsck_read.proofs.Names.{zero-most}
use Rattle.tree.specs.Tree.{Tree, any, FolderIn}
use Rattle.image.proofs.Images.{fair}
use Rattle.image.proofs.Nodes.{node-some}
use Rattle.inventory.specs.Text.{escape, path_to}
use Rattle.inventory.specs.Inventory.{stored_tree}
use Rattle.inventory.specs.Visits.{Visit, visit, visits}
use Rattle.inventory.specs.Steps.{ToCome, Starts, GoesOn, Enters, WentUp, GoesUp, Ends}
use Rattle.inventory.proofs.Delivers.{tidy, stored-record}
use Rattle.inventory.proofs.Steps.{starts, goes_on, enters, goes-up, ends, come-lives}
use Rattle.calls_inventory.specs.declared.places.Place.{Place}
use Rattle.calls_inventory.specs.Places.{StandsAt, past_line, OnlyIn, Up}

-- ---- a slot that was read

-- a number is in its own bytes: four of a file are enough for a slot's id
pub id-read : (a l name : List ℕ) (r : DiskINode) (k : ℕ) → r.file ≡ name → l ≡ run a (file 1 name) (264 * k) 4 → le_at l 0 4 ≡ (slot_in a r k).id
unfolding slot_in entry_of le_at tab
id-read a l name r k n e = ap (λ (x : List ℕ). le_at x 0 4) e ∙ sym (ap (λ (x : List ℕ). le_at (run a (file 1 x) (264 * k) 264) 0 4) n)

pub slot-size : (a l : List ℕ) (r : DiskINode) (k : ℕ) → l ≡ run a (node_file r) (264 * k) 264 → length l ≡ 264
slot-size a l r k e = ap length e ∙ length-tab (byte_at a (node_file r)) (264 * k) 264

pub name-read : (a l : List ℕ) (r : DiskINode) (k : ℕ) → l ≡ run a (node_file r) (264 * k) 264 → name_of (entry_of l).name ≡ name_of (slot_in a r k).name
unfolding slot_in
name-read a l r k e = ap (λ (x : List ℕ). name_of (entry_of x).name) e

-- a name ends within its 256 bytes
pub name-most : (a : List ℕ) (r : DiskINode) (k : ℕ) → length (name_of (slot_in a r k).name) ≤ 256
unfolding slot_in entry_of
name-most a r k =
    let l : List ℕ = run a (node_file r) (264 * k) 264 in
    let z : zero_at (part l 4 260) ≤ 256 = zero-most l (zero_at (part l 4 260)) (slot-size a l r k refl) refl in
    omega (arith, length-take (zero_at (part l 4 260)) (part l 4 260))

-- ---- nodes

-- superblocks have at most four groups of 1,024 ids, and no node has id 0
module _ (a : List ℕ) (e : checked a empty_table ≡ 0) (id : ℕ) (n : is_node a id ≡ true) where
  node-low : id < 4096
  node-low = omega (arith, (tidy a e).below id n, (fair a empty_table (check-pass a empty_table e)).rule3.few)

  node-not-zero : id ≢ 0
  node-not-zero = node-some a empty_table (fair a empty_table (check-pass a empty_table e)) id n

-- the record that is stored is the one that counts
pub stored_is : (a : List ℕ) (id : ℕ) (r : DiskINode) → id ≢ 0 → r ≡ record_of (stored_bytes a id) → r ≡ rec_of a empty_table id
stored_is a id r n q = q ∙ sym (stored-record a id n)

-- ---- at root

pub root_stands : (a : List ℕ) (r : DiskINode) → checked a empty_table ≡ 0 → r ≡ record_of (stored_bytes a 2) → StandsAt a (record { folder = 2; slot = 2; path = 0; rec = r }) [] (visits (stored_tree a))
unfolding is_folder_at Starts
root_stands a r e q = record {
  ahead = starts (stored_tree a) (tidy a e);
  later = omega arith;
  folder = (tidy a e).two.folder;
  long = refl;
  rec = stored_is a 2 r (λ z. omega arith) q;
}

-- ---- the length of a path

pub path-long : (path name : List ℕ) → length (path_to path name) ≡ length path + (1 + length (escape name))
unfolding path_to
path-long path name = omega (arith, length-append path (47 ∷ escape name))

-- ---- past a line

pub past-into : (p : Place) (id : ℕ) (node : DiskINode) (longer : ℕ) → is_folder node.kind ≡ true → past_line p id node longer ≡ record { folder = id; slot = 2; path = p.path + longer; rec = node }
unfolding past_line
past-into p id node longer h = rw h refl

pub past-on : (p : Place) (id : ℕ) (node : DiskINode) (longer : ℕ) → is_folder node.kind ≡ false → past_line p id node longer ≡ record { folder = p.folder; slot = p.slot + 1; path = p.path; rec = p.rec }
unfolding past_line
past-on p id node longer h = rw h refl

-- the folder above, by slot 1; the slot of it that names the folder; and where a pass goes on
pub record Above (a : List ℕ) (p : Place) (path : List ℕ) (rest : List Visit) (id : ℕ) : Type 0 where
  pub low : id < 4096
  pub some : id ≢ 0
  pub at : ℕ
  pub only : OnlyIn a (rec_of a empty_table id) p.folder at
  pub short : List ℕ
  pub path-is : path ≡ path_to short (name_of (slot_in a (rec_of a empty_table id) at).name)
  pub stands : StandsAt a (record { folder = id; slot = at + 1; path = length short; rec = rec_of a empty_table id }) short rest

module _ (a : List ℕ) (p : Place) (path : List ℕ) (rest : List Visit) (e : checked a empty_table ≡ 0) (S : StandsAt a p path rest) where
  same-slot : (k : ℕ) → slot_in a p.rec k ≡ slot_in a (rec_of a empty_table p.folder) k
  same-slot k = ap (λ (r : DiskINode). slot_in a r k) S.rec

  same_blocks : p.rec.blocks ≡ (rec_of a empty_table p.folder).blocks
  same_blocks = ap (λ (r : DiskINode). r.blocks) S.rec

  folder-in : FolderIn any (stored_tree a) p.folder
  unfolding is_folder_at
  folder-in = (tidy a e).folder p.folder S.folder

  module _ (l : p.slot < p.rec.blocks) where
    inside : p.slot < (rec_of a empty_table p.folder).blocks
    inside = omega (arith, same_blocks)

    line-node : is_node a (slot_in a p.rec p.slot).id ≡ true
    line-node = subst (λ (s : DiskEntry). is_node a s.id ≡ true) (sym (same-slot p.slot)) (folder-in.later p.slot S.later inside).node

    -- what the slot names is a node's id
    pub names-below : (slot_in a p.rec p.slot).id < 4096
    names-below = node-low a e (slot_in a p.rec p.slot).id line-node

    pub names-some : (slot_in a p.rec p.slot).id ≢ 0
    names-some = node-not-zero a e (slot_in a p.rec p.slot).id line-node

    -- the slot's line comes next. Past that of another node the folder's next slot follows
    pub line_other : is_folder (rec_of a empty_table (slot_in a p.rec p.slot).id).kind ≡ false → (longer : ℕ)
        → (m : List Visit) × (rest ≡ visit (stored_tree a) p.folder path p.slot ∷ m) × StandsAt a (past_line p (slot_in a p.rec p.slot).id (rec_of a empty_table (slot_in a p.rec p.slot).id) longer) path m
    unfolding GoesOn
    line_other h longer =
        let g = goes_on (stored_tree a) p.folder p.slot path rest S.ahead inside (subst (λ (s : DiskEntry). is_folder (rec_of a empty_table s.id).kind ≡ false) (same-slot p.slot) h) in (
          g.0,
          g.1,
          subst (λ (q : Place). StandsAt a q path g.0) (sym (past-on p _ _ longer h))
              record {
                ahead = subst (λ (k : ℕ). ToCome (stored_tree a) p.folder k path g.0) (sym (add-one p.slot)) g.2;
                later = omega (arith, S.later);
                folder = S.folder;
                long = S.long;
                rec = S.rec;
              },
        )

    -- and past that of a folder this folder's slots, under the line's own path
    pub line-folder : is_folder (rec_of a empty_table (slot_in a p.rec p.slot).id).kind ≡ true
        → (m : List Visit) × (rest ≡ visit (stored_tree a) p.folder path p.slot ∷ m)
        × StandsAt a (past_line p (slot_in a p.rec p.slot).id (rec_of a empty_table (slot_in a p.rec p.slot).id) (1 + length (escape (name_of (slot_in a p.rec p.slot).name)))) (visit (stored_tree a) p.folder path p.slot).path m
    unfolding is_folder_at Enters
    line-folder h =
        let s : DiskEntry = slot_in a p.rec p.slot in
        let g = enters (stored_tree a) p.folder p.slot path rest S.ahead S.later inside (subst (λ (s : DiskEntry). is_folder (rec_of a empty_table s.id).kind ≡ true) (same-slot p.slot) h) in (
          g.0,
          g.1,
          subst (λ (q : Place). StandsAt a q (visit (stored_tree a) p.folder path p.slot).path g.0) (sym (past-into p _ _ _ h))
              record {
                ahead = subst (λ (x : DiskEntry). ToCome (stored_tree a) x.id 2 (visit (stored_tree a) p.folder path p.slot).path g.0) (sym (same-slot p.slot)) g.2;
                later = omega arith;
                folder = and_both line-node h;
                long = ap (λ (n : ℕ). n + (1 + length (escape (name_of s.name)))) S.long ∙ sym (path-long path (name_of s.name)) ∙ ap (λ (x : DiskEntry). length (path_to path (name_of x.name))) (same-slot p.slot);
                rec = refl;
              },
        )

  -- ---- past a folder's last slot

  module _ (l : p.rec.blocks ≤ p.slot) where
    outside : (rec_of a empty_table p.folder).blocks ≤ p.slot
    outside = omega (arith, same_blocks)

    pub root_ends : p.folder ≡ 2 → rest ≡ []
    unfolding Ends
    root_ends z =
        ends (stored_tree a) p.slot path rest (tidy a e) (subst (λ (f : ℕ). ToCome (stored_tree a) f p.slot path rest) z S.ahead)
        (subst (λ (f : ℕ). (rec_of a empty_table f).blocks ≤ p.slot) z outside)

    went : (W : WentUp (stored_tree a) p.folder path rest) → Above a p path rest W.above
    unfolding is_folder_at
    went W =
        let v : Tree = stored_tree a in
        let F : is_folder_at a empty_table W.above ≡ true = (come-lives v W.above (suc W.at) W.short rest (tidy a e) W.rest).folder in
        let n = folder-node a empty_table W.above F in
        record {
          low = node-low a e W.above n;
          some = node-not-zero a e W.above n;
          at = W.at;
          only = record { later = W.later; inside = W.inside; names = W.names; only = W.only };
          short = W.short;
          path-is = W.path;
          stands = record {
            ahead = subst (λ (k : ℕ). ToCome v W.above k W.short rest) (sym (add-one W.at)) W.rest;
            later = omega (arith, W.later);
            folder = F;
            long = refl;
            rec = refl;
          };
        }

    pub above : p.folder ≢ 2 → (id : ℕ) → id ≡ (slot_in a p.rec 1).id → Above a p path rest id
    unfolding GoesUp
    above n id q =
        let W = goes-up (stored_tree a) p.folder p.slot path rest (tidy a e) S.ahead outside n in
        subst (Above a p path rest) (W.is ∙ sym (q ∙ ap (λ (s : DiskEntry). s.id) (same-slot 1))) (went W)

-- ---- up

module _ (a : List ℕ) (p : Place) (path : List ℕ) (rest : List Visit) (S : StandsAt a p path rest) (id : ℕ) (A : Above a p path rest id) (r : DiskINode) (q : r ≡ rec_of a empty_table id) where
  -- the slot that is looked for
  pub above-only : OnlyIn a r p.folder A.at
  above-only = subst (λ (x : DiskINode). OnlyIn a x p.folder A.at) (sym q) A.only

  module _ (k n : ℕ) (x : k ≡ A.at) (y : n ≡ length (escape (name_of (slot_in a r k).name))) where
    own-long : n ≡ length (escape (name_of (slot_in a (rec_of a empty_table id) A.at).name))
    own-long = y ∙ ap (λ (d : DiskINode). length (escape (name_of (slot_in a d k).name))) q ∙ ap (λ (j : ℕ). length (escape (name_of (slot_in a (rec_of a empty_table id) j).name))) x

    -- the path's length: that of the shorter one, a slash and the name
    pub up-long : p.path ≡ length A.short + (1 + n)
    up-long = omega (arith, S.long, ap length A.path-is, path-long A.short (name_of (slot_in a (rec_of a empty_table id) A.at).name), own-long)

    pub went_up : Up a p path rest (record { folder = id; slot = k + 1; path = p.path - 1 - n; rec = r })
    unfolding path_to
    went_up =
        let z : p.path - 1 - n ≡ length A.short = omega (arith, up-long) in
        record {
          short = A.short;
          cut = 47 ∷ escape (name_of (slot_in a (rec_of a empty_table id) A.at).name);
          path-is = A.path-is;
          shorter = omega (arith, up-long);
          stands = subst (λ (w : Place). StandsAt a w A.short rest) (λ i. record { folder = id; slot = sym x i + 1; path = sym z i; rec = sym q i }) A.stands;
        }
