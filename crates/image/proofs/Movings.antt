-- What the start of a move between two folders gives to its steps: records, files, links, and slots that can be read.
use mathlib.Core.Path.{◌≡◌, refl, sym, ap, ◌∙◌, subst}
use mathlib.Core.Bool.{Bool, true, false, ◌&&◌}
use mathlib.Core.List.{List}
use mathlib.Core.Logic.{◌≢◌, ⊎_elim}
use Prim.Native.Nat.{ℕ, ◌+◌, ◌*◌, ◌≤◌, ◌<◌}
use native.Mathlib.Omega.{arith}
use lib.ListN.{length}
use Rattle.base.specs.Count.{bit}
use Rattle.base.specs.Out.{done}
use Rattle.base.proofs.Bools.{and_both}
use Rattle.base.proofs.Sames.{decided-yes}
use Rattle.base.proofs.Tests.{decides-leb}
use Rattle.structs.specs.Fits.{EntryFits}
use Rattle.structs.specs.Layout.{entry_of}
use Rattle.structs.specs.Types.{is_folder}
use Rattle.structs.specs.declared.DiskINode.{DiskINode}
use Rattle.structs.specs.declared.DiskEntry.{DiskEntry}
use Rattle.utf8.specs.Names.{name_of, zero_at, name_bytes, EndedAt}
use Rattle.utf8.proofs.Names.{name_of-name_bytes, zero_at-name_bytes, stored-name_bytes, stored-says}
use Rattle.arena.specs.Fields.{file}
use Rattle.table.specs.declared.Table.{Table}
use Rattle.files.specs.Read.{there, length_of, read_file}
use Rattle.files.proofs.Runs.{read_done}
use Rattle.sefs.specs.State.{Fs}
use Rattle.sefs.specs.Nodes.{node_file, rec_at, id_at}
use Rattle.sefs.specs.Slots.{Slot, slot_bytes}
use Rattle.sefs.specs.Move.{Replaced, renamed}
use Rattle.rules.specs.Image.{run, is_node, rec_of, is_folder_at, slot_in, named}
use Rattle.rules.specs.Rules.{Folder, Later}
use Rattle.rules.proofs.Files.{node-below}
use Rattle.image.specs.Midway.{Fair, tree_of, Midway}
use Rattle.tree.specs.Tree.{Spelling, Tidy, LinkedIn, RemovedIn, Lives}
use Rattle.tree.proofs.Trees.{lives-linked}
use Rattle.image.proofs.TreeOf.{named-tree, tidy-six}
use Rattle.image.proofs.Freed.{slot_counts}
use Rattle.image.proofs.Drops.{mid-rec}
use Rattle.image.proofs.NewNames.{entry-fits}
use Rattle.image.proofs.Moving.{Moving, LiveFolder}

-- a slot inside a folder's file, of one of the types, can be read
pub slot_read : (a : List ℕ) (r : DiskINode) (k : ℕ) → there a (node_file r) ≡ true → 264 * k + 264 ≤ length_of a (node_file r) → (slot_in a r k).kind ≤ 4
    → slot_bytes a r k ≡ done (run a (node_file r) (264 * k) 264)
unfolding slot_bytes slot_in
slot_read a r k h l m =
    let e : read_file a (node_file r) (264 * k) 264 ≡ done (run a (node_file r) (264 * k) 264) = read_done a (node_file r) (264 * k) 264 h l in
    rw (e, decided-yes (decides-leb (entry_of (run a (node_file r) (264 * k) 264)).kind 4) m)

-- a node that a slot names has the links that go with a slot
pub named-links : {style : Spelling} (a : List ℕ) (t : Table) → Fair style a t → (x : ℕ) → is_node a x ≡ true → 1 ≤ named a t x → 1 + bit (is_folder (rec_of a t x).kind) ≤ (rec_of a t x).nlinks
named-links {style = style} a t A x n counted = by (is_folder (rec_of a t x).kind) refl
  where
    I : Tidy style (tree_of a t)
    I = A.tidy

    by : (b : Bool) → is_folder (rec_of a t x).kind ≡ b → 1 + bit (is_folder (rec_of a t x).kind) ≤ (rec_of a t x).nlinks
    by true e =
        ⊎_elim
        (λ (h : LinkedIn (tree_of a t) x). omega (arith, h.links, ap bit e))
        (λ (h : RemovedIn (tree_of a t) x). absurd (omega (arith, h.unnamed, counted, named-tree a t x)))
        (I.either x (λ y. n y && e y))
    by false e = omega (arith, ap bit e, I.other x n (λ y. n y && e y), counted, named-tree a t x)

-- ---- a folder with links

module _ {style : Spelling} {own : ℕ → Type 0} (s : Fs) (M : Midway style own s.arena s.table) (i : ℕ) (G : LiveFolder s i) where
  pub live-rec : rec_of s.arena s.table (id_at s i) ≡ rec_at s i
  live-rec = mid-rec s.arena s.table M.formed i G.used

  pub live-node : is_node s.arena (id_at s i) ≡ true
  live-node = M.fair.rule4.node i G.used.below G.used.node

  pub live-lives : Lives (tree_of s.arena s.table) (id_at s i)
  live-lives = record { folder = and_both live-node (ap (λ (r : DiskINode). is_folder r.kind) live-rec ∙ G.folder); links = λ z. G.links (ap (λ (r : DiskINode). r.nlinks) (sym live-rec) ∙ z) }

  pub live-folder-at : is_folder_at s.arena s.table (id_at s i) ≡ true
  unfolding is_folder_at
  live-folder-at = live-lives.folder

  pub live-links : 2 ≤ (rec_at s i).nlinks
  live-links =
      let h = lives-linked (tree_of s.arena s.table) M.fair.tidy (id_at s i) live-lives in
      omega (arith, h.links, ap (λ (r : DiskINode). r.nlinks) live-rec)

  F : Folder s.arena s.table (id_at s i)
  F = (tidy-six s.arena s.table M.fair.tidy).folder (id_at s i) live-folder-at

  pub live-there : there s.arena (file 1 (rec_at s i).file) ≡ true
  live-there = ap (λ (r : DiskINode). there s.arena (node_file r)) (sym live-rec) ∙ M.fair.rule5.own (id_at s i) live-node

  pub live-long : length_of s.arena (file 1 (rec_at s i).file) ≡ 264 * (rec_at s i).blocks
  live-long = subst (λ (r : DiskINode). length_of s.arena (node_file r) ≡ 264 * r.blocks) live-rec F.length

  -- a later slot names a node of its type, which is one of the four
  pub live-later : (k : ℕ) → 2 ≤ k → k < (rec_at s i).blocks → Later s.arena s.table (slot_in s.arena (rec_at s i) k)
  live-later = subst (λ (r : DiskINode). (k : ℕ) → 2 ≤ k → k < r.blocks → Later s.arena s.table (slot_in s.arena r k)) live-rec F.later

  pub live-kind : (k : ℕ) → 2 ≤ k → k < (rec_at s i).blocks → (slot_in s.arena (rec_at s i) k).kind ≤ 4
  live-kind k l m = let L = live-later k l m in omega (arith, L.kind, M.fair.rule5.most (slot_in s.arena (rec_at s i) k).id L.node)

  pub live-named : (k : ℕ) → 2 ≤ k → k < (rec_at s i).blocks → 1 ≤ named s.arena s.table (slot_in s.arena (rec_at s i) k).id
  live-named =
      subst (λ (r : DiskINode). (k : ℕ) → 2 ≤ k → k < r.blocks → 1 ≤ named s.arena s.table (slot_in s.arena r k).id) live-rec
      (λ k l m. slot_counts s.arena s.table (id_at s i) k (slot_in s.arena (rec_of s.arena s.table (id_at s i)) k).id live-folder-at l m refl)

-- ---- the slot that moves

module _ {style : Spelling} {own : ℕ → Type 0} (s : Fs) (i j : ℕ) (old : Slot) (name : List ℕ) (r : Replaced) (M : Moving style own s i j old name r) where
  L : Later s.arena s.table (slot_in s.arena (rec_at s i) old.place)
  L = live-later s M.mid i M.from old.place M.later M.inside

  pub moves-node : is_node s.arena old.entry.id ≡ true
  moves-node = ap (λ (x : DiskEntry). is_node s.arena x.id) M.is ∙ L.node

  pub moves-kind : (rec_of s.arena s.table old.entry.id).kind ≡ old.entry.kind
  moves-kind = subst (λ (x : DiskEntry). (rec_of s.arena s.table x.id).kind ≡ x.kind) (sym M.is) L.kind

  pub moves-most : old.entry.kind ≤ 4
  moves-most = omega (arith, moves-kind, M.mid.fair.rule5.most old.entry.id moves-node)

  pub moves-links : 1 + bit (is_folder (rec_of s.arena s.table old.entry.id).kind) ≤ (rec_of s.arena s.table old.entry.id).nlinks
  moves-links =
      named-links s.arena s.table M.mid.fair old.entry.id moves-node
      (subst (λ (x : DiskEntry). 1 ≤ named s.arena s.table x.id) (sym M.is) (live-named s M.mid i M.from old.place M.later M.inside))

  pub moves-fits : EntryFits (renamed old.entry name)
  moves-fits = entry-fits old.entry.id name old.entry.kind (omega (arith, node-below s.arena old.entry.id moves-node, M.mid.fair.rule3.few)) moves-most M.short M.bytes

  -- the new name, as a slot has it
  pub moves-ended : EndedAt (name_bytes name) (zero_at (name_bytes name))
  moves-ended = subst (EndedAt (name_bytes name)) (sym (zero_at-name_bytes name M.good M.short)) (stored-says (name_bytes name) (length name) (stored-name_bytes name M.good M.short))

  pub moves-name : name_of (name_bytes name) ≡ name
  moves-name = name_of-name_bytes name M.good M.short

  -- two folders have two files
  pub moves-files : id_at s i ≢ id_at s j → (rec_at s i).file ≢ (rec_at s j).file
  moves-files apart q =
      apart (M.mid.fair.rule5.distinct (id_at s i) (id_at s j) (live-node s M.mid i M.from) (live-node s M.mid j M.to)
      (ap (λ (x : DiskINode). x.file) (live-rec s M.mid i M.from) ∙ q ∙ ap (λ (x : DiskINode). x.file) (sym (live-rec s M.mid j M.to))))
