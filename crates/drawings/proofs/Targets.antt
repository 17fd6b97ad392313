-- What is read of a symlink is the target that a walk finds there.
use mathlib.Core.Path.{◌≡◌, refl, sym, ap, ◌∙◌, subst}
use mathlib.Core.Bool.{true}
use mathlib.Core.List.{List}
use Prim.Native.Nat.{ℕ, ◌-◌, ◌≤◌, ◌<◌}
use native.Mathlib.Omega.{arith}
use lib.ListN.{length}
use borrow.Author.Tests.{le-leb}
use Rattle.base.specs.Out.{done, Ok}
use Rattle.base.specs.Parts.{tab}
use Rattle.base.proofs.Outs.{ok-done}
use Rattle.std.specs.Prelude.{Some}
use Rattle.structs.specs.declared.DiskINode.{DiskINode}
use Rattle.files.specs.Read.{there, byte_at}
use Rattle.table.specs.declared.Table.{Table}
use Rattle.table.specs.declared.Handle.{Handle}
use Rattle.table.specs.Table.{row_at, live_row}
use Rattle.table_laws.proofs.Handles.{live-means}
use Rattle.sefs.specs.Nodes.{node_file}
use Rattle.sefs.specs.Ask.{start}
use Rattle.sefs.specs.Contents.{read_bytes, call_read}
use Rattle.sefs_laws.specs.Contents.{file_at, size_at}
use Rattle.walk.specs.Walk.{Spot, look_at, target_of}
use Rattle.walk.proofs.Chains.{part-done}
use Rattle.rules.specs.Image.{rec_of, is_node}
use Rattle.image.specs.Midway.{Used}
use Rattle.image.proofs.Handles.{row-node, row-rec}
use Rattle.sequences.specs.Pairs.{Pair, Passed}
use Rattle.sequences.proofs.Passing.{allowed, spelled-any}
use Rattle.sequences.proofs.Walks.{look-law}
use Rattle.sequences.proofs.Corner.{on-used}
use Rattle.sequences.proofs.Reading.{whole-file}
use Rattle.drawings.specs.Targets.{ContentIsTarget}

module _ (p : Pair) (y : Passed p) (v : ℕ) (g : Handle) (i : ℕ) (live : live_row p.table v g ≡ Some i) where
  abbrev a : List ℕ
  a = p.arena

  abbrev t : Table
  t = p.table

  here : Used p.table i
  here = on-used a t (allowed p y) v g (row_at t i).id (row_at t i).rec.file (record { row = i; live = live; node = refl; file = refl })

  -- the node that was met has the record of that row
  same-rec : (n : Spot) → look_at (start p.arena p.table) n.id ≡ done n.rec → (row_at p.table i).id ≡ n.id → (row_at p.table i).rec ≡ n.rec
  same-rec n e q =
      let A = allowed p y in
      let node : is_node p.arena n.id ≡ true = ap (is_node a) (sym q) ∙ row-node a t A i here in
      sym (row-rec a t A i here) ∙ ap (rec_of a t) q
      ∙ ok-done (subst (Ok (λ (r : DiskINode). rec_of p.arena p.table n.id ≡ r) (λ _. Unit)) e (look-law p (spelled-any p y) n.id node))

  -- read as order 1 reads
  target-read : (target : List ℕ) (all : ℕ) → call_read p.arena p.table v g 0 all ≡ done target → length target < all → (room : ℕ) → length target ≤ room → target_of p.arena (row_at p.table i).rec room ≡ done target
  unfolding target_of read_bytes
  target-read target all reads spare room l =
      let H = whole-file p y v g target all reads spare in
      let e : H.row ≡ i = sym ((live-means t v g H.row).0 H.live).names ∙ ((live-means t v g i).0 live).names in
      let size : length target ≡ (row_at p.table i).rec.size = H.size ∙ ap (size_at t) e in
      rw (le-leb (row_at t i).rec.size room (omega (arith, size)), is-there)
      (ap done (ap (λ (m : ℕ). tab (byte_at a (file_at t i)) 0 m) (sym size) ∙ ap (λ (j : ℕ). tab (byte_at a (file_at t j)) 0 (length target)) (sym e) ∙ sym H.bytes))
    where
      is-there : there p.arena (node_file (row_at p.table i).rec) ≡ true
      is-there =
          let A = allowed p y in
          ap (λ (r : DiskINode). there a (node_file r)) (sym (row-rec a t A i here)) ∙ A.rule5.own (row_at t i).id (row-node a t A i here)

pub content-is-target : ContentIsTarget
unfolding ContentIsTarget
content-is-target p v g i room b at node l target all y e link live q reads spare fits =
    let same : (row_at p.table i).rec ≡ node.rec = same-rec p y v g i live node (part-done (start p.arena p.table) at.rec l node e).3 q in
    record {
      node = node;
      named = e;
      link = link;
      holds = ap (λ (r : DiskINode). target_of p.arena r (room - length b)) (sym same) ∙ target-read p y v g i live target all reads spare (room - length b) fits;
    }
