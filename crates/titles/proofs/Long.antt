-- The longest path on a pair that passes: no two folders on the way share a block, and each has a head and two blocks of data.
use mathlib.Core.Path.{◌≡◌, refl, sym, ap, ◌∙◌, subst}
use mathlib.Core.Bool.{true, false}
use mathlib.Core.List.{List, [], ◌∷◌}
use mathlib.Core.Logic.{◌≢◌, ⊎_elim}
use Prim.Native.Nat.{ℕ, zero, suc, ◌+◌, ◌*◌, ◌/◌, ◌%◌, ◌≤◌, ◌<◌}
use native.Mathlib.Omega.{arith}
use lib.Dec.{eqb}
use lib.ListN.{length, get_or}
use Rattle.base.specs.Out.{kept}
use Rattle.base.specs.Search.{pick, lowest}
use Rattle.base.proofs.Bools.{bool_cases}
use Rattle.base.proofs.Counts.{pigeon}
use Rattle.base.proofs.Finds.{test_at}
use Rattle.base.proofs.Lists.{length-tab, get_or-tab}
use Rattle.le.specs.Le.{le_at}
use Rattle.le.proofs.Laws.{le_at-join, le_at-one}
use Rattle.structs.specs.Layout.{entry_of}
use Rattle.structs.specs.declared.DiskINode.{DiskINode}
use Rattle.table.specs.declared.Table.{Table}
use Rattle.table.specs.declared.Handle.{Handle}
use Rattle.table.specs.Table.{row_at}
use Rattle.arena.specs.Blocks.{blk, blocks}
use Rattle.arena.specs.Fields.{File, tag_of, number_of, file_of, is_head, is_data}
use Rattle.arena.specs.Places.{head_of, data_of}
use Rattle.arena.proofs.Fields.{head-is, data_is}
use Rattle.files.specs.Read.{there, present, byte_at}
use Rattle.sefs.specs.Nodes.{node_file}
use Rattle.rules.specs.Image.{run, is_node, rec_of, is_folder_at, slot_in}
use Rattle.rules.specs.Rules.{Allowed}
use Rattle.paths.specs.Path.{slashed, path_of}
use Rattle.paths.proofs.Paths.{Shown, path-shows}
use Rattle.tree.specs.Tree.{any, Tree, Tidy, up, Lives}
use Rattle.tree.proofs.Trees.{folder-is}
use Rattle.tree.proofs.Ways.{lives-up, up_apart, climbs-least}
use Rattle.image.specs.Midway.{tree_of}
use Rattle.image.proofs.Handles.{row-rec, row-folder}
use Rattle.image.proofs.Images.{fair}
use Rattle.image.proofs.Nodes.{node-some}
use Rattle.sequences.specs.Pairs.{Pair, Passed}
use Rattle.sequences.proofs.Passing.{allowed}
use Rattle.sequences.proofs.Paths.{some-links}
use Rattle.titles.specs.Titles.{LongestThere}
use Rattle.titles.proofs.Walks.{found-used, shown-way}

-- four bytes that are zero are the number 0
four-zero : (l : List ℕ) (s : ℕ) → s + 4 ≤ length l → ((i : ℕ) → i < 4 → get_or l (s + i) 0 ≡ 0) → le_at l s 4 ≡ 0
four-zero l s h z =
    let a = le_at-join l s 1 3 (omega arith) in
    let b = le_at-join l (s + 1) 1 2 (omega arith) in
    let c = le_at-join l (s + 1 + 1) 1 1 (omega arith) in
    let at : (i : ℕ) → i < 4 → (k : ℕ) → k ≡ s + i → le_at l k 1 ≡ 0 = λ i g k e. le_at-one l k (omega arith) ∙ ap (λ (j : ℕ). get_or l j 0) e ∙ z i g in
    let one = at 1 (omega arith) (s + 1) (omega arith) in
    let two = at 2 (omega arith) (s + 1 + 1) (omega arith) in
    let three = at 3 (omega arith) (s + 1 + 1 + 1) (omega arith) in
    omega (arith, a, b, c, at 0 (omega arith) s (omega arith), one, two, three)

-- what a block is in its file: 0 the head, q + 1 block q
abbrev code : List ℕ → ℕ
code b = pick (eqb (tag_of b) 1) 0 (suc (number_of b))

record Is (c : ℕ) (f : File) (b : List ℕ) : Type 0 where
  which : code b ≡ c
  of : file_of b ≡ f

-- where it stands
abbrev place_of : List ℕ → File → ℕ → ℕ
place_of a f zero = head_of a f
place_of a f (suc q) = data_of a f q

head-placed : (a : List ℕ) (f : File) → there a f ≡ true → (head_of a f < blocks a) × Is 0 f (blk a (head_of a f))
unfolding there head_of
head-placed a f e =
    let o = test_at (λ j. is_head f (blk a j)) (blocks a) e in
    let H = head-is f (blk a (lowest (λ j. is_head f (blk a j)) (blocks a))) o.1 in
    (o.0, record { which = rw H.tag refl; of = H.of })

data-placed : (a : List ℕ) (f : File) (q : ℕ) → present a f q ≡ true → (data_of a f q < blocks a) × Is (suc q) f (blk a (data_of a f q))
unfolding present data_of
data-placed a f q e =
    let o = test_at (λ j. is_data f q (blk a j)) (blocks a) e in
    let H = data_is f q (blk a (lowest (λ j. is_data f q (blk a j)) (blocks a))) o.1 in
    (o.0, record { which = rw H.tag (ap suc H.number); of = H.of })

-- an absent block reads as zeros
absent-zero : (a : List ℕ) (f : File) (k q : ℕ) → k / 480 ≡ q → present a f q ≡ false → byte_at a f k ≡ 0
unfolding byte_at
absent-zero a f k q e h = rw (e, h) refl

module _ (p : Pair) (y : Passed p) where
  abbrev a : List ℕ
  a = p.arena

  abbrev t : Table
  t = p.table

  abbrev v : Tree
  v = tree_of p.arena p.table

  A : Allowed p.arena p.table
  A = allowed p y

  I : Tidy any (tree_of p.arena p.table)
  I = (fair a t A).tidy

  abbrev file_at : ℕ → File
  file_at z = node_file (rec_of a t z)

  -- four bytes of a slot, where the block that they are in is absent
  slot-zero : (z k s q : ℕ) → s + 4 ≤ 264 → ((i : ℕ) → i < 4 → (264 * k + (s + i)) / 480 ≡ q) → present a (file_at z) q ≡ false → le_at (run a (file_at z) (264 * k) 264) s 4 ≡ 0
  slot-zero z k s q h within e =
      four-zero (run a (file_at z) (264 * k) 264) s (omega (arith, length-tab (byte_at a (file_at z)) (264 * k) 264))
      (λ i l. get_or-tab (byte_at a (file_at z)) (264 * k) 264 (s + i) (omega arith) ∙ absent-zero a (file_at z) (264 * k + (s + i)) q (within i l) e)

  -- slot 0 begins in a folder's first block, with its own id; and slot 1 ends in the second, with a type
  first-there : (z : ℕ) → Lives v z → present a (file_at z) 0 ≡ true
  unfolding slot_in entry_of
  first-there z l =
      let some = node-some a t (fair a t A) z (folder-is v z l.folder) in
      ⊎_elim (λ e. e)
      (λ e. absurd (some (sym (I.folder z l.folder).own ∙ slot-zero z 0 0 0 (omega arith) (λ i h. omega arith) e)))
      (bool_cases (present a (file_at z) 0))

  second-there : (z : ℕ) → Lives v z → present a (file_at z) 1 ≡ true
  unfolding slot_in entry_of
  second-there z l =
      ⊎_elim (λ e. e)
      (λ e. absurd (omega (arith, slot-zero z 1 260 1 (omega arith) (λ i h. omega arith) e, (I.folder z l.folder).dots-kind)))
      (bool_cases (present a (file_at z) 1))

  placed : (z c : ℕ) → c < 3 → Lives v z → (place_of a (file_at z) c < blocks a) × Is c (file_at z) (blk a (place_of a (file_at z) c))
  placed z zero h l = head-placed a (file_at z) (A.rule5.own z (folder-is v z l.folder))
  placed z (suc zero) h l = data-placed a (file_at z) 0 (first-there z l)
  placed z (suc (suc zero)) h l = data-placed a (file_at z) 1 (second-there z l)
  placed z (suc (suc (suc c))) h l = absurd (omega arith)

  -- ---- three blocks for each folder on the way from x, which takes m steps to node 2 and no fewer

  module _ (x m : ℕ) (l : Lives v x) (there : up v x m ≡ 2) (before : (k : ℕ) → k < m → up v x k ≢ 2) where
    abbrev place : ℕ → ℕ
    place i = place_of a (file_at (up v x (i / 3))) (i % 3)

    at_place : (i : ℕ) → (place i < blocks a) × Is (i % 3) (file_at (up v x (i / 3))) (blk a (place i))
    at_place i = placed (up v x (i / 3)) (i % 3) (omega arith) (lives-up v I x l (i / 3))

    node-up : (k : ℕ) → is_node a (up v x k) ≡ true
    node-up k = folder-is v (up v x k) (lives-up v I x l k).folder

    one_place : (i j : ℕ) → i < 3 * (m + 1) → j < 3 * (m + 1) → place i ≡ place j → i ≡ j
    one_place i j h g e =
        let P = (at_place i).1 in
        let Q = (at_place j).1 in
        let c : i % 3 ≡ j % 3 = sym P.which ∙ ap (λ (k : ℕ). code (blk a k)) e ∙ Q.which in
        let f : file_at (up v x (i / 3)) ≡ file_at (up v x (j / 3)) = sym P.of ∙ ap (λ (k : ℕ). file_of (blk a k)) e ∙ Q.of in
        let n : up v x (i / 3) ≡ up v x (j / 3) = A.rule5.distinct (up v x (i / 3)) (up v x (j / 3)) (node-up (i / 3)) (node-up (j / 3)) (ap (λ (z : File). z.name) f) in
        let q : i / 3 ≡ j / 3 = up_apart v I x l m there before (i / 3) (j / 3) (omega arith) (omega arith) n in
        omega arith

    three-each : 3 * (m + 1) ≤ blocks a
    three-each = pigeon (3 * (m + 1)) (blocks a) place (λ i h. (at_place i).0) one_place

  -- so a way has few steps
  few-steps : (x : ℕ) → Lives v x → (m : ℕ) × (up v x m ≡ 2) × (3 * (m + 1) ≤ blocks a)
  few-steps x l = let c = climbs-least v I x l in (c.0, c.1, three-each x c.0 l c.1 c.2)

  path-long : (m : ℕ) (names : List (List ℕ)) → 3 * (m + 1) ≤ blocks a → length (slashed names) ≤ 256 * m → length (path_of names) ≤ 256 * (blocks a / 3)
  path-long m [] h g = omega arith
  path-long m (q ∷ names) h g = omega (arith, g)

  -- the folder whose path was given has links
  shown-lives : (w : ℕ) (h : Handle) (room : ℕ) (l : List ℕ) (S : Shown a t w h room l) → Lives v (row_at t S.row).id
  unfolding is_folder_at
  shown-lives w h room l S =
      let u = found-used p y w h S.row S.by in
      record {
        folder = row-folder a t A S.row u S.folder;
        links = λ z. some-links (row_at t S.row).rec.nlinks S.links (ap (λ (r : DiskINode). r.nlinks) (sym (row-rec a t A S.row u)) ∙ z);
      }

pub longest-there : LongestThere
unfolding LongestThere
longest-there p w h room l y e =
    let S = path-shows p.arena p.table w h room l e in
    let W = shown-way p y w h room l S in
    let m = few-steps p y (row_at p.table S.row).id (shown-lives p y w h room l S) in
    let same : W.names ≡ S.names = ap (kept []) (sym W.is ∙ S.climbed) in
    subst (λ (x : List ℕ). length x ≤ 256 * (blocks p.arena / 3)) (ap path_of same ∙ sym S.is)
    (path-long p y m.0 W.names m.2 (W.long m.0 m.1))
