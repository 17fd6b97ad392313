-- An arena has 8,192 later slots at most, so that no count of them needs more than 16 bits: a later slot's name is not empty, so its first byte is in a
-- block of the arena, and in one block two names begin at most.
use mathlib.Core.Path.{◌≡◌, refl, sym, ap, ◌∙◌}
use mathlib.Core.Bool.{Bool, true, false}
use mathlib.Core.List.{List, [], ◌∷◌}
use mathlib.Core.Logic.{⊎_elim}
use Prim.Native.Nat.{ℕ, zero, suc, ◌+◌, ◌*◌, ◌-◌, ◌/◌, ◌%◌, ◌≤◌, ◌<◌}
use native.Mathlib.Omega.{arith}
use lib.Dec.{eqb, ltb, leb}
use lib.ListN.{length, get_or, take}
use borrow.Author.Tests.{lt-ltb, le-ltb, leb-true, eq-eqb}
use Rattle.base.specs.Count.{sum_to}
use Rattle.base.specs.Search.{pick, lowest}
use Rattle.base.proofs.Bools.{bool_cases, and_parts}
use Rattle.base.proofs.Counts.{sum_to-le, sum_to-part, count_to-le, pigeon}
use Rattle.base.proofs.Lists.{get_or-tab, get_d_part}
use Rattle.base.proofs.Numbers.{lt-or-le}
use Rattle.base.proofs.Searches.{lowest-at-most}
use Rattle.structs.specs.Layout.{entry_of}
use Rattle.structs.specs.Types.{is_folder}
use Rattle.utf8.specs.Names.{name_of, zero_at}
use Rattle.table.specs.declared.Table.{Table}
use Rattle.arena.specs.Blocks.{blk, blocks, legal}
use Rattle.arena.specs.Fields.{File, file_of, number_of}
use Rattle.arena.specs.Places.{data_of}
use Rattle.arena.proofs.Fields.{data_is}
use Rattle.files.specs.Read.{present, byte_at}
use Rattle.files_laws.proofs.Views.{byte-in, byte-none, present-at, present-hit}
use Rattle.sefs.specs.Nodes.{node_file}
use Rattle.rules.specs.Image.{run, ids_in, rec_of, is_folder_at, slot_in, later_slot, later_slots, names_in, named, subfolders}
use Rattle.rules.specs.Rules.{Rule1, Rule5, Folder}
use Rattle.rules.proofs.Folders.{folder-node, folder-below}

-- ---- a number below a sum falls into one of its parts

at : (ℕ → ℕ) → ℕ → ℕ → ℕ
at g zero i = 0
at g (suc n) i = pick (ltb i (sum_to g n)) (at g n i) n

record Place (g : ℕ → ℕ) (n i k : ℕ) : Type 0 where
  below : k < n
  from : sum_to g k ≤ i
  upto : i < sum_to g k + g k

place : (g : ℕ → ℕ) (n i : ℕ) → i < sum_to g n → Place g n i (at g n i)
unfolding at sum_to
place g zero i l = absurd (omega arith)
place g (suc n) i l =
    ⊎_elim
    (λ (m : i < sum_to g n).
    let P = place g n i m in
    rw (lt-ltb i (sum_to g n) m) (record { below = omega (arith, P.below); from = P.from; upto = P.upto }))
    (λ (m : sum_to g n ≤ i). rw (le-ltb i (sum_to g n) m) (record { below = omega arith; from = m; upto = l }))
    (lt-or-le i (sum_to g n))

-- ---- a name that begins with a zero is empty

first-zero : (s : List ℕ) → get_or s 0 0 ≡ 0 → name_of s ≡ []
unfolding zero_at lowest
first-zero [] e = refl
first-zero (x ∷ s) e =
    let z : zero_at (x ∷ s) ≤ 0 = lowest-at-most (λ i. eqb (get_or (x ∷ s) i 0) 0) (length (x ∷ s)) 0 (omega arith) (eq-eqb x 0 e) in
    ap (λ (k : ℕ). take k (x ∷ s)) (let q : zero_at (x ∷ s) ≡ 0 = omega arith in q)

-- slots j and k of one block, both of them first or both of them second, are one
same-slot : (j k q : ℕ) → (264 * (2 + j) + 4) / 480 ≡ q → (264 * (2 + k) + 4) / 480 ≡ q → j % 2 ≡ k % 2 → j ≡ k
same-slot j k q e f p =
    ⊎_elim (λ (l : j < k). absurd (early j k l e f p)) (λ (l : k ≤ j). ⊎_elim (λ (m : k < j). absurd (early k j m f e (sym p))) (λ (m : j ≤ k). omega arith) (lt-or-le k j)) (lt-or-le j k)
  where
    odd : (j : ℕ) → j % 2 ≡ (j + 1) % 2 → ⊥
    odd j e = omega arith

    far : (j k : ℕ) → j + 2 ≤ k → (264 * (2 + j) + 4) / 480 ≡ q → (264 * (2 + k) + 4) / 480 ≡ q → ⊥
    far j k l e f = omega arith

    early : (j k : ℕ) → j < k → (264 * (2 + j) + 4) / 480 ≡ q → (264 * (2 + k) + 4) / 480 ≡ q → j % 2 ≡ k % 2 → ⊥
    early j k l e f p =
        ⊎_elim (λ (m : j + 1 < k). far j k (omega arith) e f) (λ (m : k ≤ j + 1). odd j (p ∙ ap (λ (n : ℕ). n % 2) (let z : k ≡ j + 1 = omega arith in z))) (lt-or-le (j + 1) k)

module _ (a : List ℕ) (t : Table) (r1 : Rule1 a) (r5 : Rule5 a t) (folders : (id : ℕ) → is_folder_at a t id ≡ true → Folder a t id) where
  later : ℕ → ℕ
  later f = pick (is_folder_at a t f) (later_slots (rec_of a t f)) 0

  -- the block that a later slot's name begins in
  number : ℕ → ℕ
  number j = (264 * (2 + j) + 4) / 480

  block : ℕ → ℕ → ℕ
  block f j = data_of a (node_file (rec_of a t f)) (number j)

  later-is : (f j : ℕ) → j < later f → (is_folder_at a t f ≡ true) × (j < later_slots (rec_of a t f))
  unfolding later
  later-is f j l = go (is_folder_at a t f) refl l
    where
      go : (b : Bool) → is_folder_at a t f ≡ b → j < pick b (later_slots (rec_of a t f)) 0 → (is_folder_at a t f ≡ true) × (j < later_slots (rec_of a t f))
      go true e l = (e, l)
      go false e l = absurd (omega arith)

  module _ (f j : ℕ) (l : j < later f) where
    folder : is_folder_at a t f ≡ true
    folder = (later-is f j l).0

    first_byte : get_or (slot_in a (rec_of a t f) (2 + j)).name 0 0 ≡ byte_at a (node_file (rec_of a t f)) (264 * (2 + j) + 4)
    unfolding slot_in entry_of
    first_byte = get_d_part (run a (node_file (rec_of a t f)) (264 * (2 + j)) 264) 4 260 0 (omega arith) ∙ get_or-tab (byte_at a (node_file (rec_of a t f))) (264 * (2 + j)) 264 4 (omega arith)

    here : present a (node_file (rec_of a t f)) (number j) ≡ true
    unfolding number
    here =
        ⊎_elim (λ e. e)
        (λ (e : present a (node_file (rec_of a t f)) ((264 * (2 + j) + 4) / 480) ≡ false).
        absurd (((folders f folder).later (2 + j) (omega arith) (let y = (later-is f j l).1 in omega arith)).some
        (first-zero (slot_in a (rec_of a t f) (2 + j)).name
        (first_byte ∙ byte-in a (node_file (rec_of a t f)) (264 * (2 + j) + 4) ∙ byte-none a (node_file (rec_of a t f)) ((264 * (2 + j) + 4) / 480) e ((264 * (2 + j) + 4) % 480)))))
        (bool_cases (present a (node_file (rec_of a t f)) ((264 * (2 + j) + 4) / 480)))

  -- two later slots with one block and one parity are one
  once : (f g j k : ℕ) → j < later f → k < later g → block f j ≡ block g k → j % 2 ≡ k % 2 → (f ≡ g) × (j ≡ k)
  unfolding number block
  once f g j k x y e p =
      let F = data_is (node_file (rec_of a t f)) (number j) (blk a (block f j)) (present-hit a (node_file (rec_of a t f)) (number j) (here f j x)) in
      let G = data_is (node_file (rec_of a t g)) (number k) (blk a (block g k)) (present-hit a (node_file (rec_of a t g)) (number k) (here g k y)) in
      let same : node_file (rec_of a t f) ≡ node_file (rec_of a t g) = sym F.of ∙ ap (λ (i : ℕ). file_of (blk a i)) e ∙ G.of in
      let q : number j ≡ number k = sym F.number ∙ ap (λ (i : ℕ). number_of (blk a i)) e ∙ G.number in (
        r5.distinct f g (folder-node a t f (folder f j x)) (folder-node a t g (folder g k y)) (ap (λ (z : File). z.name) same),
        same-slot j k (number k) q refl p,
      )

  -- ---- all later slots, one after another

  total : ℕ
  total = sum_to later (ids_in a)

  abbrev fold : ℕ → ℕ
  fold i = at later (ids_in a) i

  abbrev slot : ℕ → ℕ
  slot i = i - sum_to later (fold i)

  key : ℕ → ℕ
  key i = 2 * block (fold i) (slot i) + slot i % 2

  in-slot : (i : ℕ) → i < sum_to later (ids_in a) → slot i < later (fold i)
  in-slot i l = let P = place later (ids_in a) i l in let x = P.from in let y = P.upto in omega arith

  key_below : (i : ℕ) → i < total → key i < 2 * blocks a
  unfolding total key block
  key_below i l =
      let d = present-at a (node_file (rec_of a t (fold i))) (number (slot i)) (here (fold i) (slot i) (in-slot i l)) in
      omega (arith, d)

  key-once : (i j : ℕ) → i < total → j < total → key i ≡ key j → i ≡ j
  unfolding total key
  key-once i j x y e =
      let b : block (fold i) (slot i) ≡ block (fold j) (slot j) = halves (block (fold i) (slot i)) (block (fold j) (slot j)) (slot i) (slot j) e in
      let p : slot i % 2 ≡ slot j % 2 = rests (block (fold i) (slot i)) (block (fold j) (slot j)) (slot i) (slot j) e in
      let s = once (fold i) (fold j) (slot i) (slot j) (in-slot i x) (in-slot j y) b p in
      joins (sum_to later (fold i)) (sum_to later (fold j)) i j (place later (ids_in a) i x).from (place later (ids_in a) j y).from (ap (sum_to later) s.0) s.1
    where
      halves : (u v m n : ℕ) → 2 * u + m % 2 ≡ 2 * v + n % 2 → u ≡ v
      halves u v m n e = omega arith

      rests : (u v m n : ℕ) → 2 * u + m % 2 ≡ 2 * v + n % 2 → m % 2 ≡ n % 2
      rests u v m n e = omega arith

      joins : (u v m n : ℕ) → u ≤ m → v ≤ n → u ≡ v → m - u ≡ n - v → m ≡ n
      joins u v m n x y e d = omega arith

  slots-few : sum_to later (ids_in a) ≤ 8192
  unfolding total legal
  slots-few =
      let y = (and_parts (eqb (length a % 512) 0) _ r1.length).1 in
      let z = leb-true (blocks a) 4096 (and_parts (leb 16 (blocks a)) (leb (blocks a) 4096) y).1 in
      let n = pigeon total (2 * blocks a) key key_below key-once in
      omega (arith, z, n)

  -- ---- so the counts fit

  pub names-few : (id : ℕ) → named a t id ≤ 8192
  unfolding named names_in later
  names-few id =
      let n = sum_to-le (λ f. pick (is_folder_at a t f) (names_in a (rec_of a t f) id) 0) later (ids_in a) (λ f l. part_of f (is_folder_at a t f)) in
      omega (arith, n, slots-few)
    where
      part_of : (f : ℕ) (b : Bool) → pick b (names_in a (rec_of a t f) id) 0 ≤ pick b (later_slots (rec_of a t f)) 0
      part_of f true = count_to-le (λ j. eqb (later_slot a (rec_of a t f) j).id id) (later_slots (rec_of a t f))
      part_of f false = omega arith

  pub subs-few : (f : ℕ) → is_folder_at a t f ≡ true → subfolders a (rec_of a t f) ≤ 8192
  unfolding subfolders later
  subs-few f e =
      let n = sum_to-part later (ids_in a) f (folder-below a t f e) in
      let m = count_to-le (λ j. is_folder (later_slot a (rec_of a t f) j).kind) (later_slots (rec_of a t f)) in
      let q : later f ≡ later_slots (rec_of a t f) = ap (λ (b : Bool). pick b (later_slots (rec_of a t f)) 0) e in
      omega (arith, n, m, q, slots-few)
