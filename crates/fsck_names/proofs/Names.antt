-- A head is one block and has one name, so a node whose file's head no lower node has claimed is the lowest with its file's name.
use mathlib.Core.Path.{◌≡◌, refl, sym, ap, ◌∙◌}
use mathlib.Core.Bool.{Bool, true, false, not, ◌&&◌, ◌||◌}
use mathlib.Core.List.{List}
use mathlib.Core.Logic.{⊎_elim}
use Prim.Native.Nat.{ℕ, ◌+◌, ◌*◌, ◌-◌, ◌≤◌, ◌<◌}
use native.Mathlib.Nat.{add-zero}
use native.Mathlib.Omega.{arith}
use native.Mathlib.Decide.{ℕ_discrete}
use lib.Dec.{eqb, ltb, leb}
use lib.ListN.{get_or, set, replicate, length-set, length-replicate}
use lib.Seq.{get_or-set_same, get_or-set_other}
use borrow.Author.Tests.{eq-eqb, ne_eqb, eqb-true, lt-ltb, le-ltb, ltb-true, not-true}
use Rattle.base.specs.Count.{all_to, bit}
use Rattle.base.specs.Decides.{same}
use Rattle.base.specs.Search.{lowest, last}
use Rattle.base.proofs.Bools.{same_bool, and_parts, and_both, and_assoc, and-false}
use Rattle.base.proofs.Counts.{all_to-all, all_to-false, all_to-true, all_to-cong}
use Rattle.base.proofs.Lists.{get_d_part}
use Rattle.base.proofs.Numbers.{lt-or-le}
use Rattle.base.proofs.Parts.{get_or-zero-list}
use Rattle.base.proofs.Sames.{and-true, all_to-suc, same_true, same-own, test-fails}
use Rattle.base.proofs.Searches.{last-is, lowest-first, lowest-here, lowest-hit}
use Rattle.structs.specs.Types.{is_type}
use Rattle.structs.specs.declared.DiskINode.{DiskINode}
use Rattle.table.specs.declared.Table.{Table}
use Rattle.arena.specs.Blocks.{blk, blocks}
use Rattle.arena.specs.Fields.{File, file, tag_of, which_of, name_of, is_head}
use Rattle.arena.specs.Places.{head_of}
use Rattle.arena.proofs.Fields.{head-is, head-own}
use Rattle.sound.specs.Sound.{sound}
use Rattle.sound.specs.Chain.{is_key}
use Rattle.files.specs.Read.{there}
use Rattle.files_laws.proofs.Views.{there-at, there-hit, there-of, there-none}
use Rattle.files_laws.proofs.Parts.{sound-tidy}
use Rattle.sefs.specs.Nodes.{node_file}
use Rattle.rules.specs.Image.{ids_in, is_node, rec_of}
use Rattle.rules.specs.Tests.{has_name, node_allowed, head_allowed}
use Rattle.fsck_names.specs.Names.{claimable, owns, unclaimed, Claimed, head_claimed}

-- ---- the head that the chains lead to

module _ (a c : List ℕ) (ok : sound a ≡ true) (r : DiskINode) (n : ℕ) (is : n ≡ last (λ j. is_key true (node_file r) 0 (blk a j)) (blocks a)) where
  pub claim-missing : n ≡ 0 → false ≡ claimable a c r
  unfolding claimable
  claim-missing z =
      let L = last-is (λ j. is_key true (node_file r) 0 (blk a j)) (blocks a) in
      let t : there a (node_file r) ≡ false = there-none a (node_file r) (λ k l. L.after k (omega arith) l) in
      sym (ap (λ (b : Bool). b && eqb (get_or c (head_of a (node_file r)) 0) 0) t)

  found : 0 < n → (there a (node_file r) ≡ true) × (head_of a (node_file r) ≡ n - 1)
  found pos =
      let L = last-is (λ j. is_key true (node_file r) 0 (blk a j)) (blocks a) in
      let l : n - 1 < blocks a = omega (arith, L.most) in
      let e = L.hit (n - 1) (omega arith) in
      let t : there a (node_file r) ≡ true = there-of a (node_file r) (n - 1) l e in
      (t, (sound-tidy a ok).head (node_file r) (head_of a (node_file r)) (n - 1) (there-at a (node_file r) t) l (there-hit a (node_file r) t) e)

  claim-is : 0 < n → eqb (get_or c (n - 1) 0) 0 ≡ claimable a c r
  unfolding claimable
  claim-is pos =
      let F = found pos in
      ap (λ (k : ℕ). eqb (get_or c k 0) 0) (sym F.1) ∙ ap (λ (b : Bool). b && eqb (get_or c (head_of a (node_file r)) 0) 0) (sym F.0)

  pub claim-twice : 0 < n → (get_or c (n - 1) 0 ≡ 0 → ⊥) → false ≡ claimable a c r
  claim-twice pos z = sym (ne_eqb (get_or c (n - 1) 0) 0 z) ∙ claim-is pos

  pub claim-first : 0 < n → get_or c (n - 1) 0 ≡ 0 → true ≡ claimable a c r
  claim-first pos z = sym (eq-eqb (get_or c (n - 1) 0) 0 z) ∙ claim-is pos

  pub claim-set : 0 < n → set c (n - 1) 1 ≡ set c (head_of a (node_file r)) 1
  claim-set pos = ap (λ (k : ℕ). set c k 1) (sym (found pos).1)

-- ---- searches, and tests of all

-- one that has p is the lowest where none below it has it
first-lowest : (p : ℕ → Bool) (n i : ℕ) → i < n → p i ≡ true → eqb (lowest p n) i ≡ all_to (λ j. not (p j)) i
first-lowest p n i l e =
    same_bool (eqb (lowest p n) i) (all_to (λ j. not (p j)) i)
    (λ q. let x : lowest p n ≡ i = eqb-true (lowest p n) i q in all_to-all (λ j. not (p j)) i (λ j m. ap not ((lowest-first p n).before j (omega arith))))
    (λ q. eq-eqb (lowest p n) i (sym (lowest-here p n i l (λ j m. not-true (p j) (all_to-true (λ j. not (p j)) i q j m)) e)))

some-lowest : (p : ℕ → Bool) (n : ℕ) → ltb (lowest p n) n ≡ not (all_to (λ j. not (p j)) n)
some-lowest p n =
    ⊎_elim
    (λ l. lt-ltb (lowest p n) n l ∙ sym (ap not (all_to-false (λ j. not (p j)) n (lowest p n) l (ap not (lowest-hit p n l)))))
    (λ g. le-ltb (lowest p n) n g ∙ sym (ap not (all_to-all (λ j. not (p j)) n (λ j m. ap not ((lowest-first p n).before j (omega arith))))))
    (lt-or-le (lowest p n) n)

bit-clear : (b : Bool) → eqb (bit (not b)) 0 ≡ b
bit-clear true = refl
bit-clear false = refl

bit-set : (b : Bool) → eqb (bit b) 1 ≡ b
bit-set true = refl
bit-set false = refl

-- ---- a head's node is a node with the head's name

module _ (a : List ℕ) (t : Table) (k : ℕ) (name : List ℕ) (is : is_head (file 1 name) (blk a k) ≡ true) where
  owner-name : (j : ℕ) → owns a t k j ≡ has_name a t name j
  unfolding owns has_name
  owner-name j =
      let H = head-is (file 1 name) (blk a k) is in
      ap (λ (b : Bool). is_node a j && b)
      (same_bool (is_head (node_file (rec_of a t j)) (blk a k)) (same (rec_of a t j).file name)
      (λ e. same-own (rec_of a t j).file name (ap (λ (f : File). f.name) (sym (head-is (node_file (rec_of a t j)) (blk a k) e).of ∙ H.of)))
      (λ e. head-own (node_file (rec_of a t j)) (blk a k) (record { tag = H.tag; of = H.of ∙ ap (file 1) (sym (same_true (rec_of a t j).file name e)) })))

  unclaimed-name : (n : ℕ) → unclaimed a t k n ≡ all_to (λ j. not (has_name a t name j)) n
  unfolding unclaimed
  unclaimed-name n = all_to-cong (λ j. not (owns a t k j)) (λ j. not (has_name a t name j)) n (λ j l. ap not (owner-name j))

-- ---- a node

and-not : (x y z : Bool) → (x && y) ≡ false → (x && (y && z)) ≡ false
and-not x y z e = sym (and_assoc x y z) ∙ ap (λ (b : Bool). b && z) e

and_then : (x y z : Bool) → (x && y) ≡ true → (x && (y && z)) ≡ z
and_then x y z e = sym (and_assoc x y z) ∙ ap (λ (b : Bool). b && z) e

and_same : (x y z : Bool) → (x ≡ true → y ≡ z) → (x && y) ≡ (x && z)
and_same true y z h = h refl
and_same false y z h = refl

module _ (a : List ℕ) (t : Table) (id : ℕ) where
  abbrev rec : DiskINode
  rec = rec_of a t id

  node-below : is_node a id ≡ true → id < ids_in a
  unfolding is_node
  node-below e = ltb-true id (ids_in a) (and_parts (ltb id (ids_in a)) _ e).0

  own_name : is_node a id ≡ true → has_name a t rec.file id ≡ true
  unfolding has_name
  own_name e = and_both e (same-own rec.file rec.file refl)

  pub node-other : is_node a id ≡ false → true ≡ node_allowed a t id
  unfolding node_allowed
  node-other e = sym (rw e refl)

  pub node-kind : is_node a id ≡ true → is_type rec.kind ≡ false → false ≡ node_allowed a t id
  unfolding node_allowed
  node-kind e f = sym (rw e (and-not (leb 1 rec.kind) (leb rec.kind 4) _ f))

  module _ (c : List ℕ) (C : Claimed a t c id) where
    name-first : is_node a id ≡ true → there a (node_file rec) ≡ true
        → eqb (get_or c (head_of a (node_file rec)) 0) 0 ≡ eqb (lowest (has_name a t rec.file) (ids_in a)) id
    name-first e h =
        let k : ℕ = head_of a (node_file rec) in
        ap (λ (x : ℕ). eqb x 0) (C.each k (there-at a (node_file rec) h))
        ∙ bit-clear (unclaimed a t k id)
        ∙ unclaimed-name a t k rec.file (there-hit a (node_file rec) h) id
        ∙ sym (first-lowest (has_name a t rec.file) (ids_in a) id (node-below e) (own_name e))

    pub node-claim : is_node a id ≡ true → is_type rec.kind ≡ true → claimable a c rec ≡ node_allowed a t id
    unfolding node_allowed claimable
    node-claim e f =
        and_same (there a (node_file rec)) (eqb (get_or c (head_of a (node_file rec)) 0) 0) (eqb (lowest (has_name a t rec.file) (ids_in a)) id) (name-first e)
        ∙ sym (rw e (and_then (leb 1 rec.kind) (leb rec.kind 4) _ f))

    unclaimed-same : (k : ℕ) → owns a t k id ≡ false → unclaimed a t k (id + 1) ≡ unclaimed a t k id
    unfolding unclaimed
    unclaimed-same k e =
        all_to-suc (λ j. not (owns a t k j)) id
        ∙ ap (λ (b : Bool). all_to (λ j. not (owns a t k j)) id && not b) e
        ∙ and-true (all_to (λ j. not (owns a t k j)) id)

    unclaimed-not : (k : ℕ) → owns a t k id ≡ true → unclaimed a t k (id + 1) ≡ false
    unfolding unclaimed
    unclaimed-not k e =
        all_to-suc (λ j. not (owns a t k j)) id
        ∙ ap (λ (b : Bool). all_to (λ j. not (owns a t k j)) id && not b) e
        ∙ and-false (all_to (λ j. not (owns a t k j)) id)

    each_same : (k : ℕ) → k < blocks a → owns a t k id ≡ false → get_or c k 0 ≡ bit (not (unclaimed a t k (id + 1)))
    each_same k l e = C.each k l ∙ ap (λ (b : Bool). bit (not b)) (sym (unclaimed-same k e))

    pub claimed-other : is_node a id ≡ false → Claimed a t c (id + 1)
    unfolding owns
    claimed-other e = record {
      size = C.size;
      each = λ k l. each_same k l (ap (λ (b : Bool). b && is_head (node_file rec) (blk a k)) e);
    }

    claimed-set : sound a ≡ true → blocks a ≤ 4096 → is_node a id ≡ true → there a (node_file rec) ≡ true → Claimed a t (set c (head_of a (node_file rec)) 1) (id + 1)
    unfolding owns
    claimed-set ok most e h =
        let i : ℕ = head_of a (node_file rec) in
        let il : i < blocks a = there-at a (node_file rec) h in
        let hit : is_head (node_file rec) (blk a i) ≡ true = there-hit a (node_file rec) h in
        record {
          size = length-set c i 1 ∙ C.size;
          each = λ k l. elim (ℕ_discrete k i) [
            | yes q ↦ ap (λ (x : ℕ). get_or (set c i 1) x 0) q
                ∙ get_or-set_same c i 1 0 (omega (arith, C.size))
                ∙ ap (λ (b : Bool). bit (not b)) (sym (unclaimed-not k (and_both e (ap (λ (x : ℕ). is_head (node_file rec) (blk a x)) q ∙ hit))))
            | no n ↦ get_or-set_other c i k 1 0 n
                ∙ each_same k l (test-fails (owns a t k id) (λ o. n ((sound-tidy a ok).head (node_file rec) k i l il (and_parts (is_node a id) (is_head (node_file rec) (blk a k)) o).1 hit)))
          ];
        }

    pub claimed-more : sound a ≡ true → blocks a ≤ 4096 → is_node a id ≡ true → claimable a c rec ≡ true → Claimed a t (set c (head_of a (node_file rec)) 1) (id + 1)
    unfolding claimable
    claimed-more ok most e f = claimed-set ok most e (and_parts (there a (node_file rec)) _ f).0

pub claimed-none : (a : List ℕ) (t : Table) → Claimed a t (replicate 4096 0) 0
unfolding unclaimed all_to
claimed-none a t = record { size = length-replicate {A = ℕ} 4096 0; each = λ k l. get_or-zero-list 4096 k }

-- ---- a head

module _ (a c : List ℕ) (k : ℕ) where
  pub tag_is : get_or a (512 * k) 0 ≡ tag_of (blk a k)
  unfolding blk
  tag_is = ap (λ (x : ℕ). get_or a x 0) (sym (add-zero (512 * k))) ∙ sym (get_d_part a (512 * k) (512 * k + 512) 0 (omega arith))

  pub which-is : get_or a (512 * k + 1) 0 ≡ which_of (blk a k)
  unfolding blk
  which-is = sym (get_d_part a (512 * k) (512 * k + 512) 1 (omega arith))

or_same : (x y z : Bool) → (x ≡ true → y ≡ z) → (not x || y) ≡ (not x || z)
or_same true y z h = h refl
or_same false y z h = refl

module _ (a : List ℕ) (t : Table) (c : List ℕ) (C : Claimed a t c (ids_in a)) where
  head-same : (k : ℕ) → k < blocks a → head_claimed a c k ≡ head_allowed a t k
  unfolding head_claimed head_allowed
  head-same k l =
      or_same (eqb (tag_of (blk a k)) 1 && eqb (which_of (blk a k)) 1) _ _
      (λ e.
      let E = and_parts (eqb (tag_of (blk a k)) 1) (eqb (which_of (blk a k)) 1) e in
      let h : is_head (file 1 (name_of (blk a k))) (blk a k) ≡ true = head-own (file 1 (name_of (blk a k))) (blk a k) (record { tag = eqb-true (tag_of (blk a k)) 1 E.0; of = ap (λ (w : ℕ). file w (name_of (blk a k))) (eqb-true (which_of (blk a k)) 1 E.1) }) in
      ap (λ (x : ℕ). eqb x 1) (C.each k l)
      ∙ bit-set (not (unclaimed a t k (ids_in a)))
      ∙ ap not (unclaimed-name a t k (name_of (blk a k)) h (ids_in a))
      ∙ sym (some-lowest (has_name a t (name_of (blk a k))) (ids_in a)))

  pub heads-same : all_to (head_claimed a c) (blocks a) ≡ all_to (head_allowed a t) (blocks a)
  heads-same = all_to-cong (head_claimed a c) (head_allowed a t) (blocks a) head-same
