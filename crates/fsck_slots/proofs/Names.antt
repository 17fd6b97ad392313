-- Names in slots: which bytes they are, their hashes, and whether a lower slot has one.
use mathlib.Core.Path.{◌≡◌, refl, sym, ap, ap₂, ◌∙◌, subst}
use mathlib.Core.Bool.{Bool, true, false, ◌||◌, true≢false}
use mathlib.Core.List.{List}
use mathlib.Core.Logic.{⊎_elim}
use Prim.Native.Nat.{ℕ, ◌+◌, ◌*◌, ◌%◌, ◌≤◌, ◌<◌}
use native.Mathlib.Numerals.{add-one}
use native.Mathlib.Omega.{arith}
use lib.Dec.{eqb, ltb, leb}
use lib.ListN.{length, get_or, set, length-set}
use lib.Seq.{get_or-set_same, get_or-set_other}
use borrow.Author.Tests.{ltb-true, ltb-false, leb-false, eqb-false, lt-ltb, le-ltb}
use Rattle.base.specs.Decides.{same}
use Rattle.base.specs.Search.{lowest}
use Rattle.base.proofs.Bools.{bool_cases}
use Rattle.base.proofs.Sames.{same_false}
use Rattle.base.proofs.Searches.{lowest-none, lowest-at-most}
use Rattle.structs.specs.Layout.{entry_of}
use Rattle.structs.specs.declared.DiskINode.{DiskINode}
use Rattle.structs.specs.declared.DiskEntry.{DiskEntry}
use Rattle.utf8.specs.Names.{name_of}
use Rattle.sefs.specs.Nodes.{node_file}
use Rattle.rules.specs.Image.{run, slot_in, later_slot}
use Rattle.fsck_slots.specs.Hash.{hash_to, hash_name, Hashed}
use Rattle.fsck_slots.specs.Slots.{bears}

-- ---- a slot's name

pub slot_is : (a : List ℕ) (r : DiskINode) (k : ℕ) (l : List ℕ) → l ≡ run a (node_file r) (264 * k) 264 → entry_of l ≡ slot_in a r k
unfolding slot_in
slot_is a r k l e = ap entry_of e

pub slot-later : (a : List ℕ) (r : DiskINode) (j : ℕ) (l : List ℕ) → l ≡ run a (node_file r) (264 * (j + 2)) 264 → entry_of l ≡ later_slot a r j
slot-later a r j l e = slot_is a r (j + 2) l e ∙ ap (slot_in a r) (let z : j + 2 ≡ 2 + j = omega arith in z)

pub named-is : (a name : List ℕ) (r : DiskINode) (k : ℕ) (l n : List ℕ) (b : Bool) → l ≡ run a (node_file r) (264 * k) 264 → n ≡ name_of (entry_of l).name → b ≡ same n name
    → b ≡ same (name_of (slot_in a r k).name) name
named-is a name r k l n b e f q =
    q ∙ ap (λ (x : List ℕ). same x name) (f ∙ ap (λ (x : DiskEntry). name_of x.name) (slot_is a r k l e))

-- ---- hashes

pub hash-none : (l : List ℕ) → 0 ≡ hash_to l 0
unfolding hash_to
hash-none l = refl

pub hash-more : (l : List ℕ) (h i w : ℕ) → h ≡ hash_to l i → w ≡ get_or l i 0 → (h * 257 + w + 1) % 65521 ≡ hash_to l (i + 1)
unfolding hash_to
hash-more l h i w e f = ap₂ (λ (x y : ℕ). (x * 257 + y + 1) % 65521) e f ∙ sym (ap (hash_to l) (add-one i))

pub hash-all : (l : List ℕ) (h i : ℕ) → h ≡ hash_to l i → i ≤ length l → length l ≤ i → h ≡ hash_name l
unfolding hash_name
hash-all l h i e low up = e ∙ ap (hash_to l) (let z : i ≡ length l = omega arith in z)

module _ (a : List ℕ) (r : DiskINode) (hs : List ℕ) where
  pub hashed-none : length hs ≡ 7680 → Hashed a r hs 0
  hashed-none e = record { size = e; each = λ j l _. absurd (omega arith) }

  pub hashed-less : (n j : ℕ) → j < n → Hashed a r hs n → Hashed a r hs (j + 1)
  hashed-less n j l H = record { size = H.size; each = λ i u v. H.each i (omega arith) v }

  -- the hash of later slot j's name is kept
  pub hashed-more : (j h : ℕ) (l name new : List ℕ) → Hashed a r hs j → l ≡ run a (node_file r) (264 * (j + 2)) 264 → name ≡ name_of (entry_of l).name → h ≡ hash_name name
      → new ≡ set hs j h → Hashed a r new (j + 1)
  hashed-more j h l name new H e f g q = subst (λ (x : List ℕ). Hashed a r x (j + 1)) (sym q) (record {
    size = length-set hs j h ∙ H.size;
    each = λ i u v. ⊎_elim
        (λ (y : ltb i j ≡ true). let w = ltb-true i j y in get_or-set_other hs j i h 0 (λ z. absurd (omega (arith, z, w))) ∙ H.each i w v)
        (λ (y : ltb i j ≡ false).
        let z : j ≡ i = omega (arith, ltb-false i j y) in
        subst (λ (x : ℕ). get_or (set hs j h) x 0 ≡ hash_name (name_of (later_slot a r x).name)) z
        (get_or-set_same hs j h 0 (omega (arith, z, H.size)) ∙ g ∙ ap hash_name (f ∙ ap (λ (x : DiskEntry). name_of x.name) (slot-later a r j l e))))
        (bool_cases (ltb i j));
  })

-- ---- a name among the lower slots

or-none : (x y : Bool) → (x || y) ≡ false → (x ≡ false) × (y ≡ false)
or-none true y e = absurd (true≢false e)
or-none false y e = (refl, e)

module _ (a name : List ℕ) (r : DiskINode) (j : ℕ) where
  -- names of different hashes differ
  pub bears-not : (hs : List ℕ) (h : ℕ) (b : Bool) → Hashed a r hs (j + 1) → h ≡ hash_name name → b ≡ (leb 7680 j || eqb (get_or hs j 0) h) → b ≡ false → false ≡ bears a r name j
  unfolding bears
  bears-not hs h b H e q f =
      let o = or-none (leb 7680 j) (eqb (get_or hs j 0) h) (sym q ∙ f) in
      let kept = H.each j (omega arith) (leb-false 7680 j o.0) in
      sym (same_false (name_of (later_slot a r j).name) name (λ s. eqb-false (get_or hs j 0) h o.1 (kept ∙ ap hash_name s ∙ sym e)))

  pub bears-same : (b : Bool) → b ≡ same (name_of (slot_in a r (j + 2)).name) name → b ≡ bears a r name j
  unfolding bears
  bears-same b q = q ∙ ap (λ (x : ℕ). same (name_of (slot_in a r x).name) name) (let z : j + 2 ≡ 2 + j = omega arith in z)

module _ (p : ℕ → Bool) where
  pub found-one : (n j : ℕ) → j < n → p j ≡ true → true ≡ ltb (lowest p n) n
  found-one n j l e = sym (lt-ltb (lowest p n) n (omega (arith, lowest-at-most p n j l e)))

  pub found_none : (n j : ℕ) → n ≤ j → ((i : ℕ) → i < j → p i ≡ false) → false ≡ ltb (lowest p n) n
  found_none n j l h = sym (le-ltb (lowest p n) n (omega (arith, lowest-none p n (λ i u. h i (omega arith)))))
