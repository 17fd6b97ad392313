-- What can be mended, test by test. The last one, of a folder's place, is asked in two parts: how often the folder is named, and rule 8 where it
-- has a place.
use mathlib.Core.Path.{◌≡◌, refl, sym, ap, ◌∙◌}
use mathlib.Core.Bool.{Bool, true, false, not, ◌&&◌, ◌||◌}
use mathlib.Core.List.{List}
use Prim.Native.Nat.{ℕ}
use native.Mathlib.Omega.{arith}
use lib.Dec.{eqb}
use borrow.Author.Tests.{eqb-true, ne_eqb}
use Rattle.base.specs.Count.{all_to}
use Rattle.base.specs.Search.{pick}
use Rattle.base.proofs.Bools.{true-false, and_both, and_parts}
use Rattle.base.proofs.Counts.{all_to-cong}
use Rattle.base.proofs.Sames.{all_to-and, or_no}
use Rattle.table.specs.Table.{empty_table}
use Rattle.rules.specs.Image.{ids_in, is_folder_at, named}
use Rattle.rules.specs.Tests.{test1, test3, test4, test5, folders_allowed, named_due, loose, rooted}
use Rattle.chains.specs.Led.{Led}
use Rattle.fsck_links.specs.Counts.{names_fine, folders_named}
use Rattle.fsck_climb.specs.Way.{has_place, all_rooted}
use Rattle.mending.specs.Mendable.{rec_in, place_fits, mendable}

pub led-one : {a first next : List ℕ} → Led a first next → test1 a ≡ true
unfolding test1
led-one L = and_both L.whole L.fine

-- ---- a folder's place

-- f: it is a folder; d: named as it has to be; o: loose; h: it has a place; r: rooted
two-parts : (f d o h r : Bool) → (d ≡ true → h ≡ true) → (o ≡ true → h ≡ false) → (not f || (d && r || o)) ≡ ((not f || (d || o)) && (not (f && h) || r))
two-parts false d o h r x y = refl
two-parts true true true h r x y = absurd (true-false (x refl) (y refl))
two-parts true true false h r x y = rw (x refl) (or_no r)
two-parts true false true h r x y = rw (y refl) refl
two-parts true false false h r x y = refl

-- the root, or a folder that is named once, has a place; a loose one has none
due-place : (root : Bool) (n : ℕ) → eqb n (pick root 0 1) ≡ true → (root || not (eqb n 0)) ≡ true
due-place true n e = refl
due-place false n e = ap not (ne_eqb n 0 (λ z. omega (arith, eqb-true n 1 e)))

loose-place : (root : Bool) (n m : ℕ) → (not root && (eqb n 0 && eqb m 2)) ≡ true → (root || not (eqb n 0)) ≡ false
loose-place true n m e = sym e
loose-place false n m e = ap not (and_parts (eqb n 0) (eqb m 2) e).0

module _ (a : List ℕ) where
  places : all_to (λ id. not (is_folder_at a empty_table id) || place_fits a id) (ids_in a) ≡ (folders_named a empty_table && all_rooted a empty_table)
  unfolding place_fits folders_named names_fine all_rooted has_place named_due loose
  places =
      all_to-cong (λ id. not (is_folder_at a empty_table id) || place_fits a id)
      (λ id. names_fine a empty_table id && (not (is_folder_at a empty_table id && has_place a empty_table id) || rooted a empty_table id)) (ids_in a)
      (λ id l.
      two-parts (is_folder_at a empty_table id) (named_due a empty_table id) (loose a empty_table id (rec_in a id)) (has_place a empty_table id) (rooted a empty_table id)
      (due-place (eqb id 2) (named a empty_table id)) (loose-place (eqb id 2) (named a empty_table id) (rec_in a id).blocks))
      ∙ all_to-and (names_fine a empty_table) (λ id. not (is_folder_at a empty_table id && has_place a empty_table id) || rooted a empty_table id) (ids_in a)

  -- ---- the tests in their order

  module _ (one : test1 a ≡ true) where
    pub mend-three : test3 a ≡ false → mendable a ≡ false
    unfolding mendable
    mend-three e = rw (one, e)

    pub mend-four : test3 a ≡ true → test4 a empty_table ≡ false → mendable a ≡ false
    unfolding mendable
    mend-four e f = rw (one, e, f)

    pub mend-five : test3 a ≡ true → test4 a empty_table ≡ true → test5 a empty_table ≡ false → mendable a ≡ false
    unfolding mendable
    mend-five e f g = rw (one, e, f, g)

    pub mend-folders : test3 a ≡ true → test4 a empty_table ≡ true → test5 a empty_table ≡ true → folders_allowed a empty_table ≡ false → mendable a ≡ false
    unfolding mendable
    mend-folders e f g h = rw (one, e, f, g, h)

    module _ (three : test3 a ≡ true) (four : test4 a empty_table ≡ true) (five : test5 a empty_table ≡ true) (folders : folders_allowed a empty_table ≡ true) where
      rest : mendable a ≡ (folders_named a empty_table && all_rooted a empty_table)
      unfolding mendable
      rest = rw (one, three, four, five, folders) places

      pub mend-names : folders_named a empty_table ≡ false → mendable a ≡ false
      mend-names e = rest ∙ ap (λ (b : Bool). b && all_rooted a empty_table) e

      pub mend-tree : folders_named a empty_table ≡ true → mendable a ≡ all_rooted a empty_table
      mend-tree e = rest ∙ ap (λ (b : Bool). b && all_rooted a empty_table) e
