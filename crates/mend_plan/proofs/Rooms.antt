-- Blocks that are lacking, and blocks that files give back.
use mathlib.Core.Path.{◌≡◌, refl, sym, ap, ap₂, ◌∙◌}
use mathlib.Core.Bool.{Bool, true, false, not, ◌&&◌}
use mathlib.Core.List.{List}
use mathlib.Core.Logic.{◌≢◌, ⊎_elim}
use Prim.Native.Nat.{ℕ, suc, ◌+◌, ◌*◌, ◌-◌, ◌/◌, ◌≤◌, ◌<◌}
use native.Mathlib.Nat.{zero-add, add-zero}
use native.Mathlib.Numerals.{add-one}
use native.Mathlib.Omega.{arith}
use lib.Dec.{eqb, leb}
use mir.Val.{bool_byte}
use lib.ListN.{length, get_or}
use borrow.Author.Tests.{le-leb, lt-leb, eq-eqb, ne_eqb}
use Rattle.base.specs.Count.{bit, sum_to, count_to}
use Rattle.base.specs.Parts.{part}
use Rattle.base.proofs.Bools.{true-false, and_both, and_parts}
use Rattle.base.proofs.Numbers.{lt-or-le}
use Rattle.base.proofs.Parts.{part-part}
use Rattle.base.proofs.Sames.{test-fails}
use Rattle.arena.specs.Blocks.{blk, blocks}
use Rattle.arena.specs.Fields.{file, file_of}
use Rattle.arena.specs.Places.{head_of}
use Rattle.arena.proofs.Blocks.{get_or-blk, legal-is}
use Rattle.files.specs.Store.{touched}
use Rattle.files_laws.specs.Laws.{lacking, own_count}
use Rattle.sefs.specs.Meta.{meta_file}
use Rattle.sefs.specs.Nodes.{node_file}
use Rattle.chains.specs.Led.{block_at}
use Rattle.plans.specs.Plan.{Places, absent_to}
use Rattle.plans.proofs.Plans.{absent_more}
use Rattle.mending.specs.Mendable.{rec_in, mendable}
use Rattle.mending.specs.Mend.{lost, changed}
use Rattle.mending.specs.Room.{wanted_to, given_back_to}
use Rattle.mending.proofs.Fates.{lost-says}
use Rattle.mending.proofs.Frees.{back_more}
use Rattle.mending.proofs.Stores.{want-more}
use Rattle.mend_plan.specs.Plan.{gone, Fated, Placed}
use Rattle.mend_plan.proofs.Records.{can-mend}
use Rattle.mend_plan.proofs.Fates.{lost-fate, fate-lost, changed-is, head-here, head-below, head-file}

-- a test as a number, as a conversion makes it
pub bit_of : (b : Bool) → bool_byte b ≡ bit b
bit_of true = refl
bit_of false = refl

-- whether a fate is one with which a record is stored
pub stored_yes : (x : ℕ) → (x ≡ 0 → ⊥) → (x ≡ gone → ⊥) → (not (eqb x 0) && not (eqb x gone)) ≡ true
stored_yes x d e = and_both (ap not (ne_eqb x 0 d)) (ap not (ne_eqb x gone e))

pub stored_no : (x : ℕ) → ((x ≡ 0 → ⊥) → (x ≡ gone → ⊥) → ⊥) → (not (eqb x 0) && not (eqb x gone)) ≡ false
stored_no x e =
    test-fails _ (λ y.
    let p = and_parts (not (eqb x 0)) (not (eqb x gone)) y in
    e (λ z. true-false p.0 (ap not (eq-eqb x 0 z))) (λ z. true-false p.1 (ap not (eq-eqb x gone z))))

-- ---- a record's blocks

pub one-or-two : (id : ℕ) → touched (128 * id) 112 ≢ 1 → touched (128 * id) 112 ≡ 2
unfolding touched
one-or-two id d = omega arith

-- the second is none past the last
pub second_below : (id : ℕ) → id < 4096 → touched (128 * id) 112 ≢ 1 → 128 * id / 480 + 1 < 1093
unfolding touched
second_below id l d = omega arith

module _ (a places : List ℕ) (P : Placed a places) (id : ℕ) where
  absent-first : 128 * id / 480 < 1093 → bit (eqb (get_or places (128 * id / 480) 0) 0) ≡ absent_to a meta_file (128 * id) 1
  unfolding count_to sum_to
  absent-first l =
      absent_more a meta_file (128 * id) 0 (get_or places (128 * id / 480) 0) (P.each (128 * id / 480) l ∙ ap (block_at a meta_file) (sym (add-zero (128 * id / 480)))) 0
      (bit (eqb (get_or places (128 * id / 480) 0) 0)) refl (omega arith)

  pub lacks-one : 128 * id / 480 < 1093 → touched (128 * id) 112 ≡ 1 → bit (eqb (get_or places (128 * id / 480) 0) 0) ≡ lacking a meta_file (128 * id) 112
  unfolding lacking
  lacks-one l e = absent-first l ∙ ap (absent_to a meta_file (128 * id)) (sym e)

  pub lacks-two : 128 * id / 480 + 1 < 1093 → touched (128 * id) 112 ≡ 2 → bit (eqb (get_or places (128 * id / 480) 0) 0) + bit (eqb (get_or places (128 * id / 480 + 1) 0) 0) ≡ lacking a meta_file (128 * id) 112
  unfolding lacking
  lacks-two l e =
      absent_more a meta_file (128 * id) 1 (get_or places (128 * id / 480 + 1) 0) (P.each (128 * id / 480 + 1) l) (bit (eqb (get_or places (128 * id / 480) 0) 0))
      (bit (eqb (get_or places (128 * id / 480) 0) 0) + bit (eqb (get_or places (128 * id / 480 + 1) 0) 0)) (absent-first (omega arith)) refl
      ∙ ap (absent_to a meta_file (128 * id)) (sym e)

pub all_placed : (a places : List ℕ) → length places ≡ 1093 → Places a meta_file 0 places 1093 → Placed a places
all_placed a places e P = record { size = e; each = λ q l. P q l ∙ ap (block_at a meta_file) (zero-add q) }

pub blocks-most : (a : List ℕ) → mendable a ≡ true → blocks a ≤ 4096
blocks-most a m = let M = can-mend a m in (legal-is a M.rule1.length).most

-- ---- the sums, an id more

module _ (a work : List ℕ) (n id : ℕ) (m : mendable a ≡ true) (F : Fated a work n) (l : id < n) (c d k : ℕ) where
  told : (not (eqb (get_or work id 0) 0) && not (eqb (get_or work id 0) gone)) ≡ changed a id
  told = ap (λ (x : ℕ). not (eqb x 0) && not (eqb x gone)) (F.fate id l) ∙ changed-is a (can-mend a m) id

  pub wanted-yes : c ≡ wanted_to a id → (get_or work id 0 ≡ 0 → ⊥) → (get_or work id 0 ≡ gone → ⊥) → k ≡ lacking a meta_file (128 * id) 112 → d ≡ c + k → d ≡ wanted_to a (id + 1)
  wanted-yes so d e is q = omega (arith, ap (wanted_to a) (add-one id), want-more a id true (sym told ∙ stored_yes _ d e))

  pub wanted-no : c ≡ wanted_to a id → ((get_or work id 0 ≡ 0 → ⊥) → (get_or work id 0 ≡ gone → ⊥) → ⊥) → d ≡ c → d ≡ wanted_to a (id + 1)
  wanted-no so e q = omega (arith, ap (wanted_to a) (add-one id), want-more a id false (sym told ∙ stored_no _ e))

  pub back-yes : c ≡ given_back_to a id → lost a id ≡ true → k ≡ own_count a (node_file (rec_in a id)) → d ≡ c + k → d ≡ given_back_to a (id + 1)
  back-yes so e is q = omega (arith, ap (given_back_to a) (add-one id), back_more a id true e)

  pub back-no : c ≡ given_back_to a id → (get_or work id 0 ≡ gone → ⊥) → d ≡ c → d ≡ given_back_to a (id + 1)
  back-no so e q =
      let f : lost a id ≡ false = test-fails (lost a id) (λ y. e (F.fate id l ∙ lost-fate a id y)) in
      omega (arith, ap (given_back_to a) (add-one id), back_more a id false f)

-- ---- the file of an id that goes

module _ (a work : List ℕ) (n id : ℕ) (m : mendable a ≡ true) (F : Fated a work n) (l : id < n) (gone-here : get_or work id 0 ≡ gone) where
  pub goes : lost a id ≡ true
  goes = fate-lost a (can-mend a m) id (sym (F.fate id l) ∙ gone-here)

  head-is : get_or work (4096 + id) 0 ≡ suc (head_of a (node_file (rec_in a id)))
  head-is = let x = (lost-says a id goes).0 in F.head id l x ∙ head-here a (can-mend a m) id x

  pub head_in : (h : ℕ) → h ≡ get_or work (4096 + id) 0 → (0 < h) × (h - 1 < blocks a)
  head_in h e = (omega (arith, head-is), omega (arith, head-is, head-below a (can-mend a m) id (lost-says a id goes).0))

  pub gone-file : (h : ℕ) → h ≡ get_or work (4096 + id) 0 → file_of (blk a (h - 1)) ≡ node_file (rec_in a id)
  gone-file h e =
      ap (λ (k : ℕ). file_of (blk a k)) (let q : h - 1 ≡ head_of a (node_file (rec_in a id)) = omega (arith, head-is) in q) ∙ head-file a (can-mend a m) id (lost-says a id goes).0

-- ---- the file of a block

pub block-file : (a : List ℕ) (k w : ℕ) (name : List ℕ) → w ≡ get_or a (512 * k + 1) 0 → name ≡ part a (512 * k + 4) (512 * k + 20) → file w name ≡ file_of (blk a k)
unfolding blk
block-file a k w name e f = ap₂ file (e ∙ sym (get_or-blk a k 1 (omega arith))) (f ∙ sym (part-part a (512 * k) (512 * k + 512) 4 20 (omega arith)))

-- ---- as the code compares them: what is wanted with the free blocks, and only then with those that are given back

pub room-free : (w f b x y : ℕ) → x ≡ w → y ≡ f → x ≤ y → true ≡ leb w (f + b)
room-free w f b x y p q l = sym (le-leb w (f + b) (omega arith))

pub room_back : (w f b x y z : ℕ) → x ≡ w → y ≡ f → z ≡ b → y < x → leb (x - y) z ≡ leb w (f + b)
room_back w f b x y z p q r l =
    ⊎_elim (λ (k : z < x - y). lt-leb (x - y) z k ∙ sym (lt-leb w (f + b) (omega arith))) (λ (k : x - y ≤ z). le-leb (x - y) z k ∙ sym (le-leb w (f + b) (omega arith))) (lt-or-le z (x - y))
