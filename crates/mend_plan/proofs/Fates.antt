-- Fates: what the code stores for an id, and how it tells them apart.
use mathlib.Core.Path.{◌≡◌, refl, sym, ap, ◌∙◌}
use mathlib.Core.Bool.{Bool, true, false, not, ◌&&◌}
use mathlib.Core.List.{List}
use mathlib.Core.Logic.{◌≢◌, ⊎_elim}
use Prim.Native.Nat.{ℕ, suc, ◌+◌, ◌-◌, ◌≤◌, ◌<◌}
use native.Mathlib.Decide.{ℕ_discrete}
use native.Mathlib.Nat.{zero-add}
use native.Mathlib.Omega.{arith}
use lib.Dec.{eqb}
use lib.ListN.{length, get_or, set, length-set}
use lib.Seq.{get_or-set_same, get_or-set_other}
use borrow.Author.Tests.{eq-eqb, ne_eqb}
use Rattle.base.specs.Parts.{part}
use Rattle.base.specs.Search.{pick}
use Rattle.base.proofs.Bools.{bool_cases, true-false}
use Rattle.base.proofs.Finds.{eq-cases}
use Rattle.base.proofs.Lists.{get_d_part}
use Rattle.base.proofs.Sames.{test-fails}
use Rattle.structs.specs.Types.{is_folder}
use Rattle.structs.specs.declared.DiskINode.{DiskINode}
use Rattle.table.specs.Table.{empty_table}
use Rattle.arena.specs.Blocks.{blk, blocks}
use Rattle.arena.specs.Fields.{File, file_of, number_of}
use Rattle.arena.specs.Places.{head_of}
use Rattle.arena.proofs.Fields.{head-is}
use Rattle.files.specs.Read.{there, length_of}
use Rattle.files_laws.proofs.Views.{there-at, there-hit, length-here}
use Rattle.sefs.specs.Nodes.{node_file}
use Rattle.rules.specs.Image.{is_node}
use Rattle.chains.specs.Led.{head_at}
use Rattle.fsck_links.specs.Counts.{Counted}
use Rattle.mending.specs.Mendable.{rec_in, times_named, Mendable}
use Rattle.mending.specs.Mend.{lost, stays, mended, changed}
use Rattle.mending.proofs.Fates.{lost-is, stays-node, not-lost}
use Rattle.mending.proofs.Stores.{changed-stays}
use Rattle.mend_plan.specs.Plan.{gone, fate_of, Fated}
use Rattle.mend_plan.proofs.Records.{due_links, mended-links, links-most}

-- ---- who goes, who changes

module _ (a : List ℕ) (id : ℕ) where
  -- as the code asks it of a node
  pub lost-asked : is_node a id ≡ true → (x : ℕ) → x ≡ times_named a id → (not (eqb id 2) && eqb x 0) ≡ lost a id
  unfolding lost
  lost-asked n x e = rw (n, e) refl

  pub no_node : is_node a id ≡ false → fate_of a id ≡ 0
  unfolding fate_of lost changed stays
  no_node e = rw e refl

  pub lost-fate : lost a id ≡ true → fate_of a id ≡ gone
  unfolding fate_of
  lost-fate e = rw e refl

  pub stays-fate : lost a id ≡ false → (v : ℕ) → v ≡ pick (changed a id) (mended a id).nlinks 0 → v ≡ fate_of a id
  unfolding fate_of
  stays-fate e v q = rw e q

  pub lost-changed : lost a id ≡ true → changed a id ≡ false
  lost-changed e = test-fails (changed a id) (λ x. true-false e (not-lost a id (changed-stays a id x)))

  pub changed-fate : changed a id ≡ true → fate_of a id ≡ (mended a id).nlinks
  changed-fate e = sym (stays-fate (not-lost a id (changed-stays a id e)) (mended a id).nlinks (rw e refl))

module _ (a : List ℕ) (M : Mendable a) (id : ℕ) where
  -- root is a folder, and any other node that stays is named
  links-least : stays a id ≡ true → 0 < due_links a id
  links-least s =
      ⊎_elim (λ (f : is_folder (rec_in a id).kind ≡ true). rw f (omega arith))
      (λ (f : is_folder (rec_in a id).kind ≡ false).
      rw f
      (⊎_elim
      (λ (z : times_named a id ≡ 0).
      absurd
      (⊎_elim
      (λ (e : id ≡ 2). true-false (eq-eqb (rec_in a id).kind 2 (ap (λ (i : ℕ). (rec_in a i).kind) e ∙ M.rule5.root)) f)
      (λ (d : id ≢ 2). true-false (lost-is a id (stays-node a id s) d z) (not-lost a id s))
      (eq-cases id 2)))
      (λ (z : times_named a id ≢ 0). omega arith)
      (eq-cases (times_named a id) 0)))
      (bool_cases (is_folder (rec_in a id).kind))

  -- links of a record that changes: neither 0 nor gone
  links-between : changed a id ≡ true → (0 < (mended a id).nlinks) × ((mended a id).nlinks ≤ 8194)
  links-between e =
      let s = changed-stays a id e in
      (omega (arith, mended-links a id, links-least s), omega (arith, mended-links a id, links-most a M id (stays-node a id s)))

-- l: it goes; c: its record changes, and has n links then
tell-gone : (l c : Bool) (n : ℕ) → (c ≡ true → (0 < n) × (n ≤ 8194)) → pick l gone (pick c n 0) ≡ gone → l ≡ true
tell-gone true c n y e = refl
tell-gone false true n y e = absurd (let b = y refl in omega arith)
tell-gone false false n y e = absurd (omega arith)

tell-changed : (l c : Bool) (n : ℕ) → (l ≡ true → c ≡ false) → (c ≡ true → (0 < n) × (n ≤ 8194)) → (not (eqb (pick l gone (pick c n 0)) 0) && not (eqb (pick l gone (pick c n 0)) gone)) ≡ c
tell-changed true c n x y = sym (x refl)
tell-changed false true n x y = rw (ne_eqb n 0 (λ e. let b = y refl in omega arith), ne_eqb n gone (λ e. let b = y refl in omega arith)) refl
tell-changed false false n x y = refl

module _ (a : List ℕ) (M : Mendable a) (id : ℕ) where
  pub fate-lost : fate_of a id ≡ gone → lost a id ≡ true
  unfolding fate_of
  fate-lost e = tell-gone (lost a id) (changed a id) (mended a id).nlinks (links-between a M id) e

  pub changed-is : (not (eqb (fate_of a id) 0) && not (eqb (fate_of a id) gone)) ≡ changed a id
  unfolding fate_of
  changed-is = tell-changed (lost a id) (changed a id) (mended a id).nlinks (lost-changed a id) (links-between a M id)

-- ---- the head of a file

-- as the code has it: its length stands there
pub head-length : (a : List ℕ) (f : File) (h : ℕ) → h ≡ head_at a f → 0 < h → number_of (blk a (h - 1)) ≡ length_of a f
head-length a f h e l = go (there a f) refl (sym e)
  where
    go : (b : Bool) → there a f ≡ b → pick b (suc (head_of a f)) 0 ≡ h → number_of (blk a (h - 1)) ≡ length_of a f
    go true t q = sym (length-here a f t ∙ ap (λ (k : ℕ). number_of (blk a k)) (let z : head_of a f ≡ h - 1 = omega arith in z))
    go false t q = absurd (omega arith)

-- of a node's

module _ (a : List ℕ) (M : Mendable a) (id : ℕ) (n : is_node a id ≡ true) where
  pub head-here : head_at a (node_file (rec_in a id)) ≡ suc (head_of a (node_file (rec_in a id)))
  head-here = rw (M.rule5.own id n) refl

  pub head-below : head_of a (node_file (rec_in a id)) < blocks a
  head-below = there-at a (node_file (rec_in a id)) (M.rule5.own id n)

  pub head-file : file_of (blk a (head_of a (node_file (rec_in a id)))) ≡ node_file (rec_in a id)
  head-file = (head-is (node_file (rec_in a id)) (blk a (head_of a (node_file (rec_in a id)))) (there-hit a (node_file (rec_in a id)) (M.rule5.own id n))).of

  -- as the code has it
  pub head-range : (r : DiskINode) (h : ℕ) → r ≡ rec_in a id → h ≡ head_at a (node_file r) → (0 < h) × (h ≤ blocks a)
  head-range r h is e =
      let q : h ≡ suc (head_of a (node_file (rec_in a id))) = e ∙ ap (λ (x : DiskINode). head_at a (node_file x)) is ∙ head-here in
      (omega arith, omega (arith, head-below))

-- ---- what the code has stored

pub fated-first : (a work : List ℕ) → length work ≡ 8192 → Counted a empty_table (part work 0 4096) → Fated a work 0
fated-first a work e C = record {
  size = e;
  fate = λ id l. absurd (omega arith);
  head = λ id l n. absurd (omega arith);
  named = λ id g l. ap (λ (i : ℕ). get_or work i 0) (sym (zero-add id)) ∙ sym (get_d_part work 0 4096 id (omega arith)) ∙ C.each id l;
}

-- the fate goes to the first half
module _ (a work : List ℕ) (id : ℕ) (l : id < 4096) (F : Fated a work id) where
  pub fate-put : (v : ℕ) → v ≡ fate_of a id → (is_node a id ≡ true → get_or work (4096 + id) 0 ≡ head_at a (node_file (rec_in a id))) → Fated a (set work id v) (id + 1)
  fate-put v e h = record {
    size = length-set work id v ∙ F.size;
    fate = λ j k. elim (ℕ_discrete j id) [
      | yes q ↦ ap (λ (i : ℕ). get_or (set work id v) i 0) q ∙ get_or-set_same work id v 0 (omega (arith, F.size)) ∙ e ∙ ap (fate_of a) (sym q)
      | no q ↦ get_or-set_other work id j v 0 q ∙ F.fate j (omega arith)
    ];
    head = λ j k n. get_or-set_other work id (4096 + j) v 0 (λ q. omega arith) ∙ elim (ℕ_discrete j id) [
      | yes q ↦ ap (λ (i : ℕ). get_or work (4096 + i) 0) q ∙ h (ap (is_node a) (sym q) ∙ n) ∙ ap (λ (i : ℕ). head_at a (node_file (rec_in a i))) (sym q)
      | no q ↦ F.head j (omega arith) n
    ];
    named = λ j g k. get_or-set_other work id j v 0 (λ q. omega arith) ∙ F.named j (omega arith) k;
  }

-- the head goes to the second half before it
pub node-put : (a work : List ℕ) (id : ℕ) → id < 4096 → Fated a work id → (h v : ℕ) → h ≡ head_at a (node_file (rec_in a id)) → v ≡ fate_of a id
    → Fated a (set (set work (4096 + id) h) id v) (id + 1)
node-put a work id l F h v e q =
    fate-put a (set work (4096 + id) h) id l (record {
      size = length-set work (4096 + id) h ∙ F.size;
      fate = λ j k. get_or-set_other work (4096 + id) j h 0 (λ z. omega arith) ∙ F.fate j k;
      head = λ j k n. get_or-set_other work (4096 + id) (4096 + j) h 0 (λ z. omega arith) ∙ F.head j k n;
      named = λ j g k. get_or-set_other work (4096 + id) j h 0 (λ z. omega arith) ∙ F.named j g k;
    }) v q (λ n. get_or-set_same work (4096 + id) h 0 (omega (arith, F.size)) ∙ e)
