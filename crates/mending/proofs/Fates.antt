-- Who goes, who stays, and the record of one who stays.
use mathlib.Core.Path.{◌≡◌, refl, ap, ◌∙◌}
use mathlib.Core.Bool.{true, false, not, ◌&&◌}
use mathlib.Core.List.{List}
use mathlib.Core.Logic.{◌≢◌, ⊎_elim}
use Prim.Native.Nat.{ℕ, ◌+◌, ◌%◌}
use lib.Dec.{eqb, ltb}
use borrow.Author.Tests.{eq-eqb, ne_eqb, eqb-true, eqb-false, not-true}
use Rattle.base.proofs.Bools.{bool_cases, true-false, and_both, and_parts}
use Rattle.base.proofs.Sames.{test-fails}
use Rattle.structs.specs.Types.{is_folder}
use Rattle.structs.specs.declared.DiskINode.{DiskINode}
use Rattle.maps.specs.Maps.{bit_at}
use Rattle.files.specs.Read.{length_of}
use Rattle.sefs.specs.Nodes.{node_file}
use Rattle.sefs.specs.Records.{with_links, with_size}
use Rattle.rules.specs.Image.{stored_maps, ids_in, is_node, subfolders}
use Rattle.mending.specs.Mendable.{rec_in, times_named}
use Rattle.mending.specs.Mend.{lost, stays, mended}

module _ (a : List ℕ) (id : ℕ) where
  pub node-zero : is_node a id ≡ true → id ≢ 0
  unfolding is_node
  node-zero n =
      let x = and_parts (ltb id (ids_in a)) (not (eqb id 0) && (not (eqb (id % 1024) 1) && not (bit_at (stored_maps a) id))) n in
      eqb-false id 0 (not-true (eqb id 0) (and_parts (not (eqb id 0)) (not (eqb (id % 1024) 1) && not (bit_at (stored_maps a) id)) x.1).0)

  -- ---- who goes

  pub lost-is : is_node a id ≡ true → id ≢ 2 → times_named a id ≡ 0 → lost a id ≡ true
  unfolding lost
  lost-is n d e = and_both n (and_both (ap not (ne_eqb id 2 d)) (eq-eqb (times_named a id) 0 e))

  pub lost-says : lost a id ≡ true → (is_node a id ≡ true) × (id ≢ 2) × (times_named a id ≡ 0)
  unfolding lost
  lost-says e =
      let x = and_parts (is_node a id) (not (eqb id 2) && eqb (times_named a id) 0) e in
      let y = and_parts (not (eqb id 2)) (eqb (times_named a id) 0) x.1 in
      (x.0, eqb-false id 2 (not-true (eqb id 2) y.0), eqb-true (times_named a id) 0 y.1)

  pub no-lost : is_node a id ≡ false → lost a id ≡ false
  no-lost n = test-fails (lost a id) (λ e. true-false (lost-says e).0 n)

  pub named-stays : times_named a id ≢ 0 → lost a id ≡ false
  named-stays n = test-fails (lost a id) (λ e. n (lost-says e).2)

  -- ---- who stays

  pub stays-is : is_node a id ≡ true → lost a id ≡ false → stays a id ≡ true
  unfolding stays
  stays-is n e = and_both n (ap not e)

  pub stays-node : stays a id ≡ true → is_node a id ≡ true
  unfolding stays
  stays-node e = (and_parts (is_node a id) (not (lost a id)) e).0

  pub not-lost : stays a id ≡ true → lost a id ≡ false
  unfolding stays
  not-lost e = not-true (lost a id) (and_parts (is_node a id) (not (lost a id)) e).1

  -- ---- its record

  pub mended-folder : is_folder (rec_in a id).kind ≡ true → mended a id ≡ with_links (rec_in a id) (2 + subfolders a (rec_in a id))
  unfolding mended
  mended-folder f = rw f

  pub mended-other : is_folder (rec_in a id).kind ≡ false → mended a id ≡ with_size (with_links (rec_in a id) (times_named a id)) (length_of a (node_file (rec_in a id)))
  unfolding mended
  mended-other f = rw f

  -- all else is as it is stored
  unchanged : {A : Type 0} (g : DiskINode → A) → ((r : DiskINode) (n : ℕ) → g (with_links r n) ≡ g r) → ((r : DiskINode) (n : ℕ) → g (with_size r n) ≡ g r)
      → g (mended a id) ≡ g (rec_in a id)
  unchanged g links size =
      ⊎_elim
      (λ (f : is_folder (rec_in a id).kind ≡ true). ap g (mended-folder f) ∙ links (rec_in a id) (2 + subfolders a (rec_in a id)))
      (λ (f : is_folder (rec_in a id).kind ≡ false).
      ap g (mended-other f) ∙ size (with_links (rec_in a id) (times_named a id)) (length_of a (node_file (rec_in a id))) ∙ links (rec_in a id) (times_named a id))
      (bool_cases (is_folder (rec_in a id).kind))

  pub mended-kind : (mended a id).kind ≡ (rec_in a id).kind
  mended-kind = unchanged (λ r. r.kind) (λ r n. refl) (λ r n. refl)

  pub mended-blocks : (mended a id).blocks ≡ (rec_in a id).blocks
  mended-blocks = unchanged (λ r. r.blocks) (λ r n. refl) (λ r n. refl)

  pub mended-file : (mended a id).file ≡ (rec_in a id).file
  mended-file = unchanged (λ r. r.file) (λ r n. refl) (λ r n. refl)

  pub mended-mac : (mended a id).mac ≡ (rec_in a id).mac
  mended-mac = unchanged (λ r. r.mac) (λ r n. refl) (λ r n. refl)

pub two-stays : (a : List ℕ) → lost a 2 ≡ false
two-stays a = test-fails (lost a 2) (λ e. (lost-says a 2 e).1 refl)
