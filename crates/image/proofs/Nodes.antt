-- Superblock and maps can be read, and so can a node's record.
use mathlib.Core.Path.{◌≡◌, refl, sym, ap, ◌∙◌, subst}
use mathlib.Core.Bool.{true, false, not, ◌&&◌}
use mathlib.Core.List.{List, ◌++◌}
use mathlib.Core.Logic.{◌≢◌, ⊎_elim}
use Prim.Native.Nat.{ℕ, zero, suc, ◌+◌, ◌*◌, ◌%◌, ◌≤◌}
use native.Mathlib.Omega.{arith}
use lib.Dec.{eqb, ltb}
use borrow.Author.Tests.{lt-ltb, eqb-false, not-true}
use Rattle.base.specs.Out.{Out, done, bind}
use Rattle.base.proofs.Bools.{and_both, and_parts, bool_cases}
use Rattle.base.proofs.Tests.{decides-leb}
use Rattle.base.proofs.Sames.{decided-yes}
use Rattle.std.specs.Prelude.{Some, None}
use Rattle.structs.specs.Layout.{record_of}
use Rattle.structs.specs.declared.DiskINode.{DiskINode}
use Rattle.maps.specs.Maps.{bit_at}
use Rattle.table.specs.declared.Table.{Table}
use Rattle.table.specs.Table.{row_of, free_row, take_row}
use Rattle.files.specs.Read.{there, read_file}
use Rattle.files.proofs.Runs.{read_done}
use Rattle.files_laws.proofs.Views.{length_none}
use Rattle.sefs.specs.State.{with_table}
use Rattle.sefs.specs.Meta.{meta_file, map_at, is_used, load_maps, load_meta}
use Rattle.sefs.specs.Nodes.{node_file, opened, load_node, get_node}
use Rattle.sefs.specs.Ask.{start}
use Rattle.rules.specs.Image.{run, stored_super, maps_to, stored_maps, ids_in, is_node, stored_bytes, rec_by, rec_of}
use Rattle.rules.proofs.Files.{node-below}
use Rattle.image.specs.Midway.{Look, Fairly, stored_meta}

module _ {k : Look} (a : List ℕ) (t : Table) (A : Fairly k a t) where
  pub there-meta : there a meta_file ≡ true
  there-meta =
      ⊎_elim (λ e. e) (λ e. absurd (omega (arith, A.rule3.some, A.rule3.length, length_none a meta_file e))) (bool_cases (there a meta_file))

  -- what lies inside the metadata file is read
  pub meta-read : (pos n : ℕ) → pos + n ≤ 131072 * (stored_super a).groups → read_file a meta_file pos n ≡ done (run a meta_file pos n)
  meta-read pos n l = read_done a meta_file pos n there-meta (omega (arith, A.rule3.length))

  pub maps-is : (n : ℕ) → n ≤ (stored_super a).groups → load_maps a n ≡ done (maps_to a n)
  unfolding load_maps maps_to
  maps-is zero l = refl
  maps-is (suc n) l =
      ap (λ (o : Out (List ℕ)). bind o (λ m. bind (read_file a meta_file (map_at n) 128) (λ x. done (m ++ x)))) (maps-is n (omega arith))
      ∙ ap (λ (o : Out (List ℕ)). bind o (λ x. done (maps_to a n ++ x))) (meta-read (map_at n) 128 (omega arith))

  pub meta-is : load_meta a ≡ done (stored_meta a)
  unfolding load_meta stored_super stored_maps
  meta-is =
      rw (
        meta-read 0 16 (omega (arith, A.rule3.some)),
        lt-ltb 0 (stored_super a).groups A.rule3.some,
        lt-ltb (stored_super a).groups 5 (omega (arith, A.rule3.few)),
        maps-is (stored_super a).groups (omega arith),
      )

  -- ---- a node is opened

  module _ (id : ℕ) (n : is_node a id ≡ true) where
    pub used-is : is_used (stored_meta a) id ≡ true
    unfolding is_node is_used
    used-is =
        let x = and_parts (ltb id (ids_in a)) (not (eqb id 0) && (not (eqb (id % 1024) 1) && not (bit_at (stored_maps a) id))) n in
        let y = and_parts (not (eqb id 0)) (not (eqb (id % 1024) 1) && not (bit_at (stored_maps a) id)) x.1 in
        let z = and_parts (not (eqb (id % 1024) 1)) (not (bit_at (stored_maps a) id)) y.1 in
        and_both y.0 (and_both x.0 z.1)

    pub node-some : id ≢ 0
    unfolding is_node
    node-some =
        let x = and_parts (ltb id (ids_in a)) (not (eqb id 0) && (not (eqb (id % 1024) 1) && not (bit_at (stored_maps a) id))) n in
        let y = and_parts (not (eqb id 0)) (not (eqb (id % 1024) 1) && not (bit_at (stored_maps a) id)) x.1 in
        eqb-false id 0 (not-true (eqb id 0) y.0)

    -- it has a row
    pub node-held : (i : ℕ) → row_of t id ≡ Some i → get_node (start a t) id ≡ done (opened (start a t) i)
    unfolding get_node
    node-held i e = rw (meta-is, used-is, e)

    -- or its record is read, into the lowest free row
    pub stored_is : row_of t id ≡ None → record_of (stored_bytes a id) ≡ rec_of a t id
    unfolding rec_of
    stored_is e = sym (ap (rec_by a t id) e)

    pub node-read : (i : ℕ) → row_of t id ≡ None → free_row t ≡ Some i
        → get_node (start a t) id ≡ done (opened (with_table (start a t) (take_row t i id (record_of (stored_bytes a id)) false)) i)
    unfolding get_node load_node stored_bytes
    node-read i e f =
        let s : record_of (stored_bytes a id) ≡ rec_of a t id = stored_is e in
        rw (
          meta-is,
          used-is,
          e,
          meta-read (128 * id) 112 (omega (arith, node-below a id n)),
          decided-yes (decides-leb (record_of (stored_bytes a id)).kind 4) (subst (λ (r : DiskINode). r.kind ≤ 4) (sym s) (A.rule5.most id n)),
          subst (λ (r : DiskINode). there a (node_file r) ≡ true) (sym s) (A.rule5.own id n),
          f,
        )
