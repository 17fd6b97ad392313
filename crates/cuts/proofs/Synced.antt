-- A pair that passes and has no dirty row: each node's record is the stored one. So nothing waits in memory, and the mender takes its arena.
use mathlib.Core.Path.{◌≡◌, refl, sym, ap, ◌∙◌}
use mathlib.Core.Bool.{true, ◌&&◌}
use Prim.Native.Nat.{ℕ, ◌<◌}
use Rattle.std.specs.Prelude.{Option, Some, None}
use Rattle.base.proofs.Bools.{and_parts}
use Rattle.structs.specs.Layout.{record_of}
use Rattle.structs.specs.Types.{is_folder}
use Rattle.structs.specs.declared.DiskINode.{DiskINode}
use Rattle.structs.proofs.Layouts.{record_of-record_bytes}
use Rattle.table.specs.Table.{empty_table, row_at, row_of}
use Rattle.table_laws.proofs.Finds.{row-found}
use Rattle.rules.specs.Image.{is_node, stored_bytes, rec_by, rec_of, is_folder_at}
use Rattle.mending.specs.Mendable.{rec_in, Mendable}
use Rattle.mending.specs.Lasts.{Lasting}
use Rattle.mending.proofs.Tables.{rec-stored}
use Rattle.sequences.specs.Pairs.{Pair, Passed}
use Rattle.sequences.proofs.Passing.{allowed}
use Rattle.deaths.specs.Deaths.{Dies}
use Rattle.deaths.proofs.Upheld.{lasts-is}
use Rattle.deaths.proofs.Recoveries.{dies}
use Rattle.cuts.specs.Premise.{NoneDirty}
use Rattle.cuts.proofs.Facts.{node-zero}

module _ (p : Pair) (y : Passed p) (z : NoneDirty p.table) where
  pub rec-synced : (id : ℕ) → is_node p.arena id ≡ true → rec_of p.arena p.table id ≡ rec_in p.arena id
  unfolding rec_of
  rec-synced id n = go (row_of p.table id) refl ∙ sym (rec-stored p.arena id (node-zero p y id n))
    where
      go : (f : Option ℕ) → row_of p.table id ≡ f → rec_by p.arena p.table id f ≡ record_of (stored_bytes p.arena id)
      go (Some j) e =
          let r = row-found p.table id j e in
          let l : j < 34 = r.0 in
          let q : (row_at p.table j).id ≡ id = r.1 in
          sym (record_of-record_bytes (row_at p.table j).rec (y.typed.fits.rows j l).rec)
          ∙ ap record_of ((allowed p y).rule4.clean j l (λ w. node-zero p y id n (sym q ∙ w)) (z j l) ∙ ap (stored_bytes p.arena) q)
      go None e = refl

  pub folder-synced : (id : ℕ) → is_folder_at p.arena empty_table id ≡ true → is_folder_at p.arena p.table id ≡ true
  unfolding is_folder_at
  folder-synced id d =
      let e = rec-synced id (and_parts (is_node p.arena id) _ d).0 in
      ap (λ (r : DiskINode). is_node p.arena id && is_folder r.kind) e ∙ d

  pub lasting : Lasting p.arena p.table
  lasting id n = lasts-is (sym (rec-synced id n))

  pub mendable : Mendable p.arena
  unfolding Dies
  mendable = (dies p y lasting).mendable
