-- Where there is nothing to mend: the rules hold and no hold is live. Every named node has its links and its size, so nothing goes and no record
-- changes; superblock and maps are stored as they are.
use mathlib.Core.Path.{◌≡◌, refl, sym, ap, ◌∙◌, subst}
use mathlib.Core.Bool.{Bool, true, false, not, ◌&&◌}
use mathlib.Core.List.{List}
use mathlib.Core.Logic.{⊎_elim}
use Prim.Native.Nat.{ℕ, zero, suc, ◌+◌, ◌*◌, ◌≤◌, ◌<◌}
use native.Mathlib.Omega.{arith}
use lib.ListN.{length}
use Rattle.base.specs.Out.{Out, done, bind}
use Rattle.base.specs.Parts.{part}
use Rattle.base.specs.Search.{pick}
use Rattle.base.proofs.Bools.{bool_cases, true-false, and_both, and-false}
use Rattle.base.proofs.Lists.{length_part, get_d_part, length-tab, get_or-tab}
use Rattle.base.proofs.Sames.{decided-yes, same-own, test-fails}
use Rattle.le.specs.Le.{Bytes}
use Rattle.structs.specs.Layout.{record_bytes, super_bytes}
use Rattle.structs.specs.Types.{is_folder}
use Rattle.structs.proofs.Layouts.{record_bytes-record_of, super_bytes-super_of}
use Rattle.table.specs.declared.Table.{Table}
use Rattle.table.specs.Table.{empty_table, no_holds}
use Rattle.table_laws.proofs.Keeps.{empty-formed}
use Rattle.files.specs.Read.{byte_at}
use Rattle.files.specs.Store.{put_file}
use Rattle.files_laws.specs.Laws.{touches}
use Rattle.sefs.specs.State.{Fs}
use Rattle.sefs.specs.Meta.{meta_file, map_at, store_maps, sync_meta}
use Rattle.sefs.specs.Records.{with_links, with_size}
use Rattle.sefs.specs.Ask.{start}
use Rattle.rules.specs.Image.{run, stored_super, maps_to, stored_maps, ids_in, is_node, stored_bytes, is_folder_at, is_open}
use Rattle.rules.specs.Rules.{Linked, Removed, Allowed}
use Rattle.rules.proofs.Folders.{folder-node}
use Rattle.rules.proofs.Check.{check-pass}
use Rattle.image.specs.Midway.{stored_meta}
use Rattle.image.proofs.Handles.{admitted}
use Rattle.image.proofs.Metas.{length-maps_to}
use Rattle.image.proofs.Slots.{run-bytes}
use Rattle.mending.specs.Mendable.{rec_in, Mendable}
use Rattle.mending.specs.Mend.{lost, stays, mended, changed, free_one, store_one, free_to, store_to, mend_steps, call_mend}
use Rattle.mending.specs.Promises.{MendableDecides, MendIdle}
use Rattle.mending.proofs.Tables.{empty_holds, not-open, rec-stored, bare-allowed}
use Rattle.mending.proofs.Fates.{node-zero, lost-says, mended-folder, mended-other}
use Rattle.mending.proofs.Lasts.{lasts-mendable, bare-lasts}
use Rattle.files_laws.proofs.Same.{put_same}
use Rattle.mending.proofs.Backs.{map-byte, map-here, super-here}
use Rattle.mending.proofs.Tests.{mendable-decides}
use Rattle.mending.proofs.Stores.{meta-there}
use Rattle.mending.proofs.Steps.{meta-loaded}

-- ---- nothing goes, and each record is as it has to be

module _ (a : List ℕ) (E : Allowed a empty_table) where
  node-shut : (id : ℕ) → is_node a id ≡ true → is_open empty_table id ≡ false
  node-shut id n = not-open empty_table empty-formed empty_holds id (node-zero a id n)

  pub folder-linked : (id : ℕ) → is_folder_at a empty_table id ≡ true → Linked a empty_table id
  folder-linked id f =
      ⊎_elim (λ (K : Linked a empty_table id). K)
      (λ (R : Removed a empty_table id). absurd (true-false R.opened (node-shut id (folder-node a empty_table id f))))
      (E.rule7.folder id f)

  none-lost : (id : ℕ) → lost a id ≡ false
  none-lost id =
      test-fails (lost a id) (λ e.
      let x = lost-says a id e in
      let n = x.0 in
      let z = x.2 in
      ⊎_elim
      (λ (f : is_folder_at a empty_table id ≡ true). omega (arith, z, (folder-linked id f).once x.1))
      (λ (f : is_folder_at a empty_table id ≡ false). true-false (E.rule7.unnamed id n f (E.rule7.other id n f ∙ z)) (node-shut id n))
      (bool_cases (is_folder_at a empty_table id)))

  mended-own : (id : ℕ) → is_node a id ≡ true → mended a id ≡ rec_in a id
  unfolding is_folder_at
  mended-own id n =
      ⊎_elim
      (λ (f : is_folder (rec_in a id).kind ≡ true). mended-folder a id f ∙ (λ z. with_links (rec_in a id) (sym (folder-linked id (and_both n f)).links z)))
      (λ (f : is_folder (rec_in a id).kind ≡ false).
      let g : is_folder_at a empty_table id ≡ false = ap (λ (b : Bool). is_node a id && b) f ∙ and-false (is_node a id) in
      mended-other a id f ∙ (λ z. with_size (with_links (rec_in a id) (sym (E.rule7.other id n g) z)) (E.rule6.size id n g z)))
      (bool_cases (is_folder (rec_in a id).kind))

module _ (a : List ℕ) (B : Bytes a) (E : Allowed a empty_table) where
  none-changed : (id : ℕ) → changed a id ≡ false
  unfolding changed stays stored_bytes
  none-changed id =
      ⊎_elim
      (λ (n : is_node a id ≡ true).
      let e : record_bytes (mended a id) ≡ run a meta_file (128 * id) 112 =
      ap record_bytes (mended-own a E id n ∙ rec-stored a id (node-zero a id n))
      ∙ record_bytes-record_of (run a meta_file (128 * id) 112) (run-bytes a meta_file (128 * id) 112 B) (length-tab (byte_at a meta_file) (128 * id) 112) in
      ap (λ (b : Bool). (is_node a id && not (lost a id)) && not b) (same-own (record_bytes (mended a id)) (run a meta_file (128 * id) 112) e)
      ∙ and-false (is_node a id && not (lost a id)))
      (λ (n : is_node a id ≡ false). rw n refl)
      (bool_cases (is_node a id))

  -- ---- the steps

  free-idle : (s : Fs) (n : ℕ) → free_to a s n ≡ done s
  unfolding free_to
  free-idle s zero = refl
  free-idle s (suc n) =
      ap (λ (o : Out Fs). bind o (λ d. pick (lost a n) (free_one a d n) (done d))) (free-idle s n) ∙ ap (λ (b : Bool). pick b (free_one a s n) (done s)) (none-lost a E n)

  store-idle : (s : Fs) (n : ℕ) → store_to a s n ≡ done s
  unfolding store_to
  store-idle s zero = refl
  store-idle s (suc n) =
      ap (λ (o : Out Fs). bind o (λ d. pick (changed a n) (store_one a d n) (done d))) (store-idle s n) ∙ ap (λ (b : Bool). pick b (store_one a s n) (done s)) (none-changed n)

  module _ (M : Mendable a) where
    abbrev groups : ℕ
    groups = (stored_super a).groups

    super-idle : put_file a meta_file 0 (super_bytes (stored_super a)) ≡ done a
    unfolding stored_super
    super-idle =
        let src : List ℕ = run a meta_file 0 16 in
        let long : length src ≡ 16 = length-tab (byte_at a meta_file) 0 16 in
        ap (put_file a meta_file 0) (super_bytes-super_of src (run-bytes a meta_file 0 16 B) long)
        ∙ put_same a meta_file 0 src M.rule1.sound B (meta-there a M) (omega (arith, long, M.rule3.length, M.rule3.some))
        (λ i l. get_or-tab (byte_at a meta_file) 0 16 i (omega (arith, long)))
        (λ q e. super-here a M q (subst (λ (n : ℕ). touches 0 n q ≡ true) long e))

    maps-idle : (n : ℕ) → n ≤ groups → store_maps a (stored_maps a) n ≡ done a
    unfolding store_maps stored_maps
    maps-idle zero l = refl
    maps-idle (suc n) l =
        let src : List ℕ = part (maps_to a groups) (128 * n) (128 * n + 128) in
        let all = length-maps_to a groups in
        let long : length src ≡ 128 = length_part (maps_to a groups) (128 * n) (128 * n + 128) (omega arith) (omega arith) ∙ omega arith in
        ap (λ (o : Out (List ℕ)). bind o (λ d. put_file d meta_file (map_at n) (part (maps_to a groups) (128 * n) (128 * n + 128)))) (maps-idle n (omega arith))
        ∙ put_same a meta_file (map_at n) src M.rule1.sound B (meta-there a M) (omega (arith, long, M.rule3.length))
        (λ i h. let k : i < 128 = omega (arith, long) in get_d_part (maps_to a groups) (128 * n) (128 * n + 128) i (omega arith) ∙ map-byte a groups n i (omega arith) k)
        (λ q e. map-here a M n (omega arith) q (subst (λ (m : ℕ). touches (map_at n) m q ≡ true) long e))

    sync-idle : (s : Fs) → s.arena ≡ a → s.meta ≡ done (stored_meta a) → bind (sync_meta s) (λ d. done d.arena) ≡ done a
    unfolding sync_meta
    sync-idle s e f = rw (f, e, super-idle, maps-idle groups (omega arith)) refl

-- ---- the call

pub idle : (a : List ℕ) (t : Table) → Bytes a → Allowed a t → no_holds t ≡ true → call_mend a t ≡ done a
unfolding MendableDecides call_mend mend_steps
idle a t B A none =
    let E = bare-allowed a t empty_table A none empty-formed empty_holds in
    let M = lasts-mendable a t A (bare-lasts a t A none) in
    rw (admitted a t A, none, decided-yes (mendable-decides a) M, free-idle a B E (start a t) (ids_in a), store-idle a B E (start a t) (ids_in a))
    (sync-idle a B E M (start a t) refl (meta-loaded a M))

pub mend-idle : MendIdle
unfolding MendIdle
mend-idle a t B e none = idle a t B (check-pass a t e) none
