-- A record changes exactly where its links or its size do.
use mathlib.Core.Path.{◌≡◌, refl, sym, ap, ap₂, ◌∙◌, subst}
use mathlib.Core.Bool.{Bool, true, false, not, ◌&&◌}
use mathlib.Core.List.{List}
use mathlib.Core.Logic.{⊎_elim}
use Prim.Native.Nat.{ℕ, ◌+◌, ◌*◌, ◌^◌, ◌≤◌, ◌<◌}
use native.Mathlib.Omega.{arith}
use lib.ListN.{length}
use Rattle.base.specs.Search.{pick}
use Rattle.base.proofs.Bools.{bool_cases, and_both, and-false, true-T}
use Rattle.base.proofs.Lists.{length-tab}
use Rattle.base.proofs.Sames.{same-own, same_false}
use Rattle.le.specs.Le.{Bytes}
use Rattle.structs.specs.Fits.{RecordFits}
use Rattle.structs.specs.Layout.{record_of, record_bytes}
use Rattle.structs.specs.Types.{is_folder}
use Rattle.structs.specs.declared.DiskINode.{DiskINode}
use Rattle.structs.proofs.Layouts.{record_of-record_bytes, record_bytes-record_of, record_of-fits}
use Rattle.table.specs.Table.{empty_table}
use Rattle.files.specs.Read.{length_of, byte_at}
use Rattle.files_laws.proofs.Bounds.{length-fits}
use Rattle.sefs.specs.Meta.{meta_file}
use Rattle.sefs.specs.Nodes.{node_file}
use Rattle.sefs.specs.Records.{with_links, with_size}
use Rattle.rules.specs.Image.{ids_in, is_node, stored_bytes, is_folder_at, subfolders}
use Rattle.rules.proofs.Few.{names-few, subs-few}
use Rattle.image.proofs.Records.{links-fit}
use Rattle.image.proofs.Contents.{size_fits}
use Rattle.image.proofs.Slots.{run-bytes}
use Rattle.mending.specs.Mendable.{rec_in, times_named, Mendable, mendable}
use Rattle.mending.specs.Mend.{lost, stays, mended, changed}
use Rattle.mending.specs.Promises.{MendableDecides}
use Rattle.mending.proofs.Fates.{node-zero, stays-is}
use Rattle.mending.proofs.Tables.{rec-stored}
use Rattle.mending.proofs.Tests.{mendable-decides}

pub can-mend : (a : List ℕ) → mendable a ≡ true → Mendable a
unfolding MendableDecides
can-mend a e = (mendable-decides a).right (true-T (mendable a) e)

pub ids-most : (a : List ℕ) → mendable a ≡ true → ids_in a ≤ 4096
ids-most a e = let M = can-mend a e in omega (arith, M.rule3.few)

-- ---- links and size as they are due

abbrev pub due_links : List ℕ → ℕ → ℕ
due_links a id = pick (is_folder (rec_in a id).kind) (2 + subfolders a (rec_in a id)) (times_named a id)

abbrev pub due_size : List ℕ → ℕ → ℕ
due_size a id = pick (is_folder (rec_in a id).kind) (rec_in a id).size (length_of a (node_file (rec_in a id)))

both : (b : Bool) (r : DiskINode) (l n s : ℕ) → pick b (with_links r l) (with_size (with_links r n) s) ≡ with_size (with_links r (pick b l n)) (pick b r.size s)
both true r l n s = refl
both false r l n s = refl

mended-is : (a : List ℕ) (id : ℕ) → mended a id ≡ with_size (with_links (rec_in a id) (due_links a id)) (due_size a id)
unfolding mended
mended-is a id = both (is_folder (rec_in a id).kind) (rec_in a id) (2 + subfolders a (rec_in a id)) (times_named a id) (length_of a (node_file (rec_in a id)))

pub mended-links : (a : List ℕ) (id : ℕ) → (mended a id).nlinks ≡ due_links a id
mended-links a id = ap (λ (r : DiskINode). r.nlinks) (mended-is a id)

-- ---- both fit their fields

folder-subs : (a : List ℕ) → Mendable a → (id : ℕ) → is_node a id ≡ true → is_folder (rec_in a id).kind ≡ true → subfolders a (rec_in a id) ≤ 8192
unfolding is_folder_at
folder-subs a M id n f = subs-few a empty_table M.rule1 M.rule5 M.folder id (and_both n f)

pub subs-most : (a : List ℕ) → Mendable a → (id : ℕ) → is_node a id ≡ true → (r : DiskINode) → r ≡ rec_in a id → is_folder r.kind ≡ true → subfolders a r ≤ 8192
subs-most a M id n r is = subst (λ (x : DiskINode). is_folder x.kind ≡ true → subfolders a x ≤ 8192) (sym is) (folder-subs a M id n)

pub links-most : (a : List ℕ) → Mendable a → (id : ℕ) → is_node a id ≡ true → due_links a id ≤ 8194
links-most a M id n =
    ⊎_elim (λ (f : is_folder (rec_in a id).kind ≡ true). rw f (omega (arith, folder-subs a M id n f))) (λ (f : is_folder (rec_in a id).kind ≡ false). rw f (omega (arith, names-few a empty_table M.rule1 M.rule5 M.folder id)))
    (bool_cases (is_folder (rec_in a id).kind))

module _ (a : List ℕ) (B : Bytes a) (M : Mendable a) (id : ℕ) (n : is_node a id ≡ true) where
  long : length (stored_bytes a id) ≡ 112
  unfolding stored_bytes
  long = length-tab (byte_at a meta_file) (128 * id) 112

  bytes : Bytes (stored_bytes a id)
  unfolding stored_bytes
  bytes = run-bytes a meta_file (128 * id) 112 B

  as-stored : rec_in a id ≡ record_of (stored_bytes a id)
  as-stored = rec-stored a id (node-zero a id n)

  rec-fits : RecordFits (rec_in a id)
  rec-fits = subst RecordFits (sym as-stored) (record_of-fits (stored_bytes a id) bytes long)

  size_below : due_size a id < 2 ^ 64
  size_below =
      ⊎_elim (λ (f : is_folder (rec_in a id).kind ≡ true). rw f rec-fits.size) (λ (f : is_folder (rec_in a id).kind ≡ false). rw f (omega (arith, length-fits a (node_file (rec_in a id)) B)))
      (bool_cases (is_folder (rec_in a id).kind))

  mended-fits : RecordFits (mended a id)
  mended-fits =
      subst RecordFits (sym (mended-is a id)) (size_fits (with_links (rec_in a id) (due_links a id)) (due_size a id) (links-fit (rec_in a id) (due_links a id) rec-fits (omega (arith, links-most a M id n))) size_below)

  -- ---- so the record's bytes are the stored ones exactly where both are

  unchanged : (rec_in a id).nlinks ≡ due_links a id → (rec_in a id).size ≡ due_size a id → changed a id ≡ false
  unfolding changed
  unchanged e f =
      let m : mended a id ≡ rec_in a id = mended-is a id ∙ ap₂ (λ (x y : ℕ). with_size (with_links (rec_in a id) x) y) (sym e) (sym f) in
      ap (λ (b : Bool). stays a id && not b)
      (same-own (record_bytes (mended a id)) (stored_bytes a id) (ap record_bytes (m ∙ as-stored) ∙ record_bytes-record_of (stored_bytes a id) bytes long))
      ∙ and-false (stays a id)

  is-changed : lost a id ≡ false → ((rec_in a id).nlinks ≡ due_links a id → (rec_in a id).size ≡ due_size a id → ⊥) → changed a id ≡ true
  unfolding changed
  is-changed k differ =
      and_both (stays-is a id n k)
      (ap not
      (same_false (record_bytes (mended a id)) (stored_bytes a id)
      (λ e.
      let m : mended a id ≡ rec_in a id = sym (record_of-record_bytes (mended a id) mended-fits) ∙ ap record_of e ∙ sym as-stored in
      let d : with_size (with_links (rec_in a id) (due_links a id)) (due_size a id) ≡ rec_in a id = sym (mended-is a id) ∙ m in
      differ (sym (ap (λ (r : DiskINode). r.nlinks) d)) (sym (ap (λ (r : DiskINode). r.size) d)))))

  -- as the code has them
  module _ (r : DiskINode) (named links size : ℕ) (is : r ≡ rec_in a id) (en : named ≡ times_named a id)
      (el : links ≡ pick (is_folder r.kind) (2 + subfolders a r) named) (es : size ≡ pick (is_folder r.kind) r.size (length_of a (node_file r))) where
    links-due : links ≡ due_links a id
    links-due = el ∙ ap₂ (λ (x : DiskINode) (m : ℕ). pick (is_folder x.kind) (2 + subfolders a x) m) is en

    size-due : size ≡ due_size a id
    size-due = es ∙ ap (λ (x : DiskINode). pick (is_folder x.kind) x.size (length_of a (node_file x))) is

    pub fate-right : r.nlinks ≡ links → r.size ≡ size → 0 ≡ pick (changed a id) (mended a id).nlinks 0
    fate-right e f =
        rw (unchanged (sym (ap (λ (x : DiskINode). x.nlinks) is) ∙ e ∙ links-due) (sym (ap (λ (x : DiskINode). x.size) is) ∙ f ∙ size-due)) refl

    pub fate-wrong : lost a id ≡ false → (r.nlinks ≡ links → r.size ≡ size → ⊥) → links ≡ pick (changed a id) (mended a id).nlinks 0
    fate-wrong k differ =
        let c : changed a id ≡ true =
        is-changed k (λ x y. differ (ap (λ (z : DiskINode). z.nlinks) is ∙ x ∙ sym links-due) (ap (λ (z : DiskINode). z.size) is ∙ y ∙ sym size-due)) in
        rw c (links-due ∙ sym (mended-links a id))
