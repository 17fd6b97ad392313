-- A row with another record: it fits, and where the record is like the one before, the image is allowed.
use mathlib.Core.Path.{refl, ◌≡◌, sym, ap, ◌∙◌, subst}
use mathlib.Core.Bool.{Bool, true, false}
use mathlib.Core.List.{List}
use mathlib.Core.Logic.{◌≢◌, ⊎_elim}
use Prim.Native.Nat.{ℕ, ◌<◌}
use native.Mathlib.Omega.{arith}
use Rattle.base.proofs.Finds.{eq-cases}
use Rattle.std.specs.Prelude.{Option, Some, None}
use Rattle.structs.specs.Fits.{RecordFits}
use Rattle.structs.specs.declared.DiskINode.{DiskINode}
use Rattle.table.specs.declared.Table.{Table}
use Rattle.table.specs.declared.Row.{Row}
use Rattle.table.specs.Table.{row_at, take_row, row_of, with_row}
use Rattle.table_bytes.specs.Fits.{TableFits, RowFits}
use Rattle.sefs.specs.Records.{with_links, with_blocks}
use Rattle.rules.specs.Image.{rec_of, is_open, stored_bytes, rec_by}
use Rattle.rules.specs.Rules.{Allowed}
use Rattle.tree.specs.Tree.{Spelling}
use Rattle.image.specs.Midway.{Spells, Used}
use lib.ListN.{length-set}
use Rattle.structs.specs.Layout.{record_bytes}
use Rattle.table_laws.proofs.Rules.{well-formed}
use Rattle.table_laws.proofs.Finds.{row_same}
use Rattle.table_laws.proofs.Rows.{row_here, row_apart, change-row}
use Rattle.image.proofs.Handles.{formed}
use Rattle.image.proofs.Images.{Like, like-same, table-allowed}

-- records that fit with another count
pub links-fit : (r : DiskINode) (n : ℕ) → RecordFits r → n < 65536 → RecordFits (with_links r n)
links-fit r n R l = record {
  size = R.size;
  kind = R.kind;
  mode = R.mode;
  nlinks = l;
  blocks = R.blocks;
  uid = R.uid;
  gid = R.gid;
  pad = R.pad;
  atime = R.atime;
  mtime = R.mtime;
  ctime = R.ctime;
  file = R.file;
  mac = R.mac;
  file_bytes = R.file_bytes;
  mac_bytes = R.mac_bytes;
}

pub blocks-fit : (r : DiskINode) (n : ℕ) → RecordFits r → n < 4294967296 → RecordFits (with_blocks r n)
blocks-fit r n R l = record {
  size = R.size;
  kind = R.kind;
  mode = R.mode;
  nlinks = R.nlinks;
  blocks = l;
  uid = R.uid;
  gid = R.gid;
  pad = R.pad;
  atime = R.atime;
  mtime = R.mtime;
  ctime = R.ctime;
  file = R.file;
  mac = R.mac;
  file_bytes = R.file_bytes;
  mac_bytes = R.mac_bytes;
}

-- a row that fits, put into a table that fits
pub fits-row : (t : Table) → TableFits t → (i : ℕ) (r : Row) → RowFits r → TableFits (with_row t i r)
fits-row t T i r R = record {
  rows-34 = length-set t.rows i r ∙ T.rows-34;
  holds-32 = T.holds-32;
  rows = λ j l. ⊎_elim
      (λ (e : j ≡ i). subst RowFits (sym (ap (row_at (with_row t i r)) e ∙ row_here t i r (omega (arith, T.rows-34)))) R)
      (λ n. subst RowFits (sym (row_apart t i r j n)) (T.rows j l))
      (eq-cases j i);
  holds = T.holds;
  next = T.next;
}

-- another record like it in a row in use: dirty, or as stored
module _ (a : List ℕ) (t : Table) (A : Allowed a t) (i : ℕ) (used : Used t i) (r : DiskINode) (d : Bool)
    (like : Like r (row_at t i).rec) (stored : d ≡ false → record_bytes r ≡ stored_bytes a (row_at t i).id) where
  abbrev new : Row
  new = record { id = (row_at t i).id; dirty = d; rec = r }

  abbrev u : Table
  u = take_row t i (row_at t i).id r d

  here : (j : ℕ) → j ≡ i → row_at u j ≡ new
  here j e = ap (row_at u) e ∙ row_here t i new (omega (arith, used.below, (formed a t A).rows-34))

  -- each row is the new one, or the one that was there
  split : (P : Row → Type 0) (j : ℕ) → (j ≡ i → P new) → ((j ≡ i → ⊥) → P (row_at t j)) → P (row_at u j)
  split P j f g = ⊎_elim (λ e. subst P (sym (here j e)) (f e)) (λ n. subst P (sym (row_apart t i new j n)) (g n)) (eq-cases j i)

  same_id : (j : ℕ) → (row_at u j).id ≡ (row_at t j).id
  same_id j = split (λ (x : Row). x.id ≡ (row_at t j).id) j (λ e. ap (λ (k : ℕ). (row_at t k).id) (sym e)) (λ n. refl)

  same_row : (id : ℕ) → row_of u id ≡ row_of t id
  same_row id = row_same u t id (λ j l. same_id j)

  like-by : (id : ℕ) (f : Option ℕ) → Like (rec_by a u id f) (rec_by a t id f)
  like-by id (Some j) = split (λ (x : Row). Like x.rec (row_at t j).rec) j (λ e. subst (λ (k : ℕ). Like r (row_at t k).rec) (sym e) like) (λ n. like-same refl)
  like-by id None = like-same refl

  like-all : (id : ℕ) → Like (rec_of a u id) (rec_of a t id)
  unfolding rec_of
  like-all id = subst (λ (f : Option ℕ). Like (rec_by a u id f) (rec_by a t id (row_of t id))) (sym (same_row id)) (like-by id (row_of t id))

  open-all : (id : ℕ) → is_open t id ≡ true → is_open u id ≡ true
  unfolding is_open
  open-all id e = rw (same_row id) e

  pub row-allowed : (style : Spelling) → Spells style a t → Allowed a (take_row t i (row_at t i).id r d) × Spells style a (take_row t i (row_at t i).id r d)
  row-allowed =
      table-allowed a t u A
      ((well-formed u).1 (change-row t (formed a t A) i used.below new used.node refl))
      (λ j l n. rw (same_id j) (A.rule4.node j l (λ z. n (same_id j ∙ z))))
      (λ j l. split (λ (x : Row). x.id ≢ 0 → x.dirty ≡ false → record_bytes x.rec ≡ stored_bytes a x.id) j (λ e n c. stored c) (λ n. A.rule4.clean j l))
      (λ id n. like-all id)
      (λ id n z. open-all id)
