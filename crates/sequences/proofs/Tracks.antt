-- A node's record, wherever it is: each row of the node has its type and its file, and so has the stored record, unless a dirty row is to be stored.
-- No step of a call changes that, whatever it does.
use mathlib.Core.Path.{◌≡◌, refl, sym, ap, ◌∙◌, subst}
use mathlib.Core.Bool.{true, false}
use mathlib.Core.List.{List}
use mathlib.Core.Logic.{◌≢◌, ◌⊎◌, inl, inr, ⊎_elim}
use Prim.Native.Nat.{ℕ, ◌+◌, ◌*◌, ◌%◌, ◌<◌, ◌^◌}
use native.Mathlib.Omega.{arith}
use lib.ListN.{length, length-set}
use Rattle.base.specs.Parts.{part}
use Rattle.base.proofs.Bools.{true-false}
use Rattle.base.proofs.Finds.{eq-cases}
use Rattle.base.proofs.Lists.{length-tab, length_part}
use Rattle.std.specs.Prelude.{Option, Some, None}
use Rattle.le.specs.Le.{le_bytes}
use Rattle.structs.specs.Layout.{join, time_fields, time_bytes, record_of, record_fields, record_bytes}
use Rattle.structs.proofs.Joins.{field}
use Rattle.structs.proofs.Layouts.{number-back, length-record_bytes}
use Rattle.structs.specs.declared.DiskINode.{DiskINode}
use Rattle.files.specs.Read.{byte_at}
use Rattle.table.specs.declared.Table.{Table}
use Rattle.table.specs.declared.Row.{Row}
use Rattle.table.specs.Table.{row_at, row_of, with_row}
use Rattle.table_laws.proofs.Finds.{row-found, row-missing}
use Rattle.sefs.specs.Meta.{meta_file}
use Rattle.rules.specs.Image.{stored_bytes, rec_by, rec_of}
use Rattle.image.proofs.Metas.{node-other, put-run}
use Rattle.image.proofs.Drops.{stored-kept}
use Rattle.image.proofs.Holds.{rows_at}
use Rattle.sefs_laws.proofs.Rows.{Changes, Loads, Frees, Stores, Bears, Fills, other-record}
use Rattle.sequences.proofs.Corner.{at-put}

-- a record of that type and file
pub record As (k : ℕ) (f : List ℕ) (r : DiskINode) : Type 0 where
  pub kind : r.kind ≡ k
  pub file : r.file ≡ f

-- file name and MAC have their widths
pub record Wide (x : Row) : Type 0 where
  pub file : length x.rec.file ≡ 16
  pub mac : length x.rec.mac ≡ 16

-- a dirty row of the node
pub record Dirty (n : ℕ) (t : Table) : Type 0 where
  pub at : ℕ
  pub below : at < 34
  pub id : (row_at t at).id ≡ n
  pub dirty : (row_at t at).dirty ≡ true

pub record Tracks (n k : ℕ) (f a : List ℕ) (t : Table) : Type 0 where
  pub rows : (j : ℕ) → (row_at t j).id ≡ n → As k f (row_at t j).rec
  pub stored : As k f (record_of (stored_bytes a n)) ⊎ Dirty n t
  pub wide : (j : ℕ) → j < length t.rows → Wide (row_at t j)

-- ---- records and their bytes

kind-back : (r : DiskINode) → r.kind < 2 ^ 32 → (record_of (record_bytes r)).kind ≡ r.kind
unfolding record_of record_bytes record_fields le_bytes
kind-back r h = number-back (record_bytes r) 8 4 r.kind h (field (record_fields r) 1)

file-back : (r : DiskINode) → length r.file ≡ 16 → (record_of (record_bytes r)).file ≡ r.file
unfolding record_of record_bytes record_fields le_bytes time_bytes time_fields join
file-back r l = ap (λ (n : ℕ). part (record_bytes r) 80 (80 + n)) (sym l) ∙ field (record_fields r) 11

-- a row as it is loaded
pub stored-wide : (a : List ℕ) (id : ℕ) → Wide (record { id = id; dirty = false; rec = record_of (stored_bytes a id) })
unfolding record_of stored_bytes
stored-wide a id =
    let e = length-tab (byte_at a meta_file) (128 * id) 112 in
    record { file = length_part (stored_bytes a id) 80 96 (omega arith) (omega (arith, e)); mac = length_part (stored_bytes a id) 96 112 (omega arith) (omega (arith, e)) }

-- ---- the steps

-- what it is: the record of the node
pub tracks-rec : (n k : ℕ) (f a : List ℕ) (t : Table) → Tracks n k f a t → As k f (rec_of a t n)
unfolding rec_of
tracks-rec n k f a t T = go (row_of t n) refl
  where
    go : (x : Option ℕ) → row_of t n ≡ x → As k f (rec_by a t n x)
    go (Some j) e = T.rows j (row-found t n j e).1
    go None e = ⊎_elim (λ s. s) (λ (D : Dirty n t). absurd (row-missing t n e D.at D.below D.id)) T.stored

-- the rows alone count
pub tracks-rows : (n k : ℕ) (f a : List ℕ) (t u : Table) → u.rows ≡ t.rows → Tracks n k f a t → Tracks n k f a u
tracks-rows n k f a t u e T = record {
  rows = λ j q. subst (λ (x : Row). As k f x.rec) (sym (rows_at t u e j)) (T.rows j (ap (λ (x : Row). x.id) (sym (rows_at t u e j)) ∙ q));
  stored = ⊎_elim (λ s. inl s) (λ (D : Dirty n t). inr (record {
    at = D.at;
    below = D.below;
    id = ap (λ (x : Row). x.id) (rows_at t u e D.at) ∙ D.id;
    dirty = ap (λ (x : Row). x.dirty) (rows_at t u e D.at) ∙ D.dirty;
  })) T.stored;
  wide = λ j l. subst Wide (sym (rows_at t u e j)) (T.wide j (subst (λ (rows : List Row). j < length rows) e l));
}

module _ (n k : ℕ) (f : List ℕ) (some : n ≢ 0) (off : n % 1024 ≢ 1) (small : k < 2 ^ 32) where
  dirty-put : (t : Table) (i : ℕ) (r : Row) (D : Dirty n t) → (D.at ≡ i → (r.id ≡ n) × (r.dirty ≡ true)) → Dirty n (with_row t i r)
  dirty-put t i r D g = record {
    at = D.at;
    below = D.below;
    id = at-put (λ (x : Row). x.id ≡ n) t i r D.at (λ z. (g z).0) D.id;
    dirty = at-put (λ (x : Row). x.dirty ≡ true) t i r D.at (λ z. (g z).1) D.dirty;
  }

  -- another row, in another arena
  put : (a b : List ℕ) (t : Table) (i : ℕ) (r : Row) → Tracks n k f a t → (r.id ≡ n → As k f r.rec) → (i < length t.rows → Wide r) → As k f (record_of (stored_bytes b n)) ⊎ Dirty n (with_row t i r) → Tracks n k f b (with_row t i r)
  put a b t i r T is wide s = record {
    rows = λ j. at-put (λ (x : Row). x.id ≡ n → As k f x.rec) t i r j (λ z. is) (T.rows j);
    stored = s;
    wide = λ j l. at-put (λ (x : Row). j < length t.rows → Wide x) t i r j (λ z m. wide (subst (λ (y : ℕ). y < length t.rows) z m)) (T.wide j) (omega (arith, length-set t.rows i r));
  }

  -- the stored record stays
  same-stored : (a b : List ℕ) (t : Table) → stored_bytes b n ≡ stored_bytes a n → Tracks n k f a t → Tracks n k f b t
  same-stored a b t e T = record {
    rows = T.rows;
    stored = ⊎_elim (λ s. inl (subst (λ (l : List ℕ). As k f (record_of l)) (sym e) s)) (λ D. inr D) T.stored;
    wide = T.wide;
  }

  tracks-changes : Changes (Tracks n k f)
  tracks-changes a t i r e q d m y T =
      put a a t i r T (λ z. let w = T.rows i (sym e ∙ z) in record { kind = d ∙ w.kind; file = q ∙ w.file })
      (λ l. record { file = ap (λ (l : List ℕ). length l) q ∙ (T.wide i l).file; mac = ap (λ (l : List ℕ). length l) m ∙ (T.wide i l).mac })
      (⊎_elim (λ s. inl s) (λ (D : Dirty n t). inr (dirty-put t i r D (λ z. (e ∙ ap (λ (j : ℕ). (row_at t j).id) (sym z) ∙ D.id, y)))) T.stored)

  tracks-loads : Loads (Tracks n k f)
  tracks-loads a t i id free new T =
      put a a t i _ T
      (λ (z : id ≡ n). ⊎_elim (λ s. subst (λ (j : ℕ). As k f (record_of (stored_bytes a j))) (sym z) s) (λ (D : Dirty n t). absurd (row-missing t id new D.at D.below (D.id ∙ sym z))) T.stored)
      (λ l. stored-wide a id)
      (⊎_elim (λ s. inl s) (λ (D : Dirty n t). inr (dirty-put t i _ D (λ z. absurd (some (sym D.id ∙ ap (λ (j : ℕ). (row_at t j).id) z ∙ free))))) T.stored)

  tracks-frees : Frees (Tracks n k f)
  tracks-frees a t i unused clean T =
      put a a t i _ T (λ z. absurd (some (sym z))) (λ l. record { file = refl; mac = refl })
      (⊎_elim (λ s. inl s) (λ (D : Dirty n t). inr (dirty-put t i _ D (λ z. absurd (true-false D.dirty (ap (λ (j : ℕ). (row_at t j).dirty) z ∙ clean))))) T.stored)

  tracks-stores : Stores (Tracks n k f)
  unfolding stored_bytes
  tracks-stores a b t i l P T =
      put a b t i (record { id = (row_at t i).id; dirty = false; rec = (row_at t i).rec }) T (T.rows i)
      (λ l. record { file = (T.wide i l).file; mac = (T.wide i l).mac })
      (⊎_elim
      (λ (e : (row_at t i).id ≡ n).
      let w = T.rows i e in
      let q : stored_bytes b n ≡ record_bytes (row_at t i).rec = ap (stored_bytes b) (sym e) ∙ put-run a b meta_file (128 * (row_at t i).id) 112 (record_bytes (row_at t i).rec) long P in
      inl (subst (λ (l : List ℕ). As k f (record_of l)) (sym q) (record {
        kind = kind-back (row_at t i).rec (subst (λ (j : ℕ). j < 2 ^ 32) (sym w.kind) small) ∙ w.kind;
        file = file-back (row_at t i).rec (T.wide i l).file ∙ w.file;
      })))
      (λ d. ⊎_elim
      (λ s. inl (subst (λ (l : List ℕ). As k f (record_of l)) (sym (other-record a b (row_at t i).id (record_bytes (row_at t i).rec) long P n (λ z. d (sym z)))) s))
      (λ (D : Dirty n t). inr (dirty-put t i _ D (λ z. absurd (d (ap (λ (j : ℕ). (row_at t j).id) (sym z) ∙ D.id)))))
      T.stored)
      (eq-cases (row_at t i).id n))
    where
      long : length (record_bytes (row_at t i).rec) ≡ 112
      long = length-record_bytes (row_at t i).rec (T.wide i l).file (T.wide i l).mac

  pub tracks-bears : Bears (Tracks n k f)
  tracks-bears = record {
    changes = tracks-changes;
    loads = tracks-loads;
    frees = tracks-frees;
    stores = tracks-stores;
    metas = λ a b t files same T. same-stored a b t (same n some off) T;
    drops = λ a b t g D T. same-stored a b t (stored-kept a b (D.others meta_file (λ e. node-other g (sym e))) n) T;
  }

  pub tracks-fills : (i : ℕ) → Fills (Tracks n k f) i
  tracks-fills i a b t K T = same-stored a b t (stored-kept a b (K meta_file (λ e. node-other (row_at t i).rec.file (sym e))) n) T

  -- a new node's row
  pub tracks-new : (a b : List ℕ) (t : Table) (i : ℕ) (r : Row) → (row_at t i).id ≡ 0 → r.id ≢ n → Wide r → stored_bytes b n ≡ stored_bytes a n → Tracks n k f a t → Tracks n k f b (with_row t i r)
  tracks-new a b t i r free other wide e T =
      put a b t i r T (λ z. absurd (other z)) (λ l. wide)
      (⊎_elim (λ s. inl (subst (λ (l : List ℕ). As k f (record_of l)) (sym e) s)) (λ (D : Dirty n t). inr (dirty-put t i r D (λ z. absurd (some (sym D.id ∙ ap (λ (j : ℕ). (row_at t j).id) z ∙ free))))) T.stored)
