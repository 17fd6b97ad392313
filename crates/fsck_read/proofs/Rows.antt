-- Rule 4: the maps' own bits, and the rows of the table against the records that are stored.
use mathlib.Core.Path.{◌≡◌, sym, ap, ap₂, ◌∙◌}
use mathlib.Core.Bool.{Bool, true, false, not, ◌||◌}
use mathlib.Core.List.{List}
use Prim.Native.Nat.{ℕ, ◌+◌, ◌*◌, ◌≤◌, ◌<◌}
use native.Mathlib.Omega.{arith}
use lib.ListN.{length}
use borrow.Author.Tests.{eq-eqb, ne_eqb}
use Rattle.base.specs.Count.{all_to}
use Rattle.base.specs.Decides.{same}
use Rattle.base.specs.Parts.{part}
use Rattle.base.proofs.Bools.{same_bool}
use Rattle.base.proofs.Lists.{length_part}
use Rattle.base.proofs.Parts.{part-all, part-part}
use Rattle.base.proofs.Sames.{same_true, same-own}
use Rattle.le.specs.Le.{Bytes}
use Rattle.structs.specs.Layout.{record_of, record_bytes}
use Rattle.structs.specs.declared.SuperBlock.{SuperBlock}
use Rattle.structs.proofs.Layouts.{record_bytes-record_of}
use Rattle.maps.specs.Maps.{bit_at}
use Rattle.table.specs.declared.Row.{Row}
use Rattle.table.specs.declared.Table.{Table}
use Rattle.table.specs.Table.{row_at}
use Rattle.table_bytes.specs.Layout.{row_from}
use Rattle.sefs.specs.Meta.{meta_file}
use Rattle.mem.specs.Mem.{table_in}
use Rattle.mem.proofs.Mems.{row_read}
use Rattle.rules.specs.Image.{run, stored_super, stored_maps, is_node, stored_bytes}
use Rattle.rules.specs.Tests.{row_allowed}
use Rattle.fsck_read.specs.Loaded.{Of, maps_clear}

-- ---- a row

same-sym : (l m : List ℕ) → same l m ≡ same m l
same-sym l m = same_bool (same l m) (same m l) (λ e. same-own m l (sym (same_true l m e))) (λ e. same-own l m (sym (same_true m l e)))

-- a row's record, as it stands in memory
row-bytes : (m : List ℕ) (i : ℕ) → 4402 ≤ length m → Bytes m → i < 34 → record_bytes (row_at (table_in m) i).rec ≡ part m (117 * i + 5) (117 * i + 117)
unfolding row_from
row-bytes m i long h l =
    ap (λ (r : Row). record_bytes r.rec) (row_read m i l)
    ∙ ap (λ (x : List ℕ). record_bytes (record_of x)) (part-part m (117 * i) (117 * i + 117) 5 117 (omega arith))
    ∙ record_bytes-record_of (part m (117 * i + 5) (117 * i + 117)) (part-all (λ x. x < 256) m (omega arith) h (117 * i + 5) (117 * i + 117))
    (length_part m (117 * i + 5) (117 * i + 117) (omega arith) (omega arith) ∙ omega arith)

pub clean-dirty : (d x : Bool) → d ≡ true → true ≡ (d || x)
clean-dirty d x e = sym (rw e)

pub clean-same : (a m l o : List ℕ) (i k s : ℕ) (d r : Bool) → 4402 ≤ length m → Bytes m → i < 34 → d ≡ false → length o ≡ 112 → k ≡ (row_at (table_in m) i).id
    → l ≡ run a meta_file (128 * k) (length o) → s ≡ 117 * i + 5 → r ≡ same l (part m s (s + 112))
    → r ≡ (d || same (record_bytes (row_at (table_in m) i).rec) (stored_bytes a (row_at (table_in m) i).id))
unfolding stored_bytes
clean-same a m l o i k s d r long h inside clean n id q at e =
    let u : s + 112 ≡ 117 * i + 117 = omega arith in
    let l-is : l ≡ run a meta_file (128 * (row_at (table_in m) i).id) 112 = q ∙ ap₂ (λ (x y : ℕ). run a meta_file (128 * x) y) id n in
    e ∙ ap₂ same l-is (ap₂ (part m) at u ∙ sym (row-bytes m i long h inside))
    ∙ same-sym (run a meta_file (128 * (row_at (table_in m) i).id) 112) (record_bytes (row_at (table_in m) i).rec)
    ∙ sym (rw clean)

module _ (a : List ℕ) (t : Table) (i id : ℕ) (is : id ≡ (row_at t i).id) where
  pub row-free : id ≡ 0 → true ≡ row_allowed a t i
  unfolding row_allowed
  row-free z = sym (rw (eq-eqb (row_at t i).id 0 (sym is ∙ z)))

  pub row-not : (id ≡ 0 → ⊥) → false ≡ is_node a id → false ≡ row_allowed a t i
  unfolding row_allowed
  row-not z n = sym (rw (ne_eqb (row_at t i).id 0 (λ e. z (is ∙ e)), sym (n ∙ ap (is_node a) is)))

  pub row-rest : (r : Bool) → (id ≡ 0 → ⊥) → true ≡ is_node a id → r ≡ ((row_at t i).dirty || same (record_bytes (row_at t i).rec) (stored_bytes a (row_at t i).id)) → r ≡ row_allowed a t i
  unfolding row_allowed
  row-rest r z n e = e ∙ sym (rw (ne_eqb (row_at t i).id 0 (λ e. z (is ∙ e)), sym (n ∙ ap (is_node a) is)))

-- ---- rule 4

module _ (a m : List ℕ) (O : Of a m) where
  pub clear-is : maps_clear m ≡ all_to (λ g. not (bit_at (stored_maps a) (1024 * g + 1))) (stored_super a).groups
  unfolding maps_clear
  clear-is = ap₂ (λ (x : List ℕ) (b : SuperBlock). all_to (λ g. not (bit_at x (1024 * g + 1))) b.groups) O.maps O.super
