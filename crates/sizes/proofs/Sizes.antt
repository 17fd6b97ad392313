-- The file's length and the size become n: the cut in place.
use mathlib.Core.Path.{◌≡◌, sym, ap, ◌∙◌}
use mathlib.Core.Bool.{true}
use mathlib.Core.List.{List}
use Prim.Native.Nat.{ℕ, ◌≤◌}
use native.Mathlib.Omega.{arith}
use borrow.Author.Tests.{le-leb}
use Rattle.base.specs.Out.{done}
use Rattle.le.specs.Le.{le_put, Bytes}
use Rattle.structs.specs.declared.DiskINode.{DiskINode}
use Rattle.table.specs.Table.{row_at, take_row}
use Rattle.arena.specs.Blocks.{blk, put_blk}
use Rattle.arena.specs.Fields.{File, number_of, seal}
use Rattle.arena.specs.Places.{head_of}
use Rattle.sound.specs.Sound.{sound}
use Rattle.files.specs.Read.{there, length_of}
use Rattle.files.specs.Store.{longest, set_length, clear_all, is_past, zero_tail, cut_file}
use Rattle.files_laws.proofs.Views.{length-here}
use Rattle.files_laws.proofs.Grown.{cut-grown}
use Rattle.sefs.specs.Records.{with_size}
use Rattle.sefs.specs.Nodes.{node_file}
use Rattle.mem.specs.Mem.{table_in, Tabled}
use Rattle.sizes.specs.Sizes.{Sized}

-- ---- the cut

module _ (a : List ℕ) (f : File) (k n long : ℕ) (at : k ≡ head_of a f) (was : there a f ≡ true) (range : n ≤ longest) (is : long ≡ number_of (blk a k)) where
  head-length : long ≡ length_of a f
  head-length = is ∙ ap (λ (j : ℕ). number_of (blk a j)) at ∙ sym (length-here a f was)

  set_at : (d : List ℕ) → d ≡ put_blk a k (seal (le_put (blk a k) 20 4 n)) → d ≡ set_length a f n
  unfolding set_length
  set_at d e = e ∙ ap (λ (j : ℕ). put_blk a j (seal (le_put (blk a j) 20 4 n))) at

  -- one that is not shorter
  pub cut-longer : sound a ≡ true → Bytes a → long ≤ n → (d : List ℕ) → d ≡ put_blk a k (seal (le_put (blk a k) 20 4 n)) → cut_file a f n ≡ done d
  cut-longer ok h l d e = cut-grown a f n ok h was (omega (arith, head-length)) range ∙ ap done (sym (set_at d e))

  pub cut-shorter : (d b c : List ℕ) → d ≡ put_blk a k (seal (le_put (blk a k) 20 4 n)) → b ≡ clear_all (is_past f n) d → c ≡ zero_tail b f n → cut_file a f n ≡ done c
  unfolding cut_file
  cut-shorter d b c ed eb ec =
      rw (was, le-leb n longest range) (sym (ap done (ec ∙ ap (λ (x : List ℕ). zero_tail x f n) (eb ∙ ap (clear_all (is_past f n)) (set_at d ed)))))

-- and the row
pub size-set : (a b m d : List ℕ) (i n : ℕ) (w : DiskINode) → w ≡ (row_at (table_in m) i).rec → cut_file a (node_file w) n ≡ done b
    → Tabled m d (take_row (table_in m) i (row_at (table_in m) i).id (with_size w n) true) → Sized a b m d i n
size-set a b m d i n w is e T = record {
  arena = rw (← is) e;
  table = T.table ∙ ap (λ (x : DiskINode). take_row (table_in m) i (row_at (table_in m) i).id (with_size x n) true) is;
  whole = T.whole;
}
