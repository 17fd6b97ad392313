-- The name in a block, and a record as it is stored anew.
use mathlib.Core.Path.{◌≡◌, refl, sym, ap, ◌∙◌}
use mathlib.Core.Bool.{Bool, true, false}
use mathlib.Core.List.{List}
use Prim.Native.Nat.{ℕ, ◌+◌, ◌*◌}
use native.Mathlib.Omega.{arith}
use lib.ListN.{length}
use Rattle.base.specs.Parts.{part, paste}
use Rattle.base.specs.Search.{pick}
use Rattle.base.proofs.Lists.{length_part}
use Rattle.base.proofs.Parts.{part-part, paste-whole}
use Rattle.structs.specs.Layout.{record_of, record_bytes}
use Rattle.structs.specs.Types.{is_folder}
use Rattle.structs.specs.declared.DiskINode.{DiskINode}
use Rattle.structs.proofs.Layouts.{length-record_bytes}
use Rattle.arena.specs.Blocks.{blk}
use Rattle.arena.specs.Fields.{name_of}
use Rattle.sefs.specs.Records.{with_links, with_size}
use Rattle.mend_stores.specs.Stores.{renewed_by}

pub name-read : (a : List ℕ) (k : ℕ) → part a (512 * k + 4) (512 * k + 4 + 16) ≡ name_of (blk a k)
unfolding blk
name-read a k = sym (part-part a (512 * k) (512 * k + 512) 4 20 (omega arith) ∙ ap (part a (512 * k + 4)) (let e : 512 * k + 20 ≡ 512 * k + 4 + 16 = omega arith in e))

-- a record as it is stored anew: b is what was read, d what was made of it

renewed-long : (l : List ℕ) (links len : ℕ) → length l ≡ 112 → length (record_bytes (renewed_by (record_of l) links len)) ≡ 112
unfolding renewed_by record_of
renewed-long l links len e = length-record_bytes (renewed_by (record_of l) links len) (of (λ r. r.file) (λ r n. refl) (λ r n. refl) ∙ length_part l 80 96 (omega arith) (omega arith) ∙ omega arith) (of (λ r. r.mac) (λ r n. refl) (λ r n. refl) ∙ length_part l 96 112 (omega arith) (omega arith) ∙ omega arith)
  where
    of : (g : DiskINode → List ℕ) → ((r : DiskINode) (n : ℕ) → g (with_links r n) ≡ g r) → ((r : DiskINode) (n : ℕ) → g (with_size r n) ≡ g r) → length (g (renewed_by (record_of l) links len)) ≡ length (g (record_of l))
    of g x y = go (is_folder (record_of l).kind)
      where
        go : (b : Bool) → length (g (pick b (with_links (record_of l) links) (with_size (with_links (record_of l) links) len))) ≡ length (g (record_of l))
        go true = ap length (x (record_of l) links)
        go false = ap length (y (with_links (record_of l) links) len ∙ x (record_of l) links)

module _ (b d : List ℕ) (r : DiskINode) (links len : ℕ) (size : length b ≡ 112) (is : r ≡ renewed_by (record_of b) links len) (put : d ≡ paste b 0 (record_bytes r)) where
  pub record-new : d ≡ record_bytes (renewed_by (record_of b) links len)
  record-new = put ∙ ap (λ (x : DiskINode). paste b 0 (record_bytes x)) is ∙ paste-whole b (record_bytes (renewed_by (record_of b) links len)) (size ∙ sym (renewed-long b links len size))
