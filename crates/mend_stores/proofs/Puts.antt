-- Bytes go into the metadata file block by block, each by its place.
use mathlib.Core.Path.{◌≡◌, sym, ap, ◌∙◌}
use mathlib.Core.Bool.{Bool, true}
use mathlib.Core.List.{List}
use Prim.Native.Nat.{ℕ, suc, ◌+◌, ◌*◌, ◌≤◌, ◌<◌}
use native.Mathlib.Decide.{ℕ_discrete}
use native.Mathlib.Omega.{arith}
use lib.ListN.{length, length-set, get_or, set}
use lib.Seq.{get_or-set_same, get_or-set_other}
use borrow.Author.Tests.{le-ltb}
use Rattle.base.specs.Out.{done}
use Rattle.base.specs.Search.{pick}
use Rattle.arena.specs.Blocks.{blocks}
use Rattle.arena.specs.Fields.{File}
use Rattle.arena.specs.Places.{free_of, data_of}
use Rattle.files.specs.Read.{there, length_of}
use Rattle.files.specs.Store.{longest, raise, put_block, put_to}
use Rattle.files_laws.proofs.Put.{put-starts}
use Rattle.sefs.specs.Meta.{meta_file}
use Rattle.chains.specs.Led.{block_at}
use Rattle.plans.proofs.Plans.{block-there, block-gone}
use Rattle.mend_plan.specs.Plan.{Placed}
use Rattle.mend_stores.proofs.Places.{Laid, laid}

-- below the length nothing is raised
pub put-below : (a : List ℕ) (f : File) (pos : ℕ) (src : List ℕ) → pos + length src ≤ length_of a f → put_to a f pos src 0 ≡ done a
unfolding raise
put-below a f pos src l = put-starts a f pos src ∙ rw (le-ltb (length_of a f) (pos + length src) l)

-- ---- one block: `found` is its place as it was

module _ (a places : List ℕ) (q found : ℕ) (P : Placed a places) (below : q < 1093) (is : found ≡ get_or places q 0) where
  pub found-is : found ≡ block_at a meta_file q
  found-is = is ∙ P.each q below

  module _ (pos : ℕ) (src : List ℕ) (was : there a meta_file ≡ true) (range : pos + length src ≤ longest) (low : pos ≤ 480 * q + 480) (high : 480 * q ≤ pos + length src)
      (room : block_at a meta_file q ≡ 0 → free_of a < blocks a) (d : List ℕ) (e : put_block a meta_file pos src q ≡ done d) where
    pub place-laid : Laid a d meta_file q
    place-laid = laid a meta_file pos src q was range low high d (λ gone. room (ap (λ (b : Bool). pick b (suc (data_of a meta_file q)) 0) gone)) e

    -- it stays where it is
    pub place-old : 0 < found → Placed d places
    place-old l = record {
      size = P.size;
      each = λ r h. elim (ℕ_discrete r q) [
        | yes k ↦ P.each r h ∙ ap (block_at a meta_file) k ∙ sym (place-laid.old (block-there a meta_file q found found-is l).0) ∙ ap (block_at d meta_file) (sym k)
        | no k ↦ P.each r h ∙ sym (place-laid.rest r k)
      ];
    }

    -- it is the block that was free
    pub place-new : (k : ℕ) → found ≡ 0 → k ≡ free_of a → Placed d (set places q (k + 1))
    place-new k z at = record {
      size = length-set places q (k + 1) ∙ P.size;
      each = λ r h. elim (ℕ_discrete r q) [
        | yes j ↦ ap (λ (x : ℕ). get_or (set places q (k + 1)) x 0) j ∙ get_or-set_same places q (k + 1) 0 (omega (arith, P.size))
            ∙ ap (λ (x : ℕ). x + 1) at ∙ sym (place-laid.new (block-gone a meta_file q found found-is z)) ∙ ap (block_at d meta_file) (sym j)
        | no j ↦ get_or-set_other places q r (k + 1) 0 j ∙ P.each r h ∙ sym (place-laid.rest r j)
      ];
    }
