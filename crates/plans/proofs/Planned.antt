-- A run that is planned: the length, and one turn of a loop over its blocks, by the plan.
use mathlib.Core.Path.{◌≡◌, sym, ap, ap₂, ◌∙◌}
use mathlib.Core.Bool.{Bool, true}
use mathlib.Core.List.{List}
use Prim.Native.Nat.{ℕ, suc, ◌+◌, ◌/◌, ◌≤◌, ◌<◌}
use native.Mathlib.Omega.{arith}
use lib.ListN.{length, get_or}
use lib.Dec.{ltb}
use Rattle.base.specs.Out.{done}
use Rattle.base.specs.Search.{pick}
use Rattle.le.specs.Le.{le_put}
use Rattle.arena.specs.Blocks.{blk, put_blk, blocks}
use Rattle.arena.specs.Fields.{File, number_of, seal}
use Rattle.arena.specs.Places.{free_of, head_of}
use Rattle.files.specs.Read.{there}
use Rattle.files.specs.Store.{longest, put_to, touched}
use Rattle.files.proofs.Puts.{raise-is}
use Rattle.files_laws.proofs.Put.{put-upto, put-starts}
use Rattle.chains.specs.Led.{block_at}
use Rattle.plans.specs.Plan.{Planned}
use Rattle.plans.proofs.Puts.{put-room}

module _ (a : List ℕ) (f : File) (pos : ℕ) (src : List ℕ) (was : there a f ≡ true) (range : pos + length src ≤ longest) (plan : List ℕ) (P : Planned a f pos (length src) plan) where
  module _ (i : ℕ) (d : List ℕ) (l : i < touched pos (length src)) (e : put_to a f pos src i ≡ done d) where
    -- the plan holds for the blocks that are still to come
    pub plan-holds : (c : ℕ) → c ≡ get_or plan i 0 → c ≡ block_at d f (pos / 480 + i)
    plan-holds c h =
        let U = put-upto a f pos src was range i d (omega arith) e in
        h ∙ P.places i l ∙ ap₂ (λ (b : Bool) (k : ℕ). pick b (suc k) 0) (sym (U.rest (pos / 480 + i) (λ _. omega arith))) (sym (U.place (pos / 480 + i) (λ _. omega arith)))

    -- and there is a free block where one has to be made
    pub plan-room : (c : ℕ) → c ≡ get_or plan i 0 → c ≡ 0 → free_of d < blocks d
    plan-room c h = put-room a f pos src was range i d l e P.room c (plan-holds c h)

-- the length is raised first
pub put_first : (a : List ℕ) (f : File) (pos : ℕ) (src : List ℕ) (k : ℕ) (d : List ℕ) → there a f ≡ true → k ≡ head_of a f
    → d ≡ pick (ltb (number_of (blk a k)) (pos + length src)) (put_blk a k (seal (le_put (blk a k) 20 4 (pos + length src)))) a → put_to a f pos src 0 ≡ done d
put_first a f pos src k d was at e = put-starts a f pos src ∙ ap done (sym (e ∙ raise-is a f k (pos + length src) at was))
