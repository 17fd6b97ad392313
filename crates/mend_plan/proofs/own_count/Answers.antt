-- `mend_plan::own_count`: the name and the kind of block k are the file's.
use mathlib.Core.Path.{◌≡◌, refl, sym, ap, ap₂, ◌∙◌}
use Prim.Native.Nat.{ℕ, ◌+◌}
use native.Mathlib.Omega.{arith}
use Rattle.base.specs.Count.{bit, sum_to, count_to}
use Rattle.base.proofs.Counts.{count_to-more, bit_le}
use Rattle.arena.specs.Blocks.{blk, blocks}
use Rattle.arena.specs.Fields.{File, file_of}
use Rattle.files.specs.Store.{is_of}
use Rattle.files_laws.specs.Laws.{own_count}
use Rattle.mend_plan.proofs.Rooms.{bit_of, block-file}
use Rattle.mend_plan.proofs.own_count.Goals as goal

pub loop-i-init : goal.loop-i-init
unfolding count_to sum_to
loop-i-init c = (omega arith, refl)

pub loop-i-preserved : goal.loop-i-preserved
unfolding blk
loop-i-preserved c =
    let e = c.from-c.ensures ∙ bit_of c.is_of.result in
    (omega (arith, e, bit_le c.is_of.result), ap₂ (λ (x y : ℕ). x + y) c.loop-i.invariant.1 (e ∙ ap bit c.is_of.ensures) ∙ sym (count_to-more _ c.loop-i.i))

pub returns : goal.returns
unfolding own_count
returns c =
    let a = c.args.arena.now in
    let e : c.loop-i.i ≡ blocks a = omega arith in (
      c.loop-i.invariant.1 ∙ ap (λ (f : File). count_to (λ j. is_of f (blk a j)) c.loop-i.i) (block-file a c.args.k _ _ refl c.copy.ensures) ∙ ap (count_to (λ j. is_of (file_of (blk a c.args.k)) (blk a j))) e,
      omega arith,
    )
