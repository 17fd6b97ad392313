-- `sound::chain::under_at`: the head that the chain leads to is the head of the file, since no other head of it is sound.
use mathlib.Core.Path.{◌≡◌, sym, ◌∙◌, ap}
use Prim.Native.Nat.{◌-◌, ◌<◌}
use native.Mathlib.Omega.{arith}
use lib.ListN.{length-take, length-drop}
use Rattle.arena.specs.Blocks.{blk, blocks}
use Rattle.arena.specs.Fields.{file_of}
use Rattle.arena.specs.Places.{head_of}
use Rattle.sound.specs.Sound.{within}
use Rattle.sound.proofs.Chains.{found-head, no-head, under-not, under_none, under-found}
use Rattle.sound.proofs.chain.under_at.Goals as goal
use Rattle.sound.proofs.chain.under_at.Goals.{Else-c-eq0}

pub returns-then-part-ne2 : goal.returns-then-part-ne2
unfolding blk
returns-then-part-ne2 c =
    sym (under-not c.args.arena.now c.args.k c.if-part-ne2.true)

pub find-c-requires : goal.find-c-requires
find-c-requires c = record { name_len = ((simp (length-take, length-drop) (omega (arith, c.requires.k_bound.0))), c.requires.k_bound.1); chains = c.requires.chains }

pub returns-then-c-eq0 : goal.returns-then-c-eq0
unfolding blk
returns-then-c-eq0 c =
    let a = c.args.arena.now in
    sym (under_none a c.args.k c.if-part-ne2.false (no-head a c.requires.arena_value (file_of (blk a c.args.k)) c.find-c.result c.find-c.ensures.0 c.if-c-eq0.true))

-- the head that was found is the head
head_at_lem : (c : Else-c-eq0) →
    let a = c.args.arena.now in
    (head_of a (file_of (blk a c.args.k)) ≡ c.find-c.result - 1) × (c.find-c.result - 1 < blocks a)
unfolding blk
head_at_lem c =
    let a = c.args.arena.now in
    found-head a c.requires.arena_value (file_of (blk a c.args.k)) c.find-c.result c.find-c.ensures.0 (omega (arith, c.if-c-eq0.false))

pub overflow_mul-p : goal.overflow_mul-p
overflow_mul-p c = omega (arith, (head_at_lem (goal.at.overflow_mul-p c).Else-c-eq0).1)

pub overflow_add-p : goal.overflow_add-p
overflow_add-p c = omega (arith, (head_at_lem (goal.at.overflow_add-p c).Else-c-eq0).1)

pub slice_bounds-u32_at-end : goal.slice_bounds-u32_at-end
slice_bounds-u32_at-end c = omega (arith, (head_at_lem (goal.at.slice_bounds-u32_at-end c).Else-c-eq0).1)

pub returns : goal.returns
unfolding blk
returns c =
    let a = c.args.arena.now in
    c.within_ok.ensures ∙ ap (within (blk a c.args.k)) c.u32_at.ensures
    ∙ sym (under-found a c.args.k (c.find-c.result - 1) c.if-part-ne2.false (head_at_lem (goal.at.returns c).Else-c-eq0).0 (head_at_lem (goal.at.returns c).Else-c-eq0).1)
