-- `calls_write::put_blocks`: the length first; after i turns the first i blocks.
use mathlib.Core.Path.{refl, ◌∙◌}
use native.Mathlib.Omega.{arith}
use lib.ListN.{length}
use Rattle.arena.specs.Fields.{file}
use Rattle.files_laws.proofs.Views.{there-at}
use Rattle.plans.proofs.Plans.{touched-lies}
use Rattle.plans.proofs.Puts.{put-turn, put_whole}
use Rattle.plans.proofs.Planned.{plan-holds, plan-room, put_first}
use Rattle.calls_write.proofs.put_blocks.Goals as goal

pub touched-n-requires : goal.touched-n-requires
touched-n-requires c = c.requires.src_bound.0

pub raise-requires : goal.raise-requires
raise-requires c = omega (arith, there-at c.args.arena.now (file 1 c.args.name.now) c.requires.src_bound.1.0, c.requires.src_bound.1.1)

pub loop-i-init : goal.loop-i-init
loop-i-init c = (refl, λ a w r P e. (e, omega arith))

pub bounds-plan-i : goal.bounds-plan-i
bounds-plan-i c =
    omega (arith, c.requires.planned.few, c.touched-n.ensures)

pub index16-requires : goal.index16-requires
index16-requires c = tt

pub put_block-from-requires : goal.put_block-from-requires
put_block-from-requires c =
    let f = file 1 c.args.name.now in
    let so = c.loop-i.invariant.1 c.args.arena.now c.requires.src_bound.1.0 c.requires.src_bound.0 c.requires.planned (put_first c.args.arena.now f c.args.pos c.args.src.now c.args.k _ c.requires.src_bound.1.0 c.requires.src_bound.1.1 c.raise.ensures) in
    let t = touched-lies c.args.pos (length c.args.src.now) c.loop-i.i (omega (arith, c.touched-n.ensures)) in record { src_bound = (c.requires.src_bound.0, (t.0, t.1)); found_value = (plan-holds c.args.arena.now f c.args.pos c.args.src.now c.requires.src_bound.1.0 c.requires.src_bound.0 c.args.plan.now c.requires.planned c.loop-i.i c.loop-i.arena (omega (arith, c.touched-n.ensures)) so.0 _ c.index16.ensures, (so.1, plan-room c.args.arena.now f c.args.pos c.args.src.now c.requires.src_bound.1.0 c.requires.src_bound.0 c.args.plan.now c.requires.planned c.loop-i.i c.loop-i.arena (omega (arith, c.touched-n.ensures)) so.0 _ c.index16.ensures)) }

pub loop-i-preserved : goal.loop-i-preserved
loop-i-preserved c =
    let f = file 1 c.args.name.now in (
      c.put_block-from.auto.arena ∙ c.loop-i.invariant.0,
      λ a w r P e. put-turn a f c.args.pos c.args.src.now w r c.loop-i.i c.loop-i.arena (omega (arith, c.touched-n.ensures)) (c.loop-i.invariant.1 a w r P e).0 _ _ c.put_block-from.ensures.0 c.put_block-from.ensures.1.0,
    )

pub shape_of-arena : goal.shape_of-arena
shape_of-arena c = c.loop-i.invariant.0 ∙ c.raise.auto.arena

pub returns : goal.returns
returns c =
    let f = file 1 c.args.name.now in
    let so = c.loop-i.invariant.1 c.args.arena.now c.requires.src_bound.1.0 c.requires.src_bound.0 c.requires.planned (put_first c.args.arena.now f c.args.pos c.args.src.now c.args.k _ c.requires.src_bound.1.0 c.requires.src_bound.1.1 c.raise.ensures) in
    put_whole c.args.arena.now f c.args.pos c.args.src.now c.requires.src_bound.1.0 c.requires.src_bound.0 c.loop-i.i c.loop-i.arena (omega (arith, c.touched-n.ensures)) so.0
