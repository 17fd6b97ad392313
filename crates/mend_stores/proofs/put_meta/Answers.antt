-- `mend_stores::put_meta`: after i turns the first i blocks.
use mathlib.Core.Path.{refl, ◌∙◌}
use Prim.Native.Nat.{◌+◌, ◌≤◌}
use native.Mathlib.Omega.{arith}
use lib.ListN.{length}
use Rattle.files_laws.proofs.Put.{put-upto}
use Rattle.sefs.specs.Meta.{meta_file}
use Rattle.plans.proofs.Plans.{touched-lies}
use Rattle.plans.proofs.Puts.{put-room, put-turn, put_whole}
use Rattle.mend_stores.proofs.Puts.{put-below}
use Rattle.mend_stores.proofs.put_meta.Goals as goal

pub loop-i-init : goal.loop-i-init
loop-i-init c =
    (put-below c.args.arena.now meta_file c.args.pos c.args.src.now c.requires.below, c.requires.used, c.requires.placed, λ g. refl)

pub overflow_add-q : goal.overflow_add-q
overflow_add-q c =
    omega (arith, c.requires.below, c.requires.long, (touched-lies c.args.pos (length c.args.src.now) c.loop-i.i (omega (arith, c.touched-n.ensures))).1)

pub put_place-at-requires : goal.put_place-at-requires
put_place-at-requires c =
    let a = c.args.arena.now in
    let p = c.args.pos in
    let b = c.args.src.now in
    let i = c.loop-i.i in
    let r : p + length b ≤ 4294967295 = omega (arith, c.requires.below, c.requires.long) in
    let t = touched-lies p (length b) i (omega (arith, c.touched-n.ensures)) in
    let u = put-upto a meta_file p b c.requires.exists r i c.loop-i.arena (omega (arith, c.touched-n.ensures)) c.loop-i.invariant.0 in record { placed = ((c.loop-i.invariant.2, omega (arith, t.1, c.requires.below, c.requires.long)), (u.exists, omega (arith, c.requires.most))); src_bound = (r, (t.0, t.1)); from_bound = (c.loop-i.invariant.1, λ z. put-room a meta_file p b c.requires.exists r i c.loop-i.arena (omega (arith, c.touched-n.ensures)) c.loop-i.invariant.0 c.requires.room _ refl z) }

pub loop-i-preserved : goal.loop-i-preserved
loop-i-preserved c =
    let t = put-turn c.args.arena.now meta_file c.args.pos c.args.src.now c.requires.exists (omega (arith, c.requires.below, c.requires.long)) c.loop-i.i c.loop-i.arena (omega (arith, c.touched-n.ensures)) c.loop-i.invariant.0 _ _ c.put_place-at.ensures.q_value.0 c.put_place-at.ensures.q_value.1 in
    (t.0, t.1, c.put_place-at.ensures.placed_2.0, λ g. c.put_place-at.ensures.placed_2.1 g ∙ c.loop-i.invariant.3 g)

pub returns : goal.returns
returns c =
    record {
      put = put_whole c.args.arena.now meta_file c.args.pos c.args.src.now c.requires.exists (omega (arith, c.requires.below, c.requires.long)) c.loop-i.i c.loop-i.arena (omega (arith, c.touched-n.ensures)) c.loop-i.invariant.0;
      heads = c.loop-i.invariant.3;
      placed = c.loop-i.invariant.2;
      used = c.loop-i.invariant.1;
    }
