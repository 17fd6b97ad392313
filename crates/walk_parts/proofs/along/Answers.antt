-- `walk_parts::along`: what the turns so far leave. The measure is the bytes left.
use Rattle.walk_parts.proofs.Alongs.{passing-none, passed-not, passed_here, passing-more, passed-all, next-after}
use mathlib.Core.Path.{refl}
use Rattle.std.proofs.lemmas.Result.{err_from_is_err_and}
use Rattle.mem.specs.State.{fs_at}
use native.Mathlib.Omega.{arith}
use Rattle.walk_parts.proofs.along.Goals as goal

pub loop-i-init : goal.loop-i-init
loop-i-init c = passing-none (fs_at c.args.arena.now c.args.mem.now) c.args.text.now c.args.id c.args.rec

pub end_at-e-requires : goal.end_at-e-requires
end_at-e-requires c = c.loop-i.invariant.most

pub slice_bounds-part_in-count : goal.slice_bounds-part_in-count
slice_bounds-part_in-count c = c.end_at-e.ensures.1.0

pub slice_bounds-part_in-end : goal.slice_bounds-part_in-end
slice_bounds-part_in-end c = c.end_at-e.ensures.1.1

pub part_in-requires : goal.part_in-requires
part_in-requires c = c.requires

pub returns-in_err-n : goal.returns-in_err-n
returns-in_err-n c =
    let p = err_from_is_err_and c.from_residual.result c.from_residual.ensures.1 in
    rw (p.1, p.2) (passed-not (fs_at c.args.arena.now c.args.mem.now) c.args.text.now c.args.id c.args.rec c.loop-i.at c.loop-i.dir c.loop-i.i c.loop-i.invariant c.loop-i-test.true c.end_at-e.result c.end_at-e.ensures.0 _ c.in_err-n.field-0.0 c.in_err-n.ensures)

pub next_at-i-requires : goal.next_at-i-requires
next_at-i-requires c = c.end_at-e.ensures.1.1

pub returns-then-rec-eq-TYPE_SYMLINK : goal.returns-then-rec-eq-TYPE_SYMLINK
returns-then-rec-eq-TYPE_SYMLINK c = passed_here (fs_at c.args.arena.now c.args.mem.now) c.args.text.now c.args.id c.args.rec c.loop-i.at c.loop-i.dir c.loop-i.i c.loop-i.invariant c.loop-i-test.true c.end_at-e.result c.end_at-e.ensures.0 _ _ _ c.in_ok-n.ensures _ c.next_at-i.ensures.0 c.next_at-i.ensures.1 refl c.if-rec-eq-TYPE_SYMLINK.true

pub loop-i-smaller : goal.loop-i-smaller
loop-i-smaller c = omega (arith, next-after c.args.text.now c.loop-i.i c.end_at-e.result _ c.loop-i-test.true c.end_at-e.ensures.1.0 c.next_at-i.ensures.0, c.next_at-i.ensures.1)

pub loop-i-preserved : goal.loop-i-preserved
loop-i-preserved c = passing-more (fs_at c.args.arena.now c.args.mem.now) c.args.text.now c.args.id c.args.rec c.loop-i.at c.loop-i.dir c.loop-i.i c.loop-i.invariant c.loop-i-test.true c.end_at-e.result c.end_at-e.ensures.0 _ _ _ c.in_ok-n.ensures _ c.next_at-i.ensures.0 c.next_at-i.ensures.1 refl c.if-rec-eq-TYPE_SYMLINK.false

pub returns : goal.returns
returns c = passed-all (fs_at c.args.arena.now c.args.mem.now) c.args.text.now c.args.id c.args.rec c.loop-i.at c.loop-i.dir c.loop-i.i _ c.loop-i.invariant (omega arith)
