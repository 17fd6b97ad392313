-- `range_stores::move_down`: after i turns the first i blocks of one write.
use mathlib.Core.Path.{sym}
use native.Mathlib.Omega.{arith}
use Rattle.arena.specs.Fields.{file}
use Rattle.files_laws.proofs.Bounds.{length-fits}
use Rattle.plans.proofs.Plans.{touched-lies}
use Rattle.std.proofs.Common.{rules}
use Rattle.range_stores.proofs.Runs.{down-starts, down-long, down-covers, down-in, down-found, down_turn, down-whole}
use Rattle.range_stores.proofs.move_down.Goals as goal

pub touched-m-requires : goal.touched-m-requires
touched-m-requires c =
    omega (arith, c.requires.0.long, length-fits c.args.arena.now (file 1 c.args.name.now) (λ j. search rules))

pub loop-i-init : goal.loop-i-init
loop-i-init c = (
  down-starts c.requires.0 c.requires.1
      c.touched-m.ensures,
  omega arith,
)

pub slice_bounds-move_block-end : goal.slice_bounds-move_block-end
slice_bounds-move_block-end c =
    sym (down-long c.requires.0 c.requires.1
    c.touched-m.ensures)

pub move_block-from-requires : goal.move_block-from-requires
move_block-from-requires c =
    let f = file 1 c.args.name.now in
    let t = touched-lies c.args.dst c.args.n c.loop-i.i (omega (arith, c.touched-t.ensures)) in
    let h = down-found c.requires.0 c.requires.1 c.touched-m.ensures c.loop-i.i c.loop-i.arena (omega (arith, c.touched-t.ensures)) c.loop-i.invariant.0 _ c.from.ensures in record {
      n_bound = (
        (omega (arith, c.requires.0.long, length-fits c.args.arena.now f (λ j. search rules)), c.requires.0.range),
        (
          t.0,
          (
            t.1,
            down-covers c.requires.0 c.requires.1 c.touched-m.ensures,
          ),
        ),
      );
      in_arena = down-in c.requires.0 c.requires.1 c.touched-m.ensures c.loop-i.arena c.loop-i.auto.arena;
      found_value = (h.0, (c.loop-i.invariant.1, h.1));
    }

pub loop-i-preserved : goal.loop-i-preserved
loop-i-preserved c =
    let g = down_turn c.requires.0 c.requires.1 c.touched-m.ensures c.loop-i.i c.loop-i.arena (omega (arith, c.touched-t.ensures)) c.loop-i.invariant.0 _ _ c.move_block-from.ensures.0 c.move_block-from.ensures.1 in
    (g.0, g.1)

pub returns : goal.returns
returns c =
    down-whole c.requires.0 c.requires.1 c.touched-m.ensures c.loop-i.i c.loop-i.arena (omega (arith, c.touched-t.ensures)) c.loop-i.invariant.0
