-- `range_stores::open_hole`: the copy, and zeros by what the copy left of the plan.
use Prim.Native.Nat.{◌+◌}
use native.Mathlib.Omega.{arith}
use Rattle.le.specs.Le.{Bytes}
use Rattle.arena.specs.Fields.{file}
use Rattle.range_stores.proofs.Holes.{hole-long, hole-movable, hole-there, hole-head, hole-planned, hole-whole}
use borrow.Author.Rules.{rules}
use Rattle.range_stores.proofs.open_hole.Goals as goal

pub slice_bounds-move_up-count : goal.slice_bounds-move_up-count
slice_bounds-move_up-count c = hole-long c.requires

pub slice_bounds-move_up-start : goal.slice_bounds-move_up-start
slice_bounds-move_up-start c = let h = hole-long c.requires in search rules

pub move_up-requires : goal.move_up-requires
move_up-requires c = (hole-movable c.requires, omega arith)

pub put_zeros-requires : goal.put_zeros-requires
put_zeros-requires c =
    let bytes : Bytes c.args.arena.now = λ j. search rules in
    let e = c.move_up.ensures in record { n_bound = (omega (arith, c.requires.range), (hole-there c.requires bytes e.n_value, hole-head c.requires bytes e.n_value)); planned = hole-planned c.requires bytes e.n_value c.move_up.new.plan c.move_up.auto.plan e.places }

pub returns : goal.returns
returns c =
    hole-whole c.args.arena.now (file 1 c.args.name.now) c.args.from (c.args.from + c.args.len) c.args.len c.args.n _ _
    c.move_up.ensures.n_value c.put_zeros.ensures
