-- `walk_parts::enter`: the test of the whole text, then where it begins.
use Rattle.std.proofs.lemmas.Result.{err_from_is_err_and}
use Rattle.base.proofs.Tells.{number-ne}
use mathlib.Core.Path.{refl}
use Rattle.walk_parts.proofs.Spots.{enter-bad, enter-root, enter-here}
use Rattle.mem.specs.State.{fs_at}
use Rattle.walk.specs.Walk.{spot}
use Rattle.walk_parts.proofs.enter.Goals as goal

pub returns-in_err-good_text : goal.returns-in_err-good_text
returns-in_err-good_text c =
    let p = err_from_is_err_and c.from_residual.result c.from_residual.ensures.1 in
    rw (p.1, p.2) (enter-bad (fs_at c.args.arena.now c.args.mem.now) (spot c.args.id c.args.rec) c.args.text.now c.in_err-good_text.ensures _ (number-ne c.in_err-good_text.field-0.0) refl)

pub returns-then-from_root : goal.returns-then-from_root
returns-then-from_root c = enter-root (fs_at c.args.arena.now c.args.mem.now) (spot c.args.id c.args.rec) c.args.text.now c.in_ok-good_text.ensures refl c.from_root.ensures c.if-from_root.true c.at_root.ensures

pub returns : goal.returns
returns c = enter-here (fs_at c.args.arena.now c.args.mem.now) (spot c.args.id c.args.rec) c.args.text.now c.in_ok-good_text.ensures refl c.from_root.ensures c.if-from_root.false
