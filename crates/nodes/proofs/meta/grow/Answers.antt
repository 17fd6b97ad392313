-- `nodes::meta::grow`: the definition behind its two tests.
use Rattle.std.proofs.lemmas.Result.{err_from_is_err_and}
use Rattle.base.proofs.Tells.{number-ne}
use Rattle.base.specs.Told.{number}
use mathlib.Core.Path.{refl}
use Rattle.nodes.proofs.Ids.{group-stop, group-done}
use Rattle.nodes.proofs.meta.grow.Goals as goal

pub returns-in_err-cut : goal.returns-in_err-cut
returns-in_err-cut c =
    let p = err_from_is_err_and c.from_residual.result c.from_residual.ensures.1 in
    rw (p.1, p.2) (let p = c.requires.mem_bound in
    group-stop c.args.arena.now c.args.work.now c.args.mem.now p.0 p.1.0 p.1.1 c.cut.new.work (number c.in_err-cut.field-0.0) (rw (c.index.ensures, c.requires.mem_value.1) at c.in_err-cut.ensures) c.args.mem.now (number-ne c.in_err-cut.field-0.0))

pub returns : goal.returns
returns c =
    let p = c.requires.mem_bound in
    group-done c.args.arena.now c.args.work.now c.args.mem.now p.0 p.1.0 p.1.1 c.cut.new.work 0 (rw (c.index.ensures, c.requires.mem_value.1) at c.in_ok-cut.ensures) c.add_group.new.mem refl c.add_group.ensures
