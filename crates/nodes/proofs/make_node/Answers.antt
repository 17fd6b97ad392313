-- `nodes::make_node`: the test of the definition, the file, the row.
use Rattle.std.proofs.lemmas.Result.{err_from_is_err_and}
use Rattle.base.proofs.Tells.{number-ne}
use Rattle.base.specs.Told.{number}
use mathlib.Core.Path.{refl}
use mathlib.Core.Path.{◌∙◌, sym}
use native.Mathlib.Omega.{arith}
use Rattle.overlay.specs.View.{view}
use Rattle.mem.specs.State.{fs_of}
use Rattle.base.specs.Out.{ill}
use Rattle.nodes.proofs.Nodes.{made-not, made-stop, made-next}
use Rattle.nodes.proofs.make_node.Goals as goal

pub returns-then-not-is_new : goal.returns-then-not-is_new
returns-then-not-is_new c =
    ill {r = 19} (omega arith) (made-not c.args.arena.now c.args.work.now c.args.mem.now c.args.id c.args.kind c.args.mode c.args.time c.args.file (sym c.is_new.ensures ∙ c.if-not-is_new.true))

pub returns-in_err-make : goal.returns-in_err-make
returns-in_err-make c =
    let p = err_from_is_err_and c.from_residual.result c.from_residual.ensures.1 in
    rw (p.1, p.2) (made-stop c.args.arena.now c.args.work.now c.args.mem.now c.args.id c.args.kind c.args.mode c.args.time c.args.file (sym c.is_new.ensures ∙ c.if-not-is_new.false) c.make.new.work (number c.in_err-make.field-0.0) c.in_err-make.ensures _ _ (number-ne c.in_err-make.field-0.0))

pub returns : goal.returns
unfolding fs_of
returns c =
    made-next c.args.arena.now c.args.work.now c.args.mem.now c.args.id c.args.kind c.args.mode c.args.time c.args.file (sym c.is_new.ensures ∙ c.if-not-is_new.false) c.make.new.work 0 c.in_ok-make.ensures c.open_in.new.mem _ _ refl (rw c.new_record.ensures at (c.open_in.ensures (view c.args.arena.now c.make.new.work)))
