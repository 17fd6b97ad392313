-- `nodes::remove_node`: superblock and maps, then the file.
use Rattle.std.proofs.lemmas.Result.{err_from_is_err_and}
use Rattle.base.proofs.Tells.{number-ne}
use Rattle.base.specs.Told.{code}
use Rattle.base.specs.Told.{number}
use mathlib.Core.Path.{refl}
use mathlib.Core.List.{List}
use Prim.Native.Nat.{ℕ}
use mathlib.Core.Path.{subst}
use Rattle.base.proofs.Outs.{went-has}
use Rattle.arena.specs.Fields.{file}
use Rattle.overlay.specs.View.{view}
use Rattle.overlay.specs.Steps.{Did}
use Rattle.files.specs.Store.{drop_file}
use Rattle.nodes.proofs.Nodes.{remove-stop, remove-done}
use Rattle.nodes.proofs.remove_node.Goals as goal

pub returns-in_err-sync_meta : goal.returns-in_err-sync_meta
returns-in_err-sync_meta c =
    let p = err_from_is_err_and c.from_residual.result c.from_residual.ensures.1 in
    rw (p.1, p.2) (remove-stop c.args.arena.now c.args.work.now c.sync_meta.new.work c.args.mem.now c.args.i (number c.in_err-sync_meta.field-0.0) c.in_err-sync_meta.ensures _ _ (number-ne c.in_err-sync_meta.field-0.0))

pub drop-requires : goal.drop-requires
drop-requires c = ((went-has c.in_ok-sync_meta.ensures refl).fine, c.file_at.ensures.1)

pub returns : goal.returns
returns c =
    let u = c.sync_meta.new.work in
    let d = subst (λ (x : List ℕ). Did (drop_file (view c.args.arena.now u) (file 1 x)) c.args.arena.now u c.drop.new.work 0 (code c.drop.result)) c.file_at.ensures.0 c.drop.ensures in
    remove-done c.args.arena.now c.args.work.now u c.args.mem.now c.args.i 0 c.in_ok-sync_meta.ensures c.drop.new.work _ refl d
