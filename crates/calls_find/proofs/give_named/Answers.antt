-- `calls_find::give_named`: the slot in the folder, then the node.
use Rattle.std.proofs.lemmas.Result.{err_from_is_err_and}
use Rattle.base.specs.Out.{ill}
use Rattle.base.proofs.Tells.{number-ne, number-pos}
use Rattle.base.specs.Told.{number}
use mathlib.Core.Path.{refl}
use mathlib.Core.Path.{subst}
use Rattle.base.specs.Out.{Went}
use Rattle.structs.specs.declared.DiskINode.{DiskINode}
use Rattle.table.specs.Table.{row_at}
use Rattle.mem.specs.Mem.{table_in}
use Rattle.calls.proofs.General.{went-as}
use Rattle.calls_find.specs.Finds.{find_in}
use Rattle.calls_find.proofs.Finds.{named-not, named-give}
use Rattle.calls_find.proofs.give_named.Goals as goal

pub returns-in_err-id : goal.returns-in_err-id
returns-in_err-id c =
    let p = err_from_is_err_and c.from_residual.result c.from_residual.ensures.1 in
    let s = c.args in
    let e = c.in_err-id.field-0.0 in
    let f = subst (λ (w : DiskINode). Went (find_in s.arena.now w s.name.now) 0 Unit (number e)) c.rec_at.ensures c.in_err-id.ensures in
    rw (p.1, p.2) (ill (number-pos e) (named-not s.arena.now (table_in s.mem.now) s.who (row_at (table_in s.mem.now) s.i).rec s.name.now f (number-ne e)))

pub returns : goal.returns
returns c =
    let s = c.args in
    let f = subst (λ (w : DiskINode). Went (find_in s.arena.now w s.name.now) c.in_ok-id.id Unit 0) c.rec_at.ensures c.in_ok-id.ensures in
    went-as (named-give s.arena.now (table_in s.mem.now) s.who (row_at (table_in s.mem.now) s.i).rec s.name.now f refl) c.give_node.ensures
