-- `calls_walk::walk_led`: the handle, the walk, and the last node's hold.
use mathlib.Core.Path.{refl, sym, ◌∙◌, ap}
use Rattle.std.proofs.lemmas.Result.{err_from_is_err_and}
use Rattle.std.specs.Result.{result_from_control_flow}
use Rattle.base.specs.Out.{ill}
use Rattle.base.proofs.Outs.{went-has}
use Rattle.base.proofs.Tells.{number-ne, number-pos}
use Rattle.table.specs.declared.Table.{Table}
use Rattle.mem.specs.Mem.{table_in}
use Rattle.calls.proofs.Asks.{admitted}
use Rattle.calls.proofs.General.{went-as}
use Rattle.calls_find.specs.Finds.{give_node}
use Rattle.calls_walk.proofs.Runs.{call-stop, call-not, call-give, call-links}
use Rattle.calls_walk.proofs.walk_led.Goals as goal

pub returns-in_err-row : goal.returns-in_err-row
returns-in_err-row c =
    let e = c.in_err-row.field-0.0 in
    let q = call-stop c.args.arena.now (table_in c.args.mem.now) c.args.who c.args.h c.args.path.now c.args.links.now (admitted c.requires) c.in_err-row.ensures (number-ne e) in
    let p = err_from_is_err_and c.from_residual.result c.from_residual.ensures.1 in
    rw (p.1, p.2) (record { went = ill (number-pos e) q.0; links_after = q.1 })

pub walk_row-g-requires : goal.walk_row-g-requires
walk_row-g-requires c = record { admitted = c.requires; i_bound = went-has c.in_ok-row.ensures refl }

pub returns-in_err-g : goal.returns-in_err-g
returns-in_err-g c =
    let e = c.in_err-g.field-0.0 in
    let p = err_from_is_err_and c.from_residual-in_err-g.result c.from_residual-in_err-g.ensures.1 in
    rw (p.1, p.2) (record { went = ill (number-pos e) (call-not c.args.arena.now (table_in c.args.mem.now) c.args.who c.args.h c.args.path.now c.args.links.now (admitted c.requires) c.in_ok-row.ensures refl c.walk_row-g.ensures.walks e (c.branch-g.ensures ∙ ap result_from_control_flow c.in_err-g.is)); links_after = call-links c.args.arena.now (table_in c.args.mem.now) c.args.who c.args.h c.args.path.now c.args.links.now (admitted c.requires) c.in_ok-row.ensures refl c.walk_row-g.ensures.walks })

pub give_node-requires : goal.give_node-requires
give_node-requires c = record { led = c.requires.led; whole = c.walk_row-g.ensures.mem_unchanged.1 }

pub returns : goal.returns
returns c = record { went = went-as (call-give c.args.arena.now (table_in c.args.mem.now) c.args.who c.args.h c.args.path.now c.args.links.now (admitted c.requires) c.in_ok-row.ensures refl c.walk_row-g.ensures.walks (c.branch-g.ensures ∙ ap result_from_control_flow c.in_ok-g.is) ∙ ap (λ (u : Table). give_node c.args.arena.now u c.args.who c.walk_row-g.result.id) (sym c.walk_row-g.ensures.mem_unchanged.0)) c.give_node.ensures; links_after = call-links c.args.arena.now (table_in c.args.mem.now) c.args.who c.args.h c.args.path.now c.args.links.now (admitted c.requires) c.in_ok-row.ensures refl c.walk_row-g.ensures.walks }
