-- `inventory_report::put_list`: what the call wrote, or `too long`.
use Rattle.inventory_report.proofs.Printed.{list_written, list_left}
use Rattle.inventory_report.proofs.put_list.Goals as goal

pub returns-in-Ok : goal.returns-in-Ok
returns-in-Ok c =
    list_written c.args.arena.now c.args.out.now _ c.requires.arena_len_bound.0 c.requires.out_len c.inventory.result c.inventory.ensures _ c.in-Ok.is

pub returns-in-Err : goal.returns-in-Err
returns-in-Err c =
    list_left c.args.arena.now c.args.out.now _ c.requires.arena_len_bound.0 c.requires.out_len c.inventory.result c.inventory.ensures _ _ _ c.requires.arena_len_bound.1 c.in-Err.is c.put_too_long.ensures
