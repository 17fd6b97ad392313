-- `inventory_report::put_printed`: too many bytes, or by the checker's verdict.
use Rattle.inventory_report.proofs.Printed.{large-fails, check-passes, check-fails}
use Rattle.inventory_report.proofs.put_printed.Goals as goal

pub returns-then-arena-gt-MOST : goal.returns-then-arena-gt-MOST
returns-then-arena-gt-MOST c =
    large-fails c.args.arena.now c.args.out.now _ _ c.if-arena-gt-MOST.true c.put_fail.ensures

pub put_list-requires : goal.put_list-requires
put_list-requires c = record { arena_len_bound = (c.if-arena-gt-MOST.false, check-passes c.args.arena.now _ c.empty.ensures c.check-v.result c.check-v.ensures _ _ _ c.in-Pass.is); out_len = c.requires }

pub returns-in-Pass : goal.returns-in-Pass
returns-in-Pass c = c.put_list.ensures

pub returns-in-Fail : goal.returns-in-Fail
returns-in-Fail c =
    check-fails c.args.arena.now _ c.empty.ensures c.check-v.result c.check-v.ensures c.args.out.now _ _ _ c.if-arena-gt-MOST.false c.in-Fail.is c.put_fail-in-Fail.ensures
