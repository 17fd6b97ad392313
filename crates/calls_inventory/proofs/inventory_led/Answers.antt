-- `calls_inventory::inventory_led`: the check by the chains, and then the text.
use Rattle.mem.specs.Mem.{table_in}
use Rattle.calls_inventory.proofs.Answers.{check-passes, check-fails}
use Rattle.calls_inventory.proofs.inventory_led.Goals as goal

pub inventory_passed-requires : goal.inventory_passed-requires
inventory_passed-requires c = record {
  led = c.requires.led;
  empty_table_value = check-passes c.args.arena.now c.args.first.now c.args.next.now c.requires.led (table_in c.args.mem.now) c.requires.whole.1 c.check_led-v.result c.check_led-v.ensures _ _ _
      c.in-Pass.is;
}

pub returns-in-Fail : goal.returns-in-Fail
returns-in-Fail c =
    check-fails c.args.arena.now c.args.first.now c.args.next.now c.requires.led (table_in c.args.mem.now) c.requires.whole.1 c.check_led-v.result c.check_led-v.ensures c.args.out.now _ c.in-Fail.is
