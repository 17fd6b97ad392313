-- `calls_inventory::passes::line`: the slot, its node's record, and then the line.
use native.Mathlib.Omega.{arith}
use mathlib.Core.Path.{◌∙◌}
use Rattle.calls_inventory.proofs.Stands.{slot-size}
use Rattle.calls_inventory.proofs.Turns.{midst-room, id_below, line-turned}
use Rattle.calls_inventory.proofs.passes.line.Goals as goal

pub stored_rec-node-requires : goal.stored_rec-node-requires
stored_rec-node-requires c =
    let m = c.requires.under.0.midst in record {
      led = c.requires.led;
      id_bound = id_below c.args.arena.now c.args.s.place c.read_slot.new.slot c.index.result c.read_slot.ensures (c.index.ensures ∙ c.u32_at.ensures)
          c.requires.empty_table_value.0 c.requires.under.1 m.path m.rest m.stands;
    }

pub take_line-requires : goal.take_line-requires
take_line-requires c =
    let m = c.requires.under.0.midst in record { slot_len = (slot-size c.args.arena.now c.read_slot.new.slot c.args.s.place.rec c.args.s.place.slot c.read_slot.ensures, omega (arith, c.requires.under.1, c.well_formed)); path_bound = (m.before, midst-room m) }

pub returns : goal.returns
returns c =
    λ o m.
    line-turned c.args.arena.now c.args.write o c.args.out.now c.take_line.new.out c.read_slot.new.slot c.args.s
    c.take_line.result c.index.result c.stored_rec-node.result c.requires.empty_table_value.0 c.requires.under.1 c.read_slot.ensures (c.index.ensures ∙ c.u32_at.ensures)
    c.stored_rec-node.ensures c.take_line.ensures m
