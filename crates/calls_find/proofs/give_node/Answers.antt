-- `calls_find::give_node`: whether a hold can be given is asked first.
use mathlib.Core.Path.{sym, ◌∙◌}
use native.Mathlib.Omega.{arith}
use Rattle.base.specs.Out.{ill}
use Rattle.mem.specs.Mem.{table_in}
use Rattle.calls.proofs.General.{went-as}
use Rattle.calls_find.proofs.Finds.{give-full, give-next}
use Rattle.calls_find.proofs.give_node.Goals as goal

pub returns-then-not-can_hold : goal.returns-then-not-can_hold
returns-then-not-can_hold c =
    let s = c.args in
    ill (omega arith) (give-full s.arena.now (table_in s.mem.now) s.who s.id (sym c.can_hold.ensures ∙ c.if-not-can_hold.true))

pub hold_node-requires : goal.hold_node-requires
hold_node-requires c = record { led = c.requires.led; mem_len = c.requires.whole.size }

pub returns : goal.returns
returns c =
    let s = c.args in
    went-as (give-next s.arena.now (table_in s.mem.now) s.who s.id (sym c.can_hold.ensures ∙ c.if-not-can_hold.false)) c.hold_node.ensures
