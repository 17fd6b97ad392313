-- `calls_sync::needs`: the record touches one block, or two.
use Prim.Native.Nat.{◌+◌, ◌/◌}
use native.Mathlib.Omega.{arith}
use Rattle.base.proofs.Counts.{bit_le}
use Rattle.calls_sync.specs.Sync.{is_lacking}
use Rattle.calls_sync.proofs.Rooms.{needs-one, needs_two}
use Rattle.calls_sync.proofs.needs.Goals as goal

pub returns-then-first-last : goal.returns-then-first-last
returns-then-first-last c = needs-one _ _ _ _ c.lacks-n.ensures c.if-first-last.true

pub overflow_add-result : goal.overflow_add-result
overflow_add-result c =
    omega (arith, c.lacks-n.ensures, c.lacks.ensures, bit_le (is_lacking c.args.arena.now c.args.from (c.args.pos / 480)), bit_le (is_lacking c.args.arena.now c.args.from ((c.args.pos + 111) / 480)))

pub returns : goal.returns
returns c = needs_two _ _ _ _ _ c.lacks-n.ensures c.lacks.ensures c.if-first-last.false
