-- `calls_sync::try_rows`: what is left to do is what the rows above `low` need, in the arena as it would be.
use Rattle.std.proofs.lemmas.Result.{err_from_is_err_and}
use Rattle.base.proofs.Tells.{number-ne}
use mathlib.Core.Path.{◌≡◌, refl}
use Prim.Native.Nat.{◌+◌, ◌-◌}
use native.Mathlib.Omega.{arith}
use Rattle.calls_sync.proofs.Syncs.{try-start, try-end, try-none, try-stop, try-next}
use borrow.Author.Rules.{rules}
use Rattle.calls_sync.proofs.try_rows.Goals as goal

pub loop-init : goal.loop-init
loop-init c = (try-start _ _ _ c.requires.1 c.free_count-free.ensures, refl)

pub next_row-i-requires : goal.next_row-i-requires
next_row-i-requires c = c.loop.invariant.0.turn.whole

pub returns-then-i-ge34 : goal.returns-then-i-ge34
returns-then-i-ge34 c = try-none c.loop.invariant.0 _ c.next_row-i.ensures c.if-i-ge34.true

pub id_at-low-requires : goal.id_at-low-requires
id_at-low-requires c = (c.loop.invariant.0.turn.whole, omega arith)

pub try_row-requires : goal.try_row-requires
try_row-requires c = (c.requires.0, (c.loop.invariant.0.turn.whole, omega arith))

pub returns-in_err-room : goal.returns-in_err-room
returns-in_err-room c =
    let p = err_from_is_err_and c.from_residual.result c.from_residual.ensures.1 in
    rw (p.1, p.2) (try-stop c.loop.invariant.0 _ c.next_row-i.ensures _ _ _ _ (omega arith) (omega arith) c.in_err-room.ensures (number-ne c.in_err-room.field-0.0))

pub loop-preserved : goal.loop-preserved
loop-preserved c =
    let q : 34 - (c.loop.counter + 1) ≡ 34 - c.loop.counter - 1 = omega arith in
    (rw q (try-next c.loop.invariant.0 _ c.next_row-i.ensures _ _ _ _ (omega arith) (omega arith) c.in_ok-room.ensures _ c.id_at-low.ensures refl), search rules)

pub returns : goal.returns
returns c = try-end c.loop.invariant.0 (omega arith)
