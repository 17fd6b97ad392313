-- `calls_sync::store_rows`: what is left to do is what the rows above `low` need, and it can be done.
use mathlib.Core.Path.{◌≡◌, refl}
use Prim.Native.Nat.{◌+◌, ◌-◌}
use native.Mathlib.Omega.{arith}
use Rattle.calls_sync.proofs.Syncs.{turn_end, turn-none, turn-does, turn-next}
use borrow.Author.Rules.{rules}
use Rattle.calls_sync.proofs.store_rows.Goals as goal

pub loop-init : goal.loop-init
loop-init c =
    (record { same = refl; whole = c.requires.arena_value.1 }, (c.requires.arena_value.0, (refl, refl)))

pub next_row-i-requires : goal.next_row-i-requires
next_row-i-requires c = c.loop.invariant.0.whole

pub returns-then-i-ge34 : goal.returns-then-i-ge34
returns-then-i-ge34 c = turn-none c.loop.invariant.0 _ c.next_row-i.ensures c.if-i-ge34.true

pub id_at-low-requires : goal.id_at-low-requires
id_at-low-requires c = (c.loop.invariant.0.whole, omega arith)

pub store_one-requires : goal.store_one-requires
store_one-requires c =
    let I = c.loop.invariant in record { arena_value = (I.1.0, (I.0.whole, omega arith)); does = turn-does I.0 _ c.next_row-i.ensures (omega arith) (omega arith) c.requires.does }

pub loop-preserved : goal.loop-preserved
loop-preserved c =
    let I = c.loop.invariant in
    let d = c.store_one.ensures in
    let q : 34 - (c.loop.counter + 1) ≡ 34 - c.loop.counter - 1 = omega arith in
    (rw q (turn-next I.0 _ c.next_row-i.ensures (omega arith) (omega arith) _ _ _ d.0 d.1.1 c.id_at-low.ensures), (d.1.0, (search rules, search rules)))

pub shape_of-arena : goal.shape_of-arena
shape_of-arena c = c.loop.invariant.1.1.0

pub shape_of-mem : goal.shape_of-mem
shape_of-mem c = c.loop.invariant.1.1.1

pub returns : goal.returns
returns c = turn_end c.loop.invariant.0 (omega arith)
