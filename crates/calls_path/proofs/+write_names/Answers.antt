-- `calls_path::write_names`: the names above, and then this one.
use mathlib.Core.Path.{◌∙◌}
use native.Mathlib.Omega.{arith}
use Rattle.mem.specs.State.{fs_at}
use Rattle.calls_path.proofs.Names.{ok-zero, goes-up, names-none, names-above, names-own, names-both}
use Rattle.calls_path.proofs.+write_names.Goals as goal

pub returns-then-steps-eq0 : goal.returns-then-steps-eq0
returns-then-steps-eq0 t c =
    let s = c.args in names-none (fs_at s.arena.now s.mem.now) s.steps s.x s.rec s.at s.out.now c.requires.names_fit c.if-steps-eq0.true

pub unwrap-up-requires : goal.unwrap-up-requires
unwrap-up-requires t c =
    let s = c.args in
    ok-zero _ (goes-up (fs_at s.arena.now s.mem.now) s.steps s.x s.rec s.at s.out.now c.requires.names_fit c.if-steps-eq0.false c.above.ensures)

pub write_names-end-requires : goal.write_names-end-requires
write_names-end-requires t c =
    let s = c.args in
    let some = c.if-steps-eq0.false in
    (omega (arith, c.decreases, some), (c.requires.led, (c.requires.whole, names-above (fs_at s.arena.now s.mem.now) s.steps s.x s.rec s.at s.out.now c.requires.names_fit some (rw c.unwrap-up.ensures at c.above.ensures))))

pub write_name-requires-clause-slot_len : goal.write_name-requires-clause-slot_len
write_name-requires-clause-slot_len t c =
    let s = c.args in
    (c.write_names-end.auto.slot ∙ c.requires.whole.1, names-own (fs_at s.arena.now s.mem.now) s.steps s.x s.rec s.at s.out.now c.requires.names_fit c.if-steps-eq0.false (rw c.unwrap-up.ensures at c.above.ensures) c.write_names-end.ensures)

pub returns : goal.returns
returns t c =
    let s = c.args in
    names-both (fs_at s.arena.now s.mem.now) s.steps s.x s.rec s.at s.out.now c.requires.names_fit c.if-steps-eq0.false (rw c.unwrap-up.ensures at c.above.ensures) c.write_names-end.ensures c.write_name.ensures
