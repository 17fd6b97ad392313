-- `calls_walk::follow`: 23 at the ninth link; the rest is remembered before the link is followed.
use Rattle.calls_walk.proofs.Follows.{follow-loop, follow-turns}
use Rattle.mem.specs.State.{fs_at}
use native.Mathlib.Omega.{arith}
use mathlib.Core.Path.{sym, subst}
use mathlib.Core.List.{List}
use Prim.Native.Nat.{ℕ}
use Rattle.calls_walk.specs.States.{Turned}
use Rattle.calls_walk.proofs.follow.Goals as goal

pub returns-then-g-eq0 : goal.returns-then-g-eq0
returns-then-g-eq0 c = rw c.stopped.ensures (follow-loop (fs_at c.args.arena.now c.args.mem.now) c.args.path.now c.args.links.now c.args.marks.now c.args.g c.args.p c.requires.stands.0 c.requires.stands.1 c.if-g-eq0.true)

pub overflow_add-g : goal.overflow_add-g
overflow_add-g c = omega (arith, c.requires.stands.1.place, c.requires.stands.0.order)

pub remember-requires : goal.remember-requires
remember-requires c = (c.requires.stands.0.size, omega (arith, c.requires.stands.0.few, c.if-g-eq0.false))

pub follow_link-requires : goal.follow_link-requires
follow_link-requires c = record { admitted = c.requires.admitted; used_in_bounds = (c.requires.stands.0.read, (omega (arith, c.if-g-eq0.false), omega (arith, c.requires.stands.0.few, c.if-g-eq0.false))) }

pub returns : goal.returns
returns c = subst (λ (x : List ℕ). Turned (fs_at c.args.arena.now c.args.mem.now) c.args.path.now c.args.links.now c.follow_link.new.links c.args.marks.now x c.args.g c.follow_link.result) (sym c.remember.ensures) (follow-turns (fs_at c.args.arena.now c.args.mem.now) c.args.path.now c.args.links.now c.args.marks.now c.args.g c.args.p c.requires.stands.0 c.requires.stands.1 c.if-g-eq0.false c.follow_link.result _ c.follow_link.ensures)
