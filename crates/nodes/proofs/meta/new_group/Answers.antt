-- `nodes::meta::new_group`: the definition's tests.
use mathlib.Core.Path.{ap}
use Prim.Native.Nat.{◌≤◌, ◌<◌}
use native.Mathlib.Omega.{arith}
use borrow.Author.Tests.{le-ltb}
use Rattle.base.specs.Out.{ill}
use Rattle.structs.specs.declared.SuperBlock.{SuperBlock}
use Rattle.sefs.specs.Meta.{add_group}
use Rattle.mem.specs.Mem.{super_in}
use Rattle.nodes.proofs.Ids.{group-blocks, group-unused}
use Rattle.nodes.proofs.meta.new_group.Goals as goal

pub returns-then-b-ge4 : goal.returns-then-b-ge4
unfolding add_group
returns-then-b-ge4 c =
    let g : 4 ≤ (super_in c.args.mem.now).groups = rw (← c.super_at-b.ensures) c.if-b-ge4.true in
    ill {r = 17} (omega arith) (rw (le-ltb (super_in c.args.mem.now).groups 4 g))

pub returns-then-b-gt4294966271 : goal.returns-then-b-gt4294966271
returns-then-b-gt4294966271 c =
    let m = c.args.mem.now in
    let g : (super_in m).groups < 4 = rw (← c.super_at-b.ensures) c.if-b-ge4.false in
    let b : 4294966271 < (super_in m).blocks = rw (← c.super_at-b.ensures) c.if-b-gt4294966271.true in
    ill {r = 19} (omega arith) (group-blocks c.args.arena.now c.args.work.now m g (omega arith))

pub returns-then-b-gt4294966272 : goal.returns-then-b-gt4294966272
returns-then-b-gt4294966272 c =
    let m = c.args.mem.now in
    let g : (super_in m).groups < 4 = rw (← c.super_at-b.ensures) c.if-b-ge4.false in
    let b : (super_in m).blocks ≤ 4294966271 = rw (← c.super_at-b.ensures) c.if-b-gt4294966271.false in
    let u : 4294966272 < (super_in m).unused = rw (← c.super_at-b.ensures) c.if-b-gt4294966272.true in
    ill {r = 19} (omega arith) (group-unused c.args.arena.now c.args.work.now m g (omega arith) (omega arith))

pub grow-requires : goal.grow-requires
grow-requires c =
    let m = c.args.mem.now in
    let g : (super_in m).groups < 4 = rw (← c.super_at-b.ensures) c.if-b-ge4.false in
    let b : (super_in m).blocks ≤ 4294966271 = rw (← c.super_at-b.ensures) c.if-b-gt4294966271.false in
    let u : (super_in m).unused ≤ 4294966272 = rw (← c.super_at-b.ensures) c.if-b-gt4294966272.false in record { ready = c.requires.ready; mem_value = (c.requires.mem_value, ap (λ (b : SuperBlock). b.groups) c.super_at-b.ensures); mem_bound = (g, (omega arith, omega arith)) }
