-- `nodes::meta::is_used`: the definition's three tests.
use mathlib.Core.Path.{ap}
use Prim.Native.Nat.{◌*◌}
use native.Mathlib.Omega.{arith}
use borrow.Author.Tests.{eq-eqb, ne_eqb, lt-ltb, le-ltb}
use Rattle.structs.specs.declared.SuperBlock.{SuperBlock}
use Rattle.sefs.specs.Meta.{is_used}
use Rattle.mem.specs.Mem.{super_in}
use Rattle.nodes.proofs.meta.is_used.Goals as goal

pub returns-then-id-eq0 : goal.returns-then-id-eq0
unfolding is_used
returns-then-id-eq0 c = rw (eq-eqb c.args.id 0 c.if-id-eq0.true)

pub overflow_mul-groups : goal.overflow_mul-groups
overflow_mul-groups c = omega (arith, ap (λ (b : SuperBlock). b.groups) c.super_at-groups.ensures, c.requires.0.few c.requires.1)

pub returns-then-id-groups : goal.returns-then-id-groups
unfolding is_used
returns-then-id-groups c =
    let e = ap (λ (b : SuperBlock). b.groups) c.super_at-groups.ensures in
    rw (ne_eqb c.args.id 0 c.if-id-eq0.false, le-ltb c.args.id (1024 * (super_in c.args.mem.now).groups) (omega (arith, c.if-id-groups.true)))

pub bit_at-requires : goal.bit_at-requires
bit_at-requires c =
    let e = ap (λ (b : SuperBlock). b.groups) c.super_at-groups.ensures in record { whole = (c.requires.0, omega (arith, c.if-id-groups.false, c.index.ensures)); mem_value = c.requires.1 }

pub returns : goal.returns
unfolding is_used
returns c =
    let e = ap (λ (b : SuperBlock). b.groups) c.super_at-groups.ensures in
    rw (ne_eqb c.args.id 0 c.if-id-eq0.false, lt-ltb c.args.id (1024 * (super_in c.args.mem.now).groups) (omega (arith, c.if-id-groups.false)), c.bit_at.ensures, c.index.ensures)
