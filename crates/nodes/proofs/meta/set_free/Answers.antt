-- `nodes::meta::set_free`: the bit and the count, as the definition has them.
use mathlib.Core.Path.{ap, ◌∙◌, sym}
use native.Mathlib.Omega.{arith}
use Rattle.base.specs.Out.{ill}
use Rattle.structs.specs.declared.SuperBlock.{SuperBlock}
use Rattle.nodes.proofs.Ids.{free-full, bit-freed, used-below}
use Rattle.nodes.proofs.meta.set_free.Goals as goal

pub returns-then-unused : goal.returns-then-unused
returns-then-unused c =
    λ a w. ill {r = 19} (omega arith) (free-full c.args.mem.now c.args.id c.requires.whole.1 c.requires.id_value (sym (ap (λ (b : SuperBlock). b.unused) c.super_at-unused.ensures) ∙ c.if-unused.true) a w)

pub put_bit-requires : goal.put_bit-requires
put_bit-requires c = record { whole = (c.requires.whole.0, omega (arith, c.index.ensures, used-below c.args.mem.now c.args.id c.requires.id_value)); mem_value = c.requires.whole.1 }

pub returns : goal.returns
returns c =
    let u = ap (λ (b : SuperBlock). b.unused) c.super_at-unused.ensures in
    bit-freed c.args.mem.now c.put_bit.new.mem c.args.id c.requires.whole.1 c.requires.id_value (omega (arith, u, c.if-unused.false, c.super_at-unused.type_inv)) (rw (u, c.index.ensures) at c.put_bit.ensures)
