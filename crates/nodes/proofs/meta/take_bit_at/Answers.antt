-- `nodes::meta::take_bit_at`: the bit and the count, as the definition has them.
use mathlib.Core.Path.{ap, ◌∙◌, sym}
use native.Mathlib.Omega.{arith}
use Rattle.base.specs.Out.{ill}
use Rattle.structs.specs.declared.SuperBlock.{SuperBlock}
use Rattle.nodes.proofs.Ids.{bit-taken, none-taken}
use Rattle.nodes.proofs.meta.take_bit_at.Goals as goal

pub returns-then-unused-eq0 : goal.returns-then-unused-eq0
returns-then-unused-eq0 c =
    λ a w. ill {r = 19} (omega arith) (none-taken c.args.mem.now (sym (ap (λ (b : SuperBlock). b.unused) c.super_at-unused.ensures) ∙ c.if-unused-eq0.true) a w)

pub overflow_cast-result : goal.overflow_cast-result
overflow_cast-result c = omega (arith, c.requires.whole.0.few c.requires.whole.1, c.requires.i_value.1)

pub returns : goal.returns
returns c =
    let u = ap (λ (b : SuperBlock). b.unused) c.super_at-unused.ensures in
    bit-taken c.args.mem.now c.put_bit.new.mem c.args.i (λ z. c.if-unused-eq0.false (u ∙ z)) c.requires.i_value.0 (rw u at c.put_bit.ensures)
