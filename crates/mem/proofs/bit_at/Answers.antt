-- `mem::bit_at`: a bit of all four groups' bytes.
use mathlib.Core.Path.{◌∙◌}
use native.Mathlib.Omega.{arith}
use Rattle.base.proofs.Lists.{length_part}
use Rattle.mem.specs.Mem.{super_in, maps_in, memory_size}
use Rattle.mem.proofs.Mems.{bit_in}
use Rattle.mem.proofs.bit_at.Goals as goal

pub bit_at-requires : goal.bit_at-requires
bit_at-requires c =
    let m = c.args.mem.now in
    let W = c.requires.whole.0 in
    omega (arith, c.requires.whole.1, W.size, W.few c.requires.mem_value, length_part m 4419 memory_size (omega arith) (omega (arith, W.size)))

pub returns : goal.returns
unfolding maps_in
returns c =
    let m = c.args.mem.now in
    c.bit_at.ensures ∙ bit_in m (super_in m).groups c.args.id (c.requires.whole.0.few c.requires.mem_value) c.requires.whole.1
