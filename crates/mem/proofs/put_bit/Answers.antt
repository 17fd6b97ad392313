-- `mem::put_bit`: the bit in all four groups' bytes, then the superblock.
use native.Mathlib.Omega.{arith}
use Rattle.std.proofs.Common.{rules}
use Rattle.base.proofs.Lists.{length_part}
use Rattle.mem.proofs.Mems.{bit-stored}
use Rattle.mem.specs.Mem.{memory_size}
use Rattle.mem.proofs.put_bit.Goals as goal

pub put_bit-requires : goal.put_bit-requires
put_bit-requires c =
    let m = c.args.mem.now in
    let W = c.requires.whole.0 in
    omega (arith, c.requires.whole.1, W.size, W.few c.requires.mem_value, length_part m 4419 memory_size (omega arith) (omega (arith, W.size)))

pub returns : goal.returns
returns c =
    let m = c.args.mem.now in
    bit-stored m _ _ c.args.id c.args.unused c.args.b _ c.requires.whole.0 (λ i. search rules) c.requires.mem_value c.requires.whole.1 c.ranges.unused.fits c.super_at-sb.ensures c.put_bit.ensures c.put_super_block.ensures
