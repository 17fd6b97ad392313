-- `le::put_i64`: the bits of the number, laid over as a number of eight bytes.
use mathlib.Core.Path.{◌∙◌, ap}
use mir.Syntax.{w64}
use mir.ValLaws.{to_z-of_z}
use Rattle.le.specs.Le.{le_put}
use Rattle.le.specs.Signed.{bits_of}
use Rattle.le.proofs.put_i64.Goals as goal

pub returns : goal.returns
returns c =
    c.put_u64.ensures
    ∙ ap (le_put c.args.s.now c.args.at 8) (c.to_bits.ensures ∙ ap bits_of (to_z-of_z w64 c.args.z c.ranges.z))
