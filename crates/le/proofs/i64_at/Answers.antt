-- `le::i64_at`: the number in eight bytes, and then its sign.
use mathlib.Core.Path.{◌∙◌, ap}
use native.Mathlib.Omega.{arith}
use mir.Syntax.{w64}
use mir.ValLaws.{to_z-of_z}
use Rattle.le.specs.Signed.{signed}
use Rattle.le.proofs.Signs.{signed-fits}
use Rattle.le.proofs.i64_at.Goals as goal

pub returns : goal.returns
returns c = to_z-of_z w64 c.to_signed.result (rw c.to_signed.ensures (signed-fits c.u64_at.result (omega arith))) ∙ c.to_signed.ensures ∙ ap signed c.u64_at.ensures
