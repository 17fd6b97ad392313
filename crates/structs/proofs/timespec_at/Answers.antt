-- `structs::timespec_at`: field by field.
use mathlib.Core.Path.{◌∙◌}
use mir.Syntax.{w64}
use mir.ValLaws.{to_z-of_z}
use Rattle.structs.specs.Layout.{time_of}
use Rattle.structs.proofs.timespec_at.Goals as goal

pub returns : goal.returns
unfolding time_of
returns c = λ x. record { sec = (to_z-of_z w64 c.i64_at.result (record { sfits = c.i64_at.type_inv }) ∙ c.i64_at.ensures) x; nsec = (to_z-of_z w64 c.i64_at-2.result (record { sfits = c.i64_at-2.type_inv }) ∙ c.i64_at-2.ensures) x }
