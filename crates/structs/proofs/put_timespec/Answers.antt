-- `structs::put_timespec`: two fields, one after another. A signed field that is passed on is its own value again, since it fits.
use native.Mathlib.Omega.{arith}
use Prim.Native.Nat.{◌+◌}
use mathlib.Core.Path.{ap, ◌∙◌}
use lib.IntN.{ℤ}
use mir.Syntax.{w64}
use Rattle.std.proofs.Common.{rules}
use mir.ValLaws.{to_z-of_z}
use Rattle.le.specs.Le.{le_put}
use Rattle.le.specs.Signed.{bits_of}
use Rattle.le.proofs.Laws.{length-le_bytes}
use Rattle.structs.specs.Layout.{time_bytes, time_fields}
use Rattle.structs.proofs.Joins.{laid-first, laid-last}
use Rattle.structs.proofs.put_timespec.Goals as goal

pub returns : goal.returns
unfolding time_bytes time_fields le_put
returns c =
    let sec = to_z-of_z w64 c.args.t.sec (search rules) in
    let nsec = to_z-of_z w64 c.args.t.nsec (search rules) in
    (laid-first 8 _ _ _ _ _ _ (length-le_bytes 8 _) c.put_i64.auto.s (c.put_i64.ensures ∙ ap (λ (z : ℤ). le_put c.args.s.now c.args.at 8 (bits_of z)) sec)
    (laid-last _ _ _ _ (omega (arith, length-le_bytes 8 (bits_of c.args.t.nsec))) (c.put_i64-2.ensures ∙ ap (λ (z : ℤ). le_put c.put_i64.new.s (c.args.at + 8) 8 (bits_of z)) nsec))).is
