-- `edge_words::results::put_time`: two words, each the 64 bits of a signed number.
use mathlib.Core.Path.{◌∙◌, ap}
use Prim.Native.Nat.{◌+◌}
use native.Mathlib.Omega.{arith}
use lib.ListN.{set, length-set}
use mir.Syntax.{w64}
use mir.ValLaws.{to_z-of_z}
use Rattle.le.specs.Signed.{bits_of}
use Rattle.edge_words.specs.Words.{puts}
use Rattle.std.proofs.Common.{rules}
use Rattle.edge_words.proofs.results.put_time.Goals as goal

pub bounds-out-at-2 : goal.bounds-out-at-2
bounds-out-at-2 c = simp length-set (omega arith)

pub returns : goal.returns
unfolding puts
returns c =
    let sec = c.to_bits.ensures ∙ ap bits_of (to_z-of_z w64 c.args.t.sec (search rules)) in
    let nsec = c.to_bits-2.ensures ∙ ap bits_of (to_z-of_z w64 c.args.t.nsec (search rules)) in
    λ x. set (set c.args.out.now c.args.at (sec x)) (c.args.at + 1) (nsec x)
