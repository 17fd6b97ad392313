-- `stand`: the number stands past what the mark changes.
use Rattle.replay_lib.proofs.Desks.{place_is, mark-is}
use mathlib.Core.Path.{◌∙◌, sym}
use native.Mathlib.Omega.{arith}
use lib.ListN.{length-set}
use Rattle.replay_lib.proofs.stand.Goals as goal

pub put_u64-requires : goal.put_u64-requires
put_u64-requires c = simp length-set (omega arith)

pub shape_of-desk : goal.shape_of-desk
shape_of-desk c = c.put_u64.auto.s ∙ simp length-set

pub returns : goal.returns
returns c =
    (place_is c.args.desk.now _ c.args.at c.mark.result c.requires (omega (arith, c.ranges.at)) c.put_u64.ensures, λ h. c.mark.ensures (sym (mark-is c.args.desk.now _ c.args.at c.mark.result c.requires (omega (arith, c.ranges.at)) c.put_u64.ensures) ∙ h))
