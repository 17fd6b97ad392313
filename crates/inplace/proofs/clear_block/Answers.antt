-- `inplace::clear_block`: the part lent comes back as zeros, then the check.
use mathlib.Core.Path.{ap, ◌∙◌}
use Prim.Native.Nat.{◌+◌, ◌-◌}
use native.Mathlib.Omega.{arith}
use Rattle.base.proofs.Parts.{back-zeros}
use Rattle.arena.specs.Fields.{seal}
use Rattle.inplace.proofs.clear_block.Goals as goal

pub returns : goal.returns
returns c =
    c.put_check.ensures ∙ ap seal (back-zeros c.args.b.now _ (24 + c.args.off) 504 (480 - c.args.off) (omega arith) (omega arith) c.clear.ensures)
