-- `inventory_lines::names::copy_on`: before turn i the first i bytes stand at `to`. Those that are read lie before it, as they were.
use mathlib.Core.Path.{◌≡◌, ap, ◌∙◌}
use Prim.Native.Nat.{ℕ, ◌+◌}
use native.Mathlib.Omega.{arith}
use Rattle.base.specs.Parts.{part, paste}
use Rattle.inventory_lines.proofs.Pastes.{copy-none, copy_more}
use Rattle.inventory_lines.proofs.names.copy_on.Goals as goal

pub loop-i-init : goal.loop-i-init
loop-i-init c = copy-none _ c.args.from _

pub loop-i-preserved : goal.loop-i-preserved
loop-i-preserved c = copy_more _ _ c.args.from c.args.to c.loop-i.i (omega arith) (omega arith) c.loop-i.invariant

pub returns : goal.returns
returns c =
    let e : c.loop-i.i ≡ c.args.n = omega arith in
    c.loop-i.invariant ∙ ap (λ (i : ℕ). paste c.args.out.now c.args.to (part c.args.out.now c.args.from (c.args.from + i))) e
