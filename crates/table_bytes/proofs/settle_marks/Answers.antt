-- `table_bytes::settle_marks`: the first i marks are settled.
use Prim.Native.Nat.{ℕ, ◌+◌, ◌*◌}
use mathlib.Core.List.{[], ◌∷◌}
use mathlib.Core.Path.{◌∙◌, ap}
use Rattle.base.specs.Parts.{paste}
use Rattle.base.proofs.Lists.{set-paste}
use native.Mathlib.Omega.{arith}
use Rattle.table_bytes.proofs.Marks.{settled-none, settled-more, settled-all}
use Rattle.table_bytes.proofs.settle_marks.Goals as goal

pub loop-i-init : goal.loop-i-init
loop-i-init c = settled-none _ c.requires (λ j. (c.type_inv.table j).fits)

pub bounds-table-at : goal.bounds-table-at
bounds-table-at c = omega (arith, c.loop-i.invariant.size)

pub loop-i-preserved : goal.loop-i-preserved
loop-i-preserved c =
    let l = c.loop-i in
    settled-more _ _ _ _ (omega arith) l.invariant (set-paste _ _ _ (omega (arith, l.invariant.size)) ∙ ap (λ (m : ℕ). paste l.table (117 * l.i + 4) (m ∷ [])) c.one.ensures)

pub returns : goal.returns
returns c = settled-all _ _ _ (omega arith) c.loop-i.invariant
