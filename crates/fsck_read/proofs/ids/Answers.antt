-- `fsck_read::ids`: 1 to 4 groups, of 1,024 ids each.
use mathlib.Core.Path.{ap, ◌∙◌}
use Prim.Native.Nat.{ℕ, ◌*◌}
use native.Mathlib.Omega.{arith}
use Rattle.structs.specs.declared.SuperBlock.{SuperBlock}
use Rattle.fsck_read.proofs.Nodes.{groups-some, ids-is}
use Rattle.fsck_read.proofs.ids.Goals as goal

pub returns : goal.returns
returns c =
    let g = groups-some c.args.mem.now c.requires in
    let e = ap (λ (b : SuperBlock). b.groups) c.super_at.ensures in
    let r = ap (λ (x : ℕ). 1024 * x) (c.index.ensures ∙ e) in record { value = (r, (omega (arith, e, c.index.ensures, g.0), omega (arith, e, c.index.ensures, g.1))); by_index = λ a O. r ∙ ids-is a c.args.mem.now O }
