-- `nodes_read::meta::load_super`: what was read stands in the part that was lent.
use mathlib.Core.Path.{◌≡◌, ◌∙◌}
use Prim.Native.Nat.{◌≤◌}
use native.Mathlib.Omega.{arith}
use lib.ListN.{length}
use Rattle.base.specs.Parts.{part}
use Rattle.base.proofs.Lists.{length_part}
use Rattle.sefs.specs.Meta.{meta_file}
use Rattle.nodes.proofs.Common.{part-back-below}
use Rattle.nodes_read.proofs.Loads.{read-in}
use Rattle.nodes_read.proofs.meta.load_super.Goals as goal

pub returns : goal.returns
returns c =
    let d = c.read_meta.new.out in
    let h : 4419 ≤ length c.args.mem.now = omega arith in
    let n : length (part c.args.mem.now 4403 4419) ≡ 16 = length_part c.args.mem.now 4403 4419 (omega arith) h in
    let l : length d ≡ 16 = c.read_meta.auto.out ∙ n in record { went = read-in c.args.arena.now meta_file 0 16 4403 4419 _ c.args.mem.now d (omega arith) h l (rw n at c.read_meta.ensures); mem_unchanged = part-back-below c.args.mem.now 4403 4419 d (omega arith) h }
