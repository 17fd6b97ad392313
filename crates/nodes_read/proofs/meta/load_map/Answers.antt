-- `nodes_read::meta::load_map`: what was read stands in the part that was lent.
use mathlib.Core.Path.{◌≡◌, refl, ◌∙◌}
use Prim.Native.Nat.{◌+◌, ◌*◌, ◌≤◌}
use native.Mathlib.Omega.{arith}
use lib.ListN.{length}
use Rattle.base.specs.Parts.{part}
use Rattle.base.proofs.Lists.{length_part}
use Rattle.sefs.specs.Meta.{meta_file, map_at}
use Rattle.nodes.proofs.Common.{part-back-below}
use Rattle.nodes_read.proofs.Loads.{read-in}
use Rattle.nodes_read.proofs.meta.load_map.Goals as goal

pub returns : goal.returns
returns c =
    let o = 4419 + 128 * c.args.g in
    let d = c.read_meta.new.out in
    let h : o + 128 ≤ length c.args.mem.now = omega arith in
    let n : length (part c.args.mem.now o (o + 128)) ≡ 128 = length_part c.args.mem.now o (o + 128) (omega arith) h ∙ omega arith in
    let l : length d ≡ 128 = c.read_meta.auto.out ∙ n in record { went = read-in c.args.arena.now meta_file (map_at c.args.g) 128 o (o + 128) _ c.args.mem.now d refl h l (rw (c.map_at.ensures, n) at c.read_meta.ensures); g_unchanged = part-back-below c.args.mem.now o (o + 128) d (omega arith) h }
