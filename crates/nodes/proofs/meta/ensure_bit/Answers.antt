-- `nodes::meta::ensure_bit`: where the search finds a bit, nothing is done.
use mathlib.Core.Path.{refl, ◌∙◌, sym}
use Prim.Native.Nat.{◌*◌}
use native.Mathlib.Omega.{arith}
use borrow.Author.Tests.{lt-ltb, le-ltb}
use Rattle.base.specs.Out.{well}
use Rattle.sefs.specs.Meta.{first_bit}
use Rattle.mem.specs.Mem.{super_in}
use Rattle.nodes.specs.Steps.{meta_of}
use Rattle.nodes.proofs.Steps.{still-none}
use Rattle.nodes.proofs.Ids.{first-at, first-over}
use Rattle.nodes.proofs.meta.ensure_bit.Goals as goal

pub returns-in-Some : goal.returns-in-Some
returns-in-Some c =
    let f = first-at c.args.mem.now c.in-Some.field-0 (sym c.first_bit-f.ensures ∙ c.in-Some.is) in
    rw (lt-ltb (first_bit (meta_of c.args.mem.now)) (1024 * (super_in c.args.mem.now).groups) (omega (arith, f.0, f.1))) (well refl (still-none 2 c.requires.ready.0.fine c.requires.ready.0.whole))

pub returns-in-None : goal.returns-in-None
returns-in-None c =
    let h = first-over c.args.mem.now (sym c.first_bit-f.ensures ∙ c.in-None.is) in
    rw (le-ltb (first_bit (meta_of c.args.mem.now)) (1024 * (super_in c.args.mem.now).groups) h) c.new_group.ensures
