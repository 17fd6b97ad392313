-- `inventory_lines::put_tail`: the slash, the name and the newline, one after another.
use mathlib.Core.Path.{refl}
use mathlib.Core.List.{List, [], ◌∷◌}
use Prim.Native.Nat.{ℕ}
use native.Mathlib.Omega.{arith}
use lib.ListN.{length-append, length-set}
use Rattle.base.proofs.Lists.{set-paste}
use Rattle.inventory.specs.Text.{escape, newline}
use Rattle.inventory_lines.specs.Lines.{line_tail}
use Rattle.inventory_lines.proofs.Pastes.{lay-on, lay-byte}
use Rattle.inventory_lines.proofs.Lines.{length-tail}
use Rattle.inventory_lines.proofs.put_tail.Goals as goal

pub bounds-out-at : goal.bounds-out-at
bounds-out-at c = omega (arith, length-tail c.args.name.now)

pub put_escaped-end-requires : goal.put_escaped-end-requires
put_escaped-end-requires c = simp length-set (omega (arith, length-tail c.args.name.now))

pub bounds-out-end : goal.bounds-out-end
bounds-out-end c = omega (arith, simp length-set at c.put_escaped-end.auto.out, length-tail c.args.name.now)

pub shape_of-out : goal.shape_of-out
shape_of-out c = simp length-set (simp length-set at c.put_escaped-end.auto.out)

pub returns : goal.returns
unfolding line_tail
returns c =
    let s = c.args in
    let out : List ℕ = s.out.now in
    let name : List ℕ = s.name.now in
    let put = c.put_escaped-end.ensures in
    let n = length-tail name in
    let m = length-append (escape name) newline in
    let two = lay-on out _ _ s.at _ (47 ∷ []) (escape name) (set-paste out s.at 47 (omega (arith, n))) refl put.1 (omega (arith, n)) in
    lay-byte out _ s.at _ 10 (47 ∷ escape name) two (omega arith) (omega (arith, n, m))
