-- `inventory_lines::put_path`: the folder's path once more, and the tail behind it.
use mathlib.Core.Path.{◌≡◌, ◌∙◌}
use mathlib.Core.List.{List}
use Prim.Native.Nat.{ℕ, ◌+◌}
use native.Mathlib.Omega.{arith}
use lib.ListN.{length, length-append}
use Rattle.base.specs.Parts.{part}
use Rattle.base.proofs.Lists.{length_part}
use Rattle.inventory_lines.specs.Lines.{line_tail}
use Rattle.inventory_lines.proofs.Pastes.{lay-on}
use Rattle.inventory_lines.proofs.put_path.Goals as goal

pub returns : goal.returns
returns c =
    let s = c.args in
    let out : List ℕ = s.out.now in
    let p : List ℕ = part out s.from (s.from + s.path) in
    let tail : List ℕ = line_tail s.name.now in
    let n : length p ≡ s.path = length_part out s.from (s.from + s.path) (omega arith) (omega arith) ∙ omega arith in
    lay-on out _ _ s.at _ p tail c.copy_on.ensures (omega (arith, n)) c.put_tail.ensures (omega (arith, n, length-append p tail))
