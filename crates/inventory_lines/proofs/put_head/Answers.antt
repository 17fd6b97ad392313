-- `inventory_lines::put_head`: the three numbers one after another.
use mathlib.Core.Path.{◌≡◌, sym, ap, ◌∙◌}
use mathlib.Core.List.{List, ◌++◌}
use Prim.Native.Nat.{ℕ}
use native.Mathlib.Omega.{arith}
use lib.ListN.{length, length-append}
use Rattle.base.specs.Parts.{paste}
use Rattle.inventory.specs.Text.{decimal, space}
use Rattle.inventory_lines.specs.Lines.{line_head}
use Rattle.inventory_lines.proofs.Pastes.{lay-on}
use Rattle.inventory_lines.proofs.Lines.{head-words, length-words}
use Rattle.inventory_lines.proofs.put_head.Goals as goal

pub put_word-a-requires : goal.put_word-a-requires
put_word-a-requires c = let s = c.args in omega (arith, length-words s.id s.kind s.links)

pub put_word-b-requires : goal.put_word-b-requires
put_word-b-requires c = let s = c.args in omega (arith, length-words s.id s.kind s.links)

pub put_word-requires : goal.put_word-requires
put_word-requires c = let s = c.args in omega (arith, length-words s.id s.kind s.links)

pub returns : goal.returns
returns c =
    let s = c.args in
    let out : List ℕ = s.out.now in
    let x : List ℕ = decimal s.id ++ space in
    let y : List ℕ = decimal s.kind ++ space in
    let z : List ℕ = decimal s.links ++ space in
    let a = c.put_word-a.ensures in
    let b = c.put_word-b.ensures in
    let d = c.put_word.ensures in
    let e : line_head s.id s.kind s.links ≡ (x ++ y) ++ z = head-words s.id s.kind s.links in
    let n = ap length e in
    let k = length-append x y in
    let m = length-append (x ++ y) z in
    let two = lay-on out _ _ s.at _ x y a.1 a.0 b.1 (omega (arith, n, m)) in
    let all = lay-on out _ _ s.at _ (x ++ y) z two (omega (arith, k)) d.1 (omega (arith, n)) in
    (omega (arith, n, k, m), all ∙ ap (paste out s.at) (sym e))
