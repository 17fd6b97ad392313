-- `inventory_lines::names::put_escaped`: before a turn the bytes so far stand from `at` on, and end at e.
use mathlib.Core.Path.{sym, ap, ◌∙◌}
use mathlib.Core.List.{List}
use Prim.Native.Nat.{ℕ}
use native.Mathlib.Omega.{arith}
use lib.ListN.{length, take, get_or, length-append}
use Rattle.base.specs.Parts.{paste}
use Rattle.inventory.specs.Text.{escape, escape_byte}
use Rattle.inventory_lines.proofs.Pastes.{paste_none, lay-on}
use Rattle.inventory.proofs.Escapes.{escape-nil}
use Rattle.inventory_lines.proofs.Escaped.{escape-more, escape-all, escape-room}
use Rattle.inventory_lines.proofs.names.put_escaped.Goals as goal

pub loop-b-init : goal.loop-b-init
loop-b-init c = (omega (arith, ap length escape-nil), paste_none _ _ ∙ ap (paste c.args.out.now c.args.at) (sym escape-nil))

pub put_byte-e-requires : goal.put_byte-e-requires
put_byte-e-requires c = omega (arith, escape-room c.args.name.now c.loop-b.b-index (omega arith))

pub loop-b-preserved : goal.loop-b-preserved
loop-b-preserved c =
    let out : List ℕ = c.args.out.now in
    let at : ℕ = c.args.at in
    let l : List ℕ = c.args.name.now in
    let i : ℕ = c.loop-b.b-index in
    let inv = c.loop-b.invariant in
    let put = c.put_byte-e.ensures in
    let n = length-append (escape (take i l)) (escape_byte (get_or l i 0)) in
    let more = escape-more l i (omega arith) in
    let r = lay-on out _ _ at _ (escape (take i l)) (escape_byte (get_or l i 0)) inv.1 inv.0 put.1 (omega (arith, n, escape-room l i (omega arith))) in
    (omega (arith, n, ap length more), r ∙ ap (paste out at) (sym more))

pub returns : goal.returns
returns c =
    let all = escape-all c.args.name.now c.loop-b.b-index (omega arith) in
    (omega (arith, ap length all), c.loop-b.invariant.1 ∙ ap (paste c.args.out.now c.args.at) all)
