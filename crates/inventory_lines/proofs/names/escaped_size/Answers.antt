-- `inventory_lines::names::escaped_size`: before a turn n is the size of the bytes so far.
use mathlib.Core.Path.{sym, ap, ◌∙◌}
use mathlib.Core.List.{List}
use Prim.Native.Nat.{ℕ}
use native.Mathlib.Omega.{arith}
use lib.ListN.{length, take, get_or, length-append}
use Rattle.inventory.specs.Text.{escape, escape_byte}
use Rattle.inventory.proofs.Escapes.{escape-nil}
use Rattle.inventory_lines.proofs.Escaped.{escape-more, escape-all}
use Rattle.inventory_lines.proofs.names.escaped_size.Goals as goal

pub loop-b-init : goal.loop-b-init
loop-b-init c = (sym (ap length escape-nil), omega arith)

pub loop-b-preserved : goal.loop-b-preserved
loop-b-preserved c =
    let l : List ℕ = c.args.name.now in
    let i : ℕ = c.loop-b.b-index in
    let n = ap length (escape-more l i (omega arith)) ∙ length-append (escape (take i l)) (escape_byte (get_or l i 0)) in
    (omega (arith, n), omega arith)

pub returns : goal.returns
returns c =
    (c.loop-b.invariant.0 ∙ ap length (escape-all c.args.name.now c.loop-b.b-index (omega arith)), omega arith)
