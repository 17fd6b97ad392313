-- `inventory_lines::put_word`: the digits, and the space where they end.
use native.Mathlib.Omega.{arith}
use Rattle.inventory.specs.Text.{decimal}
use Rattle.inventory_lines.proofs.Pastes.{lay-byte}
use Rattle.inventory_lines.proofs.Lines.{length-word}
use Rattle.inventory_lines.proofs.put_word.Goals as goal

pub put_number-end-requires : goal.put_number-end-requires
put_number-end-requires c = omega (arith, length-word c.args.n)

pub bounds-out-end : goal.bounds-out-end
bounds-out-end c = omega (arith, length-word c.args.n)

pub overflow_add-result : goal.overflow_add-result
overflow_add-result c = omega (arith, length-word c.args.n)

pub returns : goal.returns
returns c =
    let s = c.args in
    let put = c.put_number-end.ensures in
    (omega (arith, length-word s.n), lay-byte s.out.now _ s.at _ 32 (decimal s.n) put.1 put.0 c.requires)
