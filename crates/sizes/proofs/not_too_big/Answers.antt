-- `sizes::not_too_big`: one sum, without an overflow.
use Prim.Native.Nat.{◌+◌}
use native.Mathlib.Omega.{arith}
use borrow.Author.Tests.{lt-leb, le-leb}
use Rattle.calls.proofs.Asks.{ensure-done, ensure-not}
use Rattle.sizes.proofs.not_too_big.Goals as goal

pub returns-then-n-gt4294967295 : goal.returns-then-n-gt4294967295
returns-then-n-gt4294967295 c = let s = c.args in ensure-not 22 (lt-leb (s.place + s.n) 4294967295 (omega (arith, c.if-n-gt4294967295.true)))

pub returns-then-place-n : goal.returns-then-place-n
returns-then-place-n c = let s = c.args in ensure-not 22 (lt-leb (s.place + s.n) 4294967295 (omega (arith, c.if-place-n.true, c.if-n-gt4294967295.false)))

pub returns : goal.returns
returns c = let s = c.args in ensure-done 22 (le-leb (s.place + s.n) 4294967295 (omega (arith, c.if-place-n.false, c.if-n-gt4294967295.false)))
