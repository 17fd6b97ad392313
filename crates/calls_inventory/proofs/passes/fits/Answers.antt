-- `calls_inventory::passes::fits`: the sum is small enough, said without the sum.
use mathlib.Core.Path.{sym}
use Prim.Native.Nat.{◌+◌, ◌-◌}
use native.Mathlib.Omega.{arith}
use lib.Dec.{leb}
use borrow.Author.Tests.{leb-true, le-leb, lt-leb}
use Rattle.base.proofs.Bools.{same_bool}
use Rattle.calls_inventory.proofs.passes.fits.Goals as goal

pub returns-then-room-own : goal.returns-then-room-own
returns-then-room-own c =
    let s = c.args in
    sym (lt-leb (s.path + s.own) s.room (omega arith))

pub returns : goal.returns
returns c =
    let s = c.args in
    same_bool (leb s.path (s.room - s.own)) (leb (s.path + s.own) s.room) (λ e. le-leb (s.path + s.own) s.room (omega (arith, leb-true s.path (s.room - s.own) e))) (λ e. le-leb s.path (s.room - s.own) (omega (arith, leb-true (s.path + s.own) s.room e)))
