-- A reason's number is never 0: no refusal is told as done.
use mathlib.Core.Path.{refl, sym}
use Rattle.std.specs.Prelude.{◌≡◌, ◌<◌, Result, Ok, Err, eqb}
use Rattle.std.specs.Result.{is_ok}
use borrow.Author.Tests.{ne_eqb}
use native.Mathlib.Omega.{arith}
use Rattle.base.specs.Told.{number, code}
use Rattle.base.specs.declared.reasons.Reason.{Reason}
use Rattle.base.specs.declared.reasons.Reason.TheVariants as reasons

pub number-pos : (e : Reason) → 0 < number e
number-pos reasons.BadArena = omega arith
number-pos reasons.Damaged = omega arith
number-pos reasons.BadTable = omega arith
number-pos reasons.BadHandle = omega arith
number-pos reasons.BadName = omega arith
number-pos reasons.InvalidParam = omega arith
number-pos reasons.NotDir = omega arith
number-pos reasons.DirRemoved = omega arith
number-pos reasons.IsDir = omega arith
number-pos reasons.NameTooLong = omega arith
number-pos reasons.EntryNotFound = omega arith
number-pos reasons.EntryExist = omega arith
number-pos reasons.DirNotEmpty = omega arith
number-pos reasons.FileTaken = omega arith
number-pos reasons.TooManyLinks = omega arith
number-pos reasons.TableFull = omega arith
number-pos reasons.NoDeviceSpace = omega arith
number-pos reasons.WrongFs = omega arith
number-pos reasons.Stuck = omega arith
number-pos reasons.OutFull = omega arith
number-pos reasons.NotFile = omega arith
number-pos reasons.FileTooBig = omega arith
number-pos reasons.SymLoop = omega arith
number-pos reasons.InUse = omega arith

pub number-ne : (e : Reason) → number e ≡ 0 → ⊥
number-ne e h = let q : 0 < number e = number-pos e in omega arith

-- whether it was done, by the number
pub done-is : {A : Type 0} (r : Result A Reason) → is_ok r ≡ eqb (code r) 0
done-is (Ok x) = refl
done-is (Err e) = sym (ne_eqb (number e) 0 (number-ne e))
