-- The modes by their numbers, as C and the call script have them: "0 allocate, 1 punch hole, 2 zero range, 3 zero range keeping the size, 4 collapse,
-- 5 insert. Of the flags bit 0 asks allocate to keep the size; all other bits, and flags of other modes, are read and do nothing."
use Rattle.std.specs.Prelude.{ℕ, ◌%◌, eqb}
use Rattle.base.specs.Search.{pick}
use Rattle.ranges.specs.declared.FallocateMode.{FallocateMode}
use Rattle.ranges.specs.declared.FallocateMode.TheVariants.{Allocate, PunchHoleKeepSize, ZeroRange, ZeroRangeKeepSize, CollapseRange, InsertRange, Unknown}

abbrev pub mode_of : ℕ → ℕ → FallocateMode
mode_of mode flags =
    pick (eqb mode 0) (Allocate (eqb (flags % 2) 1))
    (pick (eqb mode 1) PunchHoleKeepSize
    (pick (eqb mode 2) ZeroRange
    (pick (eqb mode 3) ZeroRangeKeepSize
    (pick (eqb mode 4) CollapseRange
    (pick (eqb mode 5) InsertRange
    Unknown)))))
