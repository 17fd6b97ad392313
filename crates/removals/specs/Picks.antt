-- What a removal picks, where nothing is.
use Rattle.removals.specs.declared.Picked.{Picked}

-- what stands for a pick where none is given
abbrev pub no_picked : Picked
no_picked = record { row = 0; node = 0; place = 0 }
