-- The row of a handle that is closed, where none is known.
use Rattle.std.specs.Prelude.{false}
use Rattle.calls_close.specs.declared.Closing.{Closing}

-- what stands for a closing where none is given
abbrev pub no_closing : Closing
no_closing = record { row = 0; last = false }
