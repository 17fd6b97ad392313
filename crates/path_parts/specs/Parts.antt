-- A name on a path, as the code has it.
use Rattle.std.specs.Prelude.{List, ℕ}
use Rattle.base.specs.Out.{Out, done, guard}
use Rattle.base.specs.Reasons.{stuck}
use Rattle.utf8.specs.Names.{name_of, stored_name}
use Rattle.sefs.specs.Slots.{is_ended}
use Rattle.table.specs.Zero.{zero_record}
use Rattle.path_parts.specs.declared.Parent.{Parent}
use Rattle.path_parts.specs.declared.Step.{Step}

-- a name as it is stored: "a name is missing" where it is not ended or not UTF-8
unfoldable pub spelled_name : List ℕ → Out (List ℕ)
spelled_name n = guard (is_ended (stored_name n)) stuck (done (name_of n))

-- what stands for a folder above where none is given
abbrev pub no_parent : Parent
no_parent = record { id = 0; rec = zero_record }

-- what stands for a step up where none is given
abbrev pub no_step : Step
no_step = record { id = 0; rec = zero_record; long = 0 }
