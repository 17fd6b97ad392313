-- A plan, where there is none.
use Rattle.calls_move.specs.declared.Plan.{Plan}

-- what stands for a plan where none is given
abbrev pub no_plan : Plan
no_plan = record { way = 0; row = 0; other = 0; place = 0; gone = 0; moved = 0 }
