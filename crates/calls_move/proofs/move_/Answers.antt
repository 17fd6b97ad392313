-- `calls_move::move_`: the call on the table in memory.
use Rattle.sefs.specs.Move.{call_move}
use Rattle.calls_move.proofs.Courses.{returned-moved}
use Rattle.calls_move.proofs.move_.Goals as goal

pub returns : goal.returns
returns c =
    returned-moved (λ u. call_move c.args.arena.now u c.args.who c.args.h c.args.old.now c.args.target c.args.name.now) c.put_table.ensures.0 c.move_on-r.ensures c.settle_course.ensures
