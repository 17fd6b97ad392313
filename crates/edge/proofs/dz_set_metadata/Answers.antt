-- `edge::dz_set_metadata`: 255 where a size is wrong; else the call on the table in memory, and how it ends.
use mathlib.Core.Path.{sym, ◌∙◌}
use Rattle.sefs.specs.Read.{call_set}
use Rattle.edge_words.proofs.Words.{time-is}
use Rattle.edge.proofs.Laws.{sized-is, sized-not, answers-not, by-table, ended-code}
use Rattle.edge.proofs.dz_set_metadata.Goals as goal

pub returns-then-table-ne-TABLE : goal.returns-then-table-ne-TABLE
returns-then-table-ne-TABLE c =
    answers-not (sized-not 4402 c.args.table.now _ c.if-table-ne-TABLE.true)

pub set_on-r-requires : goal.set_on-r-requires
set_on-r-requires c =
    c.begin.ensures.1

pub returns : goal.returns
returns c =
    by-table
    (sized-is 4402 c.args.table.now _ c.if-table-ne-TABLE.false
    ∙ (λ x. call_set c.args.arena.now (sym c.begin.ensures.0 x) c.args.owner (sym c.handle-h.ensures x) c.args.mode c.args.uid c.args.gid
    (sym (time-is c.ranges.asec c.ranges.ansec c.time-at.ensures) x) (sym (time-is c.ranges.msec c.ranges.mnsec c.time-mt.ensures) x) (sym (time-is c.ranges.csec c.ranges.cnsec c.time-ct.ensures) x)))
    c.set_on-r.ensures (ended-code _ _ _ c.end_after.ensures)
