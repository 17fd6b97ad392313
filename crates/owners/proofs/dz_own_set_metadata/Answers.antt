-- `owners::dz_own_set_metadata`: the row in memory is set, and the table is written.
use mathlib.Core.Path.{sym, ◌∙◌}
use Rattle.mem.specs.Mem.{table_in}
use Rattle.sefs.specs.Read.{call_set}
use Rattle.calls_metadata.proofs.Tells.{set-admitted}
use Rattle.edge_words.proofs.Words.{time-is}
use Rattle.edge.proofs.Laws.{by-table, ended-code}
use Rattle.owners_kept.proofs.Laws.{not-refused}
use Rattle.owners.proofs.dz_own_set_metadata.Goals as goal

pub returns : goal.returns
returns c =
    let q = not-refused c.requires c.begin.ensures.0 c.begin.ensures.1 in
    by-table
    ((λ x. call_set c.args.arena.now (sym c.begin.ensures.0 x) c.args.owner (sym c.handle-h.ensures x) c.args.mode c.args.uid c.args.gid
    (sym (time-is c.ranges.asec c.ranges.ansec c.time-atime.ensures) x) (sym (time-is c.ranges.msec c.ranges.mnsec c.time-mtime.ensures) x) (sym (time-is c.ranges.csec c.ranges.cnsec c.time-ctime.ensures) x))
    ∙ set-admitted c.args.arena.now (table_in c.begin.new.mem) c.args.owner c.handle-h.result c.args.mode c.args.uid c.args.gid c.time-atime.result c.time-mtime.result c.time-ctime.result q)
    c.set_in-r.ensures (ended-code _ _ _ c.end_after.ensures)
