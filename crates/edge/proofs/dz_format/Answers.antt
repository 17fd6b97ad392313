-- `edge::dz_format`: 255 where a size is wrong; else the call, and the empty table.
use mathlib.Core.Path.{sym, ◌∙◌}
use Rattle.sefs.specs.Create.{call_format}
use Rattle.calls_format.specs.Format.{formatted}
use Rattle.edge_words.proofs.Words.{time-is}
use Rattle.edge.proofs.Laws.{sized-is, sized-not, answers-not, by_end, ended-code}
use Rattle.edge.proofs.dz_format.Goals as goal

pub returns-then-table-ne-TABLE : goal.returns-then-table-ne-TABLE
returns-then-table-ne-TABLE c =
    answers-not (sized-not 4402 c.args.table.now _ c.if-table-ne-TABLE.true)

pub returns-then-file-ne-FILE_NAME : goal.returns-then-file-ne-FILE_NAME
returns-then-file-ne-FILE_NAME c =
    answers-not (sized-is 4402 c.args.table.now _ c.if-table-ne-TABLE.false ∙ sized-not 16 c.args.file.now _ c.if-file-ne-FILE_NAME.true)

pub returns : goal.returns
returns c =
    by_end (sized-is 4402 c.args.table.now _ c.if-table-ne-TABLE.false ∙ sized-is 16 c.args.file.now _ c.if-file-ne-FILE_NAME.false ∙ (λ x. formatted (call_format c.args.arena.now (sym (time-is c.ranges.sec c.ranges.nsec c.time.ensures) x) (sym c.file_of.ensures x)))) c.format_on-r.ensures (ended-code _ _ _ c.end_fresh.ensures)
