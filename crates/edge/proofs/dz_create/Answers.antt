-- `edge::dz_create`: 255 where a size is wrong; else the call on the table in memory, and how it ends.
use mathlib.Core.Path.{sym, ◌∙◌}
use Rattle.sefs.specs.Create.{call_create}
use Rattle.edge_words.proofs.Words.{time-is}
use Rattle.edge.proofs.Laws.{sized-is, sized-not, new_is, answers-not, by-made, ended-code, words-code}
use Rattle.edge.proofs.dz_create.Goals as goal

pub returns-then-table-ne-TABLE : goal.returns-then-table-ne-TABLE
returns-then-table-ne-TABLE c =
    answers-not (sized-not 4402 c.args.table.now _ c.if-table-ne-TABLE.true)

pub returns-then-file-ne-FILE_NAME : goal.returns-then-file-ne-FILE_NAME
returns-then-file-ne-FILE_NAME c =
    answers-not (sized-is 4402 c.args.table.now _ c.if-table-ne-TABLE.false ∙ sized-not 16 c.args.file.now _ c.if-file-ne-FILE_NAME.true)

pub returns-then-out-ne-HANDLE_WORDS : goal.returns-then-out-ne-HANDLE_WORDS
returns-then-out-ne-HANDLE_WORDS c =
    answers-not (sized-is 4402 c.args.table.now _ c.if-table-ne-TABLE.false ∙ sized-is 16 c.args.file.now _ c.if-file-ne-FILE_NAME.false ∙ sized-not 2 c.args.out.now _ c.if-out-ne-HANDLE_WORDS.true)

pub create_on-h-requires : goal.create_on-h-requires
create_on-h-requires c =
    c.begin.ensures.1

pub end_held-requires : goal.end_held-requires
end_held-requires c =
    (c.if-table-ne-TABLE.false, (c.if-out-ne-HANDLE_WORDS.false, c.create_on-h.auto.mem ∙ c.begin.ensures.1.size))

pub returns : goal.returns
returns c =
    let new = new_is c.new_node-new.ensures (time-is c.ranges.sec c.ranges.nsec c.time.ensures) c.file_of.ensures in
    by-made
    (sized-is 4402 c.args.table.now _ c.if-table-ne-TABLE.false ∙ sized-is 16 c.args.file.now _ c.if-file-ne-FILE_NAME.false ∙ sized-is 2 c.args.out.now _ c.if-out-ne-HANDLE_WORDS.false
    ∙ (λ x. call_create c.args.arena.now (sym c.begin.ensures.0 x) c.args.owner (sym c.handle.ensures x) c.args.name.now (sym new x).kind (sym new x).mode (sym new x).time (sym new x).file))
    c.create_on-h.ensures (ended-code _ _ _ c.end_held.ensures.value) (words-code c.create_on-h.result _ _ c.end_held.ensures.out_after)
