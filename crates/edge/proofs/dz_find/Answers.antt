-- `edge::dz_find`: 255 where a size is wrong; else the call on the table in memory, and how it ends.
use mathlib.Core.Path.{sym, ◌∙◌}
use Rattle.sefs.specs.Open.{call_find}
use Rattle.edge.proofs.Laws.{sized-is, sized-not, answers-not, by-held, ended-code, words-code}
use Rattle.edge.proofs.dz_find.Goals as goal

pub returns-then-table-ne-TABLE : goal.returns-then-table-ne-TABLE
returns-then-table-ne-TABLE c =
    answers-not (sized-not 4402 c.args.table.now _ c.if-table-ne-TABLE.true)

pub returns-then-out-ne-HANDLE_WORDS : goal.returns-then-out-ne-HANDLE_WORDS
returns-then-out-ne-HANDLE_WORDS c =
    answers-not (sized-is 4402 c.args.table.now _ c.if-table-ne-TABLE.false ∙ sized-not 2 c.args.out.now _ c.if-out-ne-HANDLE_WORDS.true)

pub find_on-h-requires : goal.find_on-h-requires
find_on-h-requires c =
    c.begin.ensures.1

pub end_held-requires : goal.end_held-requires
end_held-requires c =
    (c.if-table-ne-TABLE.false, (c.if-out-ne-HANDLE_WORDS.false, c.find_on-h.auto.mem ∙ c.begin.ensures.1.size))

pub returns : goal.returns
returns c =
    by-held
    (sized-is 4402 c.args.table.now _ c.if-table-ne-TABLE.false ∙ sized-is 2 c.args.out.now _ c.if-out-ne-HANDLE_WORDS.false ∙ (λ x. call_find c.args.arena.now (sym c.begin.ensures.0 x) c.args.owner (sym c.handle.ensures x) c.args.name.now))
    c.find_on-h.ensures (ended-code _ _ _ c.end_held.ensures.value) (words-code c.find_on-h.result _ _ c.end_held.ensures.out_after)
