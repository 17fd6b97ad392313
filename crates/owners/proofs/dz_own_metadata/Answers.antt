-- `owners::dz_own_metadata`: 255 where the words are not fourteen; else what the row in memory tells.
use mathlib.Core.Path.{sym, ◌∙◌}
use Rattle.mem.specs.Mem.{table_in}
use Rattle.sefs.specs.Read.{call_metadata}
use Rattle.calls_metadata.proofs.Tells.{metadata-admitted}
use Rattle.edge.proofs.Laws.{sized-is, sized-not, answers-not, by-told}
use Rattle.owners_kept.proofs.Laws.{not-refused}
use Rattle.owners.proofs.dz_own_metadata.Goals as goal

pub returns-then-out-ne-METADATA_WORDS : goal.returns-then-out-ne-METADATA_WORDS
returns-then-out-ne-METADATA_WORDS c = answers-not (sized-not 14 c.args.out.now _ c.if-out-ne-METADATA_WORDS.true)

pub returns : goal.returns
returns c =
    let q = not-refused c.requires c.begin.ensures.0 c.begin.ensures.1 in
    by-told _
    (sized-is 14 c.args.out.now _ c.if-out-ne-METADATA_WORDS.false ∙ (λ x. call_metadata c.args.arena.now (sym c.begin.ensures.0 x) c.args.owner (sym c.handle.ensures x))
    ∙ metadata-admitted c.args.arena.now (table_in c.begin.new.mem) c.args.owner c.handle.result q)
    c.metadata_in-t.ensures c.end_told.ensures
