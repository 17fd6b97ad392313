-- `edge::dz_inventory`: 255 where the word is not one; else the call, and how it ends.
use Rattle.edge.proofs.Laws.{sized-is, sized-not, answers-not, by-taken}
use Rattle.edge.proofs.dz_inventory.Goals as goal

pub returns-then-count-ne-LENGTH_WORDS : goal.returns-then-count-ne-LENGTH_WORDS
returns-then-count-ne-LENGTH_WORDS c =
    answers-not (sized-not 1 c.args.count.now _ c.if-count-ne-LENGTH_WORDS.true)

pub returns : goal.returns
returns c =
    by-taken _ (sized-is 1 c.args.count.now _ c.if-count-ne-LENGTH_WORDS.false) c.inventory-t.ensures c.end_taken.ensures
