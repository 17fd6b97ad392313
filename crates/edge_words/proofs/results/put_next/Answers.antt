-- `edge_words::results::put_next`: the only word of the slice.
use mathlib.Core.List.{[], ◌∷◌}
use Rattle.edge_words.specs.Words.{puts}
use Rattle.edge_words.proofs.Words.{puts-all}
use Rattle.edge_words.proofs.results.put_next.Goals as goal

pub returns : goal.returns
unfolding puts
returns c = puts-all (c.args.next ∷ []) c.args.out.now c.requires
