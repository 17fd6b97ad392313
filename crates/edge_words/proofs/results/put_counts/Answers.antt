-- `edge_words::results::put_counts`: all words of the slice, one after the other.
use mathlib.Core.List.{[], ◌∷◌}
use Rattle.edge_words.specs.Words.{puts}
use Rattle.edge_words.proofs.Words.{puts-all}
use Rattle.edge_words.proofs.results.put_counts.Goals as goal

pub returns : goal.returns
unfolding puts
returns c = puts-all (c.args.nodes ∷ c.args.unused ∷ c.args.free ∷ []) c.args.out.now c.requires
