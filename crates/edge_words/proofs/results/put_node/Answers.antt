-- `edge_words::results::put_node`: five words, one after the other.
use mathlib.Core.Path.{refl}
use native.Mathlib.Omega.{arith}
use lib.ListN.{length-set}
use Rattle.edge_words.specs.Words.{puts}
use Rattle.edge_words.proofs.results.put_node.Goals as goal

pub bounds-out-4 : goal.bounds-out-4
bounds-out-4 c = simp length-set (omega arith)

pub returns : goal.returns
unfolding puts
returns c = refl
