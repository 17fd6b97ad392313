-- `edge_words::results::put_owner`: three words, one after the other.
use mathlib.Core.Path.{refl}
use Rattle.edge_words.specs.Words.{puts}
use Rattle.edge_words.proofs.results.put_owner.Goals as goal

pub returns : goal.returns
unfolding puts
returns c = refl
