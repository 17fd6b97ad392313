-- `edge_words::results::put_handle`: all words of the slice, one after the other.
use Rattle.edge_words.specs.Words.{puts, handle_words}
use Rattle.edge_words.proofs.Words.{puts-all}
use Rattle.edge_words.proofs.results.put_handle.Goals as goal

pub returns : goal.returns
unfolding puts
returns c = puts-all (handle_words c.args.h) c.args.out.now c.requires
