-- `edge_words::results::put_metadata`: the node, its times, its owner: all words of the slice.
use mathlib.Core.Path.{◌∙◌, ap}
use mathlib.Core.List.{List}
use Prim.Native.Nat.{ℕ}
use Rattle.edge_words.specs.Words.{puts, times_words, owner_words, metadata_words}
use Rattle.edge_words.proofs.Words.{puts-all}
use Rattle.edge_words.proofs.results.put_metadata.Goals as goal

pub returns : goal.returns
unfolding puts
returns c =
    let m = c.args.m in
    c.put_owner.ensures ∙ ap (λ (l : List ℕ). puts l 11 (owner_words m)) (c.put_times.ensures ∙ ap (λ (l : List ℕ). puts l 5 (times_words m)) c.put_node.ensures) ∙ puts-all (metadata_words m) c.args.out.now c.requires
