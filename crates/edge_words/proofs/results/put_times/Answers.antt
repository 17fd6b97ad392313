-- `edge_words::results::put_times`: three times, one after another.
use mathlib.Core.Path.{◌∙◌, ap}
use mathlib.Core.List.{List}
use Prim.Native.Nat.{ℕ}
use Rattle.edge_words.specs.Words.{puts, time_words}
use Rattle.edge_words.proofs.results.put_times.Goals as goal

pub returns : goal.returns
unfolding puts
returns c =
    let m = c.args.m in
    c.put_time-3.ensures ∙ ap (λ (l : List ℕ). puts l 9 (time_words m.ctime)) (c.put_time-2.ensures ∙ ap (λ (l : List ℕ). puts l 7 (time_words m.mtime)) c.put_time.ensures)
