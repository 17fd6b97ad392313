-- `owners::remove_named`: the call on the table in memory; the chains are its own.
use mathlib.Core.Path.{sym}
use Rattle.sefs.specs.Remove.{call_remove}
use Rattle.edge.proofs.Laws.{by_end, ended-code}
use Rattle.owners_kept.proofs.Laws.{keeps}
use Rattle.owners.proofs.remove_named.Goals as goal

pub remove_on-r-requires : goal.remove_on-r-requires
remove_on-r-requires c = keeps c.requires c.begin.ensures.0 c.begin.ensures.1

pub returns : goal.returns
returns c = record { answers = by_end (λ x. call_remove c.args.folder c.args.arena.now (sym c.begin.ensures.0 x) c.args.owner (sym c.handle.ensures x) c.args.name.now) c.remove_on-r.ensures.ended (ended-code _ _ _ c.end_after.ensures); chained = c.remove_on-r.ensures.chained }
