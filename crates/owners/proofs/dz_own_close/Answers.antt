-- `owners::dz_own_close`: the call on the table in memory; the chains are its own.
use mathlib.Core.Path.{sym}
use Rattle.sefs.specs.Close.{call_close}
use Rattle.edge.proofs.Laws.{by_end, ended-code}
use Rattle.owners_kept.proofs.Laws.{keeps}
use Rattle.owners.proofs.dz_own_close.Goals as goal

pub close_on-r-requires : goal.close_on-r-requires
close_on-r-requires c = keeps c.requires c.begin.ensures.0 c.begin.ensures.1

pub returns : goal.returns
returns c = record { answers = by_end (λ x. call_close c.args.arena.now (sym c.begin.ensures.0 x) c.args.owner (sym c.handle.ensures x)) c.close_on-r.ensures.ended (ended-code _ _ _ c.end_after.ensures); chained = c.close_on-r.ensures.chained }
