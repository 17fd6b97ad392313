-- `owners::dz_own_sync`: the call on the table in memory; the chains are its own.
use mathlib.Core.Path.{sym}
use Rattle.sefs.specs.Close.{call_sync}
use Rattle.edge.proofs.Laws.{by_end, ended-code}
use Rattle.owners_kept.proofs.Laws.{keeps}
use Rattle.owners.proofs.dz_own_sync.Goals as goal

pub sync_on-r-requires : goal.sync_on-r-requires
sync_on-r-requires c = keeps c.requires c.begin.ensures.0 c.begin.ensures.1

pub returns : goal.returns
returns c = record { answers = by_end (λ x. call_sync c.args.arena.now (sym c.begin.ensures.0 x)) c.sync_on-r.ensures.ended (ended-code _ _ _ c.end_after.ensures); chained = c.sync_on-r.ensures.chained }
