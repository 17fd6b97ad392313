-- `owners_contents::dz_own_write`: the call on the table in memory; the chains are its own.
use mathlib.Core.Path.{sym}
use Rattle.sefs.specs.Contents.{call_write}
use Rattle.edge.proofs.Laws.{by_end, ended-code}
use Rattle.owners_kept.proofs.Laws.{keeps}
use Rattle.owners_contents.proofs.dz_own_write.Goals as goal

pub write_on-r-requires : goal.write_on-r-requires
write_on-r-requires c = keeps c.requires c.begin.ensures.0 c.begin.ensures.1

pub returns : goal.returns
returns c = record { answers = by_end (λ x. call_write c.args.arena.now (sym c.begin.ensures.0 x) c.args.owner (sym c.handle.ensures x) c.args.place c.args.src.now) c.write_on-r.ensures.ended (ended-code _ _ _ c.end_after.ensures); chained = c.write_on-r.ensures.chained }
