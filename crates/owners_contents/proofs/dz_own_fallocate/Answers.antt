-- `owners_contents::dz_own_fallocate`: the call on the table in memory; the chains are its own.
use mathlib.Core.Path.{sym}
use Rattle.ranges.specs.Ranges.{call_fallocate}
use Rattle.edge.proofs.Laws.{by_end, ended-code}
use Rattle.owners_kept.proofs.Laws.{keeps}
use Rattle.owners_contents.proofs.dz_own_fallocate.Goals as goal

pub fallocate_on-r-requires : goal.fallocate_on-r-requires
fallocate_on-r-requires c = keeps c.requires c.begin.ensures.0 c.begin.ensures.1

pub returns : goal.returns
returns c = record { answers = by_end (λ x. call_fallocate c.args.arena.now (sym c.begin.ensures.0 x) c.args.owner (sym c.handle.ensures x) (sym c.mode_of.ensures x) c.args.from c.args.len) c.fallocate_on-r.ensures.ended (ended-code _ _ _ c.end_after.ensures); chained = c.fallocate_on-r.ensures.chained }
