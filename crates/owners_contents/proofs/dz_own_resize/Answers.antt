-- `owners_contents::dz_own_resize`: the call on the table in memory; the chains are its own.
use mathlib.Core.Path.{sym}
use Rattle.sefs.specs.Contents.{call_resize}
use Rattle.edge.proofs.Laws.{by_end, ended-code}
use Rattle.owners_kept.proofs.Laws.{keeps}
use Rattle.owners_contents.proofs.dz_own_resize.Goals as goal

pub resize_on-r-requires : goal.resize_on-r-requires
resize_on-r-requires c = keeps c.requires c.begin.ensures.0 c.begin.ensures.1

pub returns : goal.returns
returns c = record { answers = by_end (λ x. call_resize c.args.arena.now (sym c.begin.ensures.0 x) c.args.owner (sym c.handle.ensures x) c.args.size) c.resize_on-r.ensures.ended (ended-code _ _ _ c.end_after.ensures); chained = c.resize_on-r.ensures.chained }
