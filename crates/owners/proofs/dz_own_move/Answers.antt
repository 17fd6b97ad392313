-- `owners::dz_own_move`: the call on the table in memory; the chains are its own.
use mathlib.Core.Path.{sym}
use Rattle.sefs.specs.Move.{call_move}
use Rattle.edge.proofs.Laws.{by_end, ended-code}
use Rattle.owners_kept.proofs.Laws.{keeps}
use Rattle.owners.proofs.dz_own_move.Goals as goal

pub move_on-r-requires : goal.move_on-r-requires
move_on-r-requires c = record { kept = keeps c.requires c.begin.ensures.0 c.begin.ensures.1; table_len = (c.requires.size, c.begin.ensures.0) }

pub returns : goal.returns
returns c = record {
  answers = by_end
      (λ x. call_move c.args.arena.now (sym c.begin.ensures.0 x) c.args.owner (sym c.handle-h.ensures x) c.args.old.now (sym c.handle-to.ensures x) c.args.name.now)
      c.move_on-r.ensures.ended (ended-code _ _ _ c.end_after.ensures);
  chained = c.move_on-r.ensures.chained;
}
