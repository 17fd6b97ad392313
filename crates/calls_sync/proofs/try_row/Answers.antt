-- `calls_sync::try_row`: a clean row needs nothing.
use mathlib.Core.Path.{sym, ◌∙◌}
use Rattle.calls_sync.proofs.Rooms.{try-clean, try-dirty}
use borrow.Author.Rules.{rules}
use Rattle.calls_sync.proofs.try_row.Goals as goal

pub returns-then-not-dirty_at : goal.returns-then-not-dirty_at
returns-then-not-dirty_at c =
    try-clean c.args.arena.now c.args.mem.now c.args.i c.args.from c.args.free c.requires.1.0 (sym c.dirty_at.ensures ∙ c.if-not-dirty_at.true)

pub returns : goal.returns
returns c =
    try-dirty c.args.arena.now c.args.mem.now _ c.args.i c.args.from c.args.free _ _ _ _ (λ j. search rules) c.requires.1.0.size c.requires.1.1 c.id_at.ensures (sym c.dirty_at.ensures ∙ c.if-not-dirty_at.false) c.put_dirty.ensures c.room_for-r.ensures
