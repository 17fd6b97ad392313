-- `calls_close::drop_row`: whether the row is stored.
use mathlib.Core.Path.{refl, sym, ◌∙◌}
use Rattle.calls_close.proofs.Closes.{drop-stored}
use Rattle.calls_close.proofs.drop_row.Goals as goal

pub returns-then-is_stored : goal.returns-then-is_stored
returns-then-is_stored c =
    drop-stored _ _ c.args.mem.now _ c.args.i (sym c.is_stored.ensures ∙ c.if-is_stored.true) refl c.clear_row.ensures
