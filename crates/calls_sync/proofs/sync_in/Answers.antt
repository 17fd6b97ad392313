-- `calls_sync::sync_in`: by what was decided.
use Rattle.std.proofs.lemmas.Result.{err_from_is_err_and}
use Rattle.base.proofs.Tells.{number-ne}
use mathlib.Core.Path.{refl}
use Rattle.calls_sync.proofs.Syncs.{sync-can, ended-cannot, ended-stored}
use Rattle.calls_sync.proofs.sync_in.Goals as goal

pub returns-in_err-decide : goal.returns-in_err-decide
returns-in_err-decide c =
    let p = err_from_is_err_and c.from_residual.result c.from_residual.ensures.1 in
    rw (p.1, p.2) (ended-cannot _ c.in_err-decide.ensures _ _ _ (number-ne c.in_err-decide.field-0.0) refl)

pub store_rows-requires : goal.store_rows-requires
store_rows-requires c = record { arena_value = c.requires; does = sync-can _ c.in_ok-decide.ensures refl }

pub returns : goal.returns
returns c = ended-stored _ _ _ _ c.store_rows.ensures
