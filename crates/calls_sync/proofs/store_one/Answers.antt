-- `calls_sync::store_one`: the step is done, as its definition is, and what it left is written.
use native.Mathlib.Omega.{arith}
use Rattle.steps.proofs.Ends.{started}
use Rattle.calls_sync.proofs.Syncs.{stored-fine, stored_is}
use Rattle.calls_sync.proofs.store_one.Goals as goal

pub sync_row-requires : goal.sync_row-requires
sync_row-requires c =
    let E = started _ _ 13 c.requires.arena_value.0 (omega arith) (omega arith) c.begin.ensures in
    (record { fine = E.fine; whole = c.requires.arena_value.1.0 }, (omega (arith, E.room), c.requires.arena_value.1.1))

pub commit-requires : goal.commit-requires
commit-requires c =
    let E = started _ _ 13 c.requires.arena_value.0 (omega arith) (omega arith) c.begin.ensures in
    stored-fine c.args.mem.now c.args.i E c.sync_row.ensures c.requires.does

pub returns : goal.returns
returns c =
    let E = started _ _ 13 c.requires.arena_value.0 (omega arith) (omega arith) c.begin.ensures in
    stored_is c.args.mem.now c.args.i E c.sync_row.ensures c.requires.does _ c.commit.ensures c.requires.arena_value.0
