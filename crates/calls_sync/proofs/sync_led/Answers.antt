-- `calls_sync::sync_led`: superblock and maps.
use Rattle.calls.proofs.Asks.{admitted}
use Rattle.calls_sync.proofs.Syncs.{sync-goes}
use Rattle.calls_sync.proofs.sync_led.Goals as goal

pub returns : goal.returns
returns c =
    sync-goes c.args.arena.now c.args.mem.now _ c.requires.led.whole (admitted c.requires) c.load_meta.ensures
