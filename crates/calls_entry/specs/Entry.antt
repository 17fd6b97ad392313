-- Get entry, once the handle's row is known: 7, 11, 20, then the slot.
use Rattle.std.specs.Prelude.{List, ℕ, ltb, leb}
use Rattle.base.specs.Out.{Out, ensure, ◌>>=◌}
use Rattle.base.specs.Reasons.{entry_not_found, out_full}
use Rattle.structs.specs.declared.DiskINode.{DiskINode}
use Rattle.sefs.specs.Read.{readable, named_slot}

unfoldable pub entry_ask : DiskINode → ℕ → ℕ → Out Unit
entry_ask r k room = do
  _ ← readable r
  _ ← ensure (ltb k r.blocks) entry_not_found
  ensure (leb 264 room) out_full

unfoldable pub entry_in : List ℕ → DiskINode → ℕ → ℕ → Out (List ℕ)
entry_in a r k room = do
  _ ← readable r
  _ ← ensure (ltb k r.blocks) entry_not_found
  _ ← ensure (leb 264 room) out_full
  named_slot a r k
