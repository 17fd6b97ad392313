-- The listing, once the handle's row is known: 7, 20, then the slots.
use Rattle.std.specs.Prelude.{not, ◌&&◌, List, ℕ, ◌-◌, ◌/◌, min, ltb}
use Rattle.base.specs.Out.{Out, done, refused, ensure, ◌>>=◌}
use Rattle.base.specs.Reasons.{out_full}
use Rattle.structs.specs.declared.DiskINode.{DiskINode}
use Rattle.sefs.specs.Read.{readable, list_to}

unfoldable pub list_ask : DiskINode → ℕ → ℕ → Out Unit
list_ask r next room = do
  _ ← readable r
  ensure (not (ltb next r.blocks && ltb room 264)) out_full

unfoldable pub list_in : List ℕ → DiskINode → ℕ → ℕ → Out (List ℕ)
list_in a r next room = do
  _ ← readable r
  _ ← ensure (not (ltb next r.blocks && ltb room 264)) out_full
  list_to a r next (min (r.blocks - next) (room / 264))

-- whether it was done, without what it gives
abbrev pub whether : {A : Type 0} → Out A → Out Unit
whether (done x) = done tt
whether (refused n) = refused n
