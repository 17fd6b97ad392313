-- `folders::put_dot`: the slot that was made is the one that is stored.
use Prim.Native.Nat.{ℕ}
use Rattle.folders.proofs.Folders.{put-slot-as, id-of}
use Rattle.sefs.specs.Folders.{entry}
use Rattle.structs.specs.Layout.{entry_bytes}
use mathlib.Core.List.{[], ◌∷◌}
use mathlib.Core.Path.{ap, ◌∙◌}
use Rattle.folders.proofs.put_dot.Goals as goal

pub returns : goal.returns
returns c =
    let e = c.put_entry.ensures ∙ ap (λ (x : ℕ). entry_bytes (entry x (46 ∷ []) 2)) (id-of c.args.arena.now c.args.work.now c.args.mem.now c.args.i c.id_at.result c.id_at.ensures) in
    put-slot-as c.args.i 0 e c.put_slot.ensures
