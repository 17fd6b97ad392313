-- Parts of the definition of the two calls, as the code's functions have them; `dir` where remove-folder asks.
use Rattle.std.specs.Prelude.{Bool, List, ℕ}
use Rattle.base.specs.Out.{Out, ◌>>=◌}
use Rattle.sefs.specs.State.{Fs}
use Rattle.sefs.specs.Nodes.{rec_at}
use Rattle.sefs.specs.Slots.{find_slot}
use Rattle.removals.specs.Removals.{remove_asks, remove_id}

-- the slot is found by its name
unfoldable pub remove_name : Bool → Fs → ℕ → List ℕ → Out Fs
remove_name dir s i name = do
  f ← find_slot s.arena (rec_at s i) name
  remove_id dir s i f.entry.id f.place

unfoldable pub remove_from : Bool → Fs → ℕ → List ℕ → Out Fs
remove_from dir s i name = do
  _ ← remove_asks (rec_at s i) name
  remove_name dir s i name
