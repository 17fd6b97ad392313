-- A folder is born with its slots, and any other node as it was made.
use mathlib.Core.Path.{◌≡◌}
use mathlib.Core.List.{List}
use Prim.Native.Nat.{ℕ}
use native.Mathlib.Omega.{arith}
use borrow.Author.Tests.{eq-eqb, ne_eqb}
use Rattle.base.specs.Out.{Went, well}
use Rattle.sefs.specs.State.{Fs}
use Rattle.sefs.specs.Nodes.{id_at}
use Rattle.sefs.specs.Folders.{dirent_init}
use Rattle.sefs.specs.Create.{birth}
use Rattle.mem.specs.State.{fs_of, Ready, Still, Stepped}

module _ (s : Fs) (i c kind : ℕ) where
  pub birth-folder : {v : Fs} {P : Type 0} {r id : ℕ} → kind ≡ 2 → id ≡ id_at s i → Went (dirent_init s c id) v P r → Went (birth s i c kind) v P r
  unfolding birth
  birth-folder k q g = rw (eq-eqb kind 2 k, ← q) g

  pub birth-other : {P : Type 0} → (kind ≡ 2 → ⊥) → P → Went (birth s i c kind) s P 0
  unfolding birth
  birth-other k p = well (rw (ne_eqb kind 2 k)) p

pub birth-still : (a w m : List ℕ) (i c kind : ℕ) → Ready a w m → (kind ≡ 2 → ⊥) → Stepped (birth (fs_of a w m) i c kind) a w w m 6 0
birth-still a w m i c kind R k = let x : Still a w w m 6 = record { fine = R.fine; whole = R.whole; room = omega arith } in birth-other (fs_of a w m) i c kind k x
