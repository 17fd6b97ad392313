-- A read by a file's end: one more than its length, or 0 where it is not there.
use mathlib.Core.Path.{◌≡◌, refl, sym, ap, ◌∙◌}
use mathlib.Core.Bool.{Bool, true, false}
use mathlib.Core.List.{List}
use Prim.Native.Nat.{ℕ, suc, ◌+◌, ◌≤◌, ◌<◌}
use native.Mathlib.Omega.{arith}
use lib.ListN.{length}
use lib.Dec.{ltb}
use borrow.Author.Tests.{lt-ltb}
use Rattle.base.specs.Out.{done, Went, well, ill}
use Rattle.base.specs.Parts.{tab}
use Rattle.base.specs.Search.{pick}
use Rattle.base.proofs.Lists.{length-tab}
use Rattle.arena.specs.Fields.{File}
use Rattle.files.specs.Read.{there, length_of, byte_at, read_file}
use Rattle.files.proofs.Runs.{read-missing, read_short, read_done}
use Rattle.chains.specs.Led.{end_of}

module _ (a : List ℕ) (f : File) (e : ℕ) (is : e ≡ end_of a f) where
  -- the file is there where its end is not 0
  pub end-there : ltb 0 e ≡ there a f
  end-there = rw is (go (there a f))
    where
      go : (b : Bool) → ltb 0 (pick b (suc (length_of a f)) 0) ≡ b
      go true = lt-ltb 0 (suc (length_of a f)) (omega arith)
      go false = refl

  module _ (pos n : ℕ) where
    pub end_short : (v : List ℕ) (P : Type 0) → e ≤ pos + n → Went (read_file a f pos n) v P 19
    end_short v P l = go (there a f) refl
      where
        go : (b : Bool) → there a f ≡ b → Went (read_file a f pos n) v P 19
        go true t = ill {r = 19} (omega arith) (read_short a f pos n t (let q : e ≡ suc (length_of a f) = is ∙ rw t in omega arith))
        go false t = ill {r = 19} (omega arith) (read-missing a f pos n t)

    pub end-done : (v : List ℕ) → pos + n < e → v ≡ tab (byte_at a f) pos n → Went (read_file a f pos n) v (length v ≡ n) 0
    end-done v l q = go (there a f) refl
      where
        go : (b : Bool) → there a f ≡ b → Went (read_file a f pos n) v (length v ≡ n) 0
        go true t = well (read_done a f pos n t (let q : e ≡ suc (length_of a f) = is ∙ rw t in omega arith) ∙ ap done (sym q)) (ap length q ∙ length-tab (byte_at a f) pos n)
        go false t = absurd (let q : e ≡ 0 = is ∙ rw t in omega arith)

-- a read's length, by its number
pub read-sized : (a : List ℕ) (f : File) (pos : ℕ) {m n r : ℕ} {v : List ℕ} → m ≡ n → Went (read_file a f pos m) v (length v ≡ m) r → Went (read_file a f pos n) v (length v ≡ n) r
read-sized a f pos e g = rw (← e) g
