-- What is known of files' names, lengths and bytes where an arena is made of bytes.
use mathlib.Core.Path.{◌≡◌, refl, ap}
use mathlib.Core.Bool.{◌&&◌}
use mathlib.Core.List.{List}
use mathlib.Core.Logic.{⊎_elim}
use Prim.Native.Nat.{ℕ, ◌+◌, ◌/◌, ◌%◌, ◌≤◌, ◌<◌}
use native.Mathlib.Omega.{arith}
use lib.ListN.{length, get_or, replicate, length-replicate, get_or-replicate, get_or-eq_default}
use lib.Dec.{eqb, leb}
use Rattle.base.proofs.Bools.{bool_cases}
use Rattle.base.proofs.Numbers.{lt-or-le}
use Rattle.le.specs.Le.{Bytes}
use Rattle.le.proofs.Laws.{le_at-below}
use Rattle.arena.specs.Blocks.{blk, legal}
use Rattle.arena.specs.Fields.{File, file}
use Rattle.arena.specs.Places.{head_of, data_of}
use Rattle.arena.proofs.Blocks.{blk-bytes}
use Rattle.files.specs.Read.{there, length_of, present, byte_at}
use Rattle.files.specs.Store.{longest}
use Rattle.files_laws.specs.Laws.{Named, Read}
use Rattle.files_laws.proofs.Views.{byte-in, byte-here, byte-none, length-here, length_none}

-- the metadata file, and node files of any name, have right names; so has every file of a sound arena
zeros-16 : (i : ℕ) → get_or (replicate {A = ℕ} 16 0) i 0 ≡ 0
zeros-16 i =
    ⊎_elim
    (λ l. get_or-replicate {A = ℕ} 16 i 0 0 l)
    (λ g. get_or-eq_default {A = ℕ} (replicate 16 0) 0 {n = i} (omega (arith, length-replicate {A = ℕ} 16 0)))
    (lt-or-le i 16)

pub named-meta : Named (file 0 (replicate 16 0))
named-meta = record {
  kind = omega arith;
  size = length-replicate {A = ℕ} 16 0;
  bytes = λ i. rw (zeros-16 i) (omega arith);
  zero = λ _ i. zeros-16 i;
}

pub named-node : (nm : List ℕ) → length nm ≡ 16 → Bytes nm → Named (file 1 nm)
named-node nm s h = record { kind = omega arith; size = s; bytes = h; zero = λ n. absurd (n refl) }

-- a length fits 4 bytes
pub length-fits : (a : List ℕ) (f : File) → Bytes a → length_of a f ≤ longest
length-fits a f h =
    ⊎_elim
    (λ e. omega (arith, length-here a f e, le_at-below (blk a (head_of a f)) 20 4 (blk-bytes a (head_of a f) h)))
    (λ e. omega (arith, length_none a f e))
    (bool_cases (there a f))

-- a byte is a byte
pub byte_fits : (a : List ℕ) (f : File) (p : ℕ) → Bytes a → byte_at a f p < 256
byte_fits a f p h =
    ⊎_elim
    (λ e. omega (arith, byte-in a f p, byte-here a f (p / 480) e (p % 480), blk-bytes a (data_of a f (p / 480)) h (24 + p % 480)))
    (λ e. omega (arith, byte-in a f p, byte-none a f (p / 480) e (p % 480)))
    (bool_cases (present a f (p / 480)))

pub read-bytes : (a : List ℕ) (f : File) (pos n : ℕ) (l : List ℕ) → Bytes a → Read a f pos n l → Bytes l
read-bytes a f pos n l h R i =
    ⊎_elim
    (λ m. rw (R.byte i m) (byte_fits a f (pos + i) h))
    (λ g. rw (get_or-eq_default l 0 {n = i} (omega (arith, R.size))) (omega arith))
    (lt-or-le i n)

-- an arena of the same length is as legal
pub legal-same : (a a' : List ℕ) → length a' ≡ length a → legal a' ≡ legal a
unfolding legal
legal-same a a' e = ap (λ (n : ℕ). eqb (n % 512) 0 && (leb 16 (n / 512) && leb (n / 512) 4096)) e
