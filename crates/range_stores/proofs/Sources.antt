-- What is read by the places that an arena had, on a later one: its bytes, where no store has changed them.
use mathlib.Core.Path.{◌≡◌, refl, sym, ap, ap₂, ◌∙◌}
use mathlib.Core.Bool.{Bool, true, false}
use mathlib.Core.List.{List}
use mathlib.Core.Logic.{⊎_elim}
use Prim.Native.Nat.{ℕ, suc, ◌+◌, ◌*◌, ◌-◌, ◌/◌, ◌%◌, ◌≤◌, ◌<◌}
use native.Mathlib.Omega.{arith}
use lib.ListN.{length, take, get_or, get_or-eq_default}
use lib.Seq.{get_or-take, length-take-le}
use borrow.Author.Tests.{eq-eqb}
use Rattle.base.specs.Search.{pick}
use Rattle.base.proofs.Numbers.{lt-or-le}
use Rattle.arena.specs.Fields.{File}
use Rattle.arena.specs.Places.{data_of}
use Rattle.files.specs.Read.{present, byte_at}
use Rattle.files.specs.Store.{touched}
use Rattle.files_laws.proofs.Views.{byte-in, byte-none}
use Rattle.chains.specs.Led.{block_at}
use Rattle.plans.specs.Plan.{Sourced, payload_by, byte_by, InArena}
use Rattle.plans.proofs.Payloads.{place-lies, payload-is}
use Rattle.plans.proofs.Plans.{touched-some, block-there, block-gone}
use Rattle.range_stores.specs.Moves.{Readable}

-- the place 0 reads as zeros
payload-none : (d : List ℕ) (c j : ℕ) → c ≡ 0 → payload_by d c j ≡ 0
payload-none d c j e = rw (eq-eqb c 0 e)

-- a byte of the run lies in one of the blocks that it touches
byte-touched : (src n p : ℕ) → src ≤ p → p < src + n → (p / 480 - src / 480 < touched src n) × (src / 480 + (p / 480 - src / 480) ≡ p / 480)
byte-touched src n p g l = let t = touched-some src n (λ z. omega arith) in (omega arith, omega arith)

-- ---- the places of a run

-- a block that is there stays where it is
abbrev pub StaysAt : List ℕ → File → ℕ → List ℕ → Type 0
StaysAt a f q d = present a f q ≡ true → (present d f q ≡ true) × (data_of d f q ≡ data_of a f q)

-- places as of a are good for m, which has the same bytes, and in which a's blocks stay where they are
pub readable_of : (a m : List ℕ) (f : File) (src n : ℕ) (source : List ℕ) → Sourced a f src n source → ((q : ℕ) → StaysAt a f q m) → ((p : ℕ) → byte_at m f p ≡ byte_at a f p)
    → Readable m f src n source
readable_of a m f src n source S stays same = record {
  few = S.few;
  at = λ i l some.
      let y = block-there a f (src / 480 + i) (get_or source i 0) (S.at i l) some in
      let s = stays (src / 480 + i) y.0 in
      S.at i l ∙ ap₂ (λ (t : Bool) (k : ℕ). pick t (suc k) 0) (y.0 ∙ sym s.0) (sym s.1);
  zero = λ p g l z.
      let t = byte-touched src n p g l in
      let no : present a f (p / 480) ≡ false = block-gone a f (p / 480) 0 (sym z ∙ S.at (p / 480 - src / 480) t.0 ∙ ap (block_at a f) t.1) refl in
      same p ∙ byte-in a f p ∙ byte-none a f (p / 480) no (p % 480);
}

module _ {m : List ℕ} {f : File} {src n : ℕ} {source : List ℕ} (R : Readable m f src n source) {k : ℕ} (is : k ≡ touched src n) where
  -- the first of them, as they are lent
  first-is : (i : ℕ) → i < k → get_or (take k source) i 0 ≡ get_or source i 0
  first-is i l = get_or-take k source i 0 l

  -- as many as are lent
  pub source-long : length (take k source) ≡ k
  source-long = length-take-le k source (omega (arith, R.few))

  -- they cover the run
  pub source-covers : 0 < n → src + n ≤ 480 * (src / 480 + length (take k source))
  source-covers some = omega (arith, source-long, touched-some src n (λ z. omega arith))

  -- and lie in the arena
  pub source_in : (d : List ℕ) → length d ≡ length m → InArena d (take k source)
  source_in d size i =
      ⊎_elim
      (λ (l : i < k). ⊎_elim
      (λ (some : 0 < get_or source i 0). omega (arith, first-is i l, place-lies m f (src / 480 + i) (get_or source i 0) (R.at i (omega arith) some)))
      (λ none. omega (arith, first-is i l))
      (lt-or-le 0 (get_or source i 0)))
      (λ g. omega (arith, get_or-eq_default (take k source) 0 {n = i} (omega (arith, source-long))))
      (lt-or-le i k)

  -- byte p, on a later arena that has it still
  pub read-later : (d : List ℕ) (p : ℕ) → src ≤ p → p < src + n → StaysAt m f (p / 480) d → byte_at d f p ≡ byte_at m f p → byte_by d (take k source) (src / 480) p ≡ byte_at m f p
  read-later d p g l stays same =
      let t = byte-touched src n p g l in
      let e : get_or (take k source) (p / 480 - src / 480) 0 ≡ get_or source (p / 480 - src / 480) 0 = first-is (p / 480 - src / 480) (omega (arith, t.0)) in
      ⊎_elim
      (λ (some : 0 < get_or source (p / 480 - src / 480) 0).
      let at : get_or source (p / 480 - src / 480) 0 ≡ block_at m f (p / 480) = R.at (p / 480 - src / 480) t.0 some ∙ ap (block_at m f) t.1 in
      let y = block-there m f (p / 480) (get_or source (p / 480 - src / 480) 0) at some in
      let s = stays y.0 in
      let is : block_at m f (p / 480) ≡ block_at d f (p / 480) = ap₂ (λ (t : Bool) (j : ℕ). pick t (suc j) 0) (y.0 ∙ sym s.0) (sym s.1) in
      payload-is d f (p / 480) (get_or (take k source) (p / 480 - src / 480) 0) (e ∙ at ∙ is) (p % 480) ∙ sym (byte-in d f p) ∙ same)
      (λ none.
      let z : get_or source (p / 480 - src / 480) 0 ≡ 0 = omega arith in
      payload-none d (get_or (take k source) (p / 480 - src / 480) 0) (p % 480) (e ∙ z) ∙ sym (R.zero p g l z))
      (lt-or-le 0 (get_or source (p / 480 - src / 480) 0))
