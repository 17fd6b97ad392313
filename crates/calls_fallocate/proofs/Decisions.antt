-- What the decision counts, and what it leaves for the stores.
use mathlib.Core.Path.{◌≡◌, refl, sym, ap, ◌∙◌, subst}
use mathlib.Core.Bool.{Bool, true, false}
use mathlib.Core.List.{List}
use mathlib.Core.Logic.{⊎_elim}
use Prim.Native.Nat.{ℕ, zero, suc, ◌+◌, ◌*◌, ◌-◌, ◌/◌, ◌≤◌, ◌<◌, min}
use native.Mathlib.Omega.{arith}
use lib.ListN.{length, replicate, length-replicate}
use lib.Dec.{leb}
use borrow.Author.Tests.{le-leb, lt-leb, eq-eqb, ne_eqb}
use Rattle.base.specs.Out.{done, refused}
use Rattle.base.specs.Search.{pick}
use Rattle.base.proofs.Numbers.{lt-or-le}
use Rattle.arena.specs.Fields.{File}
use Rattle.arena.specs.Places.{free_count}
use Rattle.files.specs.Read.{there, length_of}
use Rattle.files.specs.Store.{longest, touched, put_file}
use Rattle.files_laws.specs.Laws.{lacking}
use Rattle.files_laws.proofs.Put.{put-done, put_full}
use Rattle.pieces.specs.Counts.{ByRoom}
use Rattle.ranges.specs.Ranges.{fits_mode}
use Rattle.ranges.specs.Says.{looks}
use Rattle.ranges.specs.declared.FallocateMode.{FallocateMode}
use Rattle.ranges.specs.declared.FallocateMode.TheVariants.{Allocate, PunchHoleKeepSize, ZeroRange, ZeroRangeKeepSize, CollapseRange, InsertRange, Unknown}
use Rattle.chains.specs.Led.{end_of}
use Rattle.plans.specs.Plan.{Places, Sourced, Decided, can, cannot}
use Rattle.plans.proofs.Decides.{decided-can}
use Rattle.calls_fallocate.specs.Fallocate.{Resolved}

-- where nothing is short, the room decides
decided-room : {a : List ℕ} {f : File} {pos n : ℕ} {plan : List ℕ} {r : ℕ} → there a f ≡ true → pos + n ≤ longest → Decided a f pos n plan r → r ≡ ByRoom a f pos n
decided-room {a} {f} {pos} {n} y l (can P) = sym (ap (λ (b : Bool). pick b 0 17) (le-leb (lacking a f pos n) (free_count a) P.room))
decided-room {a} {f} {pos} {n} y l (cannot {r = r} some h) = ⊎_elim full (λ g. absurd (never g)) (lt-or-le (free_count a) (lacking a f pos n))
  where
    size : length {A = ℕ} (replicate n 0) ≡ n
    size = length-replicate {A = ℕ} n 0

    is : put_file a f pos (replicate n 0) ≡ refused r
    is = h (replicate n 0) size

    full : free_count a < lacking a f pos n → r ≡ ByRoom a f pos n
    full g =
        let q : put_file a f pos (replicate n 0) ≡ refused 17 = put_full a f pos (replicate n 0) y (subst (λ (m : ℕ). free_count a < lacking a f pos m) (sym size) g) in
        let e : r ≡ 17 = cc is in
        e ∙ sym (ap (λ (b : Bool). pick b 0 17) (lt-leb (lacking a f pos n) (free_count a) g))

    never : lacking a f pos n ≤ free_count a → ⊥
    never g =
        let p = put-done a f pos (replicate n 0) y (omega (arith, size)) (subst (λ (m : ℕ). lacking a f pos m ≤ free_count a) (sym size) g) in
        let z : ◌≡◌ {A = ℕ} 0 1 = cc (is, p.1) in
        omega arith

-- by other names; and where the answer is known
pub decided-as : {a : List ℕ} {f : File} {p q x y : ℕ} {plan : List ℕ} {r : ℕ} → p ≡ x → q ≡ y → Decided a f p (q - p) plan r → Decided a f x (y - x) plan r
decided-as e g D = rw (← e, ← g) D

-- the length that is found by the chains
pub long-is : (a : List ℕ) (f : File) {v : ℕ} → there a f ≡ true → v ≡ end_of a f → v ≡ suc (length_of a f)
long-is a f y e = e ∙ ap (λ (b : Bool). pick b (suc (length_of a f)) 0) y

-- ---- the blocks that are read

-- as many bytes at another place touch one block more at most
touched-more : (at m src n : ℕ) → n ≤ m → touched src n ≤ touched at m + 1
unfolding touched
touched-more at m src zero l = omega arith
touched-more at (suc m) src (suc n) l = omega arith
touched-more at zero src (suc n) l = absurd (omega arith)

-- and lie in the file's range
touched-end : (src n : ℕ) → src + n ≤ longest → src / 480 + touched src n ≤ 4294967296
unfolding touched
touched-end src zero l = omega arith
touched-end src (suc n) l = omega arith

module _ {a : List ℕ} {f : File} {at m : ℕ} {plan : List ℕ} {r k : ℕ} (src n : ℕ) (D : Decided a f at m plan r) (z : r ≡ 0) (is : k ≡ touched src n) where
  pub source_fits : {room : ℕ} → length plan ≡ 4096 → room ≡ 4097 → n ≤ m → src + n ≤ longest → (k ≤ room) × (src / 480 + k ≤ 4294967296)
  source_fits e q l h = (omega (arith, touched-more at m src n l, (decided-can D z).few), omega (arith, touched-end src n h))

  pub sourced : {source : List ℕ} {room : ℕ} → length source ≡ room → k ≤ room → Places a f src source k → Sourced a f src n source
  sourced e l P = record { few = omega arith; at = λ i x. P i (omega arith) }

-- ---- a collapse of a file that is shorter than its size

module _ {a : List ℕ} {f : File} {from whole r : ℕ} {plan : List ℕ} (len long : ℕ) (y : there a f ≡ true) (is : whole ≡ 128 * ((long - (from + len)) / 128))
    (D : Decided a f from whole plan r) (range : from + whole ≤ longest) where
  says-whole : r ≡ ByRoom a f from (128 * ((long - (from + len)) / 128))
  says-whole = decided-room y range D ∙ ap (ByRoom a f from) is

  pub short-full : (r ≡ 0 → ⊥) → r ≡ pick (leb (lacking a f from (128 * ((long - (from + len)) / 128))) (free_count a)) 19 17
  short-full z = go (leb (lacking a f from (128 * ((long - (from + len)) / 128))) (free_count a)) says-whole
    where
      go : (b : Bool) → r ≡ pick b 0 17 → r ≡ pick b 19 17
      go true e = absurd (z e)
      go false e = e

  pub short_stuck : r ≡ 0 → ◌≡◌ {A = ℕ} 19 (pick (leb (lacking a f from (128 * ((long - (from + len)) / 128))) (free_count a)) 19 17)
  short_stuck z = go (leb (lacking a f from (128 * ((long - (from + len)) / 128))) (free_count a)) says-whole
    where
      go : (b : Bool) → r ≡ pick b 0 17 → ◌≡◌ {A = ℕ} 19 (pick b 19 17)
      go true e = refl
      go false e = absurd (omega arith)

-- ---- each mode

pub resolved-as : {mode m : FallocateMode} {a : List ℕ} {f : File} {size from len : ℕ} {plan source : List ℕ} {r : ℕ} → mode ≡ m → Resolved m a f size from len plan source r
    → Resolved mode a f size from len plan source r
resolved-as e D = rw e D

pub never-unknown : {mode : FallocateMode} (size from len : ℕ) → mode ≡ Unknown → fits_mode mode size from len ≡ done tt → ⊥
never-unknown {mode} size from len e fit =
    let q : fits_mode Unknown size from len ≡ done tt = rw e at fit in
    let z : ◌≡◌ {A = ℕ} 0 1 = cc in
    omega arith

module _ {a : List ℕ} {f : File} (size from len : ℕ) (y : there a f ≡ true) (plan source : List ℕ) where
  pub allocate-resolved : (keep : Bool) → looks (Allocate keep) size from len ≡ true → Resolved (Allocate keep) a f size from len plan source 0
  allocate-resolved false e = record { says = refl; has = λ _. refl }
  allocate-resolved true e = absurd (let z : ◌≡◌ {A = ℕ} 0 1 = cc in omega arith)

  module _ {r : ℕ} (range : from + len ≤ longest) where
    pub punch-resolved : Decided a f (min from size) (min (from + len) size - min from size) plan r → Resolved PunchHoleKeepSize a f size from len plan source r
    punch-resolved D = record { says = decided-room y (omega arith) D; has = λ z. decided-can D z }

    pub keep-resolved : Decided a f (min from size) (min (from + len) size - min from size) plan r → Resolved ZeroRangeKeepSize a f size from len plan source r
    keep-resolved D = record { says = decided-room y (omega arith) D; has = λ z. decided-can D z }

    pub zero-resolved : Decided a f from len plan r → Resolved ZeroRange a f size from len plan source r
    zero-resolved D = record { says = decided-room y range D; has = λ z. decided-can D z }

  module _ (ends : from + len < size) where
    -- an empty range sets the length alone
    pub collapse-far : len ≡ 0 → longest < size → Resolved CollapseRange a f size from len plan source 17
    collapse-far e l = record { says = rw (eq-eqb len 0 e, lt-leb size longest l); has = λ z. absurd (omega arith) }

    pub collapse-none : len ≡ 0 → size ≤ longest → Resolved CollapseRange a f size from len plan source 0
    collapse-none e l = record { says = rw (eq-eqb len 0 e, le-leb size longest l); has = λ z. (ends, l, λ some. absurd (omega arith)) }

    module _ {r : ℕ} (some : len ≡ 0 → ⊥) where
      pub collapse-short : length_of a f < size → r ≡ pick (leb (lacking a f from (128 * ((length_of a f - (from + len)) / 128))) (free_count a)) 19 17
          → Resolved CollapseRange a f size from len plan source r
      collapse-short l e = record {
        says = e ∙ rw (ne_eqb len 0 some, lt-leb size (length_of a f) l);
        has = λ z. absurd (go (leb (lacking a f from (128 * ((length_of a f - (from + len)) / 128))) (free_count a)) (sym z ∙ e));
      }
        where
          go : (b : Bool) → ◌≡◌ {A = ℕ} 0 (pick b 19 17) → ⊥
          go true q = omega arith
          go false q = omega arith

      pub collapse-copies : size ≤ length_of a f → size ≤ longest → Decided a f from (size - (from + len)) plan r → (r ≡ 0 → Sourced a f (from + len) (size - (from + len)) source)
          → Resolved CollapseRange a f size from len plan source r
      collapse-copies l h D S = record {
        says = decided-room y (omega arith) D ∙ rw (ne_eqb len 0 some, le-leb size (length_of a f) l);
        has = λ z. (ends, h, λ _. record { long = l; plan = decided-can D z; read = S z });
      }

  module _ (starts : from < size) (range : size + len ≤ longest) where
    pub insert-none : len ≡ 0 → Resolved InsertRange a f size from len plan source 0
    insert-none e = record { says = rw (eq-eqb len 0 e); has = λ z. (starts, range, λ some. absurd (omega arith)) }

    module _ (some : len ≡ 0 → ⊥) where
      pub insert-short : length_of a f < size → Resolved InsertRange a f size from len plan source 19
      insert-short l = record { says = rw (ne_eqb len 0 some, lt-leb size (length_of a f) l); has = λ z. absurd (omega arith) }

      pub insert-copies : {r : ℕ} → size ≤ length_of a f → Decided a f from (len + (size - from)) plan r → (r ≡ 0 → Sourced a f from (size - from) source)
          → Resolved InsertRange a f size from len plan source r
      insert-copies l D S = record {
        says = decided-room y (omega arith) D ∙ rw (ne_eqb len 0 some, le-leb size (length_of a f) l);
        has = λ z. (starts, range, λ _. record { long = l; plan = decided-can D z; read = S z });
      }
