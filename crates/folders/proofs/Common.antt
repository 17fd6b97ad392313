-- Laws that belong to no folder: lists laid over whole lists, and reads and stores by their outcomes.
use mathlib.Core.Path.{◌≡◌, refl, sym, ap, ◌∙◌, subst}
use mathlib.Core.Bool.{Bool, true, false}
use mathlib.Core.List.{List}
use mathlib.Core.Logic.{⊎_elim}
use Prim.Native.Nat.{ℕ, ◌+◌, ◌*◌, ◌≤◌, ◌<◌, min}
use native.Mathlib.Omega.{arith}
use lib.ListN.{length}
use lib.Dec.{leb}
use borrow.Author.Tests.{lt-leb, leb-true}
use Rattle.base.specs.Out.{done, refused, guard, answer, kept, Went, well, ill}
use Rattle.base.specs.Parts.{tab}
use Rattle.base.proofs.Numbers.{lt-or-le}
use Rattle.base.proofs.Bools.{bool_cases}
use Rattle.base.proofs.Lists.{length-tab}
use Rattle.structs.specs.declared.DiskINode.{DiskINode}
use Rattle.arena.specs.Fields.{File, file}
use Rattle.files.specs.Read.{there, length_of, byte_at, read_file}
use Rattle.files.specs.Store.{longest, put_file}
use Rattle.sefs.specs.Nodes.{node_file}

read_whole : (a : List ℕ) (f : File) (p n : ℕ) (was is : List ℕ) (r : ℕ) → r ≡ answer (read_file a f p n) → is ≡ kept was (read_file a f p n) → Went (read_file a f p n) is (length is ≡ n) r
unfolding read_file
read_whole a f p n was is r e g = go (there a f) (leb (p + n) (length_of a f)) e g
  where
    go : (x y : Bool) → r ≡ answer (guard x 19 (guard y 19 (done (tab (byte_at a f) p n)))) → is ≡ kept was (guard x 19 (guard y 19 (done (tab (byte_at a f) p n))))
        → Went (guard x 19 (guard y 19 (done (tab (byte_at a f) p n)))) is (length is ≡ n) r
    go true true e g = rw e (well (ap done (sym g)) (ap length g ∙ length-tab (byte_at a f) p n))
    go true false e g = rw e (ill {r = 19} (omega arith) refl)
    go false y e g = rw e (ill {r = 19} (omega arith) refl)

-- a read, by the answer and what is left in the buffer
pub read-went : (a : List ℕ) (f : File) (p : ℕ) {n : ℕ} (was is : List ℕ) (r : ℕ) → length was ≡ n
    → r ≡ answer (read_file a f p (length was)) → is ≡ kept was (read_file a f p (length was)) → Went (read_file a f p n) is (length is ≡ n) r
read-went a f p was is r z e g = rw (← z) (read_whole a f p (length was) was is r e g)

-- a store past the longest length is refused wherever it is
pub put-far : (a : List ℕ) (f : File) (p q : ℕ) (src : List ℕ) → longest < p + length src → longest < q + length src → put_file a f p src ≡ put_file a f q src
unfolding put_file
put-far a f p q src h k = rw (lt-leb (p + length src) longest h, lt-leb (q + length src) longest k)

-- a store that was done is not past it
pub put-short : (a : List ℕ) (f : File) (p : ℕ) (src d : List ℕ) → put_file a f p src ≡ done d → p + length src ≤ longest
unfolding put_file
put-short a f p src d e =
    ⊎_elim
    (λ (t : leb (p + length src) longest ≡ true). leb-true (p + length src) longest t)
    (λ t. absurd (no (there a f) (rw t at e)))
    (bool_cases (leb (p + length src) longest))
  where
    no : (x : Bool) → guard {A = List ℕ} x 19 (refused 17) ≡ done d → ⊥
    no true e = let z : ◌≡◌ {A = ℕ} 0 1 = cc in omega arith
    no false e = let z : ◌≡◌ {A = ℕ} 0 1 = cc in omega arith

-- so a place may be held below a bound that is past it
pub put-held : (a : List ℕ) (f : File) (k p : ℕ) (src : List ℕ) → length src ≡ 264 → p ≡ min k 16777216 → put_file a f (264 * p) src ≡ put_file a f (264 * k) src
put-held a f k p src h e =
    ⊎_elim
    (λ (l : k < 16777216). ap (λ (x : ℕ). put_file a f (264 * x) src) (let q : p ≡ k = omega arith in q))
    (λ g. put-far a f (264 * p) (264 * k) src (omega arith) (omega arith))
    (lt-or-le k 16777216)

-- a read of a record's file, by the name that the code has of it
pub read-in : {name is : List ℕ} {n r : ℕ} (a : List ℕ) (p : ℕ) (rec : DiskINode) → name ≡ rec.file → Went (read_file a (file 1 name) p n) is (length is ≡ n) r → Went (read_file a (node_file rec) p n) is (length is ≡ n) r
read-in {is = is} {n = n} {r = r} a p rec e g = subst (λ (x : List ℕ). Went (read_file a (file 1 x) p n) is (length is ≡ n) r) e g
