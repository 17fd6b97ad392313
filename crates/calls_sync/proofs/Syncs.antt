-- The call sync, in its parts.
use mathlib.Core.Path.{◌≡◌, refl, sym, ◌∙◌, ap}
use mathlib.Core.Bool.{true, ◌&&◌}
use mathlib.Core.List.{List}
use Prim.Native.Nat.{ℕ, zero, suc, ◌-◌, ◌/◌, ◌%◌, ◌<◌, ◌≤◌}
use native.Mathlib.Omega.{arith}
use lib.Dec.{eqb, ltb, leb}
use borrow.Author.Tests.{ltb-true}
use Rattle.base.specs.Out.{Out, done, refused, bind, Went, well, ill}
use Rattle.base.specs.Search.{found_below}
use Rattle.base.proofs.Bools.{and_parts}
use Rattle.base.proofs.Finds.{search-at}
use Rattle.base.proofs.Outs.{above_zero, bind-is-done, went-is, went-has}
use Rattle.base.proofs.Searches.{found_at, found_nothing}
use Rattle.table.specs.declared.Table.{Table}
use Rattle.table.specs.Table.{row_at, is_next, next_row}
use Rattle.arena.specs.Blocks.{legal}
use Rattle.arena.specs.Places.{free_count}
use Rattle.overlay.specs.View.{view, Fine, Empty}
use Rattle.overlay.proofs.Views.{length-view}
use Rattle.sefs.specs.State.{Fs}
use Rattle.sefs.specs.Meta.{load_meta}
use Rattle.sefs.specs.Nodes.{id_at, sync_row}
use Rattle.sefs.specs.Ask.{admit}
use Rattle.sefs.specs.Close.{sync_from, call_sync}
use Rattle.mem.specs.Mem.{table_in, meta_in, Whole}
use Rattle.mem.specs.State.{fs_of, Stepped, fs_at}
use Rattle.steps.specs.Ends.{Rest, on, ending, Ended, went}
use Rattle.steps.proofs.Ends.{ended-refused}
use Rattle.calls_sync.specs.Sync.{Judged, can, cannot, Does, Counted, Left}

-- ---- answers

-- another answer than 0: it is the reason
decided-not : {A : Type 0} {o : Out A} {P : A → Type 0} {r : ℕ} → Judged o P r → (r ≡ 0 → ⊥) → o ≡ refused r
decided-not (can e p) z = absurd (z refl)
decided-not (cannot l e) z = e

decided-has : {A : Type 0} {o : Out A} {P : A → Type 0} {r : ℕ} → Judged o P r → r ≡ 0 → (x : A) × (o ≡ done x) × P x
decided-has (can {x = x} e p) z = (x, e, p)
decided-has (cannot l e) z = absurd (omega arith)

-- a step that its definition does is answered with 0
went-does : {A : Type 0} {o : Out A} {v : A} {P : Type 0} {r : ℕ} → Went o v P r → (s : A) → o ≡ done s → r ≡ 0
went-does (well e p) s d = refl
went-does (ill l e) s d = absurd (let z : ◌≡◌ {A = ℕ} 0 1 = cc in omega arith)

-- ---- the next row

-- its id lies above
next-above : (t : Table) (low i : ℕ) → found_below i 34 ≡ next_row t low → i < 34 → low < (row_at t i).id
unfolding next_row is_next
next-above t low i e l =
    let s = search-at (is_next t low) 34 i (sym e ∙ found_at i 34 l) in
    ltb-true _ _ (and_parts (ltb low (row_at t i).id) _ s.1).0

-- ---- the rows by rising id

module _ (s : Fs) (low i : ℕ) (e : found_below i 34 ≡ next_row s.table low) where
  -- no row has an id above: nothing is left to do
  from-none : (n : ℕ) → 34 ≤ i → sync_from s low n ≡ done s
  unfolding sync_from
  from-none zero l = refl
  from-none (suc n) l = rw (sym e ∙ found_nothing i 34 l)

  -- row i is stored, and the rows above it come next
  from_row : (n : ℕ) → i < 34 → sync_from s low (suc n) ≡ bind (sync_row s i) (λ d. sync_from d (id_at s i) n)
  unfolding sync_from
  from_row n l = rw (sym e ∙ found_at i 34 l)

from_end : (s : Fs) (low n : ℕ) → n ≤ 0 → sync_from s low n ≡ done s
unfolding sync_from
from_end s low zero l = refl
from_end s low (suc n) l = absurd (omega arith)

-- what the state s needs is what d, with the memory l, needs for the rows with ids above `low`, `more` at the most
pub record Turn (s : Fs) (d l : List ℕ) (low more : ℕ) : Type 0 where
  pub same : sync_from s 0 34 ≡ sync_from (fs_at d l) low more
  pub whole : Whole l

module _ {s : Fs} {d l : List ℕ} {low more : ℕ} (T : Turn s d l low more) where
  pub turn_end : more ≤ 0 → sync_from s 0 34 ≡ done (fs_at d l)
  turn_end z = T.same ∙ from_end (fs_at d l) low more z

  module _ (i : ℕ) (e : found_below i 34 ≡ next_row (table_in l) low) where
    found : found_below i 34 ≡ next_row (fs_at d l).table low
    found = e

    pub turn-none : 34 ≤ i → sync_from s 0 34 ≡ done (fs_at d l)
    turn-none h = T.same ∙ from-none (fs_at d l) low i found more h

    module _ (h : i < 34) (k : 0 < more) where
      -- row i comes next
      turn-row : sync_from s 0 34 ≡ bind (sync_row (fs_at d l) i) (λ x. sync_from x (id_at (fs_at d l) i) (more - 1))
      turn-row =
          let q : more ≡ suc (more - 1) = omega arith in
          T.same ∙ ap (sync_from (fs_at d l) low) q ∙ from_row (fs_at d l) low i found (more - 1) h

      pub turn-stop : (r : ℕ) → sync_row (fs_at d l) i ≡ refused r → sync_from s 0 34 ≡ refused r
      turn-stop r g = turn-row ∙ rw g

      pub turn-next : (c n : List ℕ) (id : ℕ) → sync_row (fs_at d l) i ≡ done (fs_at c n) → Whole n → id ≡ (row_at (table_in l) i).id → Turn s c n id (more - 1)
      turn-next c n id g w q = record { same = turn-row ∙ rw (g, q); whole = w }

      -- where all can be done, row i can be stored
      pub turn-does : Does (sync_from s 0 34) → Does (sync_row (fs_at d l) i)
      turn-does p =
          let b = bind-is-done (sync_row (fs_at d l) i) (λ x. sync_from x (id_at (fs_at d l) i) (more - 1)) p.0 (sym turn-row ∙ p.1) in
          (b.0, b.1)

-- ---- whether they can be stored

-- the arena is only counted on: `arena` is what it would be
pub record Trying (a : List ℕ) (s : Fs) (l : List ℕ) (low more from free : ℕ) : Type 0 where
  pub arena : List ℕ
  pub turn : Turn s arena l low more
  pub counted : Counted a arena low from free

pub try-start : (a m : List ℕ) (free : ℕ) → Whole m → free ≡ free_count a → Trying a (fs_at a m) m 0 34 0 free
try-start a m free w e = record {
  arena = a;
  turn = record { same = refl; whole = w };
  counted = record { head = refl; room = sym e; rest = λ q _. refl; last = λ q z. absurd (omega arith); near = omega arith };
}

module _ {a : List ℕ} {s : Fs} {l : List ℕ} {low more from free : ℕ} (T : Trying a s l low more from free) where
  pub try-end : more ≤ 0 → Judged (sync_from s 0 34) (λ _. Unit) 0
  try-end z = can (turn_end T.turn z) tt

  module _ (i : ℕ) (e : found_below i 34 ≡ next_row (table_in l) low) where
    pub try-none : 34 ≤ i → Judged (sync_from s 0 34) (λ _. Unit) 0
    try-none h = can (turn-none T.turn i e h) tt

    module _ (n : List ℕ) (k m r : ℕ) (h : i < 34) (p : 0 < more)
        (g : (d : List ℕ) (low : ℕ) → Counted a d low from free → low < (row_at (table_in l) i).id → Judged (sync_row (fs_at d l) i) (Left a n (row_at (table_in l) i).id k m) r) where
      decided : Judged (sync_row (fs_at T.arena l) i) (Left a n (row_at (table_in l) i).id k m) r
      decided = g T.arena low T.counted (next-above (table_in l) low i e h)

      pub try-stop : (r ≡ 0 → ⊥) → Judged (sync_from s 0 34) (λ _. Unit) r
      try-stop z = cannot (above_zero r z) (turn-stop T.turn i e h p r (decided-not decided z))

      pub try-next : (id : ℕ) → id ≡ (row_at (table_in l) i).id → r ≡ 0 → Trying a s n id (more - 1) k m
      try-next id q z =
          let f = decided-has decided z in
          let c = f.2 in
          record {
            arena = c.arena;
            turn = turn-next T.turn i e h p c.arena n id (f.1 ∙ ap done c.is) c.whole q;
            counted = rw q c.counted;
          }

-- ---- a row is stored

fs-view : (a u n : List ℕ) → fs_of a u n ≡ fs_at (view a u) n
unfolding fs_of
fs-view a u n = refl

-- the length decides
legal-view : (a u : List ℕ) → Fine a u → legal (view a u) ≡ legal a
unfolding legal
legal-view a u F = ap (λ (n : ℕ). eqb (n % 512) 0 && (leb 16 (n / 512) && leb (n / 512) 4096)) (length-view a u F)

module _ (m : List ℕ) (i : ℕ) {a w u n : List ℕ} {r : ℕ} (E : Empty a w 13) (g : Stepped (sync_row (fs_of a w m) i) a w u n 3 r) (p : Does (sync_row (fs_at a m) i)) where
  fs-is : fs_of a w m ≡ fs_at a m
  unfolding fs_of
  fs-is = λ x. record { arena = E.is x; table = table_in m; meta = meta_in m }

  -- it was
  zero_is : r ≡ 0
  zero_is = went-does g p.0 (ap (λ (s : Fs). sync_row s i) fs-is ∙ p.1)

  pub stored-fine : Fine a u
  stored-fine = (went-has g zero_is).fine

  pub stored_is : (b : List ℕ) → b ≡ view a u → legal a ≡ true → (sync_row (fs_at a m) i ≡ done (fs_at b n)) × ((legal b ≡ true) × Whole n)
  stored_is b e l = rw e (ap (λ (s : Fs). sync_row s i) (sym fs-is) ∙ went-is g zero_is ∙ left_is, (legal-view a u stored-fine ∙ l, (went-has g zero_is).whole))
    where
      left_is : done (fs_of a u n) ≡ done (fs_at (view a u) n)
      left_is = ap done (fs-view a u n)

-- ---- the end

-- it was decided on a state by another name
pub decided-start : {s z : Fs} {r : ℕ} → s ≡ z → Judged (sync_from s 0 34) (λ _. Unit) r → Judged (sync_from z 0 34) (λ _. Unit) r
decided-start e g = rw (← e) g

module _ (s : Fs) {r : ℕ} (g : Judged (sync_from s 0 34) (λ _. Unit) r) where
  pub ended-cannot : (a b : List ℕ) (u : Table) → (r ≡ 0 → ⊥) → b ≡ a → Ended (ending (sync_from s 0 34)) a b u r
  ended-cannot a b u n k = ended-refused n (ap ending (decided-not g n)) k

  pub sync-can : r ≡ 0 → Does (sync_from s 0 34)
  sync-can n = let f = decided-has g n in (f.0, f.1)

pub ended-stored : (s : Fs) (a b n : List ℕ) → sync_from s 0 34 ≡ done (fs_at b n) → Ended (ending (sync_from s 0 34)) a b (table_in n) 0
ended-stored s a b n g = went (ap ending g)

-- ---- the first questions, and the rest

pub sync-refused : (a : List ℕ) (t : Table) {n : ℕ} → admit a t ≡ refused n → call_sync a t ≡ refused n
unfolding call_sync
sync-refused a t q = rw q

-- once arena and table are known
pub sync-goes : (a m n : List ℕ) → legal a ≡ true → admit a (table_in m) ≡ done tt → (meta_in n ≡ load_meta a) × ((table_in n ≡ table_in m) × Whole n)
    → Rest (call_sync a (table_in m)) (ending (sync_from (fs_at a n) 0 34)) ((legal a ≡ true) × Whole n) 0
unfolding call_sync
sync-goes a m n w q l = on (rw (q, ← l.0, ← l.1.0)) (w, l.1.1)
