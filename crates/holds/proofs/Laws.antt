-- A hold and the next stamp, by the bytes that they are; and what a hold given or closed comes to.
use mathlib.Core.Path.{◌≡◌, refl, sym, ap, ap₂, ◌∙◌}
use mathlib.Core.Bool.{Bool, true, false, not, ◌&&◌}
use mathlib.Core.List.{List}
use Prim.Native.Nat.{ℕ, ◌+◌, ◌*◌, ◌^◌, ◌<◌, ◌≤◌}
use native.Mathlib.Decide.{ℕ_discrete}
use native.Mathlib.Omega.{arith}
use lib.ListN.{length, set, length-set}
use lib.Seq.{get_or-set_same, get_or-set_other}
use borrow.Author.Tests.{eq-eqb, ne_eqb, lt-ltb, le-ltb}
use lib.Dec.{ltb, eqb}
use Rattle.base.proofs.Lists.{length-paste, part-paste-other}
use Rattle.base.specs.Parts.{part, paste}
use Rattle.std.specs.Prelude.{Option, Some}
use Rattle.le.specs.Le.{le_of, le_at, le_bytes, le_put}
use Rattle.le.proofs.Laws.{length-le_bytes, length-le_put, le_at-le_put-fits}
use Rattle.structs.proofs.Places.{part-written}
use Rattle.table.specs.declared.Added.{Added}
use Rattle.table.specs.declared.Closed.{Closed}
use Rattle.table.specs.declared.Hold.{Hold}
use Rattle.table.specs.declared.Row.{Row}
use Rattle.table.specs.declared.Table.{Table}
use Rattle.table.specs.Formed.{is_at, hold_ok, row_ok, shaped}
use Rattle.table.specs.Table.{row_at, hold_at, with_hold, row_of, hold_of, add_at, row_used, is_owner, close_hold}
use Rattle.table.specs.Zero.{zero_hold, record_zero}
use Rattle.table.proofs.Holds.{close-in}
use Rattle.table_bytes.specs.Fits.{HoldFits}
use Rattle.table_bytes.specs.Layout.{row_from, row_at_place, hold_from, hold_bytes, hold_at_place, table_of}
use Rattle.table_bytes.proofs.Layouts.{length-hold_bytes, hold_from-hold_bytes}
use Rattle.table_bytes.proofs.Runs.{length-list, list-is}
use Rattle.mem.specs.Mem.{table_in, Whole, Tabled, memory_size}
use Rattle.mem.proofs.Mems.{row_read, hold-read, table_is, tabled}
use Rattle.holds.specs.Holds.{with_next, live_ok}

-- ---- the table of bytes

rows-34 : (m : List ℕ) → length (table_in m).rows ≡ 34
unfolding table_of
rows-34 m = length-list (row_at_place m) 34

holds-32 : (m : List ℕ) → length (table_in m).holds ≡ 32
unfolding table_of
holds-32 m = length-list (hold_at_place m) 32

pub shaped_in : (m : List ℕ) → shaped (table_in m) ≡ true
unfolding shaped
shaped_in m = rw (eq-eqb _ _ (rows-34 m), eq-eqb _ _ (holds-32 m))

pub next-read : (m : List ℕ) → (table_in m).next ≡ le_at m 4394 8
unfolding table_of
next-read m = refl

-- rows that stay where bytes from 3978 on are written
rows_stay : (m n : List ℕ) → ((s e : ℕ) → e ≤ 3978 → part n s e ≡ part m s e) → (i : ℕ) → i < 34 → row_at (table_in m) i ≡ row_at_place n i
unfolding row_at_place
rows_stay m n q i k = row_read m i k ∙ ap row_from (sym (q (117 * i) (117 * i + 117) (omega arith)))

-- a hold that is written is in the table, and all else is as it was
module _ (m : List ℕ) (i : ℕ) (h : Hold) (W : Whole m) (inside : i < 32) (F : HoldFits h) where
  abbrev o : ℕ
  o = 3978 + 13 * i

  abbrev laid : List ℕ
  laid = paste m o (hold_bytes h)

  fit : o + length (hold_bytes h) ≤ length m
  fit = omega (arith, W.size, length-hold_bytes h)

  apart : (s e : ℕ) → (s < o + 13 → e ≤ o) → part laid s e ≡ part m s e
  apart s e q = part-paste-other m o (hold_bytes h) fit s e (λ l. q (omega (arith, length-hold_bytes h)))

  hold-there : (j : ℕ) → j < 32 → hold_at (with_hold (table_in m) i h) j ≡ hold_at_place laid j
  unfolding hold_at_place
  hold-there j k =
      elim (ℕ_discrete j i) [
        | yes e ↦
            rw e
            (get_or-set_same (table_in m).holds i h zero_hold (omega (arith, holds-32 m))
            ∙ sym (ap hold_from (part-written 13 m o (hold_bytes h) (length-hold_bytes h) (omega (arith, W.size))) ∙ hold_from-hold_bytes h F))
        | no ne ↦
            get_or-set_other (table_in m).holds i j h zero_hold ne ∙ hold-read m j k ∙ ap hold_from (sym (apart (3978 + 13 * j) (3978 + 13 * j + 13) (λ l. omega arith)))
      ]

  next-there : (table_in m).next ≡ le_at laid 4394 8
  unfolding le_at
  next-there = next-read m ∙ ap le_of (sym (apart 4394 4402 (λ l. absurd (omega arith))))

  pub hold-put : Tabled m laid (with_hold (table_in m) i h)
  hold-put =
      tabled m laid W.size (length-paste m o (hold_bytes h) fit ∙ W.size) (apart 4402 memory_size (λ l. absurd (omega arith))) (with_hold (table_in m) i h) W
      (table_is laid (with_hold (table_in m) i h) (rows-34 m)
      (rows_stay m laid (λ s e l. apart s e (λ g. omega arith)))
      (list-is (hold_at_place laid) zero_hold (set (table_in m).holds i h) 32 (length-set (table_in m).holds i h ∙ holds-32 m) hold-there)
      next-there)

-- the next stamp that is written is the table's, and all else is as it was
module _ (m : List ℕ) (v : ℕ) (W : Whole m) (F : v < 2 ^ 64) where
  abbrev stamped : List ℕ
  stamped = le_put m 4394 8 v

  before : (s e : ℕ) → (s < 4402 → e ≤ 4394) → part stamped s e ≡ part m s e
  unfolding le_put
  before s e q = part-paste-other m 4394 (le_bytes 8 v) (omega (arith, W.size, length-le_bytes 8 v)) s e (λ l. q (omega (arith, length-le_bytes 8 v)))

  hold-stays : (j : ℕ) → j < 32 → hold_at (table_in m) j ≡ hold_at_place stamped j
  unfolding hold_at_place
  hold-stays j k = hold-read m j k ∙ ap hold_from (sym (before (3978 + 13 * j) (3978 + 13 * j + 13) (λ l. omega arith)))

  pub next-put : Tabled m stamped (with_next (table_in m) v)
  next-put =
      let room : 4394 + 8 ≤ length m = omega (arith, W.size) in
      tabled m stamped W.size (length-le_put m 4394 8 v room ∙ W.size) (before 4402 memory_size (λ l. absurd (omega arith))) (with_next (table_in m) v) W
      (table_is stamped (with_next (table_in m) v) (rows-34 m)
      (rows_stay m stamped (λ s e l. before s e (λ g. omega arith)))
      (list-is (hold_at_place stamped) zero_hold (table_in m).holds 32 (holds-32 m) hold-stays)
      (sym (le_at-le_put-fits m 4394 8 v room F)))

-- ---- a hold given

-- the memory was m, is a with the hold and b with the next stamp too
pub given :
    (m a b : List ℕ) (w row i next : ℕ) → next ≡ (table_in m).next → table_in a ≡ with_hold (table_in m) i (record { row = row; stamp = next; owner = w }) → table_in b ≡ with_next (table_in a) (next + 1)
    → ◌≡◌ {A = Added} (add_at (table_in m) w row (Some i)) (record { handle = record { hold = i; stamp = next }; table = table_in b })
given m a b w row i next e ea eb =
    let t : Table = table_in m in
    let u : table_in b ≡ with_next (with_hold t i (record { row = row; stamp = next; owner = w })) (next + 1) = eb ∙ ap (λ (k : Table). with_next k (next + 1)) ea in
    ap (λ (k : ℕ). record { handle = record { hold = i; stamp = k }; table = with_next (with_hold t i (record { row = row; stamp = k; owner = w })) (k + 1) }) (sym e)
    ∙ ap (λ (k : Table). record { handle = record { hold = i; stamp = next }; table = k }) (sym u)

-- ---- a hold closed

pub closed :
    (m a : List ℕ) (hold i row k : ℕ) (used : Bool) → i ≡ hold → i < 32 → row ≡ (hold_at (table_in m) i).row → table_in a ≡ with_hold (table_in m) i zero_hold → k ≡ row → used ≡ row_used (table_in a) k
    → ◌≡◌ {A = Closed} (close_hold (table_in m) hold) (record { last = not used; table = table_in a })
closed m a hold i row k used e l er ea ek eu =
    let u : used ≡ row_used (with_hold (table_in m) i zero_hold) (hold_at (table_in m) i).row = eu ∙ ap₂ row_used ea (ek ∙ er) in
    sym (close-in (table_in m) hold i used e l u) ∙ ap (λ (t : Table). record { last = not used; table = t }) (sym ea)

-- ---- well formed, case by case

module _ (t : Table) (i : ℕ) (r : Row) (e : r ≡ row_at t i) where
  pub row-free : (z : Bool) → r.id ≡ 0 → z ≡ record_zero r.rec → (not r.dirty && z) ≡ row_ok t i
  unfolding row_ok
  row-free z q ez =
      let b : eqb (row_at t i).id 0 ≡ true = eq-eqb _ _ (ap (λ (k : Row). k.id) (sym e) ∙ q) in
      rw b (ap₂ ◌&&◌ (ap (λ (k : Row). not k.dirty) e) (ez ∙ ap (λ (k : Row). record_zero k.rec) e))

  pub row-used : (f : Option ℕ) (a u : Bool) → (r.id ≡ 0 → ⊥) → f ≡ row_of t r.id → a ≡ is_at f i → u ≡ row_used t i → (a && u) ≡ row_ok t i
  unfolding row_ok
  row-used f a u q ef ea eu =
      let b : eqb (row_at t i).id 0 ≡ false = ne_eqb _ _ (λ z. q (ap (λ (k : Row). k.id) e ∙ z)) in
      rw b (ap₂ ◌&&◌ (ea ∙ ap (λ (g : Option ℕ). is_at g i) (ef ∙ ap (λ (k : Row). row_of t k.id) e)) eu)

module _ (t : Table) (i : ℕ) (h : Hold) (e : h ≡ hold_at t i) where
  pub hold-free : h.stamp ≡ 0 → (eqb h.row 0 && eqb h.owner 0) ≡ hold_ok t i
  unfolding hold_ok
  hold-free q =
      let b : eqb (hold_at t i).stamp 0 ≡ true = eq-eqb _ _ (ap (λ (k : Hold). k.stamp) (sym e) ∙ q) in
      rw b (ap (λ (k : Hold). eqb k.row 0 && eqb k.owner 0) e)

  pub hold-live : (b : Bool) → (h.stamp ≡ 0 → ⊥) → b ≡ live_ok t i → b ≡ hold_ok t i
  unfolding hold_ok live_ok
  hold-live b q eb =
      let n : eqb (hold_at t i).stamp 0 ≡ false = ne_eqb _ _ (λ z. q (ap (λ (k : Hold). k.stamp) e ∙ z)) in
      rw n eb

  pub live-off : (row : ℕ) → row ≡ h.row → 34 ≤ row → false ≡ live_ok t i
  unfolding live_ok
  live-off row er l =
      let r : row ≡ (hold_at t i).row = er ∙ ap (λ (k : Hold). k.row) e in
      let b : ltb (hold_at t i).row 34 ≡ false = le-ltb (hold_at t i).row 34 (omega (arith, r, l)) in
      rw b

  pub live_in :
      (row id next : ℕ) (f : Option ℕ) (a o : Bool) → row ≡ h.row → row < 34 → id ≡ (row_at t row).id → next ≡ t.next → f ≡ hold_of t h.stamp → a ≡ is_at f i → o ≡ is_owner h.owner
      → (not (eqb id 0) && (ltb h.stamp next && (a && o))) ≡ live_ok t i
  unfolding live_ok
  live_in row id next f a o er l ei en ef ea eo =
      let r : row ≡ (hold_at t i).row = er ∙ ap (λ (k : Hold). k.row) e in
      let s : h.stamp ≡ (hold_at t i).stamp = ap (λ (k : Hold). k.stamp) e in
      let b : ltb (hold_at t i).row 34 ≡ true = lt-ltb (hold_at t i).row 34 (omega (arith, r, l)) in
      let d : id ≡ (row_at t (hold_at t i).row).id = ei ∙ ap (λ (k : ℕ). (row_at t k).id) r in
      let g : a ≡ is_at (hold_of t (hold_at t i).stamp) i = ea ∙ ap (λ (k : Option ℕ). is_at k i) (ef ∙ ap (hold_of t) s) in
      rw b (ap₂ ◌&&◌ (ap (λ (k : ℕ). not (eqb k 0)) d) (ap₂ ◌&&◌ (ap₂ ltb s en) (ap₂ ◌&&◌ g (eo ∙ ap (λ (k : Hold). is_owner k.owner) e))))
