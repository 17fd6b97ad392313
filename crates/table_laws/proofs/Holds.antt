-- A hold added or closed keeps the table formed.
use Prim.Native.Nat.{ℕ, ◌+◌, ◌<◌, ◌≤◌}
use native.Mathlib.Omega.{arith}
use mathlib.Core.Path.{◌≡◌, refl, sym, ◌∙◌, ap}
use mathlib.Core.Bool.{Bool, true, false, not, ◌&&◌}
use mathlib.Core.Logic.{◌⊎◌, inl, inr, ⊎_elim}
use lib.ListN.{length, set, length-set}
use lib.Seq.{get_or-set_same, get_or-set_other}
use lib.Dec.{eqb, ltb}
use borrow.Author.Tests.{eqb-true, lt-ltb, le-ltb, ltb-true, not-true, not-false, eq-eqb, ne_eqb}
use Rattle.base.proofs.Counts.{count_to-change, bit_le}
use Rattle.base.proofs.Finds.{eq-cases, search-at, search-finds, test-no}
use Rattle.base.specs.Count.{bit, count_to}
use Rattle.std.specs.Prelude.{Option, Some, None}
use Rattle.base.proofs.Bools.{and_parts, and_both, and-false, true-false, bool_cases}
use Rattle.base.proofs.Numbers.{lt-or-le}
use Rattle.table.specs.declared.Table.{Table}
use Rattle.table.specs.declared.Row.{Row}
use Rattle.table.specs.declared.Hold.{Hold}
use Rattle.table.specs.Zero.{zero_hold}
use Rattle.table.specs.Table.{row_at, hold_at, with_row, with_hold, is_hold, hold_of, free_hold, own_at, own_holds, can_hold, add_at, add_hold, names_row, row_used, closed_as, close_hold}
use Rattle.table_laws.specs.Rules.{Owner, Holder, Formed, also}
use Rattle.table_laws.proofs.Rules.{holder-of}
use Rattle.table_laws.proofs.Owners.{spare-hold}

-- the hold put is there, and the others are as they were
pub hold-here : (t : Table) (n : ℕ) (h : Hold) → n < length t.holds → hold_at (with_hold t n h) n ≡ h
hold-here t n h l = get_or-set_same t.holds n h zero_hold l

pub hold-apart : (t : Table) (n : ℕ) (h : Hold) (j : ℕ) → (j ≡ n → ⊥) → hold_at (with_hold t n h) j ≡ hold_at t j
hold-apart t n h j d = get_or-set_other t.holds n j h zero_hold d

-- a table with another hold at n, and another next stamp
abbrev pub held_as : Table → ℕ → Hold → ℕ → Table
held_as t n h next = record { rows = t.rows; holds = set t.holds n h; next = next }

-- a holder that is not n is one still
pub holder-still : (t : Table) (n : ℕ) (h : Hold) (next j : ℕ) (o : Holder t j) → (o.hold ≡ n → ⊥) → Holder (held_as t n h next) j
holder-still t n h next j o d =
    let e = hold-apart t n h o.hold d in
    record { hold = o.hold; is-hold = o.is-hold; live = rw e o.live; names = rw e o.names }

module _ {own more : ℕ → Type 0} (t : Table) (w : Formed own t) (n : ℕ) (in32 : n < 32) (h : Hold) (next : ℕ) (grows : t.next ≤ next)
    (row : (h.stamp ≡ 0 → ⊥) → (h.row < 34) × ((row_at t h.row).id ≡ 0 → ⊥))
    (apart : (j : ℕ) → j < 32 → (j ≡ n → ⊥) → (h.stamp ≡ 0 → ⊥) → (hold_at t j).stamp ≡ h.stamp → ⊥)
    (below : (h.stamp ≡ 0 → ⊥) → h.stamp < next)
    (zero : h.stamp ≡ 0 → h ≡ zero_hold)
    (owner : (h.stamp ≡ 0 → ⊥) → Owner h.owner)
    (few : (w : ℕ) → Owner w → own_holds (held_as t n h next) w ≤ 8)
    (back : (j : ℕ) → j < 34 → own j ⊎ Holder t j → more j ⊎ Holder (held_as t n h next) j) where
  abbrev u : Table
  u = held_as t n h next

  is : (j : ℕ) → j ≡ n → hold_at u j ≡ h
  is j e = ap (hold_at u) e ∙ hold-here t n h (omega (arith, w.holds-32))

  -- each hold is the new one, or the one that was there
  split : (P : Hold → Type 0) (j : ℕ) → (j ≡ n → P h) → ((j ≡ n → ⊥) → P (hold_at t j)) → P (hold_at u j)
  split P j a b = ⊎_elim (λ e. rw (is j e) (a e)) (λ d. rw (hold-apart t n h j d) (b d)) (eq-cases j n)

  one-stamp : (i j : ℕ) → i < 32 → j < 32 → ((hold_at u i).stamp ≡ 0 → ⊥) → (hold_at u i).stamp ≡ (hold_at u j).stamp → i ≡ j
  one-stamp i j li lj =
      split (λ (x : Hold). (x.stamp ≡ 0 → ⊥) → x.stamp ≡ (hold_at u j).stamp → i ≡ j) i
      (λ ei. split (λ (y : Hold). (h.stamp ≡ 0 → ⊥) → h.stamp ≡ y.stamp → i ≡ j) j
      (λ ej v e. ei ∙ sym ej)
      (λ dj v e. absurd (apart j lj dj v (sym e))))
      (λ di. split (λ (y : Hold). ((hold_at t i).stamp ≡ 0 → ⊥) → (hold_at t i).stamp ≡ y.stamp → i ≡ j) j
      (λ ej v e. absurd (apart i li di (λ z. v (e ∙ z)) e))
      (λ dj v e. w.one-stamp i j li lj v e))

  -- any hold put that breaks none of the rules
  pub put-hold : Formed more (held_as t n h next)
  put-hold = record {
    rows-34 = w.rows-34;
    holds-32 = length-set t.holds n h ∙ w.holds-32;
    named = λ j l. split (λ (x : Hold). (x.stamp ≡ 0 → ⊥) → x.row < 34) j (λ e v. (row v).0) (λ d. w.named j l);
    in_use = λ j l. split (λ (x : Hold). (x.stamp ≡ 0 → ⊥) → (row_at t x.row).id ≡ 0 → ⊥) j (λ e v. (row v).1) (λ d. w.in_use j l);
    held = λ j l v. back j l (w.held j l v);
    one-row = w.one-row;
    free-row = w.free-row;
    free-hold = λ j l. split (λ (x : Hold). x.stamp ≡ 0 → x ≡ zero_hold) j (λ e. zero) (λ d. w.free-hold j l);
    one-stamp = one-stamp;
    stamp-below = λ j l. split (λ (x : Hold). (x.stamp ≡ 0 → ⊥) → x.stamp < next) j (λ e. below) (λ d v. omega (arith, w.stamp-below j l v, grows));
    next_one = omega (arith, w.next_one, grows);
    owned = λ j l. split (λ (x : Hold). (x.stamp ≡ 0 → ⊥) → Owner x.owner) j (λ e. owner) (λ d. w.owned j l);
    few = few;
  }

-- ---- a hold added

-- the hold that is added
abbrev pub new : Table → ℕ → ℕ → Hold
new t w row = record { row = row; stamp = t.next; owner = w }

-- what a hold that can be given is: the lowest free one, with the next stamp
pub record Gives (t : Table) (w row : ℕ) : Type 0 where
  pub at : ℕ
  pub is-hold : at < 32
  pub was_free : (hold_at t at).stamp ≡ 0
  pub lowest-free : free_hold t ≡ Some at
  pub can : can_hold t w ≡ true
  pub is : add_hold t w row ≡ add_at t w row (Some at)

-- an owner who can be given a hold has fewer than 8
room : (t : Table) (w : ℕ) → can_hold t w ≡ true → own_holds t w < 8
unfolding can_hold
room t w e = ltb-true _ _ (and_parts (ltb (own_holds t w) 8) (ltb t.next 18446744073709551615) e).0

-- the search for a free hold has found one
given : (t : Table) (w row i : ℕ) → can_hold t w ≡ true → free_hold t ≡ Some i → Gives t w row
unfolding add_hold hold_of
given t w row i e f =
    let s = search-at (is_hold t 0) 32 _ f in
    record { at = i; is-hold = s.0; was_free = eqb-true _ 0 s.1; lowest-free = f; can = e; is = rw (e, f) }

pub add-gives : {own : ℕ → Type 0} (t : Table) (w row : ℕ) → Formed own t → Owner w → can_hold t w ≡ true → Gives t w row
unfolding hold_of
add-gives t w row y o e =
    let k = spare-hold t y w o (room t w e) in
    given t w row _ e (search-finds (is_hold t 0) 32 k.at k.is-hold (eq-eqb _ 0 k.free))

-- rows have no say in it
pub can-row : (t : Table) (i : ℕ) (r : Row) (w : ℕ) → can_hold (with_row t i r) w ≡ can_hold t w
unfolding can_hold own_holds
can-row t i r w = refl

-- where none can be given, nothing changes
pub add-refuses : (t : Table) (w row : ℕ) → can_hold t w ≡ false → add_hold t w row ≡ add_at t w row None
unfolding add_hold
add-refuses t w row e = rw e

-- w's holds after one more of his at a free place, and anybody else's
module _ (t : Table) (n : ℕ) (in32 : n < 32) (long : length t.holds ≡ 32) (h : Hold) (next : ℕ) where
  -- of the holds of v, one at most has changed
  counted : (v : ℕ) → own_holds (held_as t n h next) v + bit (own_at t v n) ≡ own_holds t v + bit (not (eqb h.stamp 0) && eqb h.owner v)
  unfolding own_holds
  counted v =
      let c = count_to-change (own_at t v) (own_at (held_as t n h next) v) 32 n in32 (λ j d. ap (λ (x : Hold). not (eqb x.stamp 0) && eqb x.owner v) (sym (hold-apart t n h j d))) in
      let e : hold_at (held_as t n h next) n ≡ h = hold-here t n h (omega (arith, long)) in
      c ∙ ap (λ (x : Hold). count_to (own_at t v) 32 + bit (not (eqb x.stamp 0) && eqb x.owner v)) e

  -- a free hold put leaves nobody with more
  pub own-less : (v : ℕ) → h.stamp ≡ 0 → own_holds (held_as t n h next) v ≤ own_holds t v
  own-less v z =
      let e : bit (not (eqb h.stamp 0) && eqb h.owner v) ≡ 0 = ap (λ (b : Bool). bit (not b && eqb h.owner v)) (eq-eqb _ 0 z) in
      omega (arith, counted v, e)

  -- one put by somebody else leaves v as many as he had, where the place was free
  pub own-other : (v : ℕ) → (hold_at t n).stamp ≡ 0 → (h.owner ≡ v → ⊥) → own_holds (held_as t n h next) v ≡ own_holds t v
  own-other v z d =
      let e : bit (not (eqb h.stamp 0) && eqb h.owner v) ≡ 0 = ap (λ (b : Bool). bit (not (eqb h.stamp 0) && b)) (ne_eqb _ v d) ∙ ap bit (and-false (not (eqb h.stamp 0))) in
      let f : bit (own_at t v n) ≡ 0 = ap (λ (b : Bool). bit (not b && eqb (hold_at t n).owner v)) (eq-eqb _ 0 z) in
      omega (arith, counted v, e, f)

  -- anybody has one more at the most
  pub own-more : (v : ℕ) → own_holds (held_as t n h next) v ≤ own_holds t v + 1
  own-more v = omega (arith, counted v, bit_le (not (eqb h.stamp 0) && eqb h.owner v))

-- a hold on a row in use, which may have been the call's own
pub add_kept : {own : ℕ → Type 0} (t : Table) (v row : ℕ) → Formed (also own row) t → Owner v → can_hold t v ≡ true → row < 34 → ((row_at t row).id ≡ 0 → ⊥) → Formed own (add_hold t v row).table
add_kept {own} t v row w o can in34 used =
    let g = add-gives t v row w o can in
    rw g.is
    (put-hold {more = own} t w g.at g.is-hold (new t v row) (t.next + 1) (omega arith)
    (λ v. (in34, used))
    (λ j l d v e. omega (arith, w.stamp-below j l (λ z. v (sym e ∙ z)), e))
    (λ v. omega arith)
    (λ z. absurd (omega (arith, w.next_one, z)))
    (λ z. o)
    (few g)
    (λ j l. back g j))
  where
    few : (g : Gives t v row) (x : ℕ) → Owner x → own_holds (held_as t g.at (new t v row) (t.next + 1)) x ≤ 8
    few g x y =
        ⊎_elim
        (λ (e : x ≡ v). omega (arith, own-more t g.at g.is-hold w.holds-32 (new t v row) (t.next + 1) x, ap (own_holds t) e, room t v g.can))
        (λ d. omega (arith, own-other t g.at g.is-hold w.holds-32 (new t v row) (t.next + 1) x g.was_free (λ e. d (sym e)), w.few x y))
        (eq-cases x v)

    back : (g : Gives t v row) (j : ℕ) → also own row j ⊎ Holder t j → own j ⊎ Holder (held_as t g.at (new t v row) (t.next + 1)) j
    back g j o =
        let q : hold_at (held_as t g.at (new t v row) (t.next + 1)) g.at ≡ new t v row = hold-here t g.at (new t v row) (omega (arith, w.holds-32, g.is-hold)) in
        ⊎_elim
        (λ (a : also own row j). ⊎_elim
        (λ b. inl b)
        (λ (e : j ≡ row). inr (record { hold = g.at; is-hold = g.is-hold; live = rw q (λ z. omega (arith, w.next_one, z)); names = rw q (sym e) }))
        a)
        (λ k. inr (holder-still t g.at (new t v row) (t.next + 1) j k (λ e. k.live (ap (λ (m : ℕ). (hold_at t m).stamp) e ∙ g.was_free))))
        o

-- one case or the other: nothing changes, or the lowest free hold is taken
pub add-cases : (P : Table → Type 0) (t : Table) (w row : ℕ) → P t → ((g : Gives t w row) → P (held_as t g.at (new t w row) (t.next + 1))) → P (add_hold t w row).table
unfolding add_hold
add-cases P t w row a b =
    ⊎_elim
    (λ y. by-search y (free_hold t) refl)
    (λ n. rw (add-refuses t w row n) a)
    (bool_cases (can_hold t w))
  where
    by-search : can_hold t w ≡ true → (f : Option ℕ) → free_hold t ≡ f → P (add_hold t w row).table
    by-search y (Some i) e = let g = given t w row i y e in rw g.is (b g)
    by-search y None e = rw (y, e) a

-- ---- a hold closed

pub close-is : (t : Table) (n : ℕ) → n < 32 → close_hold t n ≡ closed_as (with_hold t n zero_hold) (hold_at t n).row
unfolding close_hold
close-is t n l = rw (lt-ltb n 32 l)

close-past : (t : Table) (n : ℕ) → 32 ≤ n → close_hold t n ≡ record { last = false; table = t }
unfolding close_hold
close-past t n l = rw (le-ltb n 32 l)

pub close-cases : (P : Table → Type 0) (t : Table) (n : ℕ) → P t → (n < 32 → P (with_hold t n zero_hold)) → P (close_hold t n).table
close-cases P t n a b = ⊎_elim (λ l. rw (close-is t n l) (b l)) (λ g. rw (close-past t n g) a) (lt-or-le n 32)

module _ {own : ℕ → Type 0} (t : Table) (w : Formed own t) (n : ℕ) (in32 : n < 32) where
  -- its row is the call's own from then on
  pub close-kept : Formed (also own (hold_at t n).row) (close_hold t n).table
  close-kept =
      rw (close-is t n in32)
      (put-hold t w n in32 zero_hold t.next (omega arith)
      (λ v. absurd (v refl))
      (λ j l d v e. v refl)
      (λ v. absurd (v refl))
      (λ z. refl)
      (λ v. absurd (v refl))
      (λ v o. omega (arith, own-less t n in32 w.holds-32 zero_hold t.next v refl, w.few v o))
      (λ j l o. ⊎_elim
      (λ a. inl (inl a))
      (λ k. ⊎_elim
      (λ (e : k.hold ≡ n). inl (inr (sym k.names ∙ ap (λ (m : ℕ). (hold_at t m).row) e)))
      (λ d. inr (holder-still t n zero_hold t.next j k d))
      (eq-cases k.hold n))
      o))

  -- where it was not the last on its row, another hold has the row
  pub close-others : (close_hold t n).last ≡ false → Holder (close_hold t n).table (hold_at t n).row
  close-others = rw (close-is t n in32) (λ e. holder-of (with_hold t n zero_hold) (hold_at t n).row (not-false _ e))

  -- where it was the last, no live hold names its row
  pub close-last : (close_hold t n).last ≡ true → (m : ℕ) → m < 32 → ((hold_at (close_hold t n).table m).stamp ≡ 0 → ⊥) → (hold_at (close_hold t n).table m).row ≡ (hold_at t n).row → ⊥
  unfolding row_used
  close-last =
      rw (close-is t n in32)
      (λ e m l v q. true-false (and_both (ap not (ne_eqb _ 0 v)) (eq-eqb _ _ q)) (test-no (names_row (with_hold t n zero_hold) (hold_at t n).row) 32 (not-true _ e) m l))
