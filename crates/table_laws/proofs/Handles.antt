-- Handles: whose they are, and that another's hold never becomes theirs.
use Prim.Native.Nat.{ℕ, ◌+◌, ◌<◌}
use native.Mathlib.Omega.{arith}
use mathlib.Core.Path.{◌≡◌, refl, sym, ◌∙◌, ap}
use mathlib.Core.Bool.{true, not, ◌&&◌}
use mathlib.Core.Logic.{⊎_elim, ◌↔◌}
use lib.ListN.{length}
use lib.Seq.{set_out}
use lib.Dec.{eqb, ltb}
use borrow.Author.Tests.{eqb-true, eqb-false, ltb-true, not-true, lt-ltb, eq-eqb, ne_eqb}
use Rattle.base.proofs.Finds.{eq-cases}
use Rattle.base.specs.Search.{found_below}
use Rattle.std.specs.Prelude.{Some, None}
use Rattle.base.proofs.Bools.{and_parts, and_both, bool_cases}
use Rattle.base.proofs.Numbers.{lt-or-le}
use Rattle.base.proofs.Searches.{at-found, found_at}
use Rattle.table.specs.declared.Table.{Table}
use Rattle.table.specs.declared.Hold.{Hold}
use Rattle.table.specs.declared.Handle.{Handle}
use Rattle.table.specs.Zero.{zero_hold}
use Rattle.table.specs.Table.{row_at, hold_at, with_hold, is_live, is_own, live_row, can_hold, add_hold, close_hold}
use Rattle.table_laws.specs.Rules.{Owner, Formed, Live}
use Rattle.table_laws.proofs.Holds.{hold-here, hold-apart, held_as, new, add-gives, add-cases, close-is, close-cases}

-- ---- what the code's answer means

live-yes : (t : Table) (w : ℕ) (h : Handle) (r : ℕ) → is_own t w h ≡ true → found_below (hold_at t h.hold).row 34 ≡ Some r → Live t w h r
live-yes t w h r y e =
    let o = and_parts (is_live t h) (eqb (hold_at t h.hold).owner w) y in
    let a = and_parts (ltb h.hold 32) (not (eqb h.stamp 0) && eqb (hold_at t h.hold).stamp h.stamp) o.0 in
    let b = and_parts (not (eqb h.stamp 0)) (eqb (hold_at t h.hold).stamp h.stamp) a.1 in
    let f = at-found (hold_at t h.hold).row 34 r e in
    record {
      is-hold = ltb-true _ _ a.0;
      given = eqb-false _ _ (not-true _ b.0);
      stamp = eqb-true _ _ b.1;
      owner = eqb-true _ _ o.1;
      names = sym f.0;
      is_row = f.1;
    }

live_of : (t : Table) (w : ℕ) (h : Handle) (r : ℕ) → live_row t w h ≡ Some r → Live t w h r
unfolding live_row
live_of t w h r e =
    ⊎_elim
    (λ y. live-yes t w h r y (rw y at e))
    (λ n. let z : None ≡ Some r = rw n at e in absurd (let k : ◌≡◌ {A = ℕ} 0 1 = cc in omega arith))
    (bool_cases (is_own t w h))

of_live : (t : Table) (w : ℕ) (h : Handle) (r : ℕ) → Live t w h r → live_row t w h ≡ Some r
unfolding live_row
of_live t w h r v =
    let x : is_live t h ≡ true = and_both (lt-ltb _ _ v.is-hold) (and_both (ap not (ne_eqb _ _ v.given)) (eq-eqb _ _ v.stamp)) in
    let y : is_own t w h ≡ true = and_both x (eq-eqb _ _ v.owner) in
    rw y (ap (λ (m : ℕ). found_below m 34) v.names ∙ found_at r 34 v.is_row)

-- the code's answer is a row exactly where the handle is live on it, and w's
pub live-means : (t : Table) (w : ℕ) (h : Handle) (r : ℕ) → (live_row t w h ≡ Some r) ↔ Live t w h r
live-means t w h r = (live_of t w h r, of_live t w h r)

-- a hold that has not the handle's stamp: the handle is dead
abbrev pub Dead : Table → Handle → Type 0
Dead t h = (h.stamp ≡ 0 → ⊥) → (hold_at t h.hold).stamp ≡ h.stamp → ⊥

pub dead-nothing : (t : Table) (w : ℕ) (h : Handle) → Dead t h → live_row t w h ≡ None
unfolding live_row
dead-nothing t w h d =
    ⊎_elim
    (λ y.
    let o = and_parts (is_live t h) (eqb (hold_at t h.hold).owner w) y in
    let a = and_parts (ltb h.hold 32) (not (eqb h.stamp 0) && eqb (hold_at t h.hold).stamp h.stamp) o.0 in
    let b = and_parts (not (eqb h.stamp 0)) (eqb (hold_at t h.hold).stamp h.stamp) a.1 in
    absurd (d (eqb-false _ _ (not-true _ b.0)) (eqb-true _ _ b.1)))
    (λ n. rw n)
    (bool_cases (is_own t w h))

-- ---- two handles

-- live handles on one hold are one handle
pub handle-one : (t : Table) (v w : ℕ) (g h : Handle) (r s : ℕ) → Live t v g r → Live t w h s → g.hold ≡ h.hold → g ≡ h
handle-one t v w g h r s a b e =
    let q : g.stamp ≡ h.stamp = sym a.stamp ∙ ap (λ (n : ℕ). (hold_at t n).stamp) e ∙ b.stamp in
    λ x. record { hold = e x; stamp = q x }

-- a live handle's row is in use, and its stamp was given
pub live-used : {own : ℕ → Type 0} (t : Table) (o : ℕ) (h : Handle) (r : ℕ) → Formed own t → Live t o h r → (row_at t r).id ≡ 0 → ⊥
live-used t o h r w v z = w.in_use h.hold v.is-hold (λ q. v.given (sym v.stamp ∙ q)) (ap (λ (k : ℕ). (row_at t k).id) v.names ∙ z)

pub live_below : {own : ℕ → Type 0} (t : Table) (o : ℕ) (h : Handle) (r : ℕ) → Formed own t → Live t o h r → h.stamp < t.next
live_below t o h r w v = omega (arith, v.stamp, w.stamp-below h.hold v.is-hold (λ q. v.given (sym v.stamp ∙ q)))

-- ---- a hold added

-- one more hold takes none from anybody
pub add-keeps : (t : Table) (w row : ℕ) (o : ℕ) (h : Handle) (r : ℕ) → Live t o h r → Live (add_hold t w row).table o h r
add-keeps t w row o h r v =
    add-cases (λ u. Live u o h r) t w row v
    (λ g.
    let e = hold-apart t g.at (new t w row) h.hold (λ q. v.given (sym v.stamp ∙ ap (λ (m : ℕ). (hold_at t m).stamp) q ∙ g.was_free)) in
    record { is-hold = v.is-hold; given = v.given; stamp = rw e v.stamp; owner = rw e v.owner; names = rw e v.names; is_row = v.is_row })

-- the new handle is live, and its owner's, on its row
pub add-live : {own : ℕ → Type 0} (t : Table) (w row : ℕ) → Formed own t → Owner w → can_hold t w ≡ true → row < 34 → Live (add_hold t w row).table w (add_hold t w row).handle row
add-live t w row y o can l =
    let g = add-gives t w row y o can in
    let e = hold-here t g.at (new t w row) (omega (arith, y.holds-32, g.is-hold)) in
    rw g.is
    (record { is-hold = g.is-hold; given = λ z. omega (arith, y.next_one, z); stamp = rw e refl; owner = rw e refl; names = rw e refl; is_row = l })

-- the stamp at n, when another hold was put there: that hold's, or what it was
put-stamp : (P : ℕ → Type 0) (t : Table) (n : ℕ) (x : Hold) → P x.stamp → P (hold_at t n).stamp → P (hold_at (with_hold t n x) n).stamp
put-stamp P t n x a b = ⊎_elim (λ l. rw (hold-here t n x l) a) (λ g. rw (set_out t.holds n x g) b) (lt-or-le n (length t.holds))

-- a handle is dead still where no hold was put that has its stamp
put-dead : (t : Table) (n : ℕ) (x : Hold) (next : ℕ) (h : Handle) → ((h.stamp ≡ 0 → ⊥) → x.stamp ≡ h.stamp → ⊥) → Dead t h → Dead (held_as t n x next) h
put-dead t n x next h f d v =
    ⊎_elim
    (λ (q : h.hold ≡ n). rw q (put-stamp (λ (m : ℕ). m ≡ h.stamp → ⊥) t n x (f v) (rw q at (d v))))
    (λ a. rw (hold-apart t n x h.hold a) (d v))
    (eq-cases h.hold n)

-- a handle given before and dead is dead still
pub add-dead : (t : Table) (w row : ℕ) (h : Handle) → Dead t h → h.stamp < t.next → Dead (add_hold t w row).table h
add-dead t w row h d l = add-cases (λ u. Dead u h) t w row d (λ g. put-dead t g.at (new t w row) (t.next + 1) h (λ v e. omega arith) d)

-- ---- a hold closed

-- closing one hold leaves every other handle live, with its row
pub close-keeps : (t : Table) (n o : ℕ) (h : Handle) (r : ℕ) → (h.hold ≡ n → ⊥) → Live t o h r → Live (close_hold t n).table o h r
close-keeps t n o h r d v =
    close-cases (λ u. Live u o h r) t n v
    (λ l.
    let e = hold-apart t n zero_hold h.hold d in
    record { is-hold = v.is-hold; given = v.given; stamp = rw e v.stamp; owner = rw e v.owner; names = rw e v.names; is_row = v.is_row })

pub close-dead : (t : Table) (n : ℕ) (h : Handle) → Dead t h → Dead (close_hold t n).table h
close-dead t n h d = close-cases (λ u. Dead u h) t n d (λ l. put-dead t n zero_hold t.next h (λ v e. v (sym e)) d)

-- the handle whose hold was closed is dead
pub close-ends : {own : ℕ → Type 0} (t : Table) (h : Handle) → Formed own t → h.hold < 32 → Dead (close_hold t h.hold).table h
close-ends t h w l v =
    rw (close-is t h.hold l)
    (rw (hold-here t h.hold zero_hold (omega (arith, w.holds-32))) (λ e. v (sym e)))
