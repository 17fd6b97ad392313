-- The computed test is true exactly where document 01's rule holds.
use Prim.Native.Nat.{ℕ, suc, ◌-◌, ◌<◌, ◌≤◌}
use native.Mathlib.Omega.{arith}
use mathlib.Core.Path.{◌≡◌, refl, sym, ◌∙◌, ap, subst}
use mathlib.Core.Bool.{true, false, not}
use mathlib.Core.Logic.{inr, ⊎_elim, ◌↔◌}
use lib.ListN.{length}
use lib.Dec.{eqb, ltb, leb}
use borrow.Author.Tests.{eqb-true, eqb-false, ltb-true, leb-true, not-true, eq-eqb, ne_eqb, lt-ltb, le-leb}
use Rattle.base.proofs.Finds.{search-one, test-yes, test_at}
use Rattle.std.specs.Prelude.{Option, Some, None}
use Rattle.base.proofs.Bools.{true-false, and_parts, and_both, bool_cases}
use Rattle.base.proofs.Counts.{all_to-true, all_to-all}
use Rattle.table.specs.declared.Table.{Table}
use Rattle.table.specs.Zero.{zero_row, zero_hold, zero_record, record_zero}
use Rattle.table.specs.Table.{row_at, hold_at, is_row, is_hold, names_row, row_of, hold_of, row_used, is_owner, own_holds}
use Rattle.table.specs.Formed.{is_at, hold_ok, live_ok, row_ok, holds_ok, rows_ok, owners_ok, shaped, well_formed}
use Rattle.table_laws.specs.Rules.{Owner, Holder, Formed, WellFormed}
use Rattle.table_laws.proofs.Zeros.{record-zero, zero-passes}

at-is : (f : Option ℕ) (i : ℕ) → is_at f i ≡ true → f ≡ Some i
at-is (Some j) i e = ap Some (eqb-true j i e)
at-is None i e = absurd (true-false e refl)

-- an owner, as the test has it
pub owner_of : (w : ℕ) → is_owner w ≡ true → Owner w
owner_of w e = let a = and_parts (ltb 0 w) (ltb w 5) e in record { least = omega (arith, ltb-true 0 w a.0); most = omega (arith, ltb-true w 5 a.1) }

pub of_owner : (w : ℕ) → Owner w → is_owner w ≡ true
of_owner w o = and_both (lt-ltb 0 w (omega (arith, o.least))) (lt-ltb w 5 (omega (arith, o.most)))

-- what the test says of a live hold
record Named (t : Table) (i : ℕ) : Type 0 where
  row : (hold_at t i).row < 34
  used : (row_at t (hold_at t i).row).id ≡ 0 → ⊥
  below : (hold_at t i).stamp < t.next
  first : hold_of t (hold_at t i).stamp ≡ Some i
  owner : Owner (hold_at t i).owner

named-of : (t : Table) (i : ℕ) → hold_ok t i ≡ true → ((hold_at t i).stamp ≡ 0 → ⊥) → Named t i
unfolding hold_ok live_ok
named-of t i e live =
    let h = hold_at t i in
    let e0 = rw (ne_eqb h.stamp 0 live) at e in
    let e1 = and_parts (ltb h.row 34) _ e0 in
    let e2 = and_parts (not (eqb (row_at t h.row).id 0)) _ e1.1 in
    let e3 = and_parts (ltb h.stamp t.next) _ e2.1 in
    let e4 = and_parts (is_at (hold_of t h.stamp) i) (is_owner h.owner) e3.1 in
    record {
      row = ltb-true _ _ e1.0;
      used = eqb-false _ _ (not-true _ e2.0);
      below = ltb-true _ _ e3.0;
      first = at-is _ i e4.0;
      owner = owner_of _ e4.1;
    }

-- a live hold names the row, as the test has it
pub holder-of : (t : Table) (i : ℕ) → row_used t i ≡ true → Holder t i
unfolding row_used
holder-of t i e =
    let o = test_at (names_row t i) 32 e in
    let a = and_parts _ _ o.1 in
    record { hold = _; is-hold = o.0; live = eqb-false _ _ (not-true _ a.0); names = eqb-true _ _ a.1 }

pub of-holder : (t : Table) (i : ℕ) → Holder t i → row_used t i ≡ true
unfolding row_used
of-holder t i o = test-yes (names_row t i) 32 o.hold o.is-hold (and_both (ap not (ne_eqb _ _ o.live)) (eq-eqb _ _ o.names))

module _ (t : Table) (e : well_formed t ≡ true) where
  parts : (shaped t ≡ true) × (1 ≤ t.next) × (holds_ok t ≡ true) × (owners_ok t ≡ true) × (rows_ok t ≡ true)
  unfolding well_formed
  parts =
      let a = and_parts (shaped t) _ e in
      let b = and_parts (leb 1 t.next) _ a.1 in
      let c = and_parts (holds_ok t) _ b.1 in
      let d = and_parts (owners_ok t) (rows_ok t) c.1 in
      (a.0, leb-true _ _ b.0, c.0, d.0, d.1)

  hold : (i : ℕ) → i < 32 → hold_ok t i ≡ true
  unfolding holds_ok
  hold i h = all_to-true (hold_ok t) 32 parts.2 i h

  row : (i : ℕ) → i < 34 → row_ok t i ≡ true
  unfolding rows_ok
  row i h = all_to-true (row_ok t) 34 parts.4 i h

  named : (i : ℕ) → i < 32 → ((hold_at t i).stamp ≡ 0 → ⊥) → Named t i
  named i h n = named-of t i (hold i h) n

  used : (i : ℕ) → i < 34 → ((row_at t i).id ≡ 0 → ⊥) → (row_of t (row_at t i).id ≡ Some i) × (row_used t i ≡ true)
  unfolding row_ok
  used i h n =
      let e0 = rw (ne_eqb (row_at t i).id 0 n) at (row i h) in
      let e1 = and_parts (is_at (row_of t (row_at t i).id) i) (row_used t i) e0 in
      (at-is _ i e1.0, e1.1)

  free-row : (i : ℕ) → i < 34 → (row_at t i).id ≡ 0 → row_at t i ≡ zero_row
  unfolding row_ok
  free-row i h z =
      let e0 = rw (eq-eqb (row_at t i).id 0 z) at (row i h) in
      let a = and_parts (not (row_at t i).dirty) (record_zero (row_at t i).rec) e0 in
      let d : (row_at t i).dirty ≡ false = not-true _ a.0 in
      let r : (row_at t i).rec ≡ zero_record = record-zero (row_at t i).rec a.1 in
      λ x. record { id = z x; dirty = d x; rec = r x }

  free-hold : (i : ℕ) → i < 32 → (hold_at t i).stamp ≡ 0 → hold_at t i ≡ zero_hold
  unfolding hold_ok live_ok
  free-hold i h z =
      let e0 = rw (eq-eqb (hold_at t i).stamp 0 z) at (hold i h) in
      let a = and_parts (eqb (hold_at t i).row 0) (eqb (hold_at t i).owner 0) e0 in
      let r : (hold_at t i).row ≡ 0 = eqb-true _ _ a.0 in
      let o : (hold_at t i).owner ≡ 0 = eqb-true _ _ a.1 in
      λ x. record { row = r x; stamp = z x; owner = o x }

  one-row : (i j : ℕ) → i < 34 → j < 34 → ((row_at t i).id ≡ 0 → ⊥) → (row_at t i).id ≡ (row_at t j).id → i ≡ j
  one-row i j hi hj n same =
      let a : row_of t (row_at t i).id ≡ Some i = (used i hi n).0 in
      let b : row_of t (row_at t j).id ≡ Some j = (used j hj (λ z. n (same ∙ z))).0 in
      let c : Some i ≡ Some j = sym a ∙ ap (row_of t) same ∙ b in
      cc

  one-stamp : (i j : ℕ) → i < 32 → j < 32 → ((hold_at t i).stamp ≡ 0 → ⊥) → (hold_at t i).stamp ≡ (hold_at t j).stamp → i ≡ j
  one-stamp i j hi hj n same =
      let a = (named i hi n).first in
      let b = (named j hj (λ z. n (same ∙ z))).first in
      let c : Some i ≡ Some j = sym a ∙ ap (hold_of t) same ∙ b in
      cc

  few : (w : ℕ) → Owner w → own_holds t w ≤ 8
  unfolding owners_ok
  few w o =
      let e : suc (w - 1) ≡ w = omega (arith, o.least) in
      subst (λ (v : ℕ). own_holds t v ≤ 8) e (leb-true _ _ (all_to-true (λ k. leb (own_holds t (suc k)) 8) 4 parts.3 (w - 1) (omega (arith, o.least, o.most))))

  shape : (length t.rows ≡ 34) × (length t.holds ≡ 32)
  unfolding shaped
  shape =
      let a = and_parts (eqb (length t.rows) 34) (eqb (length t.holds) 32) parts.0 in
      (eqb-true _ _ a.0, eqb-true _ _ a.1)

  pub well-formed-means : WellFormed t
  well-formed-means = record {
    rows-34 = shape.0;
    holds-32 = shape.1;
    named = λ i h n. (named i h n).row;
    in_use = λ i h n. (named i h n).used;
    held = λ i h n. inr (holder-of t i (used i h n).1);
    one-row = one-row;
    free-row = free-row;
    free-hold = free-hold;
    one-stamp = one-stamp;
    stamp-below = λ i h n. (named i h n).below;
    next_one = parts.1;
    owned = λ i h n. (named i h n).owner;
    few = few;
  }

-- a used row is the one found by its id, and a live hold by its stamp
module _ {own : ℕ → Type 0} (t : Table) (w : Formed own t) where
  pub row_is : (i : ℕ) → i < 34 → ((row_at t i).id ≡ 0 → ⊥) → row_of t (row_at t i).id ≡ Some i
  unfolding row_of
  row_is i h n =
      search-one (is_row t (row_at t i).id) 34 i h (eq-eqb (row_at t i).id (row_at t i).id refl)
      (λ j l e. sym (w.one-row i j h l n (sym (eqb-true _ _ e))))

  pub hold-is : (i : ℕ) → i < 32 → ((hold_at t i).stamp ≡ 0 → ⊥) → hold_of t (hold_at t i).stamp ≡ Some i
  unfolding hold_of
  hold-is i h n =
      search-one (is_hold t (hold_at t i).stamp) 32 i h (eq-eqb (hold_at t i).stamp (hold_at t i).stamp refl)
      (λ j l e. sym (w.one-stamp i j h l n (sym (eqb-true _ _ e))))

module _ (t : Table) (w : WellFormed t) where
  hold-ok : (i : ℕ) → i < 32 → hold_ok t i ≡ true
  unfolding hold_ok live_ok
  hold-ok i h =
      let s = (hold_at t i).stamp in
      ⊎_elim
      (λ z. rw z (let f = w.free-hold i h (eqb-true s 0 z) in rw f))
      (λ z. let n = eqb-false s 0 z in
      rw z (and_both (lt-ltb _ _ (w.named i h n)) (and_both (ap not (ne_eqb _ _ (w.in_use i h n)))
      (and_both (lt-ltb _ _ (w.stamp-below i h n)) (and_both {a = is_at (hold_of t s) i} (rw (hold-is t w i h n) (eq-eqb i i refl)) (of_owner (hold_at t i).owner (w.owned i h n)))))))
      (bool_cases (eqb s 0))

  row-ok : (i : ℕ) → i < 34 → row_ok t i ≡ true
  unfolding row_ok
  row-ok i h =
      let s = (row_at t i).id in
      ⊎_elim
      (λ z. rw z (let f = w.free-row i h (eqb-true s 0 z) in rw f zero-passes))
      (λ z. let n = eqb-false s 0 z in
      rw z (and_both (ap (λ (f : Option ℕ). is_at f i) (row_is t w i h n) ∙ eq-eqb i i refl) (⊎_elim (λ b. absurd b) (λ o. of-holder t i o) (w.held i h n))))
      (bool_cases (eqb s 0))

  pub means-well-formed : well_formed t ≡ true
  unfolding well_formed holds_ok rows_ok owners_ok shaped
  means-well-formed =
      and_both (and_both (eq-eqb _ _ w.rows-34) (eq-eqb _ _ w.holds-32))
      (and_both (le-leb _ _ w.next_one)
      (and_both (all_to-all (hold_ok t) 32 hold-ok)
      (and_both (all_to-all (λ k. leb (own_holds t (suc k)) 8) 4 (λ k l. le-leb _ _ (w.few (suc k) (record { least = omega arith; most = omega (arith, l) }))))
      (all_to-all (row_ok t) 34 row-ok))))

-- The test and the rule say the same.
pub well-formed : (t : Table) → (well_formed t ≡ true) ↔ WellFormed t
well-formed t = (well-formed-means t, means-well-formed t)
