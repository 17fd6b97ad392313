-- A row changed, taken or freed keeps the table formed.
use Prim.Native.Nat.{ℕ, ◌<◌, ◌≤◌}
use native.Mathlib.Omega.{arith}
use mathlib.Core.Path.{◌≡◌, refl, sym, ◌∙◌, ap}
use mathlib.Core.Bool.{Bool}
use mathlib.Core.Logic.{◌⊎◌, inl, inr, ⊎_elim}
use lib.ListN.{length, length-set}
use lib.Seq.{get_or-set_same, get_or-set_other}
use Rattle.base.proofs.Finds.{eq-cases}
use Rattle.structs.specs.declared.DiskINode.{DiskINode}
use Rattle.table.specs.declared.Table.{Table}
use Rattle.table.specs.declared.Row.{Row}
use Rattle.table.specs.Zero.{zero_row}
use Rattle.table.specs.Table.{off_row, row_at, hold_at, with_row, take_row, with_dirty, free_row_at, own_holds}
use Rattle.table_laws.specs.Rules.{Holder, Formed, also}

-- fewer rows need a hold where more are a call's own
pub formed-more : {own more : ℕ → Type 0} (t : Table) → ((i : ℕ) → own i → more i) → Formed own t → Formed more t
formed-more t f w = record {
  rows-34 = w.rows-34;
  holds-32 = w.holds-32;
  named = w.named;
  in_use = w.in_use;
  held = λ i l n. ⊎_elim (λ o. inl (f i o)) (λ h. inr h) (w.held i l n);
  one-row = w.one-row;
  free-row = w.free-row;
  free-hold = w.free-hold;
  one-stamp = w.one-stamp;
  stamp-below = w.stamp-below;
  next_one = w.next_one;
  owned = w.owned;
  few = w.few;
}

-- a call's own row that a hold names is an ordinary one
pub formed-held : {own : ℕ → Type 0} (t : Table) (i : ℕ) → Holder t i → Formed (also own i) t → Formed own t
formed-held {own} t i o w = record {
  rows-34 = w.rows-34;
  holds-32 = w.holds-32;
  named = w.named;
  in_use = w.in_use;
  held = λ j l n. ⊎_elim (λ a. ⊎_elim (λ b. inl b) (λ (e : j ≡ i). inr (rw e o)) a) (λ h. inr h) (w.held j l n);
  one-row = w.one-row;
  free-row = w.free-row;
  free-hold = w.free-hold;
  one-stamp = w.one-stamp;
  stamp-below = w.stamp-below;
  next_one = w.next_one;
  owned = w.owned;
  few = w.few;
}

-- the row put is there, and the others are as they were
pub row_here : (t : Table) (i : ℕ) (r : Row) → i < length t.rows → row_at (with_row t i r) i ≡ r
row_here t i r l = get_or-set_same t.rows i r off_row l

-- rows have no say in whose holds there are
own_row : (t : Table) (i : ℕ) (r : Row) (w : ℕ) → own_holds t w ≤ 8 → own_holds (with_row t i r) w ≤ 8
unfolding own_holds
own_row t i r w l = l

pub row_apart : (t : Table) (i : ℕ) (r : Row) (j : ℕ) → (j ≡ i → ⊥) → row_at (with_row t i r) j ≡ row_at t j
row_apart t i r j n = get_or-set_other t.rows i j r off_row n

module _ {own more : ℕ → Type 0} (t : Table) (w : Formed own t) (i : ℕ) (in34 : i < 34) (r : Row)
    (apart : (j : ℕ) → j < 34 → (j ≡ i → ⊥) → (r.id ≡ 0 → ⊥) → (row_at t j).id ≡ r.id → ⊥)
    (zero : r.id ≡ 0 → r ≡ zero_row)
    (used : (n : ℕ) → n < 32 → ((hold_at t n).stamp ≡ 0 → ⊥) → (hold_at t n).row ≡ i → r.id ≡ 0 → ⊥)
    (keep : (j : ℕ) → (j ≡ i → ⊥) → own j → more j)
    (here : (r.id ≡ 0 → ⊥) → more i ⊎ Holder t i) where
  abbrev u : Table
  u = with_row t i r

  is : (j : ℕ) → j ≡ i → row_at u j ≡ r
  is j e = ap (row_at u) e ∙ row_here t i r (omega (arith, w.rows-34))

  -- each row is the new one, or the one that was there
  split : (P : Row → Type 0) (j : ℕ) → (j ≡ i → P r) → ((j ≡ i → ⊥) → P (row_at t j)) → P (row_at u j)
  split P j a b = ⊎_elim (λ e. rw (is j e) (a e)) (λ n. rw (row_apart t i r j n) (b n)) (eq-cases j i)

  holder : (j : ℕ) → Holder t j → Holder u j
  holder j o = record { hold = o.hold; is-hold = o.is-hold; live = o.live; names = o.names }

  held : (j : ℕ) → j < 34 → ((row_at u j).id ≡ 0 → ⊥) → more j ⊎ Holder u j
  held j l =
      split (λ (x : Row). (x.id ≡ 0 → ⊥) → more j ⊎ Holder u j) j
      (λ e n. ⊎_elim (λ o. inl (rw e o)) (λ o. inr (rw e (holder i o))) (here n))
      (λ d n. ⊎_elim (λ o. inl (keep j d o)) (λ o. inr (holder j o)) (w.held j l n))

  one-row : (a b : ℕ) → a < 34 → b < 34 → ((row_at u a).id ≡ 0 → ⊥) → (row_at u a).id ≡ (row_at u b).id → a ≡ b
  one-row a b la lb =
      split (λ (x : Row). (x.id ≡ 0 → ⊥) → x.id ≡ (row_at u b).id → a ≡ b) a
      (λ ea. split (λ (y : Row). (r.id ≡ 0 → ⊥) → r.id ≡ y.id → a ≡ b) b
      (λ eb n e. ea ∙ sym eb)
      (λ db n e. absurd (apart b lb db n (sym e))))
      (λ da. split (λ (y : Row). ((row_at t a).id ≡ 0 → ⊥) → (row_at t a).id ≡ y.id → a ≡ b) b
      (λ eb n e. absurd (apart a la da (λ z. n (e ∙ z)) e))
      (λ db n e. w.one-row a b la lb n e))

  -- any row put that breaks none of the rules
  pub put-row : Formed more (with_row t i r)
  put-row = record {
    rows-34 = length-set t.rows i r ∙ w.rows-34;
    holds-32 = w.holds-32;
    named = w.named;
    in_use = λ n l v. split (λ (x : Row). x.id ≡ 0 → ⊥) (hold_at t n).row (λ e. used n l v e) (λ d. w.in_use n l v);
    held = held;
    one-row = one-row;
    free-row = λ j l. split (λ (x : Row). x.id ≡ 0 → x ≡ zero_row) j (λ e. zero) (λ d. w.free-row j l);
    free-hold = w.free-hold;
    one-stamp = w.one-stamp;
    stamp-below = w.stamp-below;
    next_one = w.next_one;
    owned = w.owned;
    few = λ v o. own_row t i r v (w.few v o);
  }

module _ {own : ℕ → Type 0} (t : Table) (w : Formed own t) (i : ℕ) (in34 : i < 34) where
  -- a row in use that keeps its id
  pub change-row : (r : Row) → ((row_at t i).id ≡ 0 → ⊥) → r.id ≡ (row_at t i).id → Formed own (with_row t i r)
  change-row r live same =
      put-row t w i in34 r
      (λ j l d n e. d (sym (w.one-row i j in34 l live (sym (e ∙ same)))))
      (λ z. absurd (live (sym same ∙ z)))
      (λ n l v e z. live (sym same ∙ z))
      (λ j d o. o)
      (λ n. w.held i in34 live)

  pub dirty-kept : (dirty : Bool) → ((row_at t i).id ≡ 0 → ⊥) → Formed own (with_dirty t i dirty)
  dirty-kept dirty live = change-row _ live refl

  -- a free row taken for a node that has none: it is the call's own, until it gets a hold
  pub take-kept : (id : ℕ) (rec : DiskINode) (dirty : Bool) → (row_at t i).id ≡ 0 → (id ≡ 0 → ⊥) → ((j : ℕ) → j < 34 → (row_at t j).id ≡ id → ⊥) → Formed (also own i) (take_row t i id rec dirty)
  take-kept id rec dirty free node new =
      put-row t w i in34 (record { id = id; dirty = dirty; rec = rec })
      (λ j l d n e. new j l e)
      (λ z. absurd (node z))
      (λ n l v e z. node z)
      (λ j d o. inl o)
      (λ n. inl (inr refl))

-- a row that no live hold names, freed
pub free-kept : {own : ℕ → Type 0} (t : Table) (i : ℕ) → Formed (also own i) t → i < 34 → ((n : ℕ) → n < 32 → ((hold_at t n).stamp ≡ 0 → ⊥) → (hold_at t n).row ≡ i → ⊥) → Formed own (free_row_at t i)
free-kept t i w in34 unnamed =
    put-row t w i in34 zero_row
    (λ j l d n e. n refl)
    (λ z. refl)
    (λ n l v e z. unnamed n l v e)
    (λ j d o. ⊎_elim (λ a. a) (λ e. absurd (d e)) o)
    (λ n. absurd (n refl))
