-- The table while a node is made: row c, free before, is the node's, row i is its folder's, and every other row is as it was. Then every other id
-- has the record that it had.
use mathlib.Core.Path.{◌≡◌, refl, sym, ap, ◌∙◌, subst}
use mathlib.Core.Bool.{true, false, not}
use mathlib.Core.List.{List}
use mathlib.Core.Logic.{◌≢◌, ⊎_elim}
use Prim.Native.Nat.{ℕ, ◌^◌, ◌<◌}
use native.Mathlib.Omega.{arith}
use lib.Dec.{eqb}
use borrow.Author.Tests.{ne_eqb}
use Rattle.base.proofs.Bools.{true-false}
use Rattle.base.proofs.Finds.{eq-cases, search-cong}
use Rattle.std.specs.Prelude.{Option, Some, None}
use Rattle.structs.specs.Fits.{RecordFits}
use Rattle.structs.specs.Layout.{record_of, record_bytes}
use Rattle.structs.specs.declared.DiskINode.{DiskINode}
use Rattle.table.specs.declared.Table.{Table}
use Rattle.table.specs.declared.Row.{Row}
use Rattle.table.specs.Table.{row_at, is_row, row_of, free_row, take_row, can_hold}
use Rattle.table_bytes.specs.Fits.{TableFits}
use Rattle.table_laws.specs.Rules.{Formed, also, none}
use Rattle.table_laws.proofs.Rules.{row_is}
use Rattle.table_laws.proofs.Finds.{row-found, row-missing}
use Rattle.table_laws.proofs.Rows.{row_here, row_apart, take-kept}
use Rattle.table_laws.proofs.Holds.{can-row}
use Rattle.sefs.specs.Nodes.{no_row}
use Rattle.rules.specs.Image.{stored_bytes, rec_by, rec_of, is_open}
use Rattle.tree.specs.Tree.{Spelling}
use Rattle.image.specs.Midway.{Used, Midway}
use Rattle.image.proofs.Images.{Like, like-same}
use Rattle.image.proofs.Records.{fits-row}
use Rattle.image.proofs.Drops.{mid-rec}
use Rattle.image.proofs.Resets.{Cleans, reset-here, reset-apart, reset-id, reset-formed, reset-fits, reset-clean}

-- r is the new node's record and s the folder's, in the fields that the rules speak of; clean rows are as stored in a
pub record Rowed (a : List ℕ) (t : Table) (c i id : ℕ) (r s : DiskINode) (u : Table) : Type 0 where
  pub formed : Formed (also none c) u
  pub fits : TableFits u
  pub can : (w : ℕ) → can_hold u w ≡ can_hold t w
  pub clean : Cleans a u
  pub child : (row_at u c).id ≡ id
  pub dirty : (row_at u c).dirty ≡ true
  pub own : (row_at u i).id ≡ (row_at t i).id
  pub others : (j : ℕ) → j ≢ c → j ≢ i → row_at u j ≡ row_at t j
  pub child-like : Like (row_at u c).rec r
  pub own_like : Like (row_at u i).rec s

module _ {style : Spelling} (a : List ℕ) (t : Table) (M : Midway style none a t) (c i id : ℕ) (free : free_row t ≡ Some c) (ui : Used t i) (some : id ≢ 0) where
  in34 : c < 34
  in34 = (row-found t 0 c free).0

  was_free : (row_at t c).id ≡ 0
  was_free = (row-found t 0 c free).1

  rows_apart : i ≡ c → ⊥
  rows_apart q = ui.node (ap (λ (j : ℕ). (row_at t j).id) q ∙ was_free)

  -- the row is taken
  module _ (new : row_of t id ≡ None) (r : DiskINode) (F : RecordFits r) (small : id < 2 ^ 32) where
    abbrev row : Row
    row = record { id = id; dirty = true; rec = r }

    abbrev u : Table
    u = take_row t c id r true

    here : row_at u c ≡ row
    here = row_here t c row (omega (arith, in34, M.formed.rows-34))

    pub rows_taken : Rowed a t c i id r (row_at t i).rec (take_row t c id r true)
    rows_taken = record {
      formed = take-kept t M.formed c in34 id r true was_free some (row-missing t id new);
      fits = fits-row t M.fits c row (record { id = small; rec = F });
      can = can-row t c row;
      clean = λ j l. ⊎_elim
          (λ (e : j ≡ c). subst (λ (x : Row). x.id ≢ 0 → x.dirty ≡ false → record_bytes x.rec ≡ stored_bytes a x.id) (sym (ap (row_at u) e ∙ here)) (λ z q. absurd (true-false refl q)))
          (λ d. subst (λ (x : Row). x.id ≢ 0 → x.dirty ≡ false → record_bytes x.rec ≡ stored_bytes a x.id) (sym (row_apart t c row j d)) (M.fair.rule4.clean j l))
          (eq-cases j c);
      child = ap (λ (x : Row). x.id) here;
      dirty = ap (λ (x : Row). x.dirty) here;
      own = ap (λ (x : Row). x.id) (row_apart t c row i rows_apart);
      others = λ j d e. row_apart t c row j d;
      child-like = like-same (ap (λ (x : Row). x.rec) here);
      own_like = like-same (ap (λ (x : Row). x.rec) (row_apart t c row i rows_apart));
    }

  module _ (r s : DiskINode) (u : Table) (R : Rowed a t c i id r s u) where
    pub used-child : Used u c
    used-child = record { below = in34; node = λ z. some (sym R.child ∙ z) }

    pub used-own : Used u i
    used-own = record { below = ui.below; node = λ z. ui.node (sym R.own ∙ z) }

    -- the node's record changes, or the folder's
    pub child-set : (x y : DiskINode) → RecordFits x → Like x y → Rowed a t c i id y s (take_row u c (row_at u c).id x true)
    child-set x y F L =
        let o : row_at (take_row u c (row_at u c).id x true) i ≡ row_at u i = reset-apart u R.formed c used-child x i rows_apart in
        record {
          formed = reset-formed u R.formed c used-child x;
          fits = reset-fits u R.formed c used-child x R.fits F;
          can = λ w. can-row u c _ w ∙ R.can w;
          clean = reset-clean u R.formed c used-child x a R.clean;
          child = reset-id u R.formed c used-child x c ∙ R.child;
          dirty = ap (λ (w : Row). w.dirty) (reset-here u R.formed c used-child x);
          own = reset-id u R.formed c used-child x i ∙ R.own;
          others = λ j d e. reset-apart u R.formed c used-child x j d ∙ R.others j d e;
          child-like = subst (λ (w : Row). Like w.rec y) (sym (reset-here u R.formed c used-child x)) L;
          own_like = subst (λ (w : Row). Like w.rec s) (sym o) R.own_like;
        }

    pub own-set : (x y : DiskINode) → RecordFits x → Like x y → Rowed a t c i id r y (take_row u i (row_at u i).id x true)
    own-set x y F L =
        let o : row_at (take_row u i (row_at u i).id x true) c ≡ row_at u c = reset-apart u R.formed i used-own x c (λ q. rows_apart (sym q)) in
        record {
          formed = reset-formed u R.formed i used-own x;
          fits = reset-fits u R.formed i used-own x R.fits F;
          can = λ w. can-row u i _ w ∙ R.can w;
          clean = reset-clean u R.formed i used-own x a R.clean;
          child = reset-id u R.formed i used-own x c ∙ R.child;
          dirty = ap (λ (w : Row). w.dirty) o ∙ R.dirty;
          own = reset-id u R.formed i used-own x i ∙ R.own;
          others = λ j d e. reset-apart u R.formed i used-own x j e ∙ R.others j d e;
          child-like = subst (λ (w : Row). Like w.rec r) (sym o) R.child-like;
          own_like = subst (λ (w : Row). Like w.rec y) (sym (reset-here u R.formed i used-own x)) L;
        }

    -- ---- records and rows by id

    pub child-rec : (b : List ℕ) → Like (rec_of b u id) r
    child-rec b = subst (λ (k : ℕ). Like (rec_of b u k) r) R.child (subst (λ (x : DiskINode). Like x r) (sym (mid-rec b u R.formed c used-child)) R.child-like)

    pub own-rec : (b : List ℕ) → Like (rec_of b u (row_at t i).id) s
    own-rec b = subst (λ (k : ℕ). Like (rec_of b u k) s) R.own (subst (λ (x : DiskINode). Like x s) (sym (mid-rec b u R.formed i used-own)) R.own_like)

    -- the other rows have the ids that they had
    pub ids-else : (j : ℕ) → j ≢ c → (row_at u j).id ≡ (row_at t j).id
    ids-else j d =
        ⊎_elim
        (λ (e : j ≡ i). subst (λ (k : ℕ). (row_at u k).id ≡ (row_at t k).id) (sym e) R.own)
        (λ e. ap (λ (x : Row). x.id) (R.others j d e))
        (eq-cases j i)

    -- another id has the row that it had
    row-else : (k : ℕ) → k ≢ 0 → k ≢ id → row_of u k ≡ row_of t k
    unfolding row_of
    row-else k z d =
        search-cong (is_row u k) (is_row t k) 34 (λ j l. ⊎_elim
        (λ (e : j ≡ c). subst (λ (x : ℕ). eqb (row_at u x).id k ≡ eqb (row_at t x).id k) (sym e)
        (ap (λ (n : ℕ). eqb n k) R.child ∙ ne_eqb id k (λ q. d (sym q)) ∙ sym (ap (λ (n : ℕ). eqb n k) was_free ∙ ne_eqb 0 k (λ q. z (sym q)))))
        (λ n. ap (λ (x : ℕ). eqb x k) (ids-else j n))
        (eq-cases j c))

    pub open-else : (k : ℕ) → k ≢ 0 → k ≢ id → is_open u k ≡ is_open t k
    unfolding is_open
    open-else k z d = ap (λ (f : Option ℕ). not (no_row f)) (row-else k z d)

    pub open-child : is_open u id ≡ true
    unfolding is_open
    open-child = ap (λ (f : Option ℕ). not (no_row f)) (ap (row_of u) (sym R.child) ∙ row_is u R.formed c in34 used-child.node)

    -- and the record that it had, where that is stored as it was
    pub rec-else : (b : List ℕ) (k : ℕ) → stored_bytes b k ≡ stored_bytes a k → k ≢ 0 → k ≢ id → k ≢ (row_at t i).id → rec_of b u k ≡ rec_of a t k
    unfolding rec_of
    rec-else b k same z d e = ap (rec_by b u k) (row-else k z d) ∙ go (row_of t k) refl
      where
        go : (f : Option ℕ) → row_of t k ≡ f → rec_by b u k f ≡ rec_by a t k f
        go (Some j) q =
            let y : (row_at t j).id ≡ k = (row-found t k j q).1 in
            ap (λ (x : Row). x.rec) (R.others j (λ p. z (sym y ∙ ap (λ (n : ℕ). (row_at t n).id) p ∙ was_free)) (λ p. e (sym y ∙ ap (λ (n : ℕ). (row_at t n).id) p)))
        go None q = ap record_of same
