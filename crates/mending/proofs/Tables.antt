-- A table without holds is the empty one, whatever its next stamp: no node is open, each record is the stored one, and the rules hold with it where
-- they hold with another such table.
use mathlib.Core.Path.{◌≡◌, refl, sym, ap, ◌∙◌}
use mathlib.Core.Bool.{true, false, not}
use mathlib.Core.List.{List}
use mathlib.Core.Logic.{◌≢◌, ⊎_elim}
use Prim.Native.Nat.{ℕ, ◌<◌}
use lib.Dec.{eqb}
use lib.ListN.{get_or-replicate}
use borrow.Author.Tests.{eqb-true, ne_eqb}
use Rattle.base.specs.Count.{all_to}
use Rattle.base.specs.Search.{lowest}
use Rattle.std.specs.Prelude.{Option, Some, None}
use Rattle.base.proofs.Bools.{true-false}
use Rattle.base.proofs.Counts.{all_to-true}
use Rattle.base.proofs.Finds.{eq-cases, search-cong, search-none}
use Rattle.base.proofs.Searches.{at-found}
use Rattle.structs.specs.Layout.{record_of}
use Rattle.table.specs.declared.Row.{Row}
use Rattle.table.specs.declared.Table.{Table}
use Rattle.table.specs.Zero.{zero_row}
use Rattle.table.specs.Table.{empty_table, off_row, row_at, hold_at, is_row, row_of, no_holds}
use Rattle.table.specs.Formed.{well_formed}
use Rattle.table_laws.specs.Rules.{Holder, WellFormed}
use Rattle.table_laws.proofs.Rules.{well-formed}
use Rattle.table_laws.proofs.Keeps.{empty-formed}
use Rattle.sefs.specs.Nodes.{no_row}
use Rattle.rules.specs.Image.{stored_bytes, rec_by, rec_of, is_open}
use Rattle.rules.specs.Rules.{Allowed}
use Rattle.tree.specs.Tree.{any}
use Rattle.image.proofs.Images.{like-same, fair, table-allowed}
use Rattle.image.proofs.Nodes.{node-some}

pub empty_holds : no_holds empty_table ≡ true
unfolding no_holds all_to
empty_holds = refl

empty-row : (i : ℕ) → i < 34 → row_at empty_table i ≡ zero_row
empty-row i l = get_or-replicate 34 i zero_row off_row l

module _ (t : Table) (w : well_formed t ≡ true) (none : no_holds t ≡ true) where
  dead : (i : ℕ) → i < 32 → (hold_at t i).stamp ≡ 0
  unfolding no_holds
  dead i l = eqb-true _ 0 (all_to-true (λ j. eqb (hold_at t j).stamp 0) 32 none i l)

  -- a row that is in use would have a holder
  pub row-free : (i : ℕ) → i < 34 → row_at t i ≡ zero_row
  row-free i l =
      let F : WellFormed t = (well-formed t).0 w in
      F.free-row i l
      (⊎_elim (λ e. e) (λ u. ⊎_elim (λ x. absurd x) (λ (h : Holder t i). absurd (h.live (dead h.hold h.is-hold))) (F.held i l u)) (eq-cases (row_at t i).id 0))

  pub no-id : (i : ℕ) → i < 34 → (row_at t i).id ≡ 0
  no-id i l = ap (λ (r : Row). r.id) (row-free i l)

  row_same : (i : ℕ) → i < 34 → row_at t i ≡ row_at empty_table i
  row_same i l = row-free i l ∙ sym (empty-row i l)

  rows_same : (id : ℕ) → row_of t id ≡ row_of empty_table id
  unfolding row_of
  rows_same id = search-cong (is_row t id) (is_row empty_table id) 34 (λ i l. ap (λ (r : Row). eqb r.id id) (row_same i l))

  pub recs-same : (a : List ℕ) (id : ℕ) → rec_of a t id ≡ rec_of a empty_table id
  unfolding rec_of row_of
  recs-same a id = ap (rec_by a t id) (rows_same id) ∙ go (row_of empty_table id) refl
    where
      go : (f : Option ℕ) → row_of empty_table id ≡ f → rec_by a t id f ≡ rec_by a empty_table id f
      go (Some i) e = ap (λ (r : Row). r.rec) (row_same i (at-found (lowest (is_row empty_table id) 34) 34 i e).1)
      go None e = refl

  pub no-row : (id : ℕ) → id ≢ 0 → row_of t id ≡ None
  unfolding row_of
  no-row id z = sym (search-none (is_row t id) 34 (λ i l. ap (λ (r : Row). eqb r.id id) (row-free i l) ∙ ne_eqb 0 id (λ e. z (sym e))))

  pub not-open : (id : ℕ) → id ≢ 0 → is_open t id ≡ false
  unfolding is_open
  not-open id z = ap (λ (f : Option ℕ). not (no_row f)) (no-row id z)

pub empty-id : (i : ℕ) → i < 34 → (row_at empty_table i).id ≡ 0
empty-id i l = no-id empty_table empty-formed empty_holds i l

-- the record of a node is the stored one
pub rec-stored : (a : List ℕ) (id : ℕ) → id ≢ 0 → rec_of a empty_table id ≡ record_of (stored_bytes a id)
unfolding rec_of
rec-stored a id z = ap (rec_by a empty_table id) (no-row empty_table empty-formed empty_holds id z)

pub bare-allowed : (a : List ℕ) (t u : Table) → Allowed a t → no_holds t ≡ true → well_formed u ≡ true → no_holds u ≡ true → Allowed a u
bare-allowed a t u A none w bare =
    let formed = A.rule2.formed in
    (table-allowed a t u A w (λ i l z. absurd (z (no-id u w bare i l))) (λ i l z. absurd (z (no-id u w bare i l)))
    (λ id n. like-same (recs-same u w bare a id ∙ sym (recs-same t formed none a id)))
    (λ id n z o. absurd (true-false o (not-open t formed none id (node-some a t (fair a t A) id n))))
    any (λ i k f x y. tt)).0
