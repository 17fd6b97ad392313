-- The records of a table's rows get other counts of slots and links, one row at a time. Types and files stay, and so do the rows' ids.
use mathlib.Core.Path.{◌≡◌, refl, sym, ap, ◌∙◌, subst}
use mathlib.Core.Bool.{true}
use mathlib.Core.List.{List}
use mathlib.Core.Logic.{◌≢◌, ⊎_elim}
use Prim.Native.Nat.{ℕ, ◌<◌}
use Rattle.base.proofs.Finds.{eq-cases}
use Rattle.structs.specs.Fits.{RecordFits}
use Rattle.structs.specs.declared.DiskINode.{DiskINode}
use Rattle.table.specs.declared.Table.{Table}
use Rattle.table.specs.Table.{row_at, take_row}
use Rattle.table_bytes.specs.Fits.{TableFits}
use Rattle.table_laws.specs.Rules.{Formed}
use Rattle.sefs.specs.Records.{with_links, with_blocks}
use Rattle.rules.specs.Image.{rec_of, is_open}
use Rattle.image.specs.Midway.{Used, Look, Amid}
use Rattle.image.proofs.Drops.{mid-rec}
use Rattle.image.proofs.Resets.{Cleans, reset-id, reset-open, reset-own, reset-other, reset-formed, reset-fits, reset-clean}
use Rattle.image.proofs.Records.{links-fit, blocks-fit}
use Rattle.tree.proofs.Trees.{at, at_here, at-else}

-- table u is t, but that node x has B x slots and L x links
pub record Counts (own : ℕ → Type 0) (a : List ℕ) (t : Table) (B L : ℕ → ℕ) (u : Table) : Type 0 where
  pub formed : Formed own u
  pub fits : TableFits u
  pub ids : (j : ℕ) → (row_at u j).id ≡ (row_at t j).id
  pub clean : Cleans a u
  pub opens : (x : ℕ) → is_open u x ≡ is_open t x
  pub kinds : (x : ℕ) → (rec_of a u x).kind ≡ (rec_of a t x).kind
  pub files : (x : ℕ) → (rec_of a u x).file ≡ (rec_of a t x).file
  pub sizes : (x : ℕ) → (rec_of a u x).size ≡ (rec_of a t x).size
  pub blocks : (x : ℕ) → (rec_of a u x).blocks ≡ B x
  pub links : (x : ℕ) → (rec_of a u x).nlinks ≡ L x

pub counts-none : {way : Look} {own : ℕ → Type 0} (a : List ℕ) (t : Table) → Amid way own a t → Counts own a t (λ x. (rec_of a t x).blocks) (λ x. (rec_of a t x).nlinks) t
counts-none a t M = record {
  formed = M.formed;
  fits = M.fits;
  ids = λ j. refl;
  clean = M.fair.rule4.clean;
  opens = λ x. refl;
  kinds = λ x. refl;
  files = λ x. refl;
  sizes = λ x. refl;
  blocks = λ x. refl;
  links = λ x. refl;
}

module _ {own : ℕ → Type 0} (a : List ℕ) (t : Table) (B L : ℕ → ℕ) (u : Table) (S : Counts own a t B L u) (i : ℕ) (used : Used t i) where
  pub counts-used : Used u i
  counts-used = record { below = used.below; node = λ z. used.node (sym (S.ids i) ∙ z) }

  -- the record of a row is its node's
  pub counts-rec : rec_of a u (row_at t i).id ≡ (row_at u i).rec
  counts-rec = ap (rec_of a u) (sym (S.ids i)) ∙ mid-rec a u S.formed i counts-used

  module _ (r : DiskINode) (F : RecordFits r) (kind : r.kind ≡ (row_at u i).rec.kind) (file : r.file ≡ (row_at u i).rec.file) (size : r.size ≡ (row_at u i).rec.size) (C D : ℕ → ℕ)
      (b_here : C (row_at t i).id ≡ r.blocks) (b-else : (x : ℕ) → x ≢ (row_at t i).id → C x ≡ B x)
      (l-here : D (row_at t i).id ≡ r.nlinks) (l-else : (x : ℕ) → x ≢ (row_at t i).id → D x ≡ L x) where
    abbrev w : Table
    w = take_row u i (row_at u i).id r true

    split : (Q : ℕ → DiskINode → Type 0) → Q (row_at t i).id r → ((x : ℕ) → x ≢ (row_at t i).id → Q x (rec_of a u x)) → (x : ℕ) → Q x (rec_of a w x)
    split Q h g x =
        ⊎_elim
        (λ (e : x ≡ (row_at t i).id). subst (λ (y : ℕ). Q y (rec_of a w y)) (sym e)
        (subst (Q (row_at t i).id) (sym (ap (rec_of a w) (sym (S.ids i)) ∙ reset-own u S.formed i counts-used r a)) h))
        (λ d. subst (Q x) (sym (reset-other u S.formed i counts-used r a x (λ z. d (z ∙ S.ids i)))) (g x d))
        (eq-cases x (row_at t i).id)

    counts-set : Counts own a t C D w
    counts-set = record {
      formed = reset-formed u S.formed i counts-used r;
      fits = reset-fits u S.formed i counts-used r S.fits F;
      ids = λ j. reset-id u S.formed i counts-used r j ∙ S.ids j;
      clean = reset-clean u S.formed i counts-used r a S.clean;
      opens = λ x. reset-open u S.formed i counts-used r x ∙ S.opens x;
      kinds = split (λ x y. y.kind ≡ (rec_of a t x).kind) (kind ∙ ap (λ (y : DiskINode). y.kind) (sym counts-rec) ∙ S.kinds (row_at t i).id) (λ x d. S.kinds x);
      files = split (λ x y. y.file ≡ (rec_of a t x).file) (file ∙ ap (λ (y : DiskINode). y.file) (sym counts-rec) ∙ S.files (row_at t i).id) (λ x d. S.files x);
      sizes = split (λ x y. y.size ≡ (rec_of a t x).size) (size ∙ ap (λ (y : DiskINode). y.size) (sym counts-rec) ∙ S.sizes (row_at t i).id) (λ x d. S.sizes x);
      blocks = split (λ x y. y.blocks ≡ C x) (sym b_here) (λ x d. S.blocks x ∙ sym (b-else x d));
      links = split (λ x y. y.nlinks ≡ D x) (sym l-here) (λ x d. S.links x ∙ sym (l-else x d));
    }

  -- the record's own
  pub counts-row : ((row_at u i).rec.blocks ≡ B (row_at t i).id) × ((row_at u i).rec.nlinks ≡ L (row_at t i).id)
  counts-row = (ap (λ (y : DiskINode). y.blocks) (sym counts-rec) ∙ S.blocks (row_at t i).id, ap (λ (y : DiskINode). y.nlinks) (sym counts-rec) ∙ S.links (row_at t i).id)

  pub counts-blocks : (n : ℕ) → n < 4294967296 → Counts own a t (at (row_at t i).id n B) L (take_row u i (row_at u i).id (with_blocks (row_at u i).rec n) true)
  counts-blocks n l =
      counts-set (with_blocks (row_at u i).rec n) (blocks-fit (row_at u i).rec n (S.fits.rows i used.below).rec l) refl refl refl (at (row_at t i).id n B) L
      (at_here (row_at t i).id n B) (at-else (row_at t i).id n B) (sym counts-row.1) (λ x d. refl)

  pub counts-links : (n : ℕ) → n < 65536 → Counts own a t B (at (row_at t i).id n L) (take_row u i (row_at u i).id (with_links (row_at u i).rec n) true)
  counts-links n l =
      counts-set (with_links (row_at u i).rec n) (links-fit (row_at u i).rec n (S.fits.rows i used.below).rec l) refl refl refl B (at (row_at t i).id n L)
      (sym counts-row.0) (λ x d. refl) (at_here (row_at t i).id n L) (at-else (row_at t i).id n L)
