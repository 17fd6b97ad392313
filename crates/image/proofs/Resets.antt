-- A row gets another record, dirty: its id's record is that one, and every other id's is as it was. And where the metadata file, the rows' ids,
-- the nodes' types and files and which files there are stay, an image with a tidy tree is fair.
use mathlib.Core.Path.{◌≡◌, refl, sym, ap, ◌∙◌, subst}
use mathlib.Core.Bool.{true, false, not, ◌&&◌}
use mathlib.Core.List.{List}
use mathlib.Core.Logic.{◌≢◌, ⊎_elim}
use Prim.Native.Nat.{ℕ, ◌+◌, ◌*◌, ◌%◌, ◌<◌}
use native.Mathlib.Omega.{arith}
use lib.Dec.{eqb, ltb}
use Rattle.base.proofs.Bools.{true-false}
use Rattle.base.proofs.Finds.{eq-cases}
use Rattle.std.specs.Prelude.{Option, Some, None}
use Rattle.structs.specs.Fits.{RecordFits}
use Rattle.structs.specs.Layout.{record_of, record_bytes}
use Rattle.structs.specs.declared.DiskINode.{DiskINode}
use Rattle.structs.specs.declared.SuperBlock.{SuperBlock}
use Rattle.maps.specs.Maps.{bit_at, set_bits}
use Rattle.arena.specs.Blocks.{blk}
use Rattle.arena.specs.Fields.{file}
use Rattle.table.specs.declared.Table.{Table}
use Rattle.table.specs.declared.Row.{Row}
use Rattle.table.specs.Table.{row_at, row_of, take_row}
use Rattle.table_bytes.specs.Fits.{TableFits}
use Rattle.table_laws.specs.Rules.{Formed}
use Rattle.table_laws.proofs.Rules.{row_is}
use Rattle.table_laws.proofs.Finds.{row-found, row_same}
use Rattle.table_laws.proofs.Rows.{row_here, row_apart, change-row}
use Rattle.files.specs.Read.{there}
use Rattle.files_laws.specs.Laws.{Kept}
use Rattle.sefs.specs.Meta.{meta_file}
use Rattle.sefs.specs.Nodes.{no_row}
use Rattle.rules.specs.Image.{stored_super, stored_maps, ids_in, is_node, stored_bytes, rec_by, rec_of, is_open}
use Rattle.rules.specs.Rules.{Rule1}
use Rattle.image.specs.Midway.{Used, tree_of, Look, look, style_of, Fairly}
use Rattle.image.proofs.Images.{root-node, head-there, there-head}
use Rattle.tree.specs.Tree.{Tidy}
use Rattle.image.proofs.Records.{fits-row}
use Rattle.image.proofs.Drops.{super-kept, maps-kept, stored-kept}
use Rattle.utf8.specs.Names.{name_of}
use Rattle.arena.specs.Fields as block

-- clean rows are as stored
abbrev pub Cleans : List ℕ → Table → Type 0
Cleans a t = (j : ℕ) → j < 34 → (row_at t j).id ≢ 0 → (row_at t j).dirty ≡ false → record_bytes (row_at t j).rec ≡ stored_bytes a (row_at t j).id

module _ {own : ℕ → Type 0} (t : Table) (O : Formed own t) (i : ℕ) (used : Used t i) (r : DiskINode) where
  abbrev row : Row
  row = record { id = (row_at t i).id; dirty = true; rec = r }

  abbrev u : Table
  u = take_row t i (row_at t i).id r true

  pub reset-here : row_at (take_row t i (row_at t i).id r true) i ≡ record { id = (row_at t i).id; dirty = true; rec = r }
  reset-here = row_here t i row (omega (arith, used.below, O.rows-34))

  pub reset-apart : (j : ℕ) → (j ≡ i → ⊥) → row_at (take_row t i (row_at t i).id r true) j ≡ row_at t j
  reset-apart j d = row_apart t i row j d

  split : (Q : Row → Type 0) (j : ℕ) → (j ≡ i → Q row) → ((j ≡ i → ⊥) → Q (row_at t j)) → Q (row_at u j)
  split Q j f g = ⊎_elim (λ (e : j ≡ i). subst Q (sym (ap (row_at u) e ∙ reset-here)) (f e)) (λ d. subst Q (sym (reset-apart j d)) (g d)) (eq-cases j i)

  pub reset-id : (j : ℕ) → (row_at (take_row t i (row_at t i).id r true) j).id ≡ (row_at t j).id
  reset-id j = split (λ (x : Row). x.id ≡ (row_at t j).id) j (λ e. ap (λ (k : ℕ). (row_at t k).id) (sym e)) (λ d. refl)

  pub reset-used : (j : ℕ) → Used t j → Used (take_row t i (row_at t i).id r true) j
  reset-used j z = record { below = z.below; node = λ e. z.node (sym (reset-id j) ∙ e) }

  same_row : (k : ℕ) → row_of u k ≡ row_of t k
  same_row k = row_same u t k (λ j l. reset-id j)

  pub reset-open : (k : ℕ) → is_open (take_row t i (row_at t i).id r true) k ≡ is_open t k
  unfolding is_open
  reset-open k = ap (λ (f : Option ℕ). not (no_row f)) (same_row k)

  pub reset-own : (a : List ℕ) → rec_of a (take_row t i (row_at t i).id r true) (row_at t i).id ≡ r
  unfolding rec_of
  reset-own a = ap (rec_by a u (row_at t i).id) (same_row (row_at t i).id ∙ row_is t O i used.below used.node) ∙ ap (λ (x : Row). x.rec) reset-here

  pub reset-other : (a : List ℕ) (k : ℕ) → k ≢ (row_at t i).id → rec_of a (take_row t i (row_at t i).id r true) k ≡ rec_of a t k
  unfolding rec_of
  reset-other a k d = ap (rec_by a u k) (same_row k) ∙ go (row_of t k) refl
    where
      go : (f : Option ℕ) → row_of t k ≡ f → rec_by a u k f ≡ rec_by a t k f
      go (Some j) e = ap (λ (x : Row). x.rec) (reset-apart j (λ q. d (sym (row-found t k j e).1 ∙ ap (λ (m : ℕ). (row_at t m).id) q)))
      go None e = refl

  pub reset-formed : Formed own (take_row t i (row_at t i).id r true)
  reset-formed = change-row t O i used.below row used.node refl

  pub reset-fits : TableFits t → RecordFits r → TableFits (take_row t i (row_at t i).id r true)
  reset-fits T F = fits-row t T i row (record { id = (T.rows i used.below).id; rec = F })

  pub reset-clean : (a : List ℕ) → Cleans a t → Cleans a (take_row t i (row_at t i).id r true)
  reset-clean a C j l = split (λ (x : Row). x.id ≢ 0 → x.dirty ≡ false → record_bytes x.rec ≡ stored_bytes a x.id) j (λ e z c. absurd (true-false refl c)) (λ d. C j l)

-- records in another arena with the same metadata file
pub recs-kept : (a b : List ℕ) (t : Table) → Kept a b meta_file → (k : ℕ) → rec_of b t k ≡ rec_of a t k
unfolding rec_of
recs-kept a b t K k = go (row_of t k)
  where
    go : (f : Option ℕ) → rec_by b t k f ≡ rec_by a t k f
    go (Some j) = refl
    go None = ap record_of (stored-kept a b K k)

pub nodes-kept : (a b : List ℕ) → Kept a b meta_file → (k : ℕ) → is_node b k ≡ is_node a k
unfolding is_node
nodes-kept a b K k = λ x. ltb k (1024 * (super-kept a b K x).groups) && (not (eqb k 0) && (not (eqb (k % 1024) 1) && not (bit_at (maps-kept a b K x) k)))

pub ids-kept : (a b : List ℕ) → Kept a b meta_file → ids_in b ≡ ids_in a
ids-kept a b K = ap (λ (s : SuperBlock). 1024 * s.groups) (super-kept a b K)

module _ {was-way : Look} (way : Look) (a b : List ℕ) (t u : Table) (A : Fairly was-way a t) (fine : Rule1 b) (K : Kept a b meta_file)
    (files : (f : List ℕ) → there b (file 1 f) ≡ there a (file 1 f))
    (ids : (j : ℕ) → (row_at u j).id ≡ (row_at t j).id)
    (clean : Cleans a u)
    (kinds : (k : ℕ) → is_node a k ≡ true → (rec_of b u k).kind ≡ (rec_of a t k).kind)
    (names : (k : ℕ) → is_node a k ≡ true → (rec_of b u k).file ≡ (rec_of a t k).file)
    (I : Tidy (style_of way) (look way (tree_of b u))) where
  super : stored_super b ≡ stored_super a
  super = super-kept a b K

  bits : (k : ℕ) → bit_at (stored_maps b) k ≡ bit_at (stored_maps a) k
  bits k = ap (λ (m : List ℕ). bit_at m k) (maps-kept a b K)

  was : (k : ℕ) → is_node b k ≡ true → is_node a k ≡ true
  was k n = sym (nodes-kept a b K k) ∙ n

  pub fair-by-tree : Fairly way b u
  fair-by-tree = record {
    rule1 = fine;
    rule3 = record {
      magic = ap (λ (x : SuperBlock). x.magic) super ∙ A.rule3.magic;
      some = omega (arith, ap (λ (x : SuperBlock). x.groups) super, A.rule3.some);
      few = omega (arith, ap (λ (x : SuperBlock). x.groups) super, A.rule3.few);
      length = K.long ∙ A.rule3.length ∙ ap (λ (x : SuperBlock). 131072 * x.groups) (sym super);
      blocks = ap (λ (x : SuperBlock). x.blocks) super ∙ A.rule3.blocks ∙ ap (λ (x : SuperBlock). 1024 * x.groups) (sym super);
      unused = ap (λ (x : SuperBlock). x.unused) super ∙ A.rule3.unused ∙ λ x. set_bits (sym (maps-kept a b K) x) (1024 * (sym super x).groups);
    };
    rule4 = record {
      zero = bits 0 ∙ A.rule4.zero;
      two = bits 2 ∙ A.rule4.two;
      maps = λ g l. bits (1024 * g + 1) ∙ A.rule4.maps g (omega (arith, ap (λ (x : SuperBlock). x.groups) super));
      node = λ i l n. nodes-kept a b K (row_at u i).id ∙ ap (is_node a) (ids i) ∙ A.rule4.node i l (λ z. n (ids i ∙ z));
      clean = λ i l n c. clean i l n c ∙ sym (stored-kept a b K (row_at u i).id);
    };
    rule5 = record {
      least = λ k n. omega (arith, kinds k (was k n), A.rule5.least k (was k n));
      most = λ k n. omega (arith, kinds k (was k n), A.rule5.most k (was k n));
      distinct = λ i j m n e. A.rule5.distinct i j (was i m) (was j n) (sym (names i (was i m)) ∙ e ∙ names j (was j n));
      own = λ k n. ap (λ (f : List ℕ). there b (file 1 f)) (names k (was k n)) ∙ files (rec_of a t k).file ∙ A.rule5.own k (was k n);
      other = λ k l g h.
          let H = there-head a (block.name_of (blk b k)) (sym (files (block.name_of (blk b k))) ∙ head-there b k l g h) in
          let o = A.rule5.other H.at H.inside H.tag H.which in
          (o.0, nodes-kept a b K o.0 ∙ o.1, names o.0 o.1 ∙ o.2 ∙ H.named);
      root = kinds 2 (root-node a t A) ∙ A.rule5.root;
    };
    tidy = I;
  }

-- a node with a row is open
pub row_open : {own : ℕ → Type 0} (t : Table) → Formed own t → (i : ℕ) → Used t i → is_open t (row_at t i).id ≡ true
unfolding is_open
row_open t O i u = ap (λ (f : Option ℕ). not (no_row f)) (row_is t O i u.below u.node)
