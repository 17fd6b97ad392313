-- A node is opened for the call alone: it has a row, or takes a free one with its record as stored. Then the table is well formed but for that row.
use mathlib.Core.Path.{refl, ◌≡◌, sym, ap, ◌∙◌, subst}
use mathlib.Core.Bool.{true, false, not}
use mathlib.Core.List.{List}
use mathlib.Core.Logic.{◌≢◌, ◌⊎◌, inl, inr, ⊎_elim}
use Prim.Native.Nat.{ℕ, ◌*◌, ◌<◌}
use native.Mathlib.Omega.{arith}
use lib.Dec.{eqb}
use lib.ListN.{length}
use borrow.Author.Tests.{ne_eqb}
use Rattle.base.specs.Out.{Ok, went}
use Rattle.base.proofs.Finds.{eq-cases, search-cong}
use Rattle.base.proofs.Lists.{length-tab}
use Rattle.std.specs.Prelude.{Option, Some, None}
use Rattle.le.specs.Le.{Bytes}
use Rattle.structs.specs.Layout.{record_of, record_bytes}
use Rattle.structs.proofs.Layouts.{record_bytes-record_of, record_of-fits}
use Rattle.structs.specs.declared.DiskINode.{DiskINode}
use Rattle.table.specs.declared.Table.{Table}
use Rattle.table.specs.declared.Row.{Row}
use Rattle.table.specs.Table.{row_at, is_row, row_of, free_row, take_row, can_hold}
use Rattle.table_laws.specs.Rules.{Formed, also, none}
use Rattle.table_laws.proofs.Rules.{row_is}
use Rattle.table_laws.proofs.Holds.{can-row}
use Rattle.table_laws.proofs.Finds.{row-found, row-missing}
use Rattle.table_laws.proofs.Rows.{row_here, row_apart, take-kept, formed-more}
use Rattle.table_laws.proofs.Spare.{spare-row}
use Rattle.files.specs.Read.{byte_at}
use Rattle.sefs.specs.State.{with_table}
use Rattle.sefs.specs.Meta.{meta_file}
use Rattle.sefs.specs.Nodes.{Opened, opened, get_node, no_row}
use Rattle.sefs.specs.Ask.{start}
use Rattle.rules.specs.Image.{is_node, stored_bytes, rec_by, rec_of, is_open}
use Rattle.rules.proofs.Files.{node-below}
use Rattle.tree.specs.Tree.{Spelling}
use Rattle.image.specs.Midway.{Used, Look, plain, Amid}
use Rattle.image.proofs.Slots.{run-bytes}
use Rattle.image.proofs.Images.{like-same, alike_same, image-fair}
use Rattle.image.proofs.Records.{fits-row}
use Rattle.image.proofs.Nodes.{node-some, node-held, node-read}

pub record Gets (way : Look) (own : ℕ → Type 0) (a : List ℕ) (t : Table) (id : ℕ) (o : Opened) : Type 0 where
  pub table : Table
  pub row : ℕ
  pub is : o ≡ opened (with_table (start a t) table) row
  pub mid : Amid way (also own row) a table
  pub used : Used table row
  pub same : (row_at table row).id ≡ id
  pub recs : (k : ℕ) → is_node a k ≡ true → rec_of a table k ≡ rec_of a t k
  pub rows : (j : ℕ) → Used t j → row_at table j ≡ row_at t j
  -- the row was there, or is new and as stored
  pub how : (table ≡ t) ⊎ (((row_at table row).dirty ≡ false) × ((row_at t row).id ≡ 0))
  pub can : (w : ℕ) → can_hold table w ≡ can_hold t w

-- the first that a call opens
abbrev pub Got : Spelling → List ℕ → Table → ℕ → Opened → Type 0
Got style a t id o = Gets (plain style) none a t id o

module _ {way : Look} {own : ℕ → Type 0} (a : List ℕ) (t : Table) (M : Amid way own a t) (id : ℕ) (n : is_node a id ≡ true) (i : ℕ) (new : row_of t id ≡ None) (free : free_row t ≡ Some i) where
  abbrev rec : DiskINode
  rec = record_of (stored_bytes a id)

  abbrev row : Row
  row = record { id = id; dirty = false; rec = rec }

  abbrev u : Table
  u = take_row t i id rec false

  some : (k : ℕ) → is_node a k ≡ true → k ≢ 0
  some k m = node-some a t M.fair k m

  in34 : i < 34
  in34 = (row-found t 0 i free).0

  was_free : (row_at t i).id ≡ 0
  was_free = (row-found t 0 i free).1

  here : (j : ℕ) → j ≡ i → row_at u j ≡ row
  here j e = ap (row_at u) e ∙ row_here t i row (omega (arith, in34, M.formed.rows-34))

  else : (j : ℕ) → (j ≡ i → ⊥) → row_at u j ≡ row_at t j
  else j d = row_apart t i row j d

  split : (P : Row → Type 0) (j : ℕ) → (j ≡ i → P row) → ((j ≡ i → ⊥) → P (row_at t j)) → P (row_at u j)
  split P j f g = ⊎_elim (λ e. subst P (sym (here j e)) (f e)) (λ d. subst P (sym (else j d)) (g d)) (eq-cases j i)

  other_row : (k : ℕ) → k ≢ 0 → k ≢ id → row_of u k ≡ row_of t k
  unfolding row_of
  other_row k z d =
      search-cong (is_row u k) (is_row t k) 34
      (λ j l. split (λ (x : Row). eqb x.id k ≡ eqb (row_at t j).id k) j
      (λ e. ne_eqb id k (λ q. d (sym q)) ∙ sym (ne_eqb (row_at t j).id k (λ q. z (sym q ∙ ap (λ (m : ℕ). (row_at t m).id) e ∙ was_free))))
      (λ m. refl))

  u-formed : Formed (also own i) u
  u-formed = take-kept t M.formed i in34 id rec false was_free (some id n) (row-missing t id new)

  own_row : row_of u id ≡ Some i
  own_row =
      let e : (row_at u i).id ≡ id = ap (λ (x : Row). x.id) (here i refl) in
      subst (λ (k : ℕ). row_of u k ≡ Some i) e (row_is u u-formed i in34 (λ z. some id n (sym e ∙ z)))

  other-rec : (k : ℕ) → k ≢ 0 → k ≢ id → rec_of a u k ≡ rec_of a t k
  unfolding rec_of
  other-rec k z d = ap (rec_by a u k) (other_row k z d) ∙ go (row_of t k) refl
    where
      go : (f : Option ℕ) → row_of t k ≡ f → rec_by a u k f ≡ rec_by a t k f
      go (Some j) e = ap (λ (x : Row). x.rec) (else j (λ q. z (sym (row-found t k j e).1 ∙ ap (λ (m : ℕ). (row_at t m).id) q ∙ was_free)))
      go None e = refl

  own-rec : rec_of a u id ≡ rec_of a t id
  unfolding rec_of
  own-rec = ap (rec_by a u id) own_row ∙ ap (λ (x : Row). x.rec) (here i refl) ∙ sym (ap (rec_by a t id) new)

  rec-all : (k : ℕ) → is_node a k ≡ true → rec_of a u k ≡ rec_of a t k
  rec-all k m =
      ⊎_elim
      (λ (e : k ≡ id). subst (λ (j : ℕ). rec_of a u j ≡ rec_of a t j) (sym e) own-rec)
      (λ d. other-rec k (some k m) d)
      (eq-cases k id)

  open-all : (k : ℕ) → is_node a k ≡ true → is_open t k ≡ true → is_open u k ≡ true
  unfolding is_open
  open-all k m o =
      ⊎_elim
      (λ (e : k ≡ id). ap (λ (f : Option ℕ). not (no_row f)) (ap (row_of u) e ∙ own_row))
      (λ d. ap (λ (f : Option ℕ). not (no_row f)) (other_row k (some k m) d) ∙ o)
      (eq-cases k id)

  stored-long : length (stored_bytes a id) ≡ 112
  unfolding stored_bytes
  stored-long = length-tab (byte_at a meta_file) (128 * id) 112

  stored_bytes_lem : Bytes (stored_bytes a id)
  unfolding stored_bytes
  stored_bytes_lem = run-bytes a meta_file (128 * id) 112 M.bytes

  taken : Gets way own a t id (opened (with_table (start a t) (take_row t i id (record_of (stored_bytes a id)) false)) i)
  taken = record {
    table = u;
    row = i;
    is = refl;
    mid = record {
      fair = image-fair a a t u M.fair (alike_same a) M.fair.rule1
          (λ j l. split (λ (x : Row). x.id ≢ 0 → is_node a x.id ≡ true) j (λ e z. n) (λ d. M.fair.rule4.node j l))
          (λ j l. split (λ (x : Row). x.id ≢ 0 → x.dirty ≡ false → record_bytes x.rec ≡ stored_bytes a x.id) j
          (λ e z c. record_bytes-record_of (stored_bytes a id) stored_bytes_lem stored-long)
          (λ d. M.fair.rule4.clean j l))
          (λ k m. like-same (rec-all k m))
          (λ k m z. open-all k m);
      formed = u-formed;
      bytes = M.bytes;
      fits = fits-row t M.fits i row (record { id = omega (arith, node-below a id n, M.fair.rule3.few); rec = record_of-fits (stored_bytes a id) stored_bytes_lem stored-long });
    };
    used = record { below = in34; node = λ z. some id n (ap (λ (x : Row). x.id) (sym (here i refl)) ∙ z) };
    same = ap (λ (x : Row). x.id) (here i refl);
    recs = rec-all;
    rows = λ j w. else j (λ q. w.node (ap (λ (m : ℕ). (row_at t m).id) q ∙ was_free));
    how = inr (ap (λ (x : Row). x.dirty) (here i refl), was_free);
    can = can-row t i row;
  }

-- a node of the image can always be opened, also where the call has a row of its own
pub get-more : {way : Look} {own : ℕ → Type 0} {R : ℕ → Type 0} (a : List ℕ) (t : Table) → Amid way own a t → (k : ℕ) → ((j : ℕ) → own j → j ≡ k) → (id : ℕ) → is_node a id ≡ true → Ok (Gets way own a t id) R (get_node (start a t) id)
get-more {way = way} {own = own} {R = R} a t M k only id n = go (row_of t id) refl
  where
    go : (f : Option ℕ) → row_of t id ≡ f → Ok (Gets way own a t id) R (get_node (start a t) id)
    go (Some i) e =
        let s = row-found t id i e in
        rw (node-held a t M.fair id n i e)
        (went (record {
          table = t;
          row = i;
          is = refl;
          mid = record { fair = M.fair; formed = formed-more t (λ j o. inl o) M.formed; bytes = M.bytes; fits = M.fits };
          used = record { below = s.0; node = λ z. node-some a t M.fair id n (sym s.1 ∙ z) };
          same = s.1;
          recs = λ k m. refl;
          rows = λ j w. refl;
          how = inl refl;
          can = λ w. refl;
        }))
    go None e =
        let s = spare-row t k M.formed only in
        rw (node-read a t M.fair id n s.0 e s.1) (went (taken a t M id n s.0 e s.1))

pub get-law : {way : Look} {R : ℕ → Type 0} (a : List ℕ) (t : Table) → Amid way none a t → (id : ℕ) → is_node a id ≡ true → Ok (Gets way none a t id) R (get_node (start a t) id)
get-law a t M id n = get-more a t M 0 (λ j o. absurd o) id n
