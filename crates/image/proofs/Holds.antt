-- Tables with the same rows have the same records; a table with one hold more.
use mathlib.Core.Path.{◌≡◌, refl, sym, ap, ◌∙◌, subst}
use mathlib.Core.Bool.{true, false, not}
use mathlib.Core.List.{List}
use mathlib.Core.Logic.{◌≢◌, ⊎_elim}
use Prim.Native.Nat.{ℕ, ◌+◌, ◌^◌, ◌<◌}
use native.Mathlib.Omega.{arith}
use lib.Dec.{ltb}
use lib.ListN.{get_or, set, length-set}
use lib.Seq.{get_or-set_same, get_or-set_other}
use borrow.Author.Tests.{ltb-true}
use Rattle.base.proofs.Bools.{and_parts}
use Rattle.base.proofs.Finds.{eq-cases}
use Rattle.std.specs.Prelude.{Option, Some, None}
use Rattle.structs.specs.Layout.{record_bytes}
use Rattle.table.specs.declared.Table.{Table}
use Rattle.table.specs.declared.Row.{Row}
use Rattle.table.specs.Zero.{zero_hold}
use Rattle.table.specs.Table.{off_row, row_at, row_of, own_holds, can_hold, add_hold}
use Rattle.table_bytes.specs.Fits.{HoldFits, TableFits}
use Rattle.table_laws.proofs.Finds.{row_same}
use Rattle.table_laws.proofs.Holds.{Gives, held_as, new, add-cases, add_kept}
use Rattle.sefs.specs.Nodes.{no_row}
use Rattle.rules.specs.Image.{is_node, stored_bytes, rec_by, rec_of, is_open}
use Rattle.image.proofs.Images.{like-same, alike_same, image-fair}
use Rattle.tree.specs.Tree.{Spelling}
use Rattle.image.specs.Midway.{Midway, Used}
use Rattle.table_laws.specs.Rules.{Owner, none, also}

-- ---- the table with one hold more

-- a table with the same rows has the same records
pub rows_at : (t u : Table) → u.rows ≡ t.rows → (i : ℕ) → row_at u i ≡ row_at t i
rows_at t u e i = ap (λ (l : List Row). get_or l i off_row) e

pub rows_of : (t u : Table) → u.rows ≡ t.rows → (id : ℕ) → row_of u id ≡ row_of t id
rows_of t u e id = row_same u t id (λ j l. ap (λ (x : Row). x.id) (rows_at t u e j))

pub rows-rec : (a : List ℕ) (t u : Table) → u.rows ≡ t.rows → (id : ℕ) → rec_of a u id ≡ rec_of a t id
unfolding rec_of
rows-rec a t u e id = ap (rec_by a u id) (rows_of t u e id) ∙ go (row_of t id)
  where
    go : (f : Option ℕ) → rec_by a u id f ≡ rec_by a t id f
    go (Some j) = ap (λ (x : Row). x.rec) (rows_at t u e j)
    go None = refl

pub rows-open : (t u : Table) → u.rows ≡ t.rows → (id : ℕ) → is_open u id ≡ is_open t id
unfolding is_open
rows-open t u e id = ap (λ (f : Option ℕ). not (no_row f)) (rows_of t u e id)

pub add-rows : (t : Table) (w row : ℕ) → (add_hold t w row).table.rows ≡ t.rows
add-rows t w row = add-cases (λ u. u.rows ≡ t.rows) t w row refl (λ g. refl)

pub can-next : (t : Table) (w : ℕ) → can_hold t w ≡ true → t.next + 1 < 2 ^ 64
unfolding can_hold
can-next t w e = let l : t.next < 18446744073709551615 = ltb-true t.next 18446744073709551615 (and_parts (ltb (own_holds t w) 8) (ltb t.next 18446744073709551615) e).1 in omega arith

pub fits-hold : (t : Table) (w row : ℕ) → TableFits t → Owner w → can_hold t w ≡ true → row < 34 → TableFits (add_hold t w row).table
fits-hold t w row T o can l = add-cases TableFits t w row T (λ g. put g)
  where
    put : (g : Gives t w row) → TableFits (held_as t g.at (new t w row) (t.next + 1))
    put g = record {
      rows-34 = T.rows-34;
      holds-32 = length-set t.holds g.at (new t w row) ∙ T.holds-32;
      rows = T.rows;
      holds = λ j m. ⊎_elim
          (λ (e : j ≡ g.at).
          subst HoldFits (sym (ap (λ (k : ℕ). get_or (set t.holds g.at (new t w row)) k zero_hold) e ∙ get_or-set_same t.holds g.at (new t w row) zero_hold (omega (arith, T.holds-32, g.is-hold))))
          (record { row = omega arith; stamp = T.next; owner = omega (arith, o.most) }))
          (λ n. subst HoldFits (sym (get_or-set_other t.holds g.at j (new t w row) zero_hold n)) (T.holds j m))
          (eq-cases j g.at);
      next = can-next t w can;
    }

-- a hold on the call's own row: then it is nobody's own
pub hold-mid : {style : Spelling} (a : List ℕ) (u : Table) (w c : ℕ) → Midway style (also none c) a u → Owner w → can_hold u w ≡ true → Used u c → Midway style none a (add_hold u w c).table
hold-mid a u w c M o can used =
    let e : (add_hold u w c).table.rows ≡ u.rows = add-rows u w c in
    record {
      fair = image-fair a a u (add_hold u w c).table M.fair (alike_same a) M.fair.rule1
          (λ j l. subst (λ (x : Row). x.id ≢ 0 → is_node a x.id ≡ true) (sym (rows_at u (add_hold u w c).table e j)) (M.fair.rule4.node j l))
          (λ j l. subst (λ (x : Row). x.id ≢ 0 → x.dirty ≡ false → record_bytes x.rec ≡ stored_bytes a x.id) (sym (rows_at u (add_hold u w c).table e j)) (M.fair.rule4.clean j l))
          (λ k n. like-same (rows-rec a u (add_hold u w c).table e k))
          (λ k n z o. rows-open u (add_hold u w c).table e k ∙ o);
      formed = add_kept u w c M.formed o can used.below used.node;
      bytes = M.bytes;
      fits = fits-hold u w c M.fits o can used.below;
    }
