-- After sync the pair passes and no row is dirty.
use mathlib.Core.Path.{◌≡◌, refl, sym, ap, ◌∙◌, subst}
use mathlib.Core.Bool.{Bool, true, false, ◌&&◌, ◌||◌}
use mathlib.Core.Logic.{◌≢◌, ⊎_elim}
use Prim.Native.Nat.{ℕ, zero, suc, ◌+◌, ◌*◌, ◌≤◌, ◌<◌}
use native.Mathlib.Omega.{arith}
use lib.Dec.{eqb, ltb}
use lib.ListN.{length, length-set}
use borrow.Author.Tests.{lt-ltb, le-ltb, ne_eqb, eq-eqb}
use Rattle.base.specs.Count.{bit, count_to}
use Rattle.base.specs.Out.{Out, done, bind, kept}
use Rattle.base.specs.Search.{pick, found_below}
use Rattle.std.specs.Prelude.{Option, Some, None}
use Rattle.base.proofs.Bools.{bool_cases}
use Rattle.base.proofs.Counts.{count_to-change, count_to-le, sum_to-le}
use Rattle.base.proofs.Finds.{count_to-some, eq-cases}
use Rattle.base.proofs.Numbers.{lt-or-le}
use Rattle.base.proofs.Outs.{bind-is-done}
use Rattle.structs.specs.Layout.{record_bytes}
use Rattle.table.specs.declared.Row.{Row}
use Rattle.table.specs.declared.Table.{Table}
use Rattle.table.specs.Table.{row_at, with_row, next_row}
use Rattle.table.proofs.Next.{Nearest, Best, best_none, best-take, best-keep, best-next}
use Rattle.table.proofs.Next as next
use Rattle.table_laws.proofs.Rows.{row_here, row_apart}
use Rattle.files.specs.Store.{put_file}
use Rattle.sefs.specs.State.{Fs}
use Rattle.sefs.specs.Meta.{meta_file}
use Rattle.sefs.specs.Nodes.{id_at, rec_at, store_row, sync_row}
use Rattle.sefs.specs.Ask.{admit, start}
use Rattle.sefs.specs.Create.{After, after}
use Rattle.sefs.specs.Close.{with_next, sync_from, call_sync}
use Rattle.image.proofs.Handles.{formed}
use Rattle.sequences.specs.Pairs.{Pair, pair, Passed}
use Rattle.sequences.specs.Calls.{sync, does}
use Rattle.sequences.specs.Promises.{Keeps}
use Rattle.sequences.proofs.Passing.{allowed}
use Rattle.sequences.proofs.Sequences.{keeps}
use Rattle.cuts.specs.Premise.{NoneDirty, AfterSync}
use Rattle.cuts.proofs.Steps.{done-is, clean}

-- ---- the next row by rising id

abbrev id : Table → ℕ → ℕ
id t j = (row_at t j).id

module _ (t : Table) (low : ℕ) where
  record Found34 (n : ℕ) : Type 0 where
    place : ℕ
    least : ℕ
    best : Best (id t) low n place least

  seek : (n : ℕ) → n ≤ 34 → Found34 n
  seek zero l = record { place = 34; least = 0; best = best_none (id t) low 0 }
  seek (suc n) l =
      let F = seek n (omega arith) in
      subst Found34 (let e : n + 1 ≡ suc n = omega arith in e)
      (⊎_elim
      (λ e. record { place = n; least = id t n; best = best-take (id t) low n F.place F.least (omega arith) F.best e n (id t n) refl refl })
      (λ e. record { place = F.place; least = F.least; best = best-keep (id t) low n F.place F.least F.best e F.place F.least refl refl })
      (bool_cases (ltb low (id t n) && (eqb F.place 34 || ltb (id t n) F.least))))

-- ---- along sync

-- every row with an id up to `low` is clean, and no id has two rows
record Going (low : ℕ) (t : Table) : Type 0 where
  long : length t.rows ≡ 34
  one : (i j : ℕ) → i < 34 → j < 34 → id t i ≢ 0 → id t i ≡ id t j → i ≡ j
  clean : (j : ℕ) → j < 34 → id t j ≤ low → (row_at t j).dirty ≡ false

-- a row was stored, or was clean
record Stored (i : ℕ) (t u : Table) : Type 0 where
  long : length u.rows ≡ length t.rows
  ids : (j : ℕ) → id u j ≡ id t j
  others : (j : ℕ) → j ≢ i → row_at u j ≡ row_at t j
  clean : (row_at u i).dirty ≡ false

row-stored : (s d : Fs) (i : ℕ) → i < length s.table.rows → sync_row s i ≡ done d → Stored i s.table d.table
unfolding sync_row store_row
row-stored s d i l h = go (row_at t i).dirty refl h
  where
    t : Table
    t = s.table

    new : Row
    new = clean (id_at s i) (rec_at s i)

    go : (b : Bool) → (row_at t i).dirty ≡ b → pick b (store_row s i) (done s) ≡ done d → Stored i t d.table
    go true e q =
        let v = bind-is-done (put_file s.arena meta_file (128 * id_at s i) (record_bytes (rec_at s i))) _ d q in
        subst (λ (x : Fs). Stored i t x.table) (done-is v.2)
        (record {
          long = length-set t.rows i new;
          ids = λ j. ⊎_elim
              (λ (z : j ≡ i). ap (id (with_row t i new)) z ∙ ap (λ (r : Row). r.id) (row_here t i new l) ∙ ap (id t) (sym z))
              (λ (z : j ≢ i). ap (λ (r : Row). r.id) (row_apart t i new j z))
              (eq-cases j i);
          others = λ j z. row_apart t i new j z;
          clean = ap (λ (r : Row). r.dirty) (row_here t i new l);
        })
    go false e q =
        subst (λ (x : Fs). Stored i t x.table) (done-is q) (record { long = refl; ids = λ j. refl; others = λ j z. refl; clean = e })

-- how many rows have a higher id
abbrev above : ℕ → Table → ℕ
above low t = count_to (λ j. ltb low (id t j)) 34

-- the row with the next id is done: fewer are left
module _ (t u : Table) (low i least : ℕ) (F : Nearest (id t) low 34 i least) (S : Stored i t u) where
  goes : Going low t → Going least u
  goes G = record {
    long = S.long ∙ G.long;
    one = λ j k lj lk d e. G.one j k lj lk (λ z. d (S.ids j ∙ z)) (sym (S.ids j) ∙ e ∙ S.ids k);
    clean = λ j l m. ⊎_elim
        (λ (z : j ≡ i). ap (λ (k : ℕ). (row_at u k).dirty) z ∙ S.clean)
        (λ (z : j ≢ i). ap (λ (r : Row). r.dirty) (S.others j z) ∙ G.clean j l (⊎_elim
        (λ (a : low < id t j). absurd (z (G.one j i l F.in34 (λ q. absurd (omega arith)) (omega (arith, F.low j l a, F.is, S.ids j)))))
        (λ a. a)
        (lt-or-le low (id t j))))
        (eq-cases j i);
  }

  fewer : above least u < above low t
  unfolding count_to
  fewer =
      let c = count_to-change higher rest 34 i F.in34 (λ j d. sym (rest-else j d)) in
      omega (
        arith,
        c,
        ap bit (lt-ltb low (id t i) (omega (arith, F.above, F.is))),
        ap bit (rest-own),
        sum_to-le (λ j. bit (ltb least (id u j))) (λ j. bit (rest j)) 34 (λ j l. under j l),
      )
    where
      higher : ℕ → Bool
      higher j = ltb low (id t j)

      rest : ℕ → Bool
      rest j = pick (eqb j i) false (ltb low (id t j))

      rest-own : rest i ≡ false
      rest-own = ap (λ (b : Bool). pick b false (ltb low (id t i))) (eq-eqb i i refl)

      rest-else : (j : ℕ) → j ≢ i → rest j ≡ higher j
      rest-else j d = ap (λ (b : Bool). pick b false (ltb low (id t j))) (ne_eqb j i d)

      under : (j : ℕ) → j < 34 → bit (ltb least (id u j)) ≤ bit (rest j)
      under j l = ⊎_elim
          (λ (a : least < id u j).
          let d : j ≢ i = λ z. omega (arith, ap (id t) z, F.is, S.ids j) in
          omega (arith, ap bit (lt-ltb least (id u j) a), ap bit (rest-else j d ∙ lt-ltb low (id t j) (omega (arith, F.above, S.ids j)))))
          (λ (a : id u j ≤ least). omega (arith, ap bit (le-ltb least (id u j) a)))
          (lt-or-le least (id u j))

from-clean : (s d : Fs) (low n : ℕ) → Going low s.table → above low s.table ≤ n → sync_from s low n ≡ done d → NoneDirty d.table
unfolding sync_from found_below
from-clean s d low zero G l h =
    subst (λ (x : Fs). NoneDirty x.table) (done-is h) (λ j m. G.clean j m (⊎_elim
    (λ (a : low < id s.table j). absurd (omega (arith, count_to-some (λ k. ltb low (id s.table k)) 34 j m (lt-ltb low (id s.table j) a))))
    (λ a. a)
    (lt-or-le low (id s.table j))))
from-clean s d low (suc n) G l h =
    let F = seek s.table low 34 (omega arith) in
    go F.place F.least F.best (λ x k H m q. from-clean x d k n H m q)
  where
    t : Table
    t = s.table

    rest : ℕ → Out Fs
    rest i = bind (sync_row s i) (λ x. sync_from x (id_at s i) n)

    is-next : (place least : ℕ) (b : Bool) → ltb place 34 ≡ b → Best (id s.table) low 34 place least → pick b (Some place) None ≡ next_row s.table low
    is-next place least b e B = ap (λ (x : Bool). pick x (Some place) None) (sym e) ∙ best-next s.table low 34 place least (omega arith) (omega arith) B

    go : (place least : ℕ) → Best (id s.table) low 34 place least
        → ((x : Fs) (k : ℕ) → Going k x.table → above k x.table ≤ n → sync_from x k n ≡ done d → NoneDirty d.table) → NoneDirty d.table
    go place least (next.none N) again =
        let e : None ≡ next_row t low = is-next place least false (le-ltb place 34 (omega (arith, N.is))) (next.none N) in
        subst (λ (x : Fs). NoneDirty x.table) (done-is (ap (λ (f : Option ℕ). with_next f s rest) e ∙ h)) (λ j m. G.clean j m (N.all j m))
    go place least (next.some F) again =
        let e : Some place ≡ next_row t low = is-next place least true (lt-ltb place 34 F.in34) (next.some F) in
        let v = bind-is-done (sync_row s place) (λ x. sync_from x (id_at s place) n) d (ap (λ (f : Option ℕ). with_next f s rest) e ∙ h) in
        let S = row-stored s v.0 place (omega (arith, F.in34, G.long)) v.1 in
        again v.0 least (goes t v.0.table low place least F S G) (omega (arith, fewer t v.0.table low place least F S))
        (ap (λ (k : ℕ). sync_from v.0 k n) (sym F.is) ∙ v.2)

pub after-sync : AfterSync
unfolding AfterSync Keeps does call_sync
after-sync p q y h =
    let W = formed p.arena p.table (allowed p y) in
    let x = bind-is-done (call_sync p.arena p.table) (λ (r : After). done (pair r.arena r.table)) q h in
    let u = bind-is-done (admit p.arena p.table) _ x.0 x.1 in
    let v = bind-is-done (sync_from (start p.arena p.table) 0 34) (λ s. done (after s)) x.0 u.2 in
    let G : Going 0 p.table = record {
      long = W.rows-34;
      one = λ i j li lj d e. W.one-row i j li lj d e;
      clean = λ j l m. ap (λ (r : Row). r.dirty) (W.free-row j l (omega arith));
    } in (
      subst (λ (o : Out Pair). Passed (kept p o)) h (keeps p sync y tt).passes,
      subst (λ (r : Pair). NoneDirty r.table) (done-is x.2) (subst (λ (r : After). NoneDirty r.table) (done-is v.2)
          (from-clean (start p.arena p.table) v.0 0 34 G (count_to-le (λ j. ltb 0 (id p.table j)) 34) v.1)),
    )
