-- Order 7, said of the calls: "a path without links is a chain of finds".
use Rattle.std.specs.Prelude.{◌≡◌, true, false, List, [], ◌∷◌, ◌++◌, ◌≢◌, ℕ, Some}
use Rattle.base.specs.Out.{done, refused}
use Rattle.base.specs.Reasons.{bad_name, table_full}
use Rattle.table.specs.declared.Table.{Table}
use Rattle.table.specs.declared.Handle.{Handle}
use Rattle.table.specs.declared.Added.{Added}
use Rattle.table.specs.Table.{row_at, live_row}
use Rattle.sefs.specs.Ask.{start}
use Rattle.sefs.specs.Open.{call_find}
use Rattle.walk.specs.Walk.{from_root, good_text, parts_of, Spot, spot, is_link, walk_in}
use Rattle.sequences.specs.Pairs.{pair, Passed}

-- w's finds of one part after another, each by the handle that the find before has given: from handle h in table t to handle g in table u. No
-- handle that they give is on a link
pub data Finds (a : List ℕ) (w : ℕ) : Table → Handle → List (List ℕ) → Table → Handle → Type 0 where
  none : {t : Table} {h : Handle} → Finds a w t h [] t h
  next : {t u : Table} {h g : Handle} {x : Added} {p : List ℕ} {ps : List (List ℕ)} → call_find a t w h p ≡ done x
      → ((i : ℕ) → live_row x.table w x.handle ≡ Some i → is_link (row_at x.table i).rec ≡ false)
      → Finds a w x.table x.handle ps u g → Finds a w t h (p ∷ ps) u g

-- a row's node and record
abbrev pub row_spot : Table → ℕ → Spot
row_spot t i = spot (row_at t i).id (row_at t i).rec

-- from a passed pair: where finds lead from h to g, a walk from h in the table as it came leads to g's node, and sees its record
unfoldable pub WalkAsFinds : Type 0
WalkAsFinds = (a : List ℕ) (t u : Table) (w : ℕ) (h g : Handle) (i j : ℕ) (path : List ℕ) (room : ℕ) → Passed (pair a t) → live_row t w h ≡ Some i → live_row u w g ≡ Some j
    → good_text path ≡ true → from_root path ≡ false → Finds a w t h (parts_of path) u g
    → (walk_in (start a t) (row_spot t i) path room).end ≡ done (row_spot u j)

-- and where the next find is refused, the walk is refused with its reason. (But for 16, since each find takes a hold and the walk only one; and 5,
-- which the walk asks of the whole path)
unfoldable pub HaltsAsFind : Type 0
HaltsAsFind = (a : List ℕ) (t u : Table) (w : ℕ) (h g : Handle) (i : ℕ) (path : List ℕ) (room : ℕ) (ps : List (List ℕ)) (p : List ℕ) (qs : List (List ℕ)) (n : ℕ)
    → Passed (pair a t) → live_row t w h ≡ Some i → good_text path ≡ true → from_root path ≡ false → parts_of path ≡ ps ++ (p ∷ qs)
    → Finds a w t h ps u g → call_find a u w g p ≡ refused n → n ≢ bad_name → n ≢ table_full
    → (walk_in (start a t) (row_spot t i) path room).end ≡ refused n
