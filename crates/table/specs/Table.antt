-- The table of open nodes (document 01, "Open nodes"): what is found in it, and how it changes.
use Rattle.std.specs.Prelude.{ℕ, ◌+◌, Bool, false, not, ◌&&◌, [], get_or, set, replicate, ltb, eqb, Option, Some, None}
use Rattle.base.specs.Count.{all_to, count_to}
use Rattle.base.specs.Search.{lowest, pick, found_below}
use Rattle.structs.specs.declared.DiskINode.{DiskINode}
use Rattle.table.specs.Zero.{zero_time, zero_row, zero_hold}
use Rattle.table.specs.declared.Row.{Row}
use Rattle.table.specs.declared.Hold.{Hold}
use Rattle.table.specs.declared.Table.{Table}
use Rattle.table.specs.declared.Handle.{Handle}
use Rattle.table.specs.declared.Added.{Added}
use Rattle.table.specs.declared.Closed.{Closed}

-- "34 rows (id, cached record, dirty mark), 32 holds (row, stamp)"; "the next stamp, from 1"; order 5: "Every hold now carries an owner"
abbrev pub empty_table : Table
empty_table = record { rows = replicate 34 zero_row; holds = replicate 32 zero_hold; next = 1 }

-- what the code's reads have past the end of the rows: never met at an index below 34
abbrev pub off_row : Row
off_row = record {
  id = 0;
  dirty = false;
  rec = record {
    size = 0;
    kind = 0;
    mode = 0;
    nlinks = 0;
    blocks = 0;
    uid = 0;
    gid = 0;
    pad = 0;
    atime = zero_time;
    mtime = zero_time;
    ctime = zero_time;
    file = [];
    mac = [];
  };
}

abbrev pub row_at : Table → ℕ → Row
row_at t i = get_or t.rows i off_row

abbrev pub hold_at : Table → ℕ → Hold
hold_at t i = get_or t.holds i zero_hold

-- the table with another row, or another hold, at i; the same table where i is past the end
abbrev pub with_row : Table → ℕ → Row → Table
with_row t i r = record { rows = set t.rows i r; holds = t.holds; next = t.next }

abbrev pub with_hold : Table → ℕ → Hold → Table
with_hold t i h = record { rows = t.rows; holds = set t.holds i h; next = t.next }

-- ---- rows

-- the row at i has that id
abbrev pub is_row : Table → ℕ → ℕ → Bool
is_row t id i = eqb (row_at t i).id id

-- the lowest row with that id
unfoldable pub row_of : Table → ℕ → Option ℕ
row_of t id = found_below (lowest (is_row t id) 34) 34

-- "The lowest free row [is] taken"; "id 0 means free"
abbrev pub free_row : Table → Option ℕ
free_row t = row_of t 0

-- a node is opened: a row with its id, its record and the dirty mark
abbrev pub take_row : Table → ℕ → ℕ → DiskINode → Bool → Table
take_row t i id rec dirty = with_row t i (record { id = id; dirty = dirty; rec = rec })

-- another mark in a row
abbrev pub with_dirty : Table → ℕ → Bool → Table
with_dirty t i dirty = with_row t i (record { id = (row_at t i).id; dirty = dirty; rec = (row_at t i).rec })

-- "a freed one becomes all zero"
abbrev pub free_row_at : Table → ℕ → Table
free_row_at t i = with_row t i zero_row

-- m lies above lo and below hi
abbrev pub between : ℕ → ℕ → ℕ → Bool
between lo hi m = ltb lo m && ltb m hi

-- the row at i has an id above that one, and no row's id lies between
unfoldable pub is_next : Table → ℕ → ℕ → Bool
is_next t after i = ltb after (row_at t i).id && all_to (λ j. not (between after (row_at t i).id (row_at t j).id)) 34

-- the row that comes next by rising id: sync stores in that order, as 000's map of open nodes is ordered by id
unfoldable pub next_row : Table → ℕ → Option ℕ
next_row t after = found_below (lowest (is_next t after) 34) 34

-- ---- holds

-- the hold at i has that stamp
abbrev pub is_hold : Table → ℕ → ℕ → Bool
is_hold t stamp i = eqb (hold_at t i).stamp stamp

-- the lowest hold with that stamp
unfoldable pub hold_of : Table → ℕ → Option ℕ
hold_of t stamp = found_below (lowest (is_hold t stamp) 32) 32

-- "The lowest free [..] hold [is] taken"; "stamp 0 means free"
abbrev pub free_hold : Table → Option ℕ
free_hold t = hold_of t 0

-- "A handle is hold number and stamp": it is live where that hold has that stamp. A hold number of 32 or more, or stamp 0, is not.
abbrev pub is_live : Table → Handle → Bool
is_live t h = ltb h.hold 32 && (not (eqb h.stamp 0) && eqb (hold_at t h.hold).stamp h.stamp)

-- order 5: "a handle works only for its owner": it is live, and w's
abbrev pub is_own : Table → ℕ → Handle → Bool
is_own t w h = is_live t h && eqb (hold_at t h.hold).owner w

-- the row of a live handle of w's; none for a hold whose row is no row
unfoldable pub live_row : Table → ℕ → Handle → Option ℕ
live_row t w h = pick (is_own t w h) (found_below (hold_at t h.hold).row 34) None

-- "an owner from 1 to 4"
abbrev pub is_owner : ℕ → Bool
is_owner w = ltb 0 w && ltb w 5

-- the hold at i is live, and w's
abbrev pub own_at : Table → ℕ → ℕ → Bool
own_at t w i = not (eqb (hold_at t i).stamp 0) && eqb (hold_at t i).owner w

-- how many live holds w has
unfoldable pub own_holds : Table → ℕ → ℕ
own_holds t w = count_to (own_at t w) 32

-- "if any hold is live" (order 11): none is, whoever's
unfoldable pub no_holds : Table → Bool
no_holds t = all_to (λ i. eqb (hold_at t i).stamp 0) 32

-- w can be given a hold: "each owner may have 8". Reason 16 otherwise: "16 at 8 own holds", "or next stamp 2^64-1". (2^64-2 is still given out.)
unfoldable pub can_hold : Table → ℕ → Bool
can_hold t w = ltb (own_holds t w) 8 && ltb t.next 18446744073709551615

-- "Each successful root, find or create makes its own hold with the next stamp": a hold of w's on the row, at the place that was found
abbrev pub add_at : Table → ℕ → ℕ → Option ℕ → Added
add_at t w row (Some i) = record {
  handle = record { hold = i; stamp = t.next };
  table = record { rows = t.rows; holds = set t.holds i (record { row = row; stamp = t.next; owner = w }); next = t.next + 1 };
}
add_at t w row None = record { handle = record { hold = 0; stamp = 0 }; table = t }

-- the lowest free hold, where one can be given; else a handle that is never live, and the same table
unfoldable pub add_hold : Table → ℕ → ℕ → Added
add_hold t w row = add_at t w row (pick (can_hold t w) (free_hold t) None)

-- the hold at i is live and names the row
abbrev pub names_row : Table → ℕ → ℕ → Bool
names_row t row i = not (eqb (hold_at t i).stamp 0) && eqb (hold_at t i).row row

-- a live hold names the row
unfoldable pub row_used : Table → ℕ → Bool
row_used t row = ltb (lowest (names_row t row) 32) 32

-- the hold is all zero, and what was said of its row: no live hold names it any more
abbrev pub closed_as : Table → ℕ → Closed
closed_as t row = record { last = not (row_used t row); table = t }

-- a hold closed. Its row stays: "Closing a row's last hold stores a dirty record" comes first.
unfoldable pub close_hold : Table → ℕ → Closed
close_hold t n = pick (ltb n 32) (closed_as (with_hold t n zero_hold) (hold_at t n).row) (record { last = false; table = t })
