-- `calls_list::list_on`: where it starts, and the slots that were written are counted. The sum fits: a folder's count of slots does, and the place goes no further.
use mathlib.Core.Path.{◌≡◌, ◌∙◌, ap}
use mathlib.Core.List.{List}
use Prim.Native.Nat.{ℕ, ◌<◌, ◌^◌}
use native.Mathlib.Omega.{arith}
use lib.ListN.{length}
use Rattle.base.specs.Out.{Out}
use Rattle.table.specs.contracts.Row as row
use Rattle.table.specs.Table.{off_row, row_at}
use Rattle.mem.proofs.Owned.{each_at, row_fits}
use Rattle.sefs.specs.Read.{call_listing}
use Rattle.calls.specs.Answers.{listed_of, laid}
use Rattle.verdicts.specs.Starts.{start_of}
use Rattle.calls_list.proofs.Places.{listing-left, listed-slots, slots-moved, refused-moved}
use Rattle.calls_list.proofs.list_on.Goals as goal
use Rattle.calls_list.proofs.list_on.Goals.{Start}

rows-34 : (s : Start) → length s.args.t.rows ≡ 34
rows-34 s = s.well_formed.1.0.1.1.0.1.0.1

-- a row's count of slots fits its type
blocks-fit : (s : Start) (i : ℕ) → i < 34 → (row_at s.args.t i).rec.blocks < 2 ^ 32
blocks-fit s i k =
    let p = each_at row.the_row s.args.t.rows _ off_row i (omega (arith, rows-34 s)) s.well_formed.1.0.1.1.0.1.1 in
    (row_fits (row_at s.args.t i) p.0 p.1).rec.blocks

-- what is listed from a slot on
abbrev told : Start → ℕ → Out (List ℕ)
told s from = call_listing s.args.arena.now s.args.t s.args.who s.args.h from (length s.args.out.now)

-- the listing from its start
abbrev found : Start → Out (List ℕ)
found s = told s (start_of s.args.dots s.args.next)

pub overflow_add-result : goal.overflow_add-result
overflow_add-result c =
    let from = c.start_of-from.result in
    let E = rw c.in-Ok.is at c.list_from.ensures in
    let m = listed-slots _ (told (goal.at.overflow_add-result c).Start from) E.0 in
    let f = listing-left c.args.arena.now c.args.t c.args.who c.args.h from (length c.args.out.now) m.0 m.1 in
    omega (arith, m.2, f.2, blocks-fit (goal.at.overflow_add-result c).Start f.0 f.1)

pub returns-in-Ok : goal.returns-in-Ok
returns-in-Ok c =
    let f = c.start_of-from.ensures in
    let E = rw c.in-Ok.is at c.list_from.ensures in
    let e = ap (told (goal.at.returns-in-Ok c).Start) f in
    (slots-moved c.args.dots c.args.next _ _ (found (goal.at.returns-in-Ok c).Start) f (E.0 ∙ ap listed_of e), (E.0 ∙ ap listed_of e, E.1 ∙ ap (laid c.args.out.now) e))

pub returns-in-Err : goal.returns-in-Err
returns-in-Err c =
    let E = rw c.in-Err.is at c.list_from.ensures in
    let e = ap (told (goal.at.returns-in-Err c).Start) c.start_of-from.ensures in
    (refused-moved c.args.dots c.args.next _ (found (goal.at.returns-in-Err c).Start) (E.0 ∙ ap listed_of e), (E.0 ∙ ap listed_of e, E.1 ∙ ap (laid c.args.out.now) e))
