-- `mem::put_table`: the table's bytes are laid over its place, and the flag says that nothing was read.
use mathlib.Core.Path.{◌≡◌}
use native.Mathlib.Omega.{arith}
use lib.ListN.{length}
use Rattle.table.specs.contracts.Row as row
use Rattle.table.specs.contracts.Hold as hold
use Rattle.table.specs.Table.{off_row, row_at, hold_at}
use Rattle.table.specs.Zero.{zero_hold}
use Rattle.table_bytes.specs.Fits.{TableFits}
use Rattle.mem.proofs.Mems.{table-start}
use Rattle.mem.proofs.Owned.{each_at, row_fits, hold-fits}
use borrow.Author.Rules.{rules}
use Rattle.mem.proofs.put_table.Goals as goal
use Rattle.mem.proofs.put_table.Goals.{Start}

rows-34 : (s : Start) → length s.args.t.rows ≡ 34
rows-34 s = s.well_formed.1.0.1.1.0.1.0.1

holds-32 : (s : Start) → length s.args.t.holds ≡ 32
holds-32 s = s.well_formed.1.0.1.1.1.0.1.0.1

-- a table by value is one that its fields' types hold
fits : (s : Start) → TableFits s.args.t
fits s = record {
  rows-34 = rows-34 s;
  holds-32 = holds-32 s;
  rows = λ i k. let p = each_at row.the_row s.args.t.rows _ off_row i (omega (arith, rows-34 s)) s.well_formed.1.0.1.1.0.1.1 in row_fits (row_at s.args.t i) p.0 p.1;
  holds = λ i k. let p = each_at hold.the_row s.args.t.holds _ zero_hold i (omega (arith, holds-32 s)) s.well_formed.1.0.1.1.1.0.1.1 in hold-fits (hold_at s.args.t i) p.0 p.1;
  next = search rules;
}

pub returns : goal.returns
returns c =
    let t = c.args.t in
    table-start c.args.mem.now _ _ t c.requires (fits (goal.at.returns c).Start) c.put_flag.ensures c.write_table.ensures
