-- `nodes::open_in`: the lowest free row is taken.
use mathlib.Core.Path.{◌∙◌, sym}
use native.Mathlib.Omega.{arith}
use Rattle.base.specs.Out.{ill}
use Rattle.mem.specs.Mem.{table_in}
use Rattle.nodes.proofs.Nodes.{open_none}
use Rattle.nodes.proofs.Ids.{row_below, opened_in}
use Rattle.nodes.proofs.open_in.Goals as goal

pub put_row-requires : goal.put_row-requires
put_row-requires c = (c.requires, row_below (table_in c.args.mem.now) 0 c.in-Some.i (sym c.find_row-f.ensures ∙ c.in-Some.is))

pub returns-in-Some : goal.returns-in-Some
returns-in-Some c =
    opened_in c.args.mem.now c.put_row.new.mem c.in-Some.i c.args.id c.args.rec c.args.dirty (sym c.find_row-f.ensures ∙ c.in-Some.is) c.put_row.ensures

pub returns-in-None : goal.returns-in-None
returns-in-None c =
    λ a. ill {r = 19} (omega arith) (open_none c.args.mem.now c.args.id c.args.rec c.args.dirty (sym c.find_row-f.ensures ∙ c.in-None.is) a)
