-- `nodes_read::open_read`: the definition's two tests.
use mathlib.Core.Path.{◌∙◌, sym}
use native.Mathlib.Omega.{arith}
use borrow.Author.Tests.{le-leb, lt-leb}
use Rattle.base.specs.Out.{ill}
use Rattle.nodes_read.proofs.open_read.Goals as goal

pub returns-then-rec-gt4 : goal.returns-then-rec-gt4
returns-then-rec-gt4 c = ill {r = 19} (omega arith) (rw (lt-leb c.args.rec.kind 4 c.if-rec-gt4.true))

pub returns-then-not-has_file : goal.returns-then-not-has_file
returns-then-not-has_file c =
    ill {r = 19} (omega arith) (rw (le-leb c.args.rec.kind 4 c.if-rec-gt4.false, sym c.has_file.ensures ∙ c.if-not-has_file.true))

pub returns : goal.returns
returns c =
    rw (le-leb c.args.rec.kind 4 c.if-rec-gt4.false, sym c.has_file.ensures ∙ c.if-not-has_file.false) (c.open_in.ensures c.args.arena.now)
