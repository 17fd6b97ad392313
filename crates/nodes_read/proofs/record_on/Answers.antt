-- `nodes_read::record_on`: the tests of the definition, then the row that there is or the stored record.
use mathlib.Core.Path.{refl, ◌∙◌, sym}
use native.Mathlib.Omega.{arith}
use lib.ListN.{get_or}
use borrow.Author.Tests.{eqb-true}
use Rattle.base.specs.Out.{well, ill}
use Rattle.mem.specs.Mem.{table_in}
use Rattle.nodes.proofs.Ids.{row_below}
use Rattle.nodes_read.proofs.Records.{record-none, record-unused, record-used}
use Rattle.nodes_read.proofs.record_on.Goals as goal

pub returns-then-not-has_meta : goal.returns-then-not-has_meta
returns-then-not-has_meta c =
    ill {r = 19} (omega arith) (record-none c.args.arena.now c.args.mem.now c.args.id (sym c.has_meta.ensures ∙ c.if-not-has_meta.true))

pub is_used-requires : goal.is_used-requires
is_used-requires c =
    (c.requires.whole, eqb-true (get_or c.args.mem.now 4402 0) 1 (sym c.has_meta.ensures ∙ c.if-not-has_meta.false))

pub returns-then-not-is_used : goal.returns-then-not-is_used
returns-then-not-is_used c =
    let m = c.args.mem.now in
    ill {r = 19} (omega arith) (record-unused c.args.arena.now m c.args.id (eqb-true (get_or m 4402 0) 1 (sym c.has_meta.ensures ∙ c.if-not-has_meta.false)) (sym c.is_used.ensures ∙ c.if-not-is_used.true))

pub rec_at-requires : goal.rec_at-requires
rec_at-requires c =
    (c.requires.whole, row_below (table_in c.args.mem.now) c.args.id c.in-Some.i (sym c.find_row-f.ensures ∙ c.in-Some.is))

pub returns-in-Some : goal.returns-in-Some
returns-in-Some c =
    let m = c.args.mem.now in
    rw (record-used c.args.arena.now m c.args.id (eqb-true (get_or m 4402 0) 1 (sym c.has_meta.ensures ∙ c.if-not-has_meta.false)) (sym c.is_used.ensures ∙ c.if-not-is_used.false), sym c.find_row-f.ensures ∙ c.in-Some.is, c.rec_at.ensures) (well refl tt)

pub returns-in-None : goal.returns-in-None
returns-in-None c =
    let m = c.args.mem.now in
    rw (record-used c.args.arena.now m c.args.id (eqb-true (get_or m 4402 0) 1 (sym c.has_meta.ensures ∙ c.if-not-has_meta.false)) (sym c.is_used.ensures ∙ c.if-not-is_used.false), sym c.find_row-f.ensures ∙ c.in-None.is) c.record_of.ensures
