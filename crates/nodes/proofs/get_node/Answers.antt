-- `nodes::get_node`: the tests of the definition, then the row that there is or the stored record.
use mathlib.Core.Path.{refl, ◌∙◌, sym}
use native.Mathlib.Omega.{arith}
use lib.ListN.{get_or}
use borrow.Author.Tests.{eqb-true}
use Rattle.base.specs.Out.{well, ill}
use Rattle.overlay.specs.View.{view}
use Rattle.mem.specs.Mem.{table_in}
use Rattle.mem.specs.State.{fs_of}
use Rattle.nodes.proofs.Ids.{row_below, get_none, get-unused, get-used}
use Rattle.nodes.proofs.get_node.Goals as goal

pub returns-then-not-has_meta : goal.returns-then-not-has_meta
unfolding fs_of
returns-then-not-has_meta c = ill {r = 19} (omega arith) (get_none (view c.args.arena.now c.args.work.now) c.args.mem.now c.args.id (sym c.has_meta.ensures ∙ c.if-not-has_meta.true))

pub is_used-requires : goal.is_used-requires
is_used-requires c =
    let m = c.args.mem.now in
    (c.requires.whole, eqb-true (get_or m 4402 0) 1 (sym c.has_meta.ensures ∙ c.if-not-has_meta.false))

pub returns-then-not-is_used : goal.returns-then-not-is_used
unfolding fs_of
returns-then-not-is_used c =
    let m = c.args.mem.now in
    ill {r = 19} (omega arith) (get-unused (view c.args.arena.now c.args.work.now) m c.args.id (eqb-true (get_or m 4402 0) 1 (sym c.has_meta.ensures ∙ c.if-not-has_meta.false)) (sym c.is_used.ensures ∙ c.if-not-is_used.true))

pub returns-in-Some : goal.returns-in-Some
unfolding fs_of
returns-in-Some c =
    let m = c.args.mem.now in
    let e = sym c.find_row-f.ensures ∙ c.in-Some.is in
    rw (get-used (view c.args.arena.now c.args.work.now) m c.args.id (eqb-true (get_or m 4402 0) 1 (sym c.has_meta.ensures ∙ c.if-not-has_meta.false)) (sym c.is_used.ensures ∙ c.if-not-is_used.false), e)
    (well refl (c.requires.whole, row_below (table_in m) c.args.id c.in-Some.i e))

pub returns-in-None : goal.returns-in-None
unfolding fs_of
returns-in-None c =
    let m = c.args.mem.now in
    rw (get-used (view c.args.arena.now c.args.work.now) m c.args.id (eqb-true (get_or m 4402 0) 1 (sym c.has_meta.ensures ∙ c.if-not-has_meta.false)) (sym c.is_used.ensures ∙ c.if-not-is_used.false), sym c.find_row-f.ensures ∙ c.in-None.is) c.load_node.ensures
