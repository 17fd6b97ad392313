-- `nodes::meta::free_block`: the tests of the definition, then its change.
use mathlib.Core.Path.{◌∙◌, sym}
use native.Mathlib.Omega.{arith}
use lib.ListN.{get_or}
use borrow.Author.Tests.{eqb-true}
use Rattle.base.specs.Out.{ill}
use Rattle.nodes.proofs.Ids.{free-none, free-unused}
use Rattle.nodes.proofs.meta.free_block.Goals as goal

pub returns-then-not-has_meta : goal.returns-then-not-has_meta
returns-then-not-has_meta c = λ a w. ill {r = 19} (omega arith) (free-none c.args.mem.now c.args.id (sym c.has_meta.ensures ∙ c.if-not-has_meta.true) a w)

pub is_used-requires : goal.is_used-requires
is_used-requires c = (c.requires, eqb-true (get_or c.args.mem.now 4402 0) 1 (sym c.has_meta.ensures ∙ c.if-not-has_meta.false))

pub returns-then-not-is_used : goal.returns-then-not-is_used
returns-then-not-is_used c =
    let m = c.args.mem.now in
    λ a w. ill {r = 19} (omega arith) (free-unused m c.args.id (eqb-true (get_or m 4402 0) 1 (sym c.has_meta.ensures ∙ c.if-not-has_meta.false)) (sym c.is_used.ensures ∙ c.if-not-is_used.true) a w)

pub set_free-requires : goal.set_free-requires
set_free-requires c =
    let m = c.args.mem.now in record { whole = (c.requires, eqb-true (get_or m 4402 0) 1 (sym c.has_meta.ensures ∙ c.if-not-has_meta.false)); id_value = sym c.is_used.ensures ∙ c.if-not-is_used.false }
