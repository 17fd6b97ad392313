-- `fsck_climb::tree_by`: root's slot 1 names it, and each folder that has a place is as it must be.
use mathlib.Core.Path.{◌∙◌}
use borrow.Author.Tests.{ne_eqb}
use native.Mathlib.Omega.{arith}
use Rattle.mem.specs.Mem.{table_in}
use Rattle.fsck_climb.proofs.Trees.{ids-of, rooted-not, rooted-all}
use Rattle.fsck_climb.proofs.tree_by.Goals as goal

pub bounds-parents-2 : goal.bounds-parents-2
bounds-parents-2 c =
    omega (arith, (ids-of c.args.arena.now (table_in c.args.mem.now) c.args.parents.now c.requires.parents_value).size)

pub returns-else-parents-eq2 : goal.returns-else-parents-eq2
returns-else-parents-eq2 c =
    ne_eqb _ 2 c.if-parents-eq2.false ∙ rooted-not c.args.arena.now (table_in c.args.mem.now) c.requires.named.0 c.args.parents.now c.requires.parents_value c.if-parents-eq2.false

pub nodes_ok-requires : goal.nodes_ok-requires
nodes_ok-requires c = record { led = c.requires.led; loaded = (c.requires.loaded, ids-of c.args.arena.now (table_in c.args.mem.now) c.args.parents.now c.requires.parents_value); counted = c.requires.named.1 }

pub returns-then-parents-eq2 : goal.returns-then-parents-eq2
returns-then-parents-eq2 c =
    rooted-all c.args.arena.now (table_in c.args.mem.now) c.requires.named.0 c.args.parents.now c.requires.parents_value c.nodes_ok.result c.if-parents-eq2.true c.nodes_ok.ensures
