-- `fsck_names::rule5`: the definition, test by test.
use Rattle.std.proofs.Common.{arith}
use Rattle.std.proofs.lemmas.Bool.Decides.{nat_tests}
use Rattle.mem.specs.Mem.{table_in}
use Rattle.rules.specs.Tests.{test5}
use Rattle.fsck_names.proofs.Names.{claimed-none, heads-same}
use Rattle.fsck_names.proofs.rule5.Goals as goal
use Rattle.fsck_names.proofs.rule5.Goals.{then-nodes_ok, else-nodes_ok}

pub nodes_ok-requires : goal.nodes_ok-requires
nodes_ok-requires c = record { led = c.requires.led; loaded = c.requires.loaded; claimed = claimed-none c.args.arena.now (table_in c.args.mem.now) }

pub returns-then-heads_ok : goal.returns-then-heads_ok
unfolding test5
returns-then-heads_ok c =
    elim c.if-nodes_ok.branch [
      | then-nodes_ok w ↦
          let same = heads-same c.args.arena.now (table_in c.args.mem.now) _ (c.nodes_ok.ensures.claimed_2 w.if-nodes_ok.true) in
          grind (arith, nat_tests)
      | else-nodes_ok w ↦ grind (arith, nat_tests)
    ]

pub returns-else-heads_ok : goal.returns-else-heads_ok
unfolding test5
returns-else-heads_ok c =
    elim c.if-nodes_ok.branch [
      | then-nodes_ok w ↦
          let same = heads-same c.args.arena.now (table_in c.args.mem.now) _ (c.nodes_ok.ensures.claimed_2 w.if-nodes_ok.true) in
          grind (arith, nat_tests)
      | else-nodes_ok w ↦ grind (arith, nat_tests)
    ]
