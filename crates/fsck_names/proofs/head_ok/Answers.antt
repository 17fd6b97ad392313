-- `fsck_names::head_ok`: the definition.
use Rattle.std.proofs.Common.{arith}
use Rattle.std.proofs.lemmas.Bool.Decides.{nat_tests}
use Rattle.fsck_names.specs.Names.{head_claimed}
use Rattle.fsck_names.proofs.Names.{tag_is, which-is}
use Rattle.fsck_names.proofs.head_ok.Goals as goal

pub returns-then-arena-o-eq1-2 : goal.returns-then-arena-o-eq1-2
unfolding head_claimed
returns-then-arena-o-eq1-2 c =
    grind (arith, nat_tests, tag_is c.args.arena.now c.args.claimed.now c.args.k, which-is c.args.arena.now c.args.claimed.now c.args.k)

pub returns : goal.returns
unfolding head_claimed
returns c =
    grind (arith, nat_tests, tag_is c.args.arena.now c.args.claimed.now c.args.k, which-is c.args.arena.now c.args.claimed.now c.args.k)
