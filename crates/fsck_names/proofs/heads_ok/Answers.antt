-- `fsck_names::heads_ok`: block after block.
use Rattle.std.proofs.Common.{◌/◌, refl, rules, tests, length}
use Rattle.fsck_read.proofs.Ranges.{all-below}
use Rattle.fsck_names.specs.Names.{head_claimed}
use Rattle.fsck_names.proofs.heads_ok.Goals as goal

pub returns : goal.returns
returns c =
    all-below (head_claimed c.args.arena.now c.args.claimed.now) (length c.args.arena.now / 512) _ _ _ _ c.all.ensures.ran refl (λ x q k. search (rules, tests)) (λ x q k. search (rules, tests))
