-- `fsck_climb::children_ok`: slot after slot.
use Rattle.std.proofs.Common.{◌+◌, ◌-◌, arith, refl, rules, tests}
use Rattle.fsck_read.proofs.Ranges.{all-range}
use Rattle.fsck_climb.specs.Way.{child_fine, children_fine}
use Rattle.fsck_climb.proofs.children_ok.Goals as goal

pub returns : goal.returns
unfolding children_fine
returns c =
    all-range (λ j. child_fine c.args.arena.now c.args.parents.now c.args.rec c.args.id (2 + j)) (child_fine c.args.arena.now c.args.parents.now c.args.rec c.args.id) 2 (c.args.rec.blocks - 2) (λ _. refl)
    _ _ _ _ c.all.ensures.ran c.index.result refl (omega (arith, c.index.ensures)) (λ x q k. search (rules, tests)) (λ x q k. search (rules, tests))
