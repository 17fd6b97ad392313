-- `fsck_climb::nodes_ok`: id after id.
use Rattle.std.proofs.Common.{refl, ap, ◌∙◌, rules, tests}
use Rattle.base.specs.Count.{all_to}
use Rattle.mem.specs.Mem.{table_in}
use Rattle.fsck_read.proofs.Ranges.{all-below}
use Rattle.fsck_climb.specs.Way.{tree_fine}
use Rattle.fsck_climb.proofs.nodes_ok.Goals as goal

pub returns : goal.returns
returns c =
    all-below (tree_fine c.args.arena.now (table_in c.args.mem.now) c.args.parents.now) c.ids.result _ _ _ _ c.all.ensures.ran refl (λ x q k. search (rules, tests)) (λ x q k. search (rules, tests))
    ∙ ap (all_to (tree_fine c.args.arena.now (table_in c.args.mem.now) c.args.parents.now)) (c.ids.ensures.by_index c.args.arena.now c.requires.loaded.0.1)
