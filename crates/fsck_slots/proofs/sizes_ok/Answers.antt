-- `fsck_slots::sizes_ok`: id after id.
use Rattle.std.proofs.Common.{refl, ◌∙◌, rules, tests}
use Rattle.mem.specs.Mem.{table_in}
use Rattle.fsck_read.proofs.Ranges.{all-below}
use Rattle.fsck_slots.specs.Slots.{size_fine}
use Rattle.fsck_slots.proofs.Slots.{sizes-is}
use Rattle.fsck_slots.proofs.sizes_ok.Goals as goal

pub returns : goal.returns
returns c =
    all-below (size_fine c.args.arena.now (table_in c.args.mem.now)) c.ids.result _ _ _ _ c.all.ensures.ran refl (λ x q k. search (rules, tests)) (λ x q k. search (rules, tests))
    ∙ sizes-is c.args.arena.now (table_in c.args.mem.now) c.ids.result (c.ids.ensures.by_index c.args.arena.now c.requires.loaded.1)
