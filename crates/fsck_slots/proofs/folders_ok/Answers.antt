-- `fsck_slots::folders_ok`: id after id.
use mathlib.Core.Path.{sym, ◌∙◌}
use native.Mathlib.Omega.{arith}
use Rattle.base.proofs.Counts.{all_to-all, all_to-false}
use Rattle.mem.specs.Mem.{table_in}
use Rattle.fsck_slots.specs.Slots.{folder_fine}
use Rattle.fsck_slots.proofs.Slots.{folders-is}
use Rattle.fsck_slots.proofs.folders_ok.Goals as goal

pub folder_at-requires : goal.folder_at-requires
folder_at-requires c = record { led = c.requires.led; loaded = (c.requires.loaded.0, (omega (arith, c.ids-id-end.ensures.value.1.1), c.loop-id.auto.hashes ∙ c.requires.loaded.1)) }

pub returns-then-not-folder_at : goal.returns-then-not-folder_at
returns-then-not-folder_at c =
    let a = c.args.arena.now in
    let t = table_in c.args.mem.now in
    sym (all_to-false (folder_fine a t) c.ids-id-end.result c.loop-id.id (omega arith) (sym c.folder_at.ensures ∙ c.if-not-folder_at.true))
    ∙ folders-is a t c.ids-id-end.result (c.ids-id-end.ensures.by_index a c.requires.loaded.0.1)

pub returns : goal.returns
returns c =
    let a = c.args.arena.now in
    let t = table_in c.args.mem.now in
    sym (all_to-all (folder_fine a t) c.ids-id-end.result (λ k h. c.loop-id.invariant k (omega arith)))
    ∙ folders-is a t c.ids-id-end.result (c.ids-id-end.ensures.by_index a c.requires.loaded.0.1)
