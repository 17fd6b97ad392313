-- `mend_plan::fate_of`: its record is stored where links or size are not right.
use mathlib.Core.Path.{refl}
use Rattle.mend_plan.proofs.Records.{can-mend, subs-most, fate-right, fate-wrong}
use Rattle.mend_plan.proofs.Fates.{head-range}
use Rattle.std.proofs.Common.{rules}
use Rattle.mend_plan.proofs.fate_of.Goals as goal
use Rattle.mend_plan.proofs.fate_of.Goals.{else-rec-links-via-then-rec-links+else-rec-due_size, else-rec-links-via-else-rec-links}

pub due_links-links-requires : goal.due_links-links-requires
due_links-links-requires c = record { led = c.requires.led; rec_bound = subs-most c.args.arena.now (can-mend c.args.arena.now c.requires.arena_value.0) c.args.id c.requires.arena_value.1.0 c.args.rec c.requires.arena_value.1.1 }

pub due_size-requires : goal.due_size-requires
due_size-requires c =
    (c.requires.id_value.1.1, head-range c.args.arena.now (can-mend c.args.arena.now c.requires.arena_value.0) c.args.id c.requires.arena_value.1.0 c.args.rec c.args.head c.requires.arena_value.1.1 c.requires.id_value.1.1)

pub returns-then-rec-due_size : goal.returns-then-rec-due_size
returns-then-rec-due_size c =
    fate-right c.args.arena.now (λ j. search rules) (can-mend c.args.arena.now c.requires.arena_value.0) c.args.id c.requires.arena_value.1.0 c.args.rec c.args.named c.due_links-links.result c.due_size.result c.requires.arena_value.1.1 c.requires.id_value.1.0 c.due_links-links.ensures c.due_size.ensures c.if-rec-links.true c.if-rec-due_size.true

pub returns : goal.returns
returns c =
    elim c.else-rec-links.branch [
      | else-rec-links-via-then-rec-links+else-rec-due_size w ↦
          fate-wrong c.args.arena.now (λ j. search rules) (can-mend c.args.arena.now c.requires.arena_value.0) c.args.id c.requires.arena_value.1.0 c.args.rec c.args.named c.due_links-links.result w.due_size.result c.requires.arena_value.1.1 c.requires.id_value.1.0 c.due_links-links.ensures w.due_size.ensures c.requires.id_value.0 (λ x y. w.if-rec-due_size.false y)
      | else-rec-links-via-else-rec-links w ↦
          fate-wrong c.args.arena.now (λ j. search rules) (can-mend c.args.arena.now c.requires.arena_value.0) c.args.id c.requires.arena_value.1.0 c.args.rec c.args.named c.due_links-links.result _ c.requires.arena_value.1.1 c.requires.id_value.1.0 c.due_links-links.ensures refl c.requires.id_value.0 (λ x y. w.if-rec-links.false x)
    ]
