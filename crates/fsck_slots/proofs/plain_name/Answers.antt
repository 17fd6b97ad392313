-- `fsck_slots::plain_name`: the definition, by what the stored name is.
use mathlib.Core.Path.{sym, ◌∙◌}
use Rattle.fsck_slots.proofs.Slots.{plain-broken, plain-ended}
use Rattle.fsck_slots.proofs.plain_name.Goals as goal

pub returns-in-Ended : goal.returns-in-Ended
returns-in-Ended c =
    plain-ended c.args.slot.now _ _ c.is_special.result (sym c.stored_name-s.ensures ∙ c.in-Ended.is) c.name_of.ensures c.is_special.ensures

pub returns-in-Broken : goal.returns-in-Broken
returns-in-Broken c =
    plain-broken c.args.slot.now (sym c.stored_name-s.ensures ∙ c.in-Broken.is)
