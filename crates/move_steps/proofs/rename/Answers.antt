-- `move_steps::rename`: what was written is the slot by another name.
use Rattle.move_steps.proofs.Steps.{renamed-is}
use borrow.Author.Rules.{rules}
use Rattle.move_steps.proofs.rename.Goals as goal

pub returns : goal.returns
returns c =
    renamed-is _ _ _ _ _ (λ j. search rules) c.requires.1 (search rules) (search rules) c.u32_at-id.ensures c.u32_at-kind.ensures c.put_entry.ensures
