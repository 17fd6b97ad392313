-- `walk_parts::texts::part_at`: by the text's end.
use Rattle.walk_parts.proofs.Splits.{part_in_lem, part-past}
use Rattle.walk_parts.proofs.texts.part_at.Goals as goal

pub returns-then-i-text : goal.returns-then-i-text
returns-then-i-text c = part_in_lem c.args.text.now c.args.i c.if-i-text.true

pub returns : goal.returns
returns c = part-past c.args.text.now c.args.i c.if-i-text.false
