-- `walk_parts::texts::from_root`: the empty text begins with no slash.
use Rattle.walk_parts.proofs.Splits.{root-empty}
use Rattle.walk_parts.proofs.texts.from_root.Goals as goal

pub returns-then-text-eq0 : goal.returns-then-text-eq0
returns-then-text-eq0 c = root-empty c.args.text.now c.if-text-eq0.true
