-- `walk_parts::texts::skip`: 1 after a leading slash.
use Rattle.walk_parts.proofs.Splits.{skip-one, skip-none}
use Rattle.walk_parts.proofs.texts.skip.Goals as goal

pub returns-then-from_root : goal.returns-then-from_root
returns-then-from_root c = skip-one c.args.text.now c.from_root.ensures c.if-from_root.true

pub returns : goal.returns
returns c = skip-none c.args.text.now c.from_root.ensures c.if-from_root.false
