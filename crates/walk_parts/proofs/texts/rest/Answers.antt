-- `walk_parts::texts::rest`: by the depth, of the path or of the buffer.
use mathlib.Core.Path.{sym}
use Rattle.walk_parts.proofs.Splits.{left-path, left-links, le-path, le-links}
use Rattle.walk_parts.proofs.texts.rest.Goals as goal

pub slice_bounds-result-end : goal.slice_bounds-result-end
slice_bounds-result-end c = le-path c.args.path.now c.args.links.now c.args.depth c.args.to c.if-depth-eq0.true c.requires.1

pub returns-then-depth-eq0 : goal.returns-then-depth-eq0
returns-then-depth-eq0 c = sym (left-path c.args.path.now c.args.links.now c.args.depth c.args.from c.args.to c.if-depth-eq0.true)

pub slice_bounds-result-end-2 : goal.slice_bounds-result-end-2
slice_bounds-result-end-2 c = le-links c.args.path.now c.args.links.now c.args.depth c.args.to c.if-depth-eq0.false c.requires.1

pub returns : goal.returns
returns c = sym (left-links c.args.path.now c.args.links.now c.args.depth c.args.from c.args.to c.if-depth-eq0.false)
