-- `walk_parts::texts::split`: a part follows each slash passed.
use mathlib.Core.Path.{◌≡◌, sym, ◌∙◌, ap}
use lib.ListN.{length}
use native.Mathlib.Omega.{arith}
use Rattle.base.specs.Count.{all_to}
use Rattle.walk_parts.proofs.Splits.{followed, split-not, split-all, slash-ends, slash-goes, all_none}
use Rattle.walk_parts.proofs.texts.split.Goals as goal

pub returns-then-not-part_at : goal.returns-then-not-part_at
returns-then-not-part_at c = split-not c.args.text.now (sym c.part_at.ensures ∙ c.if-not-part_at.true)

pub loop-i-init : goal.loop-i-init
loop-i-init c = (sym c.part_at.ensures ∙ c.if-not-part_at.false, all_none c.args.text.now)

pub returns-then-text-i : goal.returns-then-text-i
returns-then-text-i c = slash-ends c.args.text.now c.loop-i.i (omega arith) c.loop-i.invariant.0 c.part_at-in-loop-i.ensures c.if-text-i.true

pub loop-i-preserved : goal.loop-i-preserved
loop-i-preserved c = (c.loop-i.invariant.0, slash-goes c.args.text.now c.loop-i.i (omega arith) c.loop-i.invariant.0 c.part_at-in-loop-i.ensures c.if-text-i.false c.loop-i.invariant.1)

pub returns : goal.returns
returns c =
    let l = c.args.text.now in
    split-all l c.loop-i.invariant.0 (ap (all_to (followed l)) (let e : length l ≡ c.loop-i.i = omega arith in e) ∙ c.loop-i.invariant.1)
