-- `plans::read_block`: a place that has a block, and one that has none.
use mathlib.Core.Path.{refl, ◌∙◌}
use native.Mathlib.Omega.{arith}
use lib.ListN.{length}
use Rattle.plans.proofs.Payloads.{read-gone, read-there}
use Rattle.plans.proofs.read_block.Goals as goal

pub returns-then-found-eq0 : goal.returns-then-found-eq0
returns-then-found-eq0 c =
    c.clear.ensures ∙ read-gone c.args.arena.now c.args.found c.args.off (length c.args.out.now) c.if-found-eq0.true

pub returns : goal.returns
returns c =
    c.copy.ensures ∙ read-there c.args.arena.now c.args.found c.args.off (length c.args.out.now) _ _ (omega (arith, c.if-found-eq0.false)) c.requires.0 c.requires.1 refl refl
