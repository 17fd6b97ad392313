-- `chains::read_part`: the bytes of the block that the chain leads to, or zeros.
use mathlib.Core.Path.{refl, ◌∙◌}
use native.Mathlib.Omega.{arith}
use lib.ListN.{length}
use Rattle.arena.specs.Fields.{file}
use Rattle.chains.proofs.Files.{part-found, part-missing}
use Rattle.chains.proofs.read_part.Goals as goal

pub returns-then-c-eq0 : goal.returns-then-c-eq0
returns-then-c-eq0 c =
    c.clear.ensures
    ∙ part-missing c.args.arena.now c.requires.led.fine (file c.args.which c.args.name.now) c.args.p (length c.args.out.now) c.find-c.result c.requires.p_bound.1 c.find-c.ensures.0 c.if-c-eq0.true

pub returns : goal.returns
returns c =
    c.copy.ensures
    ∙ part-found c.args.arena.now c.requires.led.fine (file c.args.which c.args.name.now) c.args.p (length c.args.out.now) c.find-c.result c.requires.p_bound.1 c.find-c.ensures.0 _ (omega (arith, c.if-c-eq0.false)) refl
