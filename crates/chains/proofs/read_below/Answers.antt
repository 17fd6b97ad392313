-- `chains::read_below`: the end decides, then the run.
use native.Mathlib.Omega.{arith}
use lib.ListN.{length}
use Rattle.arena.specs.Fields.{file}
use Rattle.chains.proofs.Ends.{end_short, end-done}
use Rattle.chains.proofs.read_below.Goals as goal

pub returns-then-end-pos : goal.returns-then-end-pos
returns-then-end-pos c =
    end_short c.args.arena.now (file c.args.which c.args.name.now) c.args.end c.requires.end_value.0 c.args.pos (length c.args.out.now) _ _ (omega (arith, c.if-end-pos.true))

pub returns-then-end-pos-2 : goal.returns-then-end-pos-2
returns-then-end-pos-2 c =
    end_short c.args.arena.now (file c.args.which c.args.name.now) c.args.end c.requires.end_value.0 c.args.pos (length c.args.out.now) _ _ (omega (arith, c.if-end-pos-2.true))

pub returns : goal.returns
returns c =
    end-done c.args.arena.now (file c.args.which c.args.name.now) c.args.end c.requires.end_value.0 c.args.pos (length c.args.out.now) _ (omega (arith, c.if-end-pos-2.false, c.if-end-pos.false)) c.read_run.ensures
