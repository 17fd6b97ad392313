-- `calls_read::fill`: the bytes below the length, then zeros.
use mathlib.Core.Path.{◌∙◌}
use native.Mathlib.Omega.{arith}
use lib.ListN.{length}
use Rattle.arena.specs.Fields.{file}
use Rattle.calls_read.proofs.Bytes.{past-zeros, read-two}
use Rattle.calls_read.proofs.fill.Goals as goal

pub returns-then-len-place : goal.returns-then-len-place
returns-then-len-place c =
    c.clear.ensures ∙ past-zeros c.args.arena.now c.requires.led.fine (file 1 c.args.name.now) c.args.place (length c.args.out.now) (omega (arith, c.if-len-place.true))

pub returns : goal.returns
returns c =
    read-two c.args.arena.now c.requires.led.fine (file 1 c.args.name.now) c.args.place c.args.out.now c.least-m.result _ _ (omega (arith, c.if-len-place.false)) (omega (arith, c.least-m.ensures)) c.read_run.ensures c.clear-2.ensures
