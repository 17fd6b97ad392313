-- `plans::decide`: the count decides.
use native.Mathlib.Omega.{arith}
use Rattle.arena.specs.Fields.{file}
use Rattle.plans.proofs.Decides.{too_many, too_few, enough}
use Rattle.plans.proofs.decide.Goals as goal

pub returns-then-k-arena : goal.returns-then-k-arena
returns-then-k-arena c =
    too_many c.args.arena.now (file c.args.which c.args.name.now) c.args.pos c.args.n c.requires.plan_len.1.1 _ _ c.touched-k.ensures c.if-k-arena.true

pub returns-then-lacking-free_count : goal.returns-then-lacking-free_count
returns-then-lacking-free_count c =
    too_few c.args.arena.now (file c.args.which c.args.name.now) c.args.pos c.args.n c.requires.plan_len.1.1 _ _ _ _ c.touched-k.ensures c.plan_blocks-lacking.ensures.value c.free_count.ensures c.if-lacking-free_count.true

pub returns : goal.returns
returns c =
    let p = c.plan_blocks-lacking in
    enough c.args.arena.now (file c.args.which c.args.name.now) c.args.pos c.args.n c.requires.plan_len.1.1 _ _ _ _ c.touched-k.ensures p.ensures.value c.free_count.ensures c.if-lacking-free_count.false (omega (arith, p.auto.plan, c.requires.plan_len.0, c.requires.led.most, c.if-k-arena.false)) p.ensures.places
