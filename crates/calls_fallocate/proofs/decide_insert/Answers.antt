-- `calls_fallocate::decide_insert`: an empty range; a file that is shorter than its size; one that is not.
use native.Mathlib.Omega.{arith}
use Rattle.arena.specs.Fields.{file}
use Rattle.calls_fallocate.proofs.Decisions.{long-is, insert-none, insert-short, insert-copies}
use Rattle.calls_fallocate.proofs.decide_insert.Goals as goal

pub returns-then-len-eq0 : goal.returns-then-len-eq0
returns-then-len-eq0 c =
    insert-none c.args.size c.args.from c.args.len c.requires.plan_len.1 _ _ c.requires.len_bound.1 c.requires.len_bound.0 c.if-len-eq0.true

pub overflow_sub-long : goal.overflow_sub-long
overflow_sub-long c =
    let L = long-is c.args.arena.now (file 1 c.args.name.now) c.requires.plan_len.1 c.length_of-long.ensures.0 in
    omega (arith, L)

pub returns-then-long-size : goal.returns-then-long-size
returns-then-long-size c =
    let L = long-is c.args.arena.now (file 1 c.args.name.now) c.requires.plan_len.1 c.length_of-long.ensures.0 in
    insert-short c.args.size c.args.from c.args.len c.requires.plan_len.1 _ _ c.requires.len_bound.1 c.requires.len_bound.0 c.if-len-eq0.false (omega (arith, L, c.if-long-size.true))

pub decide_copy-requires : goal.decide_copy-requires
decide_copy-requires c = record { led = c.requires.led; plan_len = c.requires.plan_len; m_bound = (omega (arith, c.requires.len_bound.1, c.requires.len_bound.0), (omega (arith, c.requires.len_bound.1, c.requires.len_bound.0), omega arith)) }

pub returns : goal.returns
returns c =
    let L = long-is c.args.arena.now (file 1 c.args.name.now) c.requires.plan_len.1 c.length_of-long.ensures.0 in
    let D = c.decide_copy.ensures in
    insert-copies c.args.size c.args.from c.args.len c.requires.plan_len.1 _ _ c.requires.len_bound.1 c.requires.len_bound.0
    c.if-len-eq0.false (omega (arith, L, c.if-long-size.false)) D.0 D.1
