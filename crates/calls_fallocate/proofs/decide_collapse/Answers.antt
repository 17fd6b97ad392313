-- `calls_fallocate::decide_collapse`: an empty range; a file that is shorter than its size; one that is not.
use mathlib.Core.Path.{◌≡◌}
use Prim.Native.Nat.{◌-◌}
use native.Mathlib.Omega.{arith}
use Rattle.arena.specs.Fields.{file}
use Rattle.files.specs.Read.{length_of}
use Rattle.calls_fallocate.proofs.Decisions.{long-is, collapse-far, collapse-none, collapse-short, collapse-copies}
use Rattle.calls_fallocate.proofs.decide_collapse.Goals as goal

pub returns-then-size-gt-LONGEST : goal.returns-then-size-gt-LONGEST
returns-then-size-gt-LONGEST c =
    collapse-far c.args.size c.args.from c.args.len c.requires.plan_len.1 _ _ c.requires.len_bound.1 c.if-len-eq0.true c.if-size-gt-LONGEST.true

pub returns-then-len-eq0 : goal.returns-then-len-eq0
returns-then-len-eq0 c =
    collapse-none c.args.size c.args.from c.args.len c.requires.plan_len.1 _ _ c.requires.len_bound.1 c.if-len-eq0.true c.if-size-gt-LONGEST.false

pub overflow_sub-long : goal.overflow_sub-long
overflow_sub-long c =
    let L = long-is c.args.arena.now (file 1 c.args.name.now) c.requires.plan_len.1 c.length_of-long.ensures.0 in
    omega (arith, L)

pub decide_short-requires : goal.decide_short-requires
decide_short-requires c = record { led = c.requires.led; plan_len = (c.requires.plan_len.0.0, (c.requires.len_bound.0, (omega (arith, c.length_of-long.ensures.1), c.requires.plan_len.1))) }

pub returns-then-size-long : goal.returns-then-size-long
returns-then-size-long c =
    let L = long-is c.args.arena.now (file 1 c.args.name.now) c.requires.plan_len.1 c.length_of-long.ensures.0 in
    let e : c.length_of-long.result - 1 ≡ length_of c.args.arena.now (file 1 c.args.name.now) = omega (arith, L) in
    collapse-short c.args.size c.args.from c.args.len c.requires.plan_len.1 _ _ c.requires.len_bound.1
    c.if-len-eq0.false (omega (arith, L, c.if-size-long.true)) (rw e at c.decide_short.ensures)

pub decide_copy-requires : goal.decide_copy-requires
decide_copy-requires c = record {
  led = c.requires.led;
  plan_len = c.requires.plan_len;
  m_bound = (
    omega (arith, c.requires.len_bound.1, c.if-size-long.false, c.length_of-long.ensures.1),
    (omega (arith, c.requires.len_bound.1, c.if-size-long.false, c.length_of-long.ensures.1), omega arith),
  );
}

pub returns : goal.returns
returns c =
    let L = long-is c.args.arena.now (file 1 c.args.name.now) c.requires.plan_len.1 c.length_of-long.ensures.0 in
    let D = c.decide_copy.ensures in
    collapse-copies c.args.size c.args.from c.args.len c.requires.plan_len.1 _ _ c.requires.len_bound.1
    c.if-len-eq0.false (omega (arith, L, c.if-size-long.false))
    (omega (arith, c.if-size-long.false, c.length_of-long.ensures.1)) D.0 D.1
