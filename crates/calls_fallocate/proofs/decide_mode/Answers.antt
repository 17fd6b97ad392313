-- `calls_fallocate::decide_mode`: mode by mode.
use Rattle.ranges.proofs.Modes.{collapse-ends, insert-starts}
use Rattle.ranges.proofs.Solid.{collapse-fits}
use Rattle.calls_fallocate.proofs.Decisions.{resolved-as, never-unknown, allocate-resolved, punch-resolved, keep-resolved, zero-resolved}
use Rattle.calls_fallocate.proofs.decide_mode.Goals as goal

pub decide_collapse-requires : goal.decide_collapse-requires
decide_collapse-requires c =
    let fit = rw c.in-CollapseRange.is at c.requires.len_bound.1.0 in record { led = c.requires.led; plan_len = c.requires.plan_len; len_bound = (c.requires.len_bound.0, collapse-ends c.args.rec.size c.args.from c.args.len fit) }

pub decide_insert-requires : goal.decide_insert-requires
decide_insert-requires c =
    let fit = rw c.in-InsertRange.is at c.requires.len_bound.1.0 in record { led = c.requires.led; plan_len = c.requires.plan_len; len_bound = ((collapse-fits c.args.rec.size c.args.from c.args.len fit).1, insert-starts c.args.rec.size c.args.from c.args.len fit) }

pub returns-in-Allocate : goal.returns-in-Allocate
returns-in-Allocate c =
    resolved-as c.in-Allocate.is (allocate-resolved c.args.rec.size c.args.from c.args.len c.requires.plan_len.1 _ _ _ (rw c.in-Allocate.is at c.requires.len_bound.1.1))

pub returns-in-PunchHoleKeepSize : goal.returns-in-PunchHoleKeepSize
returns-in-PunchHoleKeepSize c =
    resolved-as c.in-PunchHoleKeepSize.is
    (punch-resolved c.args.rec.size c.args.from c.args.len c.requires.plan_len.1 _ _ c.requires.len_bound.0 c.decide_punch.ensures)

pub returns-in-ZeroRangeKeepSize : goal.returns-in-ZeroRangeKeepSize
returns-in-ZeroRangeKeepSize c =
    resolved-as c.in-ZeroRangeKeepSize.is
    (keep-resolved c.args.rec.size c.args.from c.args.len c.requires.plan_len.1 _ _ c.requires.len_bound.0 c.decide_punch-in-ZeroRangeKeepSize.ensures)

pub returns-in-ZeroRange : goal.returns-in-ZeroRange
returns-in-ZeroRange c =
    resolved-as c.in-ZeroRange.is
    (zero-resolved c.args.rec.size c.args.from c.args.len c.requires.plan_len.1 _ _ c.requires.len_bound.0 c.decide.ensures)

pub returns-in-CollapseRange : goal.returns-in-CollapseRange
returns-in-CollapseRange c = resolved-as c.in-CollapseRange.is c.decide_collapse.ensures

pub returns-in-InsertRange : goal.returns-in-InsertRange
returns-in-InsertRange c = resolved-as c.in-InsertRange.is c.decide_insert.ensures

pub returns-in-Unknown : goal.returns-in-Unknown
returns-in-Unknown c =
    absurd (never-unknown c.args.rec.size c.args.from c.args.len c.in-Unknown.is c.requires.len_bound.1.0)
