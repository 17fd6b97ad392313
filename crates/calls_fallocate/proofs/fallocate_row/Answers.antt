-- `calls_fallocate::fallocate_row`: mode by mode.
use Rattle.mem.specs.Mem.{table_in}
use Rattle.calls_fallocate.proofs.Rows.{supplied-as, ended-as, allocated}
use Rattle.calls_fallocate.proofs.fallocate_row.Goals as goal

pub grow_row-requires : goal.grow_row-requires
grow_row-requires c =
    (c.requires.0, c.requires.1.reached)

pub punch_row-requires : goal.punch_row-requires
punch_row-requires c =
    (c.requires.0, (c.requires.1.reached, (supplied-as c.in-PunchHoleKeepSize.is c.requires.1).supply))

pub punch_row-requires-in-ZeroRangeKeepSize : goal.punch_row-requires-in-ZeroRangeKeepSize
punch_row-requires-in-ZeroRangeKeepSize c =
    (c.requires.0, (c.requires.1.reached, (supplied-as c.in-ZeroRangeKeepSize.is c.requires.1).supply))

pub zero_row-requires : goal.zero_row-requires
zero_row-requires c =
    (c.requires.0, (c.requires.1.reached, (supplied-as c.in-ZeroRange.is c.requires.1).supply))

pub collapse_row-requires : goal.collapse_row-requires
collapse_row-requires c =
    (c.requires.0, supplied-as c.in-CollapseRange.is c.requires.1)

pub insert_row-requires : goal.insert_row-requires
insert_row-requires c =
    (c.requires.0, supplied-as c.in-InsertRange.is c.requires.1)

pub returns-in-Allocate : goal.returns-in-Allocate
returns-in-Allocate c =
    allocated (table_in c.args.mem.now) c.args.i c.args.from c.args.len
    c.in-Allocate.is (supplied-as c.in-Allocate.is c.requires.1).supply
    c.grow_row.ensures

pub returns-in-PunchHoleKeepSize : goal.returns-in-PunchHoleKeepSize
returns-in-PunchHoleKeepSize c =
    ended-as (table_in c.args.mem.now) c.args.i c.args.from c.args.len
    c.in-PunchHoleKeepSize.is c.punch_row.ensures

pub returns-in-ZeroRangeKeepSize : goal.returns-in-ZeroRangeKeepSize
returns-in-ZeroRangeKeepSize c =
    ended-as (table_in c.args.mem.now) c.args.i c.args.from c.args.len
    c.in-ZeroRangeKeepSize.is c.punch_row-in-ZeroRangeKeepSize.ensures

pub returns-in-ZeroRange : goal.returns-in-ZeroRange
returns-in-ZeroRange c =
    ended-as (table_in c.args.mem.now) c.args.i c.args.from c.args.len
    c.in-ZeroRange.is c.zero_row.ensures

pub returns-in-CollapseRange : goal.returns-in-CollapseRange
returns-in-CollapseRange c =
    ended-as (table_in c.args.mem.now) c.args.i c.args.from c.args.len
    c.in-CollapseRange.is c.collapse_row.ensures

pub returns-in-InsertRange : goal.returns-in-InsertRange
returns-in-InsertRange c =
    ended-as (table_in c.args.mem.now) c.args.i c.args.from c.args.len
    c.in-InsertRange.is c.insert_row.ensures

pub returns-in-Unknown : goal.returns-in-Unknown
returns-in-Unknown c =
    absurd (supplied-as c.in-Unknown.is c.requires.1).supply
