-- `calls_fallocate::looks`: mode by mode.
use Rattle.calls_fallocate.proofs.Questions.{looks-below}
use Rattle.calls_fallocate.proofs.looks.Goals as goal

pub returns-in-Allocate : goal.returns-in-Allocate
returns-in-Allocate c = rw c.in-Allocate.is

pub returns-in-PunchHoleKeepSize : goal.returns-in-PunchHoleKeepSize
returns-in-PunchHoleKeepSize c = rw c.in-PunchHoleKeepSize.is (looks-below c.args.size c.args.from c.args.len)

pub returns-in-ZeroRangeKeepSize : goal.returns-in-ZeroRangeKeepSize
returns-in-ZeroRangeKeepSize c = rw c.in-ZeroRangeKeepSize.is (looks-below c.args.size c.args.from c.args.len)

pub returns-in-ZeroRange : goal.returns-in-ZeroRange
returns-in-ZeroRange c = rw c.in-ZeroRange.is
