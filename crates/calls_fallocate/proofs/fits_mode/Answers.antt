-- `calls_fallocate::fits_mode`: mode by mode.
use Rattle.calls_fallocate.proofs.fits_mode.Goals as goal

pub returns-in-Allocate : goal.returns-in-Allocate
returns-in-Allocate c = rw c.in-Allocate.is

pub returns-in-PunchHoleKeepSize : goal.returns-in-PunchHoleKeepSize
returns-in-PunchHoleKeepSize c = rw c.in-PunchHoleKeepSize.is

pub returns-in-ZeroRange : goal.returns-in-ZeroRange
returns-in-ZeroRange c = rw c.in-ZeroRange.is

pub returns-in-ZeroRangeKeepSize : goal.returns-in-ZeroRangeKeepSize
returns-in-ZeroRangeKeepSize c = rw c.in-ZeroRangeKeepSize.is

pub returns-in-CollapseRange : goal.returns-in-CollapseRange
returns-in-CollapseRange c = rw c.in-CollapseRange.is c.fits_collapse.ensures

pub returns-in-InsertRange : goal.returns-in-InsertRange
returns-in-InsertRange c = rw c.in-InsertRange.is c.fits_insert.ensures

pub returns-in-Unknown : goal.returns-in-Unknown
returns-in-Unknown c = rw c.in-Unknown.is
