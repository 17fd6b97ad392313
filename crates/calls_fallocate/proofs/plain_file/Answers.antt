-- `calls_fallocate::plain_file`: a type above 4, and then 21.
use Rattle.calls_fallocate.proofs.Questions.{plain-above, plain_other, plain-is}
use Rattle.calls_fallocate.proofs.plain_file.Goals as goal

pub returns-then-rec-gt4 : goal.returns-then-rec-gt4
returns-then-rec-gt4 c = plain-above c.args.rec c.if-rec-gt4.true

pub returns-then-rec-ne-FILE : goal.returns-then-rec-ne-FILE
returns-then-rec-ne-FILE c = plain_other c.args.rec c.if-rec-gt4.false c.if-rec-ne-FILE.true

pub returns : goal.returns
returns c = plain-is c.args.rec c.if-rec-gt4.false c.if-rec-ne-FILE.false
