-- `files_run::ops::step`: a put touches at most three blocks, the others fewer.
use Rattle.std.proofs.Common.{length, arith}
use Rattle.files.proofs.Puts.{touched-few}
use Rattle.files_run.proofs.ops.step.Goals as goal

pub put-requires-clause-fine : goal.put-requires-clause-fine
put-requires-clause-fine c =
    (c.requires.fine.0, omega (arith, c.requires.fine.1, touched-few c.args.record.now.pos (length c.args.src.now) c.requires.src_len))
