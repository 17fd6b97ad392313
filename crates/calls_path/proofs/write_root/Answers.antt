-- `calls_path::write_root`: one slash.
use Rattle.calls_path.proofs.Answers.{root-full, root-written}
use Rattle.calls_path.proofs.write_root.Goals as goal

pub returns-then-out-eq0 : goal.returns-then-out-eq0
returns-then-out-eq0 c = root-full _ c.if-out-eq0.true

pub returns : goal.returns
returns c = root-written c.args.out.now c.if-out-eq0.false
