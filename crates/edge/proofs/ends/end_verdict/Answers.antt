-- `edge::ends::end_verdict`: passed, and the counts are written; or failed, and nothing is.
use Rattle.edge.proofs.Laws.{counts-pass}
use Rattle.edge.proofs.ends.end_verdict.Goals as goal

pub returns-in-Pass : goal.returns-in-Pass
returns-in-Pass c =
    counts-pass c.args.out.now c.in-Pass.is c.put_counts.ensures
