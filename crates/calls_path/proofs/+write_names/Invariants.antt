-- `calls_path::write_names`: the measure is the number of names that are left.
use Rattle.calls_path.proofs.+write_names.Given as goal

abbrev pub decreases-write_names : goal.decreases-write_names
decreases-write_names l = l.steps
