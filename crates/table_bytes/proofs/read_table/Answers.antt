-- `table_bytes::read_table`: field by field.
use Rattle.table_bytes.specs.Layout.{table_of}
use Rattle.table_bytes.proofs.read_table.Goals as goal

pub returns : goal.returns
unfolding table_of
returns c =
    let a = c.rows_in-rows.ensures in
    let b = c.holds_in-holds.ensures in
    let d = c.u64_at-next.ensures in
    λ x. record { rows = a x; holds = b x; next = d x }
