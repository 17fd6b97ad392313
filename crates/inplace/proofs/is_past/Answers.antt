-- `inplace::is_past`: the definition's two tests.
use mathlib.Core.Path.{ap, ◌∙◌}
use Prim.Native.Nat.{ℕ, ◌*◌}
use lib.Dec.{leb}
use Rattle.arena.specs.Fields.{file, is_data}
use Rattle.files.specs.Store.{is_past}
use Rattle.files.proofs.Finds.{tested}
use Rattle.inplace.proofs.is_past.Goals as goal

pub returns-else-is_data : goal.returns-else-is_data
unfolding is_past
returns-else-is_data c =
    rw (tested (λ (q : ℕ). is_data (file c.args.which c.args.name.now) q c.args.b.now) c.is_data.ensures c.u32_at-q.ensures c.if-is_data.false) c.if-is_data.false

pub returns-then-is_data : goal.returns-then-is_data
unfolding is_past
returns-then-is_data c =
    rw (tested (λ (q : ℕ). is_data (file c.args.which c.args.name.now) q c.args.b.now) c.is_data.ensures c.u32_at-q.ensures c.if-is_data.true) (ap (λ (q : ℕ). leb c.args.len (480 * q)) (c.index.ensures ∙ c.u32_at-q.ensures))
