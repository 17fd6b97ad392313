-- `files::store::is_past`: the definition's two tests.
use mathlib.Core.Path.{ap, ◌∙◌}
use Prim.Native.Nat.{ℕ, ◌*◌}
use lib.Dec.{leb}
use Rattle.arena.specs.Fields.{file, is_data}
use Rattle.files.specs.Store.{is_past}
use Rattle.files.proofs.Finds.{tested}
use Rattle.files.proofs.store.is_past.Goals as goal

pub returns-then-not-is_data : goal.returns-then-not-is_data
unfolding is_past
returns-then-not-is_data c =
    rw (tested (λ (q : ℕ). is_data (file c.args.which c.args.name.now) q c.args.b.now) c.is_data.ensures c.u32_at-q.ensures c.if-not-is_data.true)

pub returns : goal.returns
unfolding is_past
returns c =
    rw (tested (λ (q : ℕ). is_data (file c.args.which c.args.name.now) q c.args.b.now) c.is_data.ensures c.u32_at-q.ensures c.if-not-is_data.false) (ap (λ (q : ℕ). leb c.args.len (480 * q)) (c.index.ensures ∙ c.u32_at-q.ensures))
