-- `inplace::is_of`: the definition's two tests.
use mathlib.Core.Path.{sym, ap, ◌∙◌}
use Prim.Native.Nat.{ℕ}
use Rattle.arena.specs.Fields.{file, is_data}
use Rattle.files.specs.Store.{is_of}
use Rattle.inplace.proofs.is_of.Goals as goal

pub returns-then-is_head : goal.returns-then-is_head
unfolding is_of
returns-then-is_head c = rw (sym c.is_head.ensures ∙ c.if-is_head.true) c.if-is_head.true

pub returns-else-is_head : goal.returns-else-is_head
unfolding is_of
returns-else-is_head c =
    rw (sym c.is_head.ensures ∙ c.if-is_head.false) (c.is_data.ensures ∙ ap (λ (q : ℕ). is_data (file c.args.which c.args.name.now) q c.args.b.now) c.u32_at.ensures)
