-- `fsck_read::clean_ok`: the row's bytes in memory against the bytes that are stored.
use mathlib.Core.Path.{refl, sym, ◌∙◌}
use Prim.Native.Nat.{◌+◌, ◌*◌}
use native.Mathlib.Omega.{arith}
use lib.ListN.{replicate}
use Rattle.fsck_read.proofs.Rows.{clean-dirty, clean-same}
use Rattle.fsck_read.proofs.clean_ok.Goals as goal

pub returns-then-dirty_at : goal.returns-then-dirty_at
returns-then-dirty_at c = clean-dirty _ _ (sym c.dirty_at.ensures ∙ c.if-dirty_at.true)

pub returns : goal.returns
returns c =
    let y = c.type_inv.mem in
    let d = c.dirty_at.ensures in
    clean-same c.args.arena.now c.args.mem.now _ (replicate 112 0) c.args.i c.index.result (117 * c.args.i + 5) _ c.equal.result (omega (arith, c.requires.loaded.0.whole.size)) (λ i. (y i).fits) c.requires.loaded.1 (sym d ∙ c.if-dirty_at.false) refl (c.index.ensures ∙ c.id_at.ensures) c.read_meta.ensures refl c.equal.ensures
