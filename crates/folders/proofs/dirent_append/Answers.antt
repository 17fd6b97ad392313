-- `folders::dirent_append`: the store, then the count, which can rise since the store was not too long.
use Rattle.std.proofs.lemmas.Result.{err_from_is_err_and}
use Rattle.base.proofs.Tells.{number-ne}
use mathlib.Core.Path.{refl}
use mathlib.Core.Path.{◌∙◌}
use Rattle.base.proofs.Outs.{went-is}
use Rattle.folders.proofs.Folders.{put-slot-short, append-stop, append-done}
use Rattle.folders.proofs.States.{blocked}
use borrow.Author.Rules.{rules}
use native.Mathlib.Omega.{arith}
use Rattle.folders.proofs.dirent_append.Goals as goal

pub returns-in_err-put_slot : goal.returns-in_err-put_slot
returns-in_err-put_slot c =
    let p = err_from_is_err_and c.from_residual.result c.from_residual.ensures.1 in
    rw (p.1, p.2) (append-stop _ _ _ _ _ c.args.i _ _ _ (λ j. search rules) c.requires.1.1.1 (c.index.ensures ∙ c.blocks_at-total.ensures) (number-ne c.in_err-put_slot.field-0.0) c.in_err-put_slot.ensures)

pub overflow_add-total : goal.overflow_add-total
overflow_add-total c =
    omega (arith, put-slot-short _ _ _ c.args.i _ _ _ c.requires.1.1.1 (went-is c.in_ok-put_slot.ensures refl), c.index.ensures)

pub returns : goal.returns
returns c =
    append-done _ _ _ _ _ c.args.i _ _ c.blocks_at-total.result _ (λ j. search rules) c.requires.1.1.1 c.blocks_at-total.ensures c.index.ensures refl c.in_ok-put_slot.ensures (blocked c.set_blocks.ensures)
