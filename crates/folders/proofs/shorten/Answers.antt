-- `folders::shorten`: the cut, then the count.
use Rattle.std.proofs.lemmas.Result.{err_from_is_err_and}
use Rattle.base.proofs.Tells.{number-ne}
use mathlib.Core.Path.{refl}
use mathlib.Core.Path.{◌∙◌, ap}
use Prim.Native.Nat.{ℕ, ◌-◌}
use Rattle.folders.proofs.Folders.{short-stop, short-done}
use Rattle.folders.proofs.States.{blocked}
use native.Mathlib.Omega.{arith}
use Rattle.folders.proofs.shorten.Goals as goal

pub overflow_sub-last : goal.overflow_sub-last
overflow_sub-last c =
    omega (arith, c.blocks_at-last.ensures, c.requires.1.1.1)

pub cut-requires : goal.cut-requires
cut-requires c = record { fine = (c.requires.0.fine, c.requires.1.0); name_len = c.file_at.ensures.1 }

pub returns-in_err-cut : goal.returns-in_err-cut
returns-in_err-cut c =
    let p = err_from_is_err_and c.from_residual.result c.from_residual.ensures.1 in
    rw (p.1, p.2) (short-stop _ _ _ _ _ c.args.i _ _ _ c.file_at.ensures.0 (c.index.ensures ∙ ap (λ (n : ℕ). n - 1) c.blocks_at-last.ensures) (number-ne c.in_err-cut.field-0.0) c.in_err-cut.ensures)

pub returns : goal.returns
returns c =
    short-done _ _ _ _ _ c.args.i _ _ (c.blocks_at-last.result - 1) _ c.file_at.ensures.0 (ap (λ (n : ℕ). n - 1) c.blocks_at-last.ensures) c.index.ensures refl c.in_ok-cut.ensures (blocked c.set_blocks.ensures)
