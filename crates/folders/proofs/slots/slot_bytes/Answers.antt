-- `folders::slots::slot_bytes`: the read, then the test of the type.
use Rattle.std.proofs.lemmas.Result.{err_from_is_err_and}
use Rattle.base.proofs.Tells.{number-ne}
use mathlib.Core.Path.{refl}
use Prim.Native.Nat.{◌*◌}
use Rattle.arena.specs.Fields.{file}
use Rattle.table.specs.Table.{row_at}
use Rattle.mem.specs.Mem.{table_in}
use Rattle.chains.proofs.Lookups.{bytes-stop, bytes-stuck, bytes-done}
use Rattle.folders.proofs.Common.{read-went, read-in}
use native.Mathlib.Omega.{arith}
use Rattle.folders.proofs.slots.slot_bytes.Goals as goal

pub read-requires : goal.read-requires
read-requires c =
    (c.requires.0.fine, c.file_at.ensures.1)

pub returns-in_err-read : goal.returns-in_err-read
returns-in_err-read c =
    let p = err_from_is_err_and c.from_residual.result c.from_residual.ensures.1 in
    rw (p.1, p.2) (bytes-stop _ (row_at (table_in c.args.mem.now) c.args.i).rec c.args.k _ _ (number-ne c.in_err-read.field-0.0) (read-in _ (264 * c.args.k) (row_at (table_in c.args.mem.now) c.args.i).rec c.file_at.ensures.0 (read-went _ (file 1 c.file_at.result.now) (264 * c.args.k) c.args.slot.now _ _ c.requires.1.1.1 c.in_err-read.ensures.value c.in_err-read.ensures.out_after)))

pub returns-then-u32_at-gt4 : goal.returns-then-u32_at-gt4
returns-then-u32_at-gt4 c =
    bytes-stuck _ (row_at (table_in c.args.mem.now) c.args.i).rec c.args.k _ _ (read-in _ (264 * c.args.k) (row_at (table_in c.args.mem.now) c.args.i).rec c.file_at.ensures.0 (read-went _ (file 1 c.file_at.result.now) (264 * c.args.k) c.args.slot.now _ _ c.requires.1.1.1 c.in_ok-read.ensures.value c.in_ok-read.ensures.out_after)) refl (omega (arith, c.u32_at.ensures, c.if-u32_at-gt4.true))

pub returns : goal.returns
returns c =
    bytes-done _ (row_at (table_in c.args.mem.now) c.args.i).rec c.args.k (read-in _ (264 * c.args.k) (row_at (table_in c.args.mem.now) c.args.i).rec c.file_at.ensures.0 (read-went _ (file 1 c.file_at.result.now) (264 * c.args.k) c.args.slot.now _ _ c.requires.1.1.1 c.in_ok-read.ensures.value c.in_ok-read.ensures.out_after)) refl (omega (arith, c.u32_at.ensures, c.if-u32_at-gt4.false))
