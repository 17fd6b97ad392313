-- `calls_fallocate::collapse_row`: what lies after the range comes to its start; then length and size.
use Prim.Native.Nat.{◌+◌, ◌-◌}
use native.Mathlib.Omega.{arith}
use Rattle.le.specs.Le.{Bytes}
use Rattle.calls_fallocate.proofs.Rows.{taken-remains, remains-reached, supplied-known, collapsed}
use borrow.Author.Rules.{rules}
use Rattle.calls_fallocate.proofs.collapse_row.Goals as goal

pub take_out-requires : goal.take_out-requires
take_out-requires c =
    supplied-known _ c.rec_at-rec.ensures c.requires.1

pub overflow_sub-size : goal.overflow_sub-size
overflow_sub-size c =
    omega (arith, (supplied-known _ c.rec_at-rec.ensures c.requires.1).1.0)

pub set_size-requires : goal.set_size-requires
set_size-requires c =
    let P = supplied-known _ c.rec_at-rec.ensures c.requires.1 in
    let B : Bytes c.args.arena.now = λ j. search rules in
    let M = taken-remains _ _ B c.requires.1.reached.fine c.args.from c.args.len (c.rec_at-rec.result.size - (c.args.from + c.args.len)) _ c.take_out.ensures in
    (c.requires.0, remains-reached _ _ c.rec_at-rec.ensures c.requires.1.reached M (omega (arith, P.1.0, P.1.1)))

pub returns : goal.returns
returns c =
    collapsed _ _ c.args.mem.now c.args.i c.args.from c.args.len _ c.rec_at-rec.ensures _ _
    c.take_out.ensures c.set_size.ensures
