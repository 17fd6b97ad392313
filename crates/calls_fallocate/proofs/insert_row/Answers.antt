-- `calls_fallocate::insert_row`: the hole; then length and size.
use Prim.Native.Nat.{◌-◌}
use native.Mathlib.Omega.{arith}
use Rattle.le.specs.Le.{Bytes}
use Rattle.calls_fallocate.proofs.Rows.{put-remains, remains-reached, supplied-known, inserted}
use borrow.Author.Rules.{rules}
use Rattle.calls_fallocate.proofs.insert_row.Goals as goal

pub put_in-requires : goal.put_in-requires
put_in-requires c =
    supplied-known _ c.rec_at-rec.ensures c.requires.1

pub overflow_add-size : goal.overflow_add-size
overflow_add-size c =
    omega (arith, (supplied-known _ c.rec_at-rec.ensures c.requires.1).1.1)

pub set_size-requires : goal.set_size-requires
set_size-requires c =
    let P = supplied-known _ c.rec_at-rec.ensures c.requires.1 in
    let B : Bytes c.args.arena.now = λ j. search rules in
    let M = put-remains _ _ B c.requires.1.reached.fine c.args.from c.args.len (c.rec_at-rec.result.size - c.args.from) _ c.put_in.ensures in
    (c.requires.0, remains-reached _ _ c.rec_at-rec.ensures c.requires.1.reached M P.1.1)

pub returns : goal.returns
returns c =
    inserted _ _ c.args.mem.now c.args.i c.args.from c.args.len _ c.rec_at-rec.ensures _ _
    c.put_in.ensures c.set_size.ensures
