-- `calls_fallocate::zero_row`: the zeros, then length and size where the end is above the size.
use Rattle.le.specs.Le.{Bytes}
use Rattle.calls_fallocate.proofs.Rows.{zeros-remain, remains-reached, zeroed}
use borrow.Author.Rules.{rules}
use Rattle.calls_fallocate.proofs.zero_row.Goals as goal

pub put_zeros-requires : goal.put_zeros-requires
put_zeros-requires c =
    let R = c.requires.1.0 in record { n_bound = rw c.rec_at-rec.ensures (R.range, (R.exists, R.head)); planned = rw c.rec_at-rec.ensures c.requires.1.1 }

pub grow_row-requires : goal.grow_row-requires
grow_row-requires c =
    let B : Bytes c.args.arena.now = λ j. search rules in
    let M = zeros-remain _ _ B c.requires.1.0.fine c.args.from c.args.len _ c.put_zeros.ensures in
    (c.requires.0, remains-reached _ _ c.rec_at-rec.ensures c.requires.1.0 M c.requires.1.0.range)

pub returns : goal.returns
returns c =
    zeroed _ _ c.args.mem.now c.args.i c.args.from c.args.len _ c.rec_at-rec.ensures _ _
    c.put_zeros.ensures c.grow_row.ensures
