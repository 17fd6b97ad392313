-- `calls_write::write_row`: the bytes, then length and size where the end is above the size.
use mathlib.Core.Path.{ap}
use native.Mathlib.Omega.{arith}
use Rattle.structs.specs.declared.DiskINode.{DiskINode}
use Rattle.calls_write.proofs.Writes.{put-reached, wrote-inside, wrote-past}
use borrow.Author.Rules.{rules}
use Rattle.calls_write.proofs.write_row.Goals as goal

pub put_blocks-requires : goal.put_blocks-requires
put_blocks-requires c =
    let R = c.requires.1.0 in
    record { src_bound = rw c.rec_at-rec.ensures (R.range, (R.exists, R.head)); planned = rw c.rec_at-rec.ensures c.requires.1.1 }

pub returns-then-end-rec : goal.returns-then-end-rec
returns-then-end-rec c =
    wrote-inside c.args.arena.now _ c.args.mem.now c.args.i c.args.k c.args.pos c.args.src.now c.requires.1.0 (rw c.rec_at-rec.ensures at c.put_blocks.ensures) (omega (arith, c.if-end-rec.true, ap (λ (r : DiskINode). r.size) c.rec_at-rec.ensures))

pub set_size-requires : goal.set_size-requires
set_size-requires c =
    (c.requires.0, put-reached c.args.arena.now _ c.args.mem.now c.args.i c.args.k c.args.pos c.args.src.now c.requires.1.0 (rw c.rec_at-rec.ensures at c.put_blocks.ensures) (λ j. search rules) (λ j. search rules))

pub returns : goal.returns
returns c =
    wrote-past c.args.arena.now _ c.args.mem.now c.args.i c.args.k c.args.pos c.args.src.now c.requires.1.0 (rw c.rec_at-rec.ensures at c.put_blocks.ensures) _ _ (omega (arith, c.if-end-rec.false, ap (λ (r : DiskINode). r.size) c.rec_at-rec.ensures)) c.set_size.ensures
