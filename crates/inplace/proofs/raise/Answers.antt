-- `inplace::raise`: one test, then the length.
use mathlib.Core.Path.{◌≡◌}
use native.Mathlib.Omega.{arith}
use borrow.Author.Tests.{lt-ltb, le-ltb}
use Rattle.arena.specs.Blocks.{blk}
use Rattle.arena.specs.Fields.{number_of}
use Rattle.inplace.proofs.raise.Goals as goal

pub returns-then-u32_at-len : goal.returns-then-u32_at-len
unfolding blk
returns-then-u32_at-len c =
    let q : c.u32_at.result ≡ number_of (blk c.args.arena.now c.args.k) = c.u32_at.ensures in
    rw (le-ltb (number_of (blk c.args.arena.now c.args.k)) c.args.len (omega (arith, c.if-u32_at-len.true)))

pub returns : goal.returns
unfolding blk
returns c =
    let q : c.u32_at.result ≡ number_of (blk c.args.arena.now c.args.k) = c.u32_at.ensures in
    rw (lt-ltb (number_of (blk c.args.arena.now c.args.k)) c.args.len (omega (arith, c.if-u32_at-len.false))) c.set_length.ensures
