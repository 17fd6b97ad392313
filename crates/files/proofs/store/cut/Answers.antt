-- `files::store::cut`: the definition's cases; its three steps in a row.
use native.Mathlib.Omega.{arith}
use Rattle.arena.specs.Fields.{file}
use Rattle.files.proofs.Finds.{there-yes, there-no}
use Rattle.files.proofs.Clears.{cut-missing, cut-long, cut-done}
use Rattle.files.proofs.store.cut.Goals as goal

pub returns-then-k-arena : goal.returns-then-k-arena
returns-then-k-arena c =
    cut-missing _ _ (file c.args.which c.args.name.now) _ c.args.len (there-no _ _ c.requires.fine.0 (file c.args.which c.args.name.now) _ c.find_head-k.ensures c.if-k-arena.true)

pub returns-then-len-gt4294967295 : goal.returns-then-len-gt4294967295
returns-then-len-gt4294967295 c =
    cut-long _ _ (file c.args.which c.args.name.now) _ c.args.len (there-yes _ _ c.requires.fine.0 (file c.args.which c.args.name.now) _ c.find_head-k.ensures c.if-k-arena.false) c.if-len-gt4294967295.true

pub zero_tail-requires : goal.zero_tail-requires
zero_tail-requires c =
    let d = c.free_blocks.ensures in record { fine = (d.fine, omega (arith, d.room, c.set_length.ensures.room)); name_len = (c.requires.name_len, c.if-len-gt4294967295.false) }

pub returns : goal.returns
returns c =
    cut-done _ _ (file c.args.which c.args.name.now) _ _ _ _ c.args.len (there-yes _ _ c.requires.fine.0 (file c.args.which c.args.name.now) _ c.find_head-k.ensures c.if-k-arena.false) c.if-len-gt4294967295.false c.find_head-k.ensures c.set_length.ensures c.free_blocks.ensures c.zero_tail.ensures
