-- `files::store::put_blocks`: one block, or two.
use Rattle.std.proofs.lemmas.Result.{err_from_is_err_and}
use Rattle.base.proofs.Tells.{number-ne}
use mathlib.Core.Path.{refl}
use mathlib.Core.List.{List}
use Prim.Native.Nat.{ℕ, ◌+◌, ◌-◌, ◌/◌}
use native.Mathlib.Omega.{arith}
use lib.ListN.{length}
use lib.Dec.{ltb}
use borrow.Author.Tests.{lt-ltb, le-ltb}
use Rattle.base.specs.Out.{Out, done}
use Rattle.base.specs.Search.{pick}
use Rattle.arena.specs.Fields.{File, file}
use Rattle.overlay.specs.View.{view}
use Rattle.overlay.proofs.Chains.{did-well, did-next, did-stop}
use Rattle.files.specs.Store.{put_block, touched}
use Rattle.files.proofs.Puts.{did-end, touched-first, touched-last}
use Rattle.files.proofs.store.put_blocks.Goals as goal

-- the last block, where it is not the first
abbrev last_block : File → ℕ → List ℕ → List ℕ → Out (List ℕ)
last_block f pos src d = pick (ltb (pos / 480) ((pos + length src - 1) / 480)) (put_block d f pos src ((pos + length src - 1) / 480)) (done d)

pub put_block-requires : goal.put_block-requires
put_block-requires c = record { fine = (c.requires.fine.0, omega (arith, touched-first c.args.pos (length c.args.src.now) c.requires.name_len.1.1.0)); name_len = (c.requires.name_len.0, (c.requires.name_len.1.0, (omega arith, omega arith))) }

pub returns-in_err-put_block : goal.returns-in_err-put_block
returns-in_err-put_block c =
    let p = err_from_is_err_and c.from_residual.result c.from_residual.ensures.1 in
    rw (p.1, p.2) (let f = file c.args.which c.args.name.now in
    let o = put_block (view c.args.arena.now c.args.work.now) f c.args.pos c.args.src.now (c.args.pos / 480) in
    did-stop {o = o} (last_block f c.args.pos c.args.src.now) _ (touched c.args.pos (length c.args.src.now)) (number-ne c.in_err-put_block.field-0.0) c.in_err-put_block.ensures)

pub returns-then-first-last : goal.returns-then-first-last
returns-then-first-last c =
    let f = file c.args.which c.args.name.now in
    let o = put_block (view c.args.arena.now c.args.work.now) f c.args.pos c.args.src.now (c.args.pos / 480) in
    let W = did-well {o = o} c.in_ok-put_block.ensures refl in
    did-end {o = o} (last_block f c.args.pos c.args.src.now) (touched c.args.pos (length c.args.src.now)) W (touched-first _ _ c.requires.name_len.1.1.0) (rw (le-ltb _ _ c.if-first-last.true) refl)

pub put_block-requires-2 : goal.put_block-requires-2
put_block-requires-2 c =
    let f = file c.args.which c.args.name.now in
    let o = put_block (view c.args.arena.now c.args.work.now) f c.args.pos c.args.src.now (c.args.pos / 480) in
    let W = did-well {o = o} c.in_ok-put_block.ensures refl in record { fine = (W.fine, omega (arith, W.room, touched-last c.args.pos (length c.args.src.now) c.requires.name_len.1.1.0 c.if-first-last.false)); name_len = (c.requires.name_len.0, (c.requires.name_len.1.0, (omega arith, omega arith))) }

pub returns : goal.returns
returns c =
    let f = file c.args.which c.args.name.now in
    let o = put_block (view c.args.arena.now c.args.work.now) f c.args.pos c.args.src.now (c.args.pos / 480) in
    let W = did-well {o = o} c.in_ok-put_block.ensures refl in
    did-next {o = o} {n = 1} (last_block f c.args.pos c.args.src.now) (touched c.args.pos (length c.args.src.now)) W (touched-last _ _ c.requires.name_len.1.1.0 c.if-first-last.false) (rw (lt-ltb _ _ c.if-first-last.false) c.put_block-2.ensures)
