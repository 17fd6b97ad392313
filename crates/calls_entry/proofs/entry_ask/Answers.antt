-- `calls_entry::entry_ask`: question after question.
use Rattle.std.proofs.lemmas.Result.{err_from_is_err_and}
use Rattle.base.proofs.Tells.{number-ne}
use mathlib.Core.Path.{refl}
use mathlib.Core.Path.{◌∙◌}
use Prim.Native.Nat.{◌<◌, ◌≤◌}
use native.Mathlib.Omega.{arith}
use borrow.Author.Tests.{lt-ltb, le-ltb, lt-leb, le-leb}
use Rattle.calls.proofs.Asks.{ensure-done, ensure-not}
use Rattle.calls_entry.proofs.Entries.{entry-stop, entry_past, entry-room}
use Rattle.calls_entry.proofs.entry_ask.Goals as goal

pub returns-in_err-readable : goal.returns-in_err-readable
returns-in_err-readable c =
    let p = err_from_is_err_and c.from_residual.result c.from_residual.ensures.1 in
    rw (p.1, p.2) (entry-stop c.args.rec _ c.in_err-readable.ensures _ _ (number-ne c.in_err-readable.field-0.0))

pub returns-then-k-long : goal.returns-then-k-long
returns-then-k-long c =
    let s = c.args in
    entry_past s.rec _ c.in_ok-readable.ensures s.k s.room refl (le-ltb _ _ (let h : s.rec.blocks ≤ s.k = omega (arith, c.long.ensures.0, c.if-k-long.true) in h))

pub returns-then-room-lt264 : goal.returns-then-room-lt264
returns-then-room-lt264 c =
    let s = c.args in
    ensure-not 20 (lt-leb _ _ c.if-room-lt264.true)
    ∙ entry-room s.rec _ c.in_ok-readable.ensures s.k s.room refl (lt-ltb _ _ (let h : s.k < s.rec.blocks = omega (arith, c.long.ensures.0, c.if-k-long.false) in h))

pub returns : goal.returns
returns c =
    let s = c.args in
    ensure-done 20 (le-leb _ _ c.if-room-lt264.false)
    ∙ entry-room s.rec _ c.in_ok-readable.ensures s.k s.room refl (lt-ltb _ _ (let h : s.k < s.rec.blocks = omega (arith, c.long.ensures.0, c.if-k-long.false) in h))
