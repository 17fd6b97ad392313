-- `calls_path::path_in`: what the first pass says, and then the names.
use mathlib.Core.Path.{refl}
use Rattle.std.proofs.lemmas.Result.{err_from_is_err_and}
use Rattle.base.proofs.Tells.{number-ne}
use Rattle.mem.specs.State.{fs_at}
use Rattle.calls_path.proofs.Answers.{in-stuck, in-root, in-full, in-written, path-fits}
use Rattle.calls_path.proofs.path_in.Goals as goal

pub returns-in_err-m : goal.returns-in_err-m
returns-in_err-m c =
    let s = c.args in
    let e = c.in_err-m.field-0.0 in
    let p = err_from_is_err_and c.from_residual.result c.from_residual.ensures.1 in
    rw (p.1, p.2) (in-stuck (fs_at s.arena.now s.mem.now) s.x s.rec s.out.now e (c.in_err-m.ensures.sticks (number-ne e)))

pub returns-then-m-eq0 : goal.returns-then-m-eq0
returns-then-m-eq0 c =
    let s = c.args in
    let counted = c.in_ok-m.ensures.counts refl in
    in-root (fs_at s.arena.now s.mem.now) s.x s.rec s.out.now counted c.if-m-eq0.true _ c.write_root.ensures

pub returns-then-m-out : goal.returns-then-m-out
returns-then-m-out c =
    let s = c.args in
    let counted = c.in_ok-m.ensures.counts refl in
    in-full (fs_at s.arena.now s.mem.now) s.x s.rec s.out.now counted c.if-m-eq0.false c.if-m-out.true

pub write_path-requires : goal.write_path-requires
write_path-requires c =
    let p = c.requires in
    let counted = c.in_ok-m.ensures.counts refl in record { led = p.led; whole = (p.whole, refl); path_fits = path-fits counted c.if-m-out.false }

pub returns : goal.returns
returns c =
    let s = c.args in
    let counted = c.in_ok-m.ensures.counts refl in
    in-written (fs_at s.arena.now s.mem.now) s.x s.rec s.out.now counted c.if-m-eq0.false c.if-m-out.false c.write_path.ensures
