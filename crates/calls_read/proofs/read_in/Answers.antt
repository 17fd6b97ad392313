-- `calls_read::read_in`: the type, then the bytes.
use mathlib.Core.Path.{refl, sym, ap}
use lib.ListN.{length}
use Rattle.std.proofs.lemmas.Result.{err_from_is_err_and}
use Rattle.base.proofs.Tells.{number-ne}
use Rattle.calls.specs.Answers.{taken_of}
use Rattle.calls.proofs.Outputs.{laid_out, laid-not, lays-not}
use Rattle.calls_read.proofs.Bytes.{laid-taken, read-in-stop, read-in-next}
use Rattle.calls_read.proofs.read_in.Goals as goal

pub returns-in_err-has_contents : goal.returns-in_err-has_contents
returns-in_err-has_contents c =
    let s = c.args in
    let e = c.in_err-has_contents.field-0.0 in
    let p = err_from_is_err_and c.from_residual.result c.from_residual.ensures.1 in
    rw (p.1, p.2) (lays-not e s.out.now s.out.now (read-in-stop s.arena.now s.rec s.place (length s.out.now) _ c.in_err-has_contents.ensures (number-ne e)) refl)

pub returns-in_err-read_bytes : goal.returns-in_err-read_bytes
returns-in_err-read_bytes c =
    let s = c.args in
    let e = c.in_err-read_bytes.field-0.0 in
    let o = read-in-next s.arena.now s.rec s.place (length s.out.now) _ c.in_ok-has_contents.ensures c.count-n.result refl c.count-n.ensures.0 in
    let L = rw o at c.in_err-read_bytes.ensures in
    let p = err_from_is_err_and c.from_residual-in_err-read_bytes.result c.from_residual-in_err-read_bytes.ensures.1 in
    rw (p.1, p.2) (sym (ap taken_of (laid-not L (number-ne e))), laid_out L)

pub returns : goal.returns
returns c =
    let s = c.args in
    let o = read-in-next s.arena.now s.rec s.place (length s.out.now) _ c.in_ok-has_contents.ensures c.count-n.result refl c.count-n.ensures.0 in
    let L = rw o at c.in_ok-read_bytes.ensures in
    (laid-taken L, laid_out L)
