-- `list_slots::list_in`: the questions, then the slots.
use mathlib.Core.Path.{◌≡◌, refl, sym, ap}
use Prim.Native.Nat.{◌-◌, ◌*◌, ◌/◌, min}
use native.Mathlib.Omega.{arith}
use lib.ListN.{length}
use Rattle.std.proofs.lemmas.Result.{err_from_is_err_and}
use Rattle.base.specs.Told.{code}
use Rattle.base.proofs.Tells.{number-ne}
use Rattle.calls.specs.Answers.{listed_of, laid, Laid}
use Rattle.calls.proofs.Outputs.{laid_out, laid-not}
use Rattle.list_slots.proofs.Listings.{laid-listed, list-in-stop, list-in-next}
use Rattle.list_slots.specs.List.{list_in}
use Rattle.list_slots.proofs.list_in.Goals as goal
use Rattle.list_slots.proofs.list_in.Goals.{After-list_some}

pub returns-in_err-list_ask : goal.returns-in_err-list_ask
returns-in_err-list_ask c =
    let s = c.args in
    let e = list-in-stop s.arena.now s.rec s.at _ _ c.in_err-list_ask.ensures (number-ne c.in_err-list_ask.field-0.0) in
    let p = err_from_is_err_and c.from_residual.result c.from_residual.ensures.1 in
    rw (p.1, p.2) (sym (ap listed_of e), sym (ap (laid s.out.now) e))

-- the slots, once the questions were answered
slots : (c : After-list_some) → Laid (list_in c.args.arena.now c.args.rec c.args.at (length c.args.out.now)) c.args.out.now c.list_some.new.out (264 * c.least-n.result) (code c.list_some.result)
slots c =
    let s = c.args in
    let m = c.least-n.result in
    let q : m ≡ min (s.rec.blocks - s.at) (length s.out.now / 264) = omega (arith, c.least-n.ensures, c.slots_left-left.ensures, c.long.ensures.0) in
    list-in-next s.arena.now s.rec s.at (length s.out.now) _ c.in_ok-list_ask.ensures m refl q c.list_some.ensures

pub returns-in_err-list_some : goal.returns-in_err-list_some
returns-in_err-list_some c =
    let L = rw c.in_err-list_some.was at (slots (goal.at.returns-in_err-list_some c).After-list_some) in
    let p = err_from_is_err_and c.from_residual-in_err-list_some.result c.from_residual-in_err-list_some.ensures.1 in
    rw (p.1, p.2) (sym (ap listed_of (laid-not L (number-ne c.in_err-list_some.field-0.0))), laid_out L)

pub returns : goal.returns
returns c =
    let L = rw c.in_ok-list_some.was at (slots (goal.at.returns c).After-list_some) in
    (laid-listed c.least-n.result refl L, laid_out L)
