-- `list_slots::list_ask`: question after question.
use Rattle.std.proofs.lemmas.Result.{err_from_is_err_and}
use Rattle.base.proofs.Tells.{number-ne}
use mathlib.Core.Path.{refl}
use mathlib.Core.Path.{sym, ◌∙◌, ap}
use mathlib.Core.Bool.{not, ◌&&◌}
use Prim.Native.Nat.{ℕ}
use lib.Dec.{ltb}
use Rattle.calls.proofs.Asks.{ensure-done, ensure-not}
use Rattle.list_slots.proofs.Listings.{list-ask-stop, list-ask-room}
use Rattle.list_slots.proofs.list_ask.Goals as goal

pub returns-in_err-readable : goal.returns-in_err-readable
returns-in_err-readable c =
    let p = err_from_is_err_and c.from_residual.result c.from_residual.ensures.1 in
    rw (p.1, p.2) (list-ask-stop c.args.rec _ c.in_err-readable.ensures _ _ (number-ne c.in_err-readable.field-0.0))

pub returns-then-next-long : goal.returns-then-next-long
returns-then-next-long c =
    let s = c.args in
    ensure-not 20 (ap not (ap (λ (x : ℕ). ltb s.next x && ltb s.room 264) (sym c.long.ensures.0) ∙ c.if-next-long.true))
    ∙ list-ask-room s.rec _ c.in_ok-readable.ensures s.next s.room refl

pub returns : goal.returns
returns c =
    let s = c.args in
    ensure-done 20 (ap not (ap (λ (x : ℕ). ltb s.next x && ltb s.room 264) (sym c.long.ensures.0) ∙ c.if-next-long.false))
    ∙ list-ask-room s.rec _ c.in_ok-readable.ensures s.next s.room refl
