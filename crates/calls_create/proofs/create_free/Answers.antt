-- `calls_create::create_free`: question after question.
use Rattle.std.proofs.lemmas.Result.{err_from_is_err_and}
use Rattle.base.proofs.Tells.{number-ne}
use mathlib.Core.Path.{refl}
use Rattle.calls_create.proofs.Creates.{free-slot, free-taken, free-links, free-full, free-done}
use Rattle.calls_create.proofs.create_free.Goals as goal

pub returns-in_err-no_slot : goal.returns-in_err-no_slot
returns-in_err-no_slot c =
    let p = err_from_is_err_and c.from_residual.result c.from_residual.ensures.1 in
    rw (p.1, p.2) (free-slot c.args.arena.now c.args.rec c.args.name.now c.args.kind c.args.file c.args.room c.in_err-no_slot.ensures (number-ne c.in_err-no_slot.field-0.0))

pub returns-then-exists : goal.returns-then-exists
returns-then-exists c =
    free-taken c.args.arena.now c.args.rec c.args.name.now c.args.kind c.args.file c.args.room c.in_ok-no_slot.ensures refl _ c.exists.ensures c.if-exists.true

pub returns-then-kind-rec : goal.returns-then-kind-rec
returns-then-kind-rec c =
    free-links c.args.arena.now c.args.rec c.args.name.now c.args.kind c.args.file c.args.room c.in_ok-no_slot.ensures refl _ c.exists.ensures c.if-exists.false c.if-kind-rec.true

pub returns-then-not-room : goal.returns-then-not-room
returns-then-not-room c =
    free-full c.args.arena.now c.args.rec c.args.name.now c.args.kind c.args.file c.args.room c.in_ok-no_slot.ensures refl _ c.exists.ensures c.if-exists.false c.if-kind-rec.false c.if-not-room.true

pub returns : goal.returns
returns c =
    free-done c.args.arena.now c.args.rec c.args.name.now c.args.kind c.args.file c.args.room c.in_ok-no_slot.ensures refl _ c.exists.ensures c.if-exists.false c.if-kind-rec.false c.if-not-room.false
