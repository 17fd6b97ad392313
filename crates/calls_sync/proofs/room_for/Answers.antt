-- `calls_sync::room_for`: what put asks, in its order.
use mathlib.Core.Path.{refl}
use Rattle.calls_sync.proofs.Rooms.{room-missing, room-far, room-full, room_fits}
use Rattle.calls_sync.proofs.room_for.Goals as goal

pub returns-then-not-there : goal.returns-then-not-there
returns-then-not-there c =
    room-missing _ _ c.requires _ c.there.ensures c.args.id c.args.from c.args.free c.if-not-there.true

pub returns-then-pos-gt4294967295 : goal.returns-then-pos-gt4294967295
returns-then-pos-gt4294967295 c =
    room-far _ _ c.requires _ c.there.ensures c.args.id c.args.from c.args.free c.if-not-there.false _ c.index-pos.ensures c.if-pos-gt4294967295.true

pub returns-then-n-free : goal.returns-then-n-free
returns-then-n-free c =
    room-full _ _ c.requires _ c.there.ensures c.args.id c.args.from c.args.free c.if-not-there.false _ c.index-pos.ensures _ c.needs-n.ensures c.if-n-free.true

pub returns : goal.returns
returns c =
    room_fits _ _ c.requires _ c.there.ensures c.args.id c.args.from c.args.free c.if-not-there.false _ c.index-pos.ensures _ c.needs-n.ensures _ _ c.if-pos-gt4294967295.false c.if-n-free.false refl refl
