-- `calls_create::create_asks`: question after question.
use Rattle.std.proofs.lemmas.Result.{err_from_is_err_and}
use Rattle.base.proofs.Tells.{number-ne}
use mathlib.Core.Path.{refl}
use Rattle.table.specs.Table.{can_hold}
use Rattle.mem.specs.Mem.{table_in}
use Rattle.calls_create.proofs.Creates.{work-ask, work-free}
use Rattle.mem.specs.State.{fs_at}
use Rattle.calls_create.proofs.create_asks.Goals as goal

pub returns-in_err-create_ask : goal.returns-in_err-create_ask
returns-in_err-create_ask c =
    let p = err_from_is_err_and c.from_residual.result c.from_residual.ensures.1 in
    rw (p.1, p.2) (work-ask (fs_at c.args.arena.now c.args.mem.now) c.args.i c.args.name.now c.args.new.kind c.args.new.mode c.args.new.time c.args.new.file _ c.rec_at-rec.ensures c.in_err-create_ask.ensures _ (number-ne c.in_err-create_ask.field-0.0))

pub returns : goal.returns
returns c =
    work-free (fs_at c.args.arena.now c.args.mem.now) c.args.i c.args.name.now c.args.new.kind c.args.new.mode c.args.new.time c.args.new.file _ c.rec_at-rec.ensures c.in_ok-create_ask.ensures {room = can_hold (table_in c.args.mem.now) c.args.who} refl c.can_hold-room.ensures c.create_free.ensures
