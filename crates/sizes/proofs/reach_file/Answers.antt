-- `sizes::reach_file`: the handle, the record, the head.
use Rattle.std.proofs.lemmas.Result.{err_from_is_err_and}
use Rattle.base.proofs.Tells.{number-ne}
use mathlib.Core.Path.{refl}
use Prim.Native.Nat.{◌+◌}
use Rattle.base.proofs.Outs.{went-has}
use Rattle.mem.specs.Mem.{table_in}
use Rattle.calls.proofs.Asks.{admitted}
use Rattle.sizes.proofs.Asked.{end-handle, end-record, end-missing, end-reached}
use Rattle.sizes.proofs.reach_file.Goals as goal

pub returns-in_err-row : goal.returns-in_err-row
returns-in_err-row c =
    let p = err_from_is_err_and c.from_residual.result c.from_residual.ensures.1 in
    rw (p.1, p.2) (end-handle c.args.arena.now (table_in c.args.mem.now) c.args.who c.args.h (c.args.place + c.args.n) (admitted c.requires) c.in_err-row.ensures _ _ (number-ne c.in_err-row.field-0.0))

pub rec_at-rec-requires : goal.rec_at-rec-requires
rec_at-rec-requires c = (c.requires.whole, went-has c.in_ok-row.ensures refl)

pub returns-in_err-ask_record : goal.returns-in_err-ask_record
returns-in_err-ask_record c =
    let p = err_from_is_err_and c.from_residual-in_err-ask_record.result c.from_residual-in_err-ask_record.ensures.1 in
    rw (p.1, p.2) (end-record c.args.arena.now (table_in c.args.mem.now) c.args.who c.args.h (c.args.place + c.args.n) (admitted c.requires) c.in_ok-row.ensures _ c.rec_at-rec.ensures _ c.in_err-ask_record.ensures refl _ _ (number-ne c.in_err-ask_record.field-0.0))

pub returns-then-c-eq0 : goal.returns-then-c-eq0
returns-then-c-eq0 c =
    end-missing c.args.arena.now (table_in c.args.mem.now) c.args.who c.args.h (c.args.place + c.args.n) (admitted c.requires) c.in_ok-row.ensures _ c.rec_at-rec.ensures _ c.in_ok-ask_record.ensures refl _ _ _ refl c.head_at-c.ensures c.if-c-eq0.true

pub returns : goal.returns
returns c =
    end-reached c.args.arena.now (table_in c.args.mem.now) c.args.who c.args.h (c.args.place + c.args.n) (admitted c.requires) c.in_ok-row.ensures _ c.rec_at-rec.ensures _ c.in_ok-ask_record.ensures refl _ c.requires.led.fine refl c.head_at-c.ensures c.if-c-eq0.false
