-- `calls_fallocate::fallocate_led`: the handle, the record, whether there is anything to do, the head, and the decision.
use Rattle.std.proofs.lemmas.Result.{err_from_is_err_and}
use Rattle.base.proofs.Tells.{number-ne}
use mathlib.Core.Path.{refl}
use mathlib.Core.Path.{ap}
use mathlib.Core.Bool.{not}
use native.Mathlib.Omega.{arith}
use Rattle.base.proofs.Outs.{went-has}
use Rattle.le.specs.Le.{Bytes}
use Rattle.mem.specs.Mem.{table_in}
use Rattle.calls.proofs.Asks.{admitted}
use Rattle.calls_fallocate.proofs.Questions.{ranged-off, ranged-idle, ranged-on, call-handle, call-record, asked_of, fits, looking, missing, found, call-idle, call-missing, call-refused, call-goes}
use borrow.Author.Rules.{rules}
use Rattle.calls_fallocate.proofs.fallocate_led.Goals as goal

pub returns-in_err-row : goal.returns-in_err-row
returns-in_err-row c =
    let p = err_from_is_err_and c.from_residual.result c.from_residual.ensures.1 in
    rw (p.1, p.2) (ranged-off _ _ (number-ne c.in_err-row.field-0.0)
    (call-handle c.args.arena.now (table_in c.args.mem.now) c.args.who c.args.h c.args.mode c.args.from c.args.len (admitted c.requires.admitted) c.in_err-row.ensures (number-ne c.in_err-row.field-0.0)))

pub rec_at-rec-requires : goal.rec_at-rec-requires
rec_at-rec-requires c = (c.requires.admitted.whole, went-has c.in_ok-row.ensures refl)

pub returns-in_err-ask_record : goal.returns-in_err-ask_record
returns-in_err-ask_record c =
    let p = err_from_is_err_and c.from_residual-in_err-ask_record.result c.from_residual-in_err-ask_record.ensures.1 in
    rw (p.1, p.2) (ranged-off _ _ (number-ne c.in_err-ask_record.field-0.0)
    (call-record c.args.arena.now (table_in c.args.mem.now) c.args.who c.args.h c.args.mode c.args.from c.args.len
    (admitted c.requires.admitted) c.in_ok-row.ensures _ c.rec_at-rec.ensures _ c.in_err-ask_record.ensures refl (number-ne c.in_err-ask_record.field-0.0)))

pub looks-requires : goal.looks-requires
looks-requires c =
    let Q = asked_of c.args.arena.now (table_in c.args.mem.now) c.args.who c.args.h c.args.mode c.args.from c.args.len
    (admitted c.requires.admitted) c.in_ok-row.ensures _ c.rec_at-rec.ensures _ c.in_ok-ask_record.ensures refl refl in
    (fits Q).0

pub returns-then-not-looks : goal.returns-then-not-looks
returns-then-not-looks c =
    let Q = asked_of c.args.arena.now (table_in c.args.mem.now) c.args.who c.args.h c.args.mode c.args.from c.args.len
    (admitted c.requires.admitted) c.in_ok-row.ensures _ c.rec_at-rec.ensures _ c.in_ok-ask_record.ensures refl refl in
    ranged-idle _ refl (call-idle Q c.looks.ensures (ap not c.if-not-looks.true))

pub returns-then-c-eq0 : goal.returns-then-c-eq0
returns-then-c-eq0 c =
    let Q = asked_of c.args.arena.now (table_in c.args.mem.now) c.args.who c.args.h c.args.mode c.args.from c.args.len
    (admitted c.requires.admitted) c.in_ok-row.ensures _ c.rec_at-rec.ensures _ c.in_ok-ask_record.ensures refl refl in
    let X = looking Q c.looks.ensures (ap not c.if-not-looks.false) in
    let B : Bytes c.args.arena.now = λ j. search rules in
    ranged-off _ 19 (λ z. omega arith) (call-missing Q X B (missing Q c.head_at-c.ensures c.if-c-eq0.true))

pub decide_mode-requires : goal.decide_mode-requires
decide_mode-requires c =
    let Q = asked_of c.args.arena.now (table_in c.args.mem.now) c.args.who c.args.h c.args.mode c.args.from c.args.len
    (admitted c.requires.admitted) c.in_ok-row.ensures _ c.rec_at-rec.ensures _ c.in_ok-ask_record.ensures refl refl in
    let X = looking Q c.looks.ensures (ap not c.if-not-looks.false) in record { led = c.requires.admitted.led; plan_len = (c.requires.plan_len, (found Q c.head_at-c.ensures c.if-c-eq0.false).0); len_bound = ((fits Q).0, ((fits Q).1, X)) }

pub returns-in_err-decide_mode : goal.returns-in_err-decide_mode
returns-in_err-decide_mode c =
    let p = err_from_is_err_and c.from_residual-in_err-decide_mode.result c.from_residual-in_err-decide_mode.ensures.1 in
    rw (p.1, p.2) (let Q = asked_of c.args.arena.now (table_in c.args.mem.now) c.args.who c.args.h c.args.mode c.args.from c.args.len
    (admitted c.requires.admitted) c.in_ok-row.ensures _ c.rec_at-rec.ensures _ c.in_ok-ask_record.ensures refl refl in
    let X = looking Q c.looks.ensures (ap not c.if-not-looks.false) in
    let B : Bytes c.args.arena.now = λ j. search rules in
    ranged-off _ _ (number-ne c.in_err-decide_mode.field-0.0)
    (call-refused Q X B (found Q c.head_at-c.ensures c.if-c-eq0.false).0 c.in_err-decide_mode.ensures (number-ne c.in_err-decide_mode.field-0.0)))

pub returns : goal.returns
returns c =
    let Q = asked_of c.args.arena.now (table_in c.args.mem.now) c.args.who c.args.h c.args.mode c.args.from c.args.len
    (admitted c.requires.admitted) c.in_ok-row.ensures _ c.rec_at-rec.ensures _ c.in_ok-ask_record.ensures refl refl in
    let G = call-goes Q c.requires.admitted.led.most c.requires.admitted.led.fine (found Q c.head_at-c.ensures c.if-c-eq0.false) c.in_ok-decide_mode.ensures refl in
    ranged-on _ refl G.0 G.1
