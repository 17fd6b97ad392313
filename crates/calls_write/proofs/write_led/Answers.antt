-- `calls_write::write_led`: the questions, then the plan.
use Rattle.std.proofs.lemmas.Result.{err_from_is_err_and}
use Rattle.base.proofs.Tells.{number-ne}
use mathlib.Core.Path.{refl}
use mathlib.Core.Path.{ap, ◌∙◌}
use Rattle.base.proofs.Outs.{went-has}
use Rattle.structs.specs.declared.DiskINode.{DiskINode}
use Rattle.files.specs.Read.{there}
use Rattle.sefs.specs.Nodes.{node_file}
use Rattle.mem.specs.Mem.{table_in}
use Rattle.calls_write.proofs.Writes.{write-off, write-full, write-on}
use Rattle.calls_write.proofs.write_led.Goals as goal

pub returns-in_err-s : goal.returns-in_err-s
returns-in_err-s c =
    let p = err_from_is_err_and c.from_residual.result c.from_residual.ensures.1 in
    rw (p.1, p.2) (λ src size. write-off c.args.arena.now (table_in c.args.mem.now) c.args.who c.args.h c.args.place c.args.n c.in_err-s.ensures (number-ne c.in_err-s.field-0.0) _ _ src size)

pub rec_at-rec-requires : goal.rec_at-rec-requires
rec_at-rec-requires c = (c.requires.admitted.whole, (went-has c.in_ok-s.ensures refl).row)

pub decide-requires : goal.decide-requires
decide-requires c =
    let R = went-has c.in_ok-s.ensures refl in record { led = c.requires.admitted.led; plan_len = (c.requires.plan_len, (R.range, ap (λ (r : DiskINode). there c.args.arena.now (node_file r)) c.rec_at-rec.ensures ∙ R.exists)) }

pub returns-in_err-decide : goal.returns-in_err-decide
returns-in_err-decide c =
    let p = err_from_is_err_and c.from_residual-in_err-decide.result c.from_residual-in_err-decide.ensures.1 in
    rw (p.1, p.2) (λ src size. write-full c.args.arena.now (table_in c.args.mem.now) c.args.who c.args.h c.args.place c.args.n c.in_ok-s.ensures _ c.rec_at-rec.ensures c.in_err-decide.ensures refl (number-ne c.in_err-decide.field-0.0) _ _ src size)

pub returns : goal.returns
returns c =
    λ src size. write-on c.args.arena.now (table_in c.args.mem.now) c.args.who c.args.h c.args.place c.args.n c.in_ok-s.ensures _ c.rec_at-rec.ensures c.in_ok-decide.ensures refl refl src size
