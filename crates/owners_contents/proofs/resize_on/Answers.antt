-- `owners_contents::resize_on`: what is asked by the chains, then the stores, then the chains.
use Rattle.std.proofs.lemmas.Result.{err_from_is_err_and}
use Rattle.base.proofs.Tells.{number-ne}
use mathlib.Core.Path.{refl}
use Rattle.base.proofs.Outs.{went-is, went-has, went-not}
use Rattle.mem.specs.Mem.{table_in}
use Rattle.steps.proofs.Ends.{ended-refused}
use Rattle.calls_resize.proofs.Resizes.{resize-not, resized}
use Rattle.owners_kept.proofs.Laws.{as_many, rechained}
use Rattle.owners_contents.proofs.resize_on.Goals as goal

pub returns-in_err-s : goal.returns-in_err-s
returns-in_err-s c =
    let p = err_from_is_err_and c.from_residual.result c.from_residual.ensures.1 in
    rw (p.1, p.2) (record { ended = ended-refused (number-ne c.in_err-s.field-0.0) (resize-not c.args.arena.now (table_in c.args.mem.now) c.args.who c.args.h c.args.n (went-not c.in_err-s.ensures (number-ne c.in_err-s.field-0.0))) refl; chained = c.requires.chained })

pub set_size-requires : goal.set_size-requires
set_size-requires c = (c.requires.admitted.whole, went-has c.in_ok-s.ensures refl)

pub chain_all-requires : goal.chain_all-requires
chain_all-requires c =
    (as_many c.args.arena.now c.set_size.new.arena c.requires.admitted.led.whole c.set_size.auto.arena, c.requires.chained.size)

pub returns : goal.returns
returns c = record { ended = resized c.args.arena.now _ c.args.mem.now _ c.args.who c.args.h c.args.n _ (went-is c.in_ok-s.ensures refl) c.set_size.ensures; chained = rechained c.requires.chained c.chain_all.auto.chains c.chain_all.ensures }
