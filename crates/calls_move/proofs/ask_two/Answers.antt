-- `calls_move::ask_two`: their metadata, whether they are one, then what is asked of two.
use Rattle.std.proofs.lemmas.Result.{err_from_is_err_and}
use Rattle.base.proofs.Tells.{number-ne}
use mathlib.Core.Path.{refl}
use Rattle.base.proofs.Outs.{went-has}
use Rattle.calls_move.proofs.Decisions.{two-unknown, two-same, two-onto}
use Rattle.calls_move.proofs.ask_two.Goals as goal

pub returns-in_err-known_two : goal.returns-in_err-known_two
returns-in_err-known_two c =
    let p = err_from_is_err_and c.from_residual.result c.from_residual.ensures.1 in
    rw (p.1, p.2) (λ z old name e k. two-unknown z _ _ c.args.i c.args.j old name e k c.args.new c.args.was c.args.d c.args.c _ _ c.rec_at.ensures c.rec_at-2.ensures c.in_err-known_two.ensures (number-ne c.in_err-known_two.field-0.0))

pub returns-then-was-new : goal.returns-then-was-new
returns-then-was-new c =
    λ z old name e k. two-same z _ _ c.args.i c.args.j old name e k c.args.new c.args.was c.args.d c.args.c _ _ c.rec_at.ensures c.rec_at-2.ensures c.in_ok-known_two.ensures refl c.if-was-new.true

pub ask_onto-requires : goal.ask_onto-requires
ask_onto-requires c =
    let p = c.requires in
    let t = rw (c.rec_at.ensures, c.rec_at-2.ensures) at (went-has c.in_ok-known_two.ensures refl) in record { led = p.led; whole = (p.whole.0, (p.whole.1.0, (p.whole.1.1.0, (p.whole.1.1.1.0, (p.whole.1.1.1.1, t))))) }

pub returns : goal.returns
returns c =
    λ z old name e k. two-onto z _ _ c.args.i c.args.j old name e k c.args.new c.args.was c.args.d c.args.c _ _ c.rec_at.ensures c.rec_at-2.ensures c.in_ok-known_two.ensures refl c.if-was-new.false (c.ask_onto.ensures old name k)
