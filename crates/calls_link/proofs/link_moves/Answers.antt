-- `calls_link::link_moves`: three steps, the second in memory alone.
use Rattle.std.proofs.lemmas.Result.{err_from_is_err_and}
use Rattle.base.proofs.Tells.{number-ne}
use mathlib.Core.Path.{refl}
use native.Mathlib.Omega.{arith}
use mathlib.Core.List.{[]}
use Rattle.base.proofs.Outs.{went-has}
use Rattle.steps.proofs.Steps.{rec-of}
use Rattle.calls_link.proofs.Links.{moves-stop, moves-inc, moves-done}
use Rattle.calls_link.proofs.link_moves.Goals as goal

pub returns-in_err-append_named : goal.returns-in_err-append_named
returns-in_err-append_named c =
    let p = err_from_is_err_and c.from_residual.result c.from_residual.ensures.1 in
    rw (p.1, p.2) (moves-stop _ _ c.args.i c.args.c _ (rec-of _ _ _ c.args.c _ c.rec_at-kind.ensures) c.in_err-append_named.ensures _ _ (number-ne c.in_err-append_named.field-0.0))

pub nlinks_inc-requires : goal.nlinks_inc-requires
nlinks_inc-requires c =
    ((went-has c.in_ok-append_named.ensures refl).whole, c.requires.1.1.1.0)

pub returns-in_err-nlinks_inc : goal.returns-in_err-nlinks_inc
returns-in_err-nlinks_inc c =
    let p = err_from_is_err_and c.from_residual-in_err-nlinks_inc.result c.from_residual-in_err-nlinks_inc.ensures.1 in
    rw (p.1, p.2) (moves-inc _ _ c.args.i c.args.c _ (rec-of _ _ _ c.args.c _ c.rec_at-kind.ensures) c.in_ok-append_named.ensures _ (c.in_err-nlinks_inc.ensures _ _) refl _ _ (number-ne c.in_err-nlinks_inc.field-0.0))

pub sync_two-requires : goal.sync_two-requires
sync_two-requires c =
    let g = went-has c.in_ok-append_named.ensures refl in
    (record { fine = g.fine; whole = went-has (c.in_ok-nlinks_inc.ensures [] []) refl }, (omega (arith, g.room, c.requires.1.0), (c.requires.1.1.0, c.requires.1.1.1.0)))

pub returns : goal.returns
returns c =
    moves-done _ _ c.args.i c.args.c _ (rec-of _ _ _ c.args.c _ c.rec_at-kind.ensures) c.in_ok-append_named.ensures _ (c.in_ok-nlinks_inc.ensures _ _) refl refl c.sync_two.ensures
