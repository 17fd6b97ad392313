-- `calls_create::create_rest`: four steps, the third in memory alone.
use Rattle.std.proofs.lemmas.Result.{err_from_is_err_and}
use Rattle.base.proofs.Tells.{number-ne}
use mathlib.Core.Path.{refl}
use native.Mathlib.Omega.{arith}
use mathlib.Core.List.{[]}
use Rattle.base.proofs.Outs.{went-has}
use Rattle.folders.proofs.States.{still-ready}
use Rattle.calls_create.proofs.Creates.{rest-birth, rest-slot, rest-named, rest-done}
use Rattle.calls_create.proofs.create_rest.Goals as goal

pub returns-in_err-birth : goal.returns-in_err-birth
returns-in_err-birth c =
    let p = err_from_is_err_and c.from_residual.result c.from_residual.ensures.1 in
    rw (p.1, p.2) (rest-birth _ _ c.args.i c.args.c c.args.kind c.in_err-birth.ensures _ _ (number-ne c.in_err-birth.field-0.0))

pub append_named-requires : goal.append_named-requires
append_named-requires c =
    let g = went-has c.in_ok-birth.ensures refl in
    (still-ready g, (omega (arith, g.room, c.requires.1.0), c.requires.1.1))

pub returns-in_err-append_named : goal.returns-in_err-append_named
returns-in_err-append_named c =
    let p = err_from_is_err_and c.from_residual-in_err-append_named.result c.from_residual-in_err-append_named.ensures.1 in
    rw (p.1, p.2) (rest-slot _ _ c.args.i c.args.c c.args.kind c.in_ok-birth.ensures refl c.in_err-append_named.ensures _ _ (number-ne c.in_err-append_named.field-0.0))

pub name_node-requires : goal.name_node-requires
name_node-requires c =
    ((went-has c.in_ok-append_named.ensures refl).whole, (c.requires.1.1.0, c.requires.1.1.1.0))

pub returns-in_err-name_node : goal.returns-in_err-name_node
returns-in_err-name_node c =
    let p = err_from_is_err_and c.from_residual-in_err-name_node.result c.from_residual-in_err-name_node.ensures.1 in
    rw (p.1, p.2) (rest-named _ _ c.args.i c.args.c c.args.kind c.in_ok-birth.ensures refl c.in_ok-append_named.ensures _ refl (c.in_err-name_node.ensures _ _) _ _ (number-ne c.in_err-name_node.field-0.0))

pub create_sync-requires : goal.create_sync-requires
create_sync-requires c =
    let g = went-has c.in_ok-birth.ensures refl in
    let h = went-has c.in_ok-append_named.ensures refl in
    (record { fine = h.fine; whole = went-has (c.in_ok-name_node.ensures [] []) refl }, (omega (arith, g.room, h.room, c.requires.1.0), (c.requires.1.1.0, c.requires.1.1.1.0)))

pub returns : goal.returns
returns c =
    rest-done _ _ c.args.i c.args.c c.args.kind c.in_ok-birth.ensures refl c.in_ok-append_named.ensures _ refl (c.in_ok-name_node.ensures _ _) refl c.create_sync.ensures
