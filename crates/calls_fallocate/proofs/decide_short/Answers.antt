-- `calls_fallocate::decide_short`: the pieces that can be read are decided; the next sticks.
use Rattle.std.proofs.lemmas.Result.{err_from_is_err_and}
use Rattle.base.proofs.Tells.{number-ne}
use mathlib.Core.Path.{refl}
use mathlib.Core.Path.{◌≡◌, ap}
use Prim.Native.Nat.{ℕ, ◌+◌, ◌*◌, ◌-◌, ◌/◌}
use native.Mathlib.Omega.{arith}
use Rattle.calls_fallocate.proofs.Decisions.{short-full, short_stuck}
use Rattle.calls_fallocate.proofs.decide_short.Goals as goal

pub decide-requires : goal.decide-requires
decide-requires c = record { led = c.requires.led; plan_len = (c.requires.plan_len.0, (omega (arith, c.least-end.ensures, c.requires.plan_len.1.0, c.requires.plan_len.1.1.0), c.requires.plan_len.1.1.1)) }

pub returns-in_err-decide : goal.returns-in_err-decide
returns-in_err-decide c =
    let p = err_from_is_err_and c.from_residual.result c.from_residual.ensures.1 in
    rw (p.1, p.2) (let e : 128 * ((c.args.long - c.least-end.result) / 128) ≡ 128 * ((c.args.long - (c.args.from + c.args.len)) / 128) =
    ap (λ (x : ℕ). 128 * (x / 128)) (omega (arith, c.least-end.ensures)) in
    short-full c.args.len c.args.long c.requires.plan_len.1.1.1 e c.in_err-decide.ensures (omega (arith, c.least-end.ensures, c.requires.plan_len.1.0, c.requires.plan_len.1.1.0)) (number-ne c.in_err-decide.field-0.0))

pub returns : goal.returns
returns c =
    let e : 128 * ((c.args.long - c.least-end.result) / 128) ≡ 128 * ((c.args.long - (c.args.from + c.args.len)) / 128) =
    ap (λ (x : ℕ). 128 * (x / 128)) (omega (arith, c.least-end.ensures)) in
    short_stuck c.args.len c.args.long c.requires.plan_len.1.1.1 e c.in_ok-decide.ensures (omega (arith, c.least-end.ensures, c.requires.plan_len.1.0, c.requires.plan_len.1.1.0)) refl
