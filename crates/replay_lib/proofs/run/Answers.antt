-- `run`: the desk takes the place that the run came to.
use mathlib.Core.Bool.{true≢false}
use mathlib.Core.Path.{sym, ◌∙◌}
use native.Mathlib.Omega.{arith}
use lib.ListN.{length}
use Rattle.replay_lib.proofs.Desks.{desk-length, to-go-less}
use Rattle.replay_lib.proofs.run.Goals as goal

pub returns-then-ended : goal.returns-then-ended
returns-then-ended c = record { upper_bound = omega arith; desk_bound = λ h g. absurd (true≢false (sym c.if-ended.true ∙ c.ended.ensures ∙ g)) }

pub u64_at-from-requires : goal.u64_at-from-requires
u64_at-from-requires c = omega (arith, desk-length c.args.desk.now (sym c.ended.ensures ∙ c.if-ended.false))

pub run_from-s-requires : goal.run_from-s-requires
run_from-s-requires c = desk-length c.args.desk.now (sym c.ended.ensures ∙ c.if-ended.false)

pub stand-requires : goal.stand-requires
stand-requires c = c.run_from-s.auto.desk ∙ desk-length c.args.desk.now (sym c.ended.ensures ∙ c.if-ended.false)

pub returns : goal.returns
returns c =
    let s = c.args in
    let f = c.u64_at-from.ensures in
    let r = c.run_from-s.ensures in record { upper_bound = r.from_le_at.1; desk_bound = λ h g. to-go-less (length s.script.now) c.run_from-s.result.at s.desk.now c.stand.new.desk g c.stand.ensures.0 c.stand.ensures.1 (omega (arith, f, r.from_le_at.0)) (λ q. omega (arith, f, r.from_lt_at h (omega (arith, f, q)))) }
