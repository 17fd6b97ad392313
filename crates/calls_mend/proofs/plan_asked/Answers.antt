-- `calls_mend::plan_asked`: the chains' workspace is zero.
use mathlib.Core.Path.{refl}
use native.Mathlib.Omega.{arith}
use lib.ListN.{get_or-replicate}
use Rattle.calls_mend.proofs.plan_asked.Goals as goal

pub plan_led-requires : goal.plan_led-requires
plan_led-requires c = record { blank = (record { size = refl; zeros = λ h m. get_or-replicate 8192 h 0 0 (omega arith) }, c.requires.0); work_len = c.requires.1 }

pub returns : goal.returns
returns c = c.plan_led.ensures
