-- What the contract of format says of its result has one solution.
use mathlib.Core.Path.{◌≡◌, sym, ◌∙◌}
use mathlib.Core.List.{List}
use Prim.Native.Nat.{ℕ}
use Rattle.structs.specs.declared.Timespec.{Timespec}
use Rattle.table.specs.Table.{empty_table}
use Rattle.sefs.specs.Create.{call_format}
use Rattle.base.specs.declared.reasons.Reason.{Reason}
use Rattle.calls.specs.declared.Reply.{Reply}
use Rattle.calls.proofs.Answers.{said-one}
use Rattle.steps.specs.Ends.{Returned}
use Rattle.calls_format.specs.Format.{formatted}

-- the arena was a; a run that left b and answered r, and one that left d and answered s
pub format-one : (a : List ℕ) (time : Timespec) (name b d : List ℕ) (r s : Reply Reason) → Returned empty_table (formatted (call_format a time name)) a b r → Returned empty_table (formatted (call_format a time name)) a d s → (r ≡ s) × (b ≡ d)
format-one a time name b d r s p q = (said-one r s (p.answer ∙ sym q.answer), p.arena ∙ sym q.arena)
