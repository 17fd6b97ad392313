-- The contract of mend has one solution: the answer, and every byte of the arena.
use mathlib.Core.Path.{◌≡◌, sym, ◌∙◌}
use mathlib.Core.List.{List}
use Prim.Native.Nat.{ℕ}
use Rattle.table.specs.declared.Table.{Table}
use Rattle.std.specs.Prelude.{Result}
use Rattle.base.specs.declared.reasons.Reason.{Reason}
use Rattle.calls.proofs.Answers.{out-one}
use Rattle.mending.specs.Mend.{call_mend}
use Rattle.calls_mend.specs.Mends.{Mends}

pub mend-one : (a : List ℕ) (t : Table) (r s : Result Unit Reason) (b d : List ℕ) → Mends (call_mend a t) a b r → Mends (call_mend a t) a d s → (r ≡ s) × (b ≡ d)
mend-one a t r s b d p q = (out-one r s (p.answer ∙ sym q.answer), p.arena ∙ sym q.arena)
