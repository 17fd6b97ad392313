-- What the mender answers and leaves, by the outcome that its definition gives: the arena was a and is b.
use Rattle.std.specs.Prelude.{◌≡◌, true, List, ℕ, ◌+◌, ◌≤◌, ◌<◌, Result}
use Rattle.base.specs.Out.{Out, done, refused, bind, kept}
use Rattle.table.specs.declared.Table.{Table}
use Rattle.arena.specs.Places.{free_count}
use Rattle.sefs.specs.Ask.{start}
use Rattle.base.specs.declared.reasons.Reason.{Reason}
use Rattle.calls.specs.Answers.{out_of, answer_of}
use Rattle.mending.specs.Mendable.{mendable}
use Rattle.mending.specs.Mend.{mend_steps, call_mend}
use Rattle.mending.specs.Room.{wanted, given_back}

-- "A refusal returns its number only; arena .. keep their bytes"
pub record Mends (o : Out (List ℕ)) (a b : List ℕ) (r : Result Unit Reason) : Type 0 where
  pub answer : out_of r ≡ answer_of o
  pub arena : b ≡ kept a o

-- the same by the reason's number
pub data MendEnded (o : Out (List ℕ)) (a b : List ℕ) : ℕ → Type 0 where
  went : o ≡ done b → MendEnded o a b 0
  stopped : {r : ℕ} → 0 < r → o ≡ refused r → b ≡ a → MendEnded o a b r

-- what is left to be done once nothing refuses: the steps
abbrev pub steps_on : List ℕ → Table → Out (List ℕ)
steps_on a t = bind (mend_steps a (start a t)) (λ s. done s.arena)

-- the code that asks before any store answers, by its code r: 0 where the steps are left, and P holds; or the call's reason
pub data Asked (a : List ℕ) (t : Table) (P : Type 0) : ℕ → Type 0 where
  clear : call_mend a t ≡ steps_on a t → mendable a ≡ true → wanted a ≤ free_count a + given_back a → P → Asked a t P 0
  refuses : {r : ℕ} → 0 < r → call_mend a t ≡ refused r → Asked a t P r
