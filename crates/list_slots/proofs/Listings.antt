-- The listing: its questions, and from what the code answers to the answer.
use mathlib.Core.Path.{◌≡◌, refl, sym, ◌∙◌, ap}
use mathlib.Core.Bool.{Bool, true, false, not, ◌&&◌}
use mathlib.Core.List.{List}
use Prim.Native.Nat.{ℕ, ◌*◌, ◌-◌, ◌/◌, min}
use native.Mathlib.Omega.{arith}
use lib.ListN.{length}
use lib.Dec.{ltb}
use Rattle.base.specs.Out.{Out, done, refused, bind, ensure, answer, Went}
use Rattle.base.proofs.Outs.{went-not, above_zero}
use Rattle.structs.specs.declared.DiskINode.{DiskINode}
use Rattle.sefs.specs.Read.{readable, list_to}
use Rattle.calls.specs.Answers.{listed_of, Laid, lay, leave}
use Rattle.calls.proofs.Asks.{Asks, asks-ensure, asks-then, asks-readable, asked-not, asked-done, answer-stop, answer-next}
use Rattle.list_slots.specs.List.{list_ask, list_in, whether}
use Rattle.list_slots.proofs.Turns.{whether-not}

pub asks-list : (r : DiskINode) (next room : ℕ) → Asks (list_ask r next room)
unfolding list_ask
asks-list r next room =
    asks-then (asks-readable r) (λ _. asks-ensure (not (ltb next r.blocks && ltb room 264)) 20 (omega arith))

-- a number n that `readable` answered
module _ (r : DiskINode) (n : ℕ) (e : n ≡ answer (readable r)) where
  pub list-ask-stop : (next room : ℕ) → (n ≡ 0 → ⊥) → n ≡ answer (list_ask r next room)
  unfolding list_ask
  list-ask-stop next room z = answer-stop (readable r) (λ _. ensure (not (ltb next r.blocks && ltb room 264)) 20) n e z

  pub list-ask-room : (next room : ℕ) → n ≡ 0 → answer (ensure (not (ltb next r.blocks && ltb room 264)) 20) ≡ answer (list_ask r next room)
  unfolding list_ask
  list-ask-room next room z = answer-next (readable r) (λ _. ensure (not (ltb next r.blocks && ltb room 264)) 20) (asks-readable r) n e z

pub laid-listed : {o : Out (List ℕ)} {out now : List ℕ} {m : ℕ} (n : ℕ) → m ≡ 264 * n → Laid o out now m 0 → ◌≡◌ {A = Out ℕ} (done n) (listed_of o)
laid-listed n h (lay {l = l} e q p) = ap done (let z : n ≡ length l / 264 = omega arith in z) ∙ sym (ap listed_of e)
laid-listed n h (leave z e p) = absurd (omega arith)

-- the questions as one
pub list-split : (a : List ℕ) (r : DiskINode) (next room : ℕ) → list_in a r next room ≡ bind (list_ask r next room) (λ _. list_to a r next (min (r.blocks - next) (room / 264)))
unfolding list_in list_ask
list-split a r next room = go (readable r) (not (ltb next r.blocks && ltb room 264))
  where
    go : (o : Out Unit) (b : Bool) → bind o (λ _. bind (ensure b 20) (λ _. list_to a r next (min (r.blocks - next) (room / 264)))) ≡ bind (bind o (λ _. ensure b 20)) (λ _. list_to a r next (min (r.blocks - next) (room / 264)))
    go (refused n) b = refl
    go (done u) false = refl
    go (done u) true = refl

module _ (a : List ℕ) (r : DiskINode) (next room n : ℕ) (e : n ≡ answer (list_ask r next room)) where
  pub list-in-stop : (n ≡ 0 → ⊥) → list_in a r next room ≡ refused n
  list-in-stop z = list-split a r next room ∙ rw (asked-not (list_ask r next room) n e z)

  pub list-in-next : {out now : List ℕ} {k s : ℕ} (m : ℕ) → n ≡ 0 → m ≡ min (r.blocks - next) (room / 264) → Laid (list_to a r next m) out now k s → Laid (list_in a r next room) out now k s
  list-in-next m z q L = rw (list-split a r next room, asked-done (list_ask r next room) (asks-list r next room) n e z, ← q) L

-- the slots are read to know that they can be, and it is not so
pub slots-stop : {r : ℕ} (o : Out (List ℕ)) (out : List ℕ) (n : ℕ) → Went (whether o) tt Unit r → (r ≡ 0 → ⊥) → Laid o out out n r
slots-stop {r} o out n g z = leave (above_zero r z) (whether-not o r (went-not g z)) refl
