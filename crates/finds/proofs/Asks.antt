-- What find asks of the folder and the name: question after question, and then the slot.
use mathlib.Core.Path.{◌≡◌, refl}
use mathlib.Core.Bool.{not, ◌&&◌}
use mathlib.Core.List.{List}
use Prim.Native.Nat.{ℕ}
use native.Mathlib.Omega.{arith}
use lib.ListN.{length}
use lib.Dec.{eqb, ltb, leb}
use Rattle.base.specs.Out.{Out, done, refused, bind, answer}
use Rattle.structs.specs.declared.DiskINode.{DiskINode}
use Rattle.utf8.specs.Names.{is_dots}
use Rattle.sefs.specs.Slots.{Slot, find_slot}
use Rattle.sefs.specs.Ask.{not_long, known, folder}
use Rattle.calls.proofs.Asks.{Asks, asks-ensure, asks-then, answer-stop, answer-next}
use Rattle.finds.specs.Parts.{not_orphan, find_name, find_folder, find_id}

-- no reason's number is 0
asks-name : (r : DiskINode) (name : List ℕ) → Asks (find_name r name)
unfolding find_name
asks-name r name = asks-then (asks-ensure (leb (length name) 255) 10 (omega arith)) (λ _. asks-ensure (not (is_dots name && eqb r.nlinks 0)) 8 (omega arith))

pub asks-folder : (r : DiskINode) (name : List ℕ) → Asks (find_folder r name)
unfolding find_folder
asks-folder r name =
    asks-then (asks-ensure (ltb 0 r.kind && leb r.kind 4) 19 (omega arith))
    (λ _. asks-then (asks-ensure (eqb r.kind 2) 7 (omega arith)) (λ _. asks-name r name))

-- the questions in turn: a number n that the question before answered
module _ (r : DiskINode) (name : List ℕ) (n : ℕ) where
  pub long-stop : n ≡ answer (not_long name) → (n ≡ 0 → ⊥) → n ≡ answer (find_name r name)
  unfolding find_name
  long-stop e z = answer-stop (not_long name) (λ _. not_orphan r name) n e z

  pub long-next : n ≡ answer (not_long name) → n ≡ 0 → answer (not_orphan r name) ≡ answer (find_name r name)
  unfolding find_name
  long-next e z = answer-next (not_long name) (λ _. not_orphan r name) (asks-ensure (leb (length name) 255) 10 (omega arith)) n e z

  pub known-stop : n ≡ answer (known r) → (n ≡ 0 → ⊥) → n ≡ answer (find_folder r name)
  unfolding find_folder
  known-stop e z = answer-stop (known r) (λ _. bind (folder r) (λ _. find_name r name)) n e z

  pub known_next : n ≡ answer (known r) → n ≡ 0 → answer (bind (folder r) (λ _. find_name r name)) ≡ answer (find_folder r name)
  unfolding find_folder
  known_next e z = answer-next (known r) (λ _. bind (folder r) (λ _. find_name r name)) (asks-ensure (ltb 0 r.kind && leb r.kind 4) 19 (omega arith)) n e z

  pub folder-stop : n ≡ answer (folder r) → (n ≡ 0 → ⊥) → n ≡ answer (bind (folder r) (λ _. find_name r name))
  folder-stop e z = answer-stop (folder r) (λ _. find_name r name) n e z

  pub folder-next : n ≡ answer (folder r) → n ≡ 0 → answer (find_name r name) ≡ answer (bind (folder r) (λ _. find_name r name))
  folder-next e z = answer-next (folder r) (λ _. find_name r name) (asks-ensure (eqb r.kind 2) 7 (omega arith)) n e z

-- ---- the definitions' questions, as the code groups them

grouped : {B : Type 0} (x : ℕ → Out B) (k f l o : Out Unit) (s : Out Slot)
    → bind k (λ _. bind f (λ _. bind l (λ _. bind o (λ _. bind s (λ s. x s.entry.id))))) ≡ bind (bind k (λ _. bind f (λ _. bind l (λ _. o)))) (λ _. bind (bind s (λ s. done s.entry.id)) x)
grouped x (refused n) f l o s = refl
grouped x (done u) (refused n) l o s = refl
grouped x (done u) (done v) (refused n) o s = refl
grouped x (done u) (done v) (done w) (refused n) s = refl
grouped x (done u) (done v) (done w) (done y) (refused n) = refl
grouped x (done u) (done v) (done w) (done y) (done s) = refl

-- x is what becomes of the id
pub found-is : {B : Type 0} (a : List ℕ) (r : DiskINode) (name : List ℕ) (x : ℕ → Out B) → bind (known r) (λ _. bind (folder r) (λ _. bind (not_long name) (λ _. bind (not_orphan r name) (λ _. bind (find_slot a r name) (λ s. x s.entry.id))))) ≡ bind (find_folder r name) (λ _. bind (find_id a r name) x)
unfolding find_folder find_name find_id
found-is a r name x = grouped x (known r) (folder r) (not_long name) (not_orphan r name) (find_slot a r name)
