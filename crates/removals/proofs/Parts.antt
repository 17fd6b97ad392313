-- The questions of the two calls, one after another, and the node that goes.
use mathlib.Core.Path.{◌≡◌}
use mathlib.Core.Bool.{Bool, true, false, not}
use mathlib.Core.List.{List}
use Prim.Native.Nat.{ℕ, ◌≤◌, ◌<◌}
use native.Mathlib.Omega.{arith}
use lib.ListN.{length}
use lib.Dec.{eqb, leb}
use borrow.Author.Tests.{eq-eqb, ne_eqb, le-leb, lt-leb}
use Rattle.base.specs.Out.{Out, bind, answer, Went}
use Rattle.base.proofs.Outs.{went-is, went-not}
use Rattle.structs.specs.declared.DiskINode.{DiskINode}
use Rattle.sefs.specs.State.{Fs}
use Rattle.sefs.specs.Nodes.{rec_at, opened, get_node}
use Rattle.sefs.specs.Ask.{good_name, not_long, not_special, live_folder}
use Rattle.sefs.specs.Remove.{empty_folder, removable}
use Rattle.calls.proofs.Asks.{Asks, asks-ensure, asks-then, asks-live, asked-done, asked-not, answer-stop, answer-next}
use Rattle.steps.specs.Ends.{Rest, on}
use Rattle.steps.proofs.Ends.{rest-off}
use Rattle.steps.proofs.Steps.{asks-good, asks-special}
use Rattle.removals.specs.Removals.{name_asks, remove_asks, remove_node, remove_id}

-- ---- questions

asks-name : (name : List ℕ) → Asks (name_asks name)
unfolding name_asks
asks-name name = asks-then (asks-special name) (λ _. asks-ensure (leb (length name) 255) 10 (omega arith))

pub asks-remove : (r : DiskINode) (name : List ℕ) → Asks (remove_asks r name)
unfolding remove_asks
asks-remove r name = asks-then (asks-good name) (λ _. asks-then (asks-live r) (λ _. asks-name name))

asks-empty : (r : DiskINode) → Asks (empty_folder r)
unfolding empty_folder
asks-empty r =
    asks-then (asks-ensure (eqb r.kind 2) 7 (omega arith))
    (λ _. asks-then (asks-ensure (leb 2 r.blocks) 19 (omega arith)) (λ _. asks-ensure (leb r.blocks 2) 13 (omega arith)))

asks-removable : (dir : Bool) (r : DiskINode) → Asks (removable dir r)
unfolding removable
asks-removable true r = asks-then (asks-ensure (leb r.kind 4) 19 (omega arith)) (λ _. asks-empty r)
asks-removable false r = asks-then (asks-ensure (leb r.kind 4) 19 (omega arith)) (λ _. asks-ensure (not (eqb r.kind 2)) 9 (omega arith))

module _ (name : List ℕ) (n : ℕ) (e : n ≡ answer (not_special name)) where
  pub name-stop : (n ≡ 0 → ⊥) → n ≡ answer (name_asks name)
  unfolding name_asks
  name-stop z = answer-stop (not_special name) (λ _. not_long name) n e z

  pub name-next : n ≡ 0 → answer (not_long name) ≡ answer (name_asks name)
  unfolding name_asks
  name-next z = answer-next (not_special name) (λ _. not_long name) (asks-special name) n e z

module _ (r : DiskINode) (name : List ℕ) (n : ℕ) where
  pub ask-stop : n ≡ answer (good_name name) → (n ≡ 0 → ⊥) → n ≡ answer (remove_asks r name)
  unfolding remove_asks
  ask-stop e z = answer-stop (good_name name) (λ _. bind (live_folder r) (λ _. name_asks name)) n e z

  pub ask-next : n ≡ answer (good_name name) → n ≡ 0 → answer (bind (live_folder r) (λ _. name_asks name)) ≡ answer (remove_asks r name)
  unfolding remove_asks
  ask-next e z = answer-next (good_name name) (λ _. bind (live_folder r) (λ _. name_asks name)) (asks-good name) n e z

  pub live-stop : n ≡ answer (live_folder r) → (n ≡ 0 → ⊥) → n ≡ answer (bind (live_folder r) (λ _. name_asks name))
  live-stop e z = answer-stop (live_folder r) (λ _. name_asks name) n e z

  pub live-next : n ≡ answer (live_folder r) → n ≡ 0 → answer (name_asks name) ≡ answer (bind (live_folder r) (λ _. name_asks name))
  live-next e z = answer-next (live_folder r) (λ _. name_asks name) (asks-live r) n e z

-- a folder's slots: no folder; fewer than 2, more than 2, 2
module _ (r : DiskINode) where
  pub empty-other : (r.kind ≡ 2 → ⊥) → 7 ≡ answer (empty_folder r)
  unfolding empty_folder
  empty-other z = rw (ne_eqb r.kind 2 z)

  pub empty-few : r.kind ≡ 2 → r.blocks < 2 → 19 ≡ answer (empty_folder r)
  unfolding empty_folder
  empty-few e l = rw (eq-eqb r.kind 2 e, lt-leb 2 r.blocks l)

  pub empty-more : r.kind ≡ 2 → 2 < r.blocks → 13 ≡ answer (empty_folder r)
  unfolding empty_folder
  empty-more e l = rw (eq-eqb r.kind 2 e, le-leb 2 r.blocks (omega arith), lt-leb r.blocks 2 l)

  pub empty-two : r.kind ≡ 2 → r.blocks ≡ 2 → 0 ≡ answer (empty_folder r)
  unfolding empty_folder
  empty-two e q = rw (eq-eqb r.kind 2 e, le-leb 2 r.blocks (omega arith), le-leb r.blocks 2 (omega arith))

-- the node that goes: a type above 4; where a folder is asked for; else a folder, and no folder
module _ (dir : Bool) (r : DiskINode) where
  pub type-above : 4 < r.kind → 19 ≡ answer (removable dir r)
  unfolding removable
  type-above l = rw (lt-leb r.kind 4 l)

  pub as-folder : r.kind ≤ 4 → dir ≡ true → answer (empty_folder r) ≡ answer (removable dir r)
  unfolding removable
  as-folder l e = rw (le-leb r.kind 4 l, e)

  pub file-folder : r.kind ≡ 2 → dir ≡ false → 9 ≡ answer (removable dir r)
  unfolding removable
  file-folder k e = rw (le-leb r.kind 4 (omega arith), e, eq-eqb r.kind 2 k)

  pub file-other : r.kind ≤ 4 → (r.kind ≡ 2 → ⊥) → dir ≡ false → 0 ≡ answer (removable dir r)
  unfolding removable
  file-other l z e = rw (le-leb r.kind 4 l, e, ne_eqb r.kind 2 z)

-- ---- what is picked

-- the node, and whether it goes
module _ (dir : Bool) (s d : Fs) (i id k c r : ℕ) {P : Type 0} (g : Went (get_node s id) (opened d c) P r) where
  pub id-stop : {e : Out Fs} {Q : Type 0} → (r ≡ 0 → ⊥) → Rest (remove_id dir s i id k) e Q r
  unfolding remove_id
  id-stop z = rest-off z (rw (went-not g z))

  module _ (z : r ≡ 0) (q : ℕ) (Goes-at : q ≡ answer (removable dir (rec_at d c))) where
    pub id-kept : {e : Out Fs} {Q : Type 0} → (q ≡ 0 → ⊥) → Rest (remove_id dir s i id k) e Q q
    unfolding remove_id
    id-kept y = rest-off y (rw (went-is g z, asked-not (removable dir (rec_at d c)) q Goes-at y))

    pub id_next : {Q : Type 0} → q ≡ 0 → Q → Rest (remove_id dir s i id k) (remove_node d i c k) Q 0
    unfolding remove_id
    id_next y p = on (rw (went-is g z, asked-done (removable dir (rec_at d c)) (asks-removable dir _) q Goes-at y)) p
