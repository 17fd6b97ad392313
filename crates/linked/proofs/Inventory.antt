-- The inventory's promises, of runs: a run did its call, and what the call gives is what was handed out.
use mathlib.Core.Path.{◌≡◌, refl, sym, ap, ◌∙◌}
use mathlib.Core.List.{List}
use mathlib.Core.Logic.{◌≢◌}
use Prim.Native.Nat.{ℕ}
use native.Mathlib.Omega.{arith}
use Rattle.base.specs.Out.{Out, done, refused}
use Rattle.inventory.specs.Inventory.{stored_tree, call_inventory}
use Rattle.inventory.specs.Promises.{Delivers, Delivered}
use Rattle.inventory.proofs.Delivers.{delivers}
use Rattle.sequences.specs.Calls.{Call, inventory, does, reason_of}
use Rattle.linked.specs.Images.{Image, pair_of, Places, handed, Did, did, denied, uncalled}
use Rattle.linked.specs.Tested.{Ran}
use Rattle.linked.specs.Linked.{Does}
use Rattle.linked.specs.Drawings.{GaveBytes}
use Rattle.linked.specs.Inventory.{RunDelivers, RunRefuses}
use Rattle.linked.proofs.Functions.{does-calls}
use Rattle.linked.proofs.Transport.{zero-done, number_is}

-- what a run that made its call left of what it was lent
given : {c : Call} {s u : Image} {x y : Places} {n : ℕ} → Did c s x u y n → n ≢ 255 → y ≡ handed c (pair_of s) x
given (did d h e z) k = e
given (denied d S e) k = e
given (uncalled S e z) k = absurd (k z)

module _ (s : Image) (room : ℕ) {x y : Places} {n : ℕ} (number : n ≡ reason_of (inventory room) (pair_of s)) (left : y ≡ handed (inventory room) (pair_of s) x) where
  listed : (t : List ℕ) → call_inventory s.arena room ≡ done t → GaveBytes t x y n
  unfolding does handed
  listed t d = record {
    number = number ∙ rw d refl;
    output = ap (λ (a : Places). a.output) left ∙ rw d refl;
    count = ap (λ (a : Places). a.words) left ∙ rw d refl;
  }

  unlisted : (m : ℕ) → call_inventory s.arena room ≡ refused m → (n ≡ m) × (y ≡ x)
  unfolding does handed
  unlisted m d = (number ∙ rw d refl, left ∙ rw d refl)

-- 0 is no reason
not-zero : (s : Image) (room m n : ℕ) → n ≡ reason_of (inventory room) (pair_of s) → call_inventory s.arena room ≡ refused m → n ≢ 0
unfolding does
not-zero s room m n number d z =
    let is : does (inventory room) (pair_of s) ≡ refused m = rw d refl in
    let q = sym (zero-done (inventory room) (pair_of s) (sym z ∙ number)) ∙ is in
    absurd (let e : ◌≡◌ {A = ℕ} 0 1 = cc in omega arith)

pub run-delivers : RunDelivers
unfolding RunDelivers Delivers Does
run-delivers s u x y room n r z = by (call_inventory s.arena room) refl
  where
    k : n ≢ 255
    k e = let q : ◌≡◌ {A = ℕ} 0 255 = sym z ∙ e in absurd (omega (arith, q))

    D : Did (inventory room) s x u y n
    D = does-calls (inventory room) s u x y n r

    by : (o : Out (List ℕ)) → call_inventory s.arena room ≡ o
        → (t : List ℕ) × (call_inventory s.arena room ≡ done t) × Delivered (stored_tree s.arena) t × GaveBytes t x y n
    by (done t) d = (t, d, delivers s.arena room t d, listed s room (number_is D k) (given D k) t d)
    by (refused m) d = absurd (not-zero s room m n (number_is D k) d z)

pub run-refuses : RunRefuses
unfolding RunRefuses Does
run-refuses s u x y room n r z k = by (call_inventory s.arena room) refl
  where
    D : Did (inventory room) s x u y n
    D = does-calls (inventory room) s u x y n r

    by : (o : Out (List ℕ)) → call_inventory s.arena room ≡ o → (call_inventory s.arena room ≡ refused n) × (y ≡ x)
    by (done t) d = absurd (z (listed s room (number_is D k) (given D k) t d).number)
    by (refused m) d = let U = unlisted s room (number_is D k) (given D k) m d in (d ∙ ap refused (sym U.0), U.1)
