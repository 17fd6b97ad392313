-- How the list is gone through one line at a time, with a place and no stack: what a loop of the code may keep. Nothing here is part of what the list
-- means.
use Rattle.std.specs.Prelude.{◌≡◌, true, false, List, [], ◌∷◌, ◌++◌, ◌≢◌, ℕ, suc, ◌≤◌, ◌<◌}
use Rattle.structs.specs.Types.{is_folder}
use Rattle.utf8.specs.Names.{name_of}
use Rattle.tree.specs.Tree.{Tree, parent, Tidy, any}
use Rattle.inventory.specs.Text.{path_to}
use Rattle.inventory.specs.Visits.{Visit, visit, visits}
use Rattle.inventory.specs.Promises.{SlotOrder}

-- the loop stands at slot k of folder f, whose path is p: what is still to come is the rest of f's slots, and then the same of the folder that has f in
-- slot i, from the slot after it
pub data ToCome (v : Tree) : ℕ → ℕ → List ℕ → List Visit → Type 0 where
  outer : {k : ℕ} {l : List Visit} → SlotOrder v 2 [] k l → ToCome v 2 k [] l
  inner : {f k g i : ℕ} {p q : List ℕ} {m l : List Visit} → SlotOrder v f p k m → 2 ≤ i → i < v.blocks g → (v.slot g i).id ≡ f → is_folder (v.kind f) ≡ true
      → p ≡ path_to q (name_of (v.slot g i).name) → ToCome v g (suc i) q l → ToCome v f k p (m ++ l)

-- it starts at root's slot 2
unfoldable pub Starts : Type 0
Starts = (v : Tree) → Tidy any v → ToCome v 2 2 [] (visits v)

-- at a slot: its line comes next. Then the loop goes on to the next slot
unfoldable pub GoesOn : Type 0
GoesOn = (v : Tree) (f k : ℕ) (p : List ℕ) (l : List Visit) → ToCome v f k p l → k < v.blocks f → is_folder (v.kind (v.slot f k).id) ≡ false
    → (m : List Visit) × (l ≡ visit v f p k ∷ m) × ToCome v f (suc k) p m

-- or, where it names a folder, to that folder's slot 2: the line's own path is the new path
unfoldable pub Enters : Type 0
Enters = (v : Tree) (f k : ℕ) (p : List ℕ) (l : List Visit) → ToCome v f k p l → 2 ≤ k → k < v.blocks f → is_folder (v.kind (v.slot f k).id) ≡ true
    → (m : List Visit) × (l ≡ visit v f p k ∷ m) × ToCome v (v.slot f k).id 2 (visit v f p k).path m

-- past a folder's last slot it goes to the parent, which slot 1 names: on with the slot after the one that names f, and there is only one. The path
-- loses f's own name
pub record WentUp (v : Tree) (f : ℕ) (p : List ℕ) (l : List Visit) : Type 0 where
  pub above : ℕ
  pub is : above ≡ parent v f
  pub at : ℕ
  pub later : 2 ≤ at
  pub inside : at < v.blocks above
  pub names : (v.slot above at).id ≡ f
  pub only : (j : ℕ) → 2 ≤ j → j < v.blocks above → (v.slot above j).id ≡ f → j ≡ at
  pub short : List ℕ
  pub path : p ≡ path_to short (name_of (v.slot above at).name)
  pub rest : ToCome v above (suc at) short l

unfoldable pub GoesUp : Type 0
GoesUp = (v : Tree) (f k : ℕ) (p : List ℕ) (l : List Visit) → Tidy any v → ToCome v f k p l → v.blocks f ≤ k → f ≢ 2 → WentUp v f p l

-- past root's last slot nothing is left
unfoldable pub Ends : Type 0
Ends = (v : Tree) (k : ℕ) (p : List ℕ) (l : List Visit) → Tidy any v → ToCome v 2 k p l → v.blocks 2 ≤ k → l ≡ []
