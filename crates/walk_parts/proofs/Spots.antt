-- Nodes on the way: from what the code asks and answers to the definition's steps.
use mathlib.Core.Path.{◌≡◌, sym, ◌∙◌}
use mathlib.Core.Bool.{Bool, true, false}
use mathlib.Core.List.{List}
use Prim.Native.Nat.{ℕ, ◌<◌, ◌≤◌}
use native.Mathlib.Omega.{arith}
use lib.Dec.{leb}
use borrow.Author.Tests.{le-leb, lt-leb}
use Rattle.base.specs.Out.{Out, done, bind, guard, ensure, answer, Went, well, ill}
use Rattle.base.specs.Reasons.{stuck}
use Rattle.std.specs.Prelude.{Some, None}
use Rattle.base.proofs.Outs.{went-is, went-not, above_zero}
use Rattle.structs.specs.declared.DiskINode.{DiskINode}
use Rattle.table.specs.Table.{row_of}
use Rattle.table.specs.Formed.{well_formed}
use Rattle.table_laws.proofs.Rules.{well-formed}
use Rattle.files.specs.Read.{there}
use Rattle.sefs.specs.State.{Fs}
use Rattle.sefs.specs.Nodes.{node_file}
use Rattle.sefs.specs.Move.{record_on}
use Rattle.calls.proofs.Asks.{asks-ensure, asked-not, asked-done}
use Rattle.calls.proofs.General.{went-last}
use Rattle.finds.specs.Parts.{find_folder, find_id}
use Rattle.finds.proofs.Asks.{asks-folder, found-is}
use Rattle.walk.specs.Walk.{look_at, Spot, spot, at_root, part_in, good_text, from_root, enter}
use Rattle.walk.proofs.Looks.{look_stop, look-row, look-stored}
use Rattle.walk_parts.specs.States.{stand_on}

-- ---- a look

module _ (a : List ℕ) (r : DiskINode) where
  abbrev pub tested : Out DiskINode
  tested = guard (leb r.kind 4) stuck (guard (there a (node_file r)) stuck (done r))

  pub stored_other : (v : DiskINode) → 4 < r.kind → Went tested v Unit 19
  stored_other v h = ill {r = 19} (omega arith) (rw (lt-leb r.kind 4 h))

  module _ (h : r.kind ≤ 4) {b : Bool} (e : b ≡ there a (node_file r)) where
    pub stored-missing : (v : DiskINode) → b ≡ false → Went tested v Unit 19
    stored-missing v z = ill {r = 19} (omega arith) (rw (le-leb r.kind 4 h, sym e ∙ z))

    pub stored_there : b ≡ true → Went tested r Unit 0
    stored_there z = well (rw (le-leb r.kind 4 h, sym e ∙ z)) tt

module _ (s : Fs) (id : ℕ) {v : DiskINode} {n : ℕ} (g : Went (record_on s id) v Unit n) where
  pub look-not : (n ≡ 0 → ⊥) → Went (look_at s id) v Unit n
  look-not z = ill (above_zero n z) (look_stop s id (went-not g z))

  module _ (z : n ≡ 0) where
    pub look-has : {i : ℕ} → row_of s.table id ≡ Some i → Went (look_at s id) v Unit n
    look-has e = rw z (well (look-row s id (went-is g z) e) tt)

    pub look-reads : {w : DiskINode} {q : ℕ} → well_formed s.table ≡ true → row_of s.table id ≡ None → Went (tested s.arena v) w Unit q → Went (look_at s id) w Unit q
    look-reads f e h = rw (look-stored s id ((well-formed s.table).0 f) (went-is g z) e) h

pub root-went : (s : Fs) {v : DiskINode} {n : ℕ} → Went (look_at s 2) v Unit n → Went (at_root s) (spot 2 v) Unit n
unfolding at_root
root-went s g = went-last (spot 2) (λ _. tt) g

-- ---- the node of a slot

module _ (s : Fs) (id : ℕ) {v : DiskINode} {n : ℕ} (g : Went (look_at s id) v Unit n) where
  pub stand-not : (w : Spot) {q : ℕ} → (n ≡ 0 → ⊥) → q ≡ n → Went (stand_on s id) w Unit q
  unfolding stand_on
  stand-not w z e = rw e (ill (above_zero n z) (rw (went-not g z)))

  module _ (z : n ≡ 0) where
    pub stand-other : (w : Spot) {q : ℕ} → 4 < v.kind → q ≡ 19 → Went (stand_on s id) w Unit q
    unfolding stand_on
    stand-other w h e = rw e (ill {r = 19} (omega arith) (rw (went-is g z, lt-leb v.kind 4 h)))

    pub stand-there : v.kind ≤ 4 → Went (stand_on s id) (spot id v) Unit 0
    unfolding stand_on
    stand-there h = well (rw (went-is g z, le-leb v.kind 4 h)) tt

-- ---- a part

module _ (s : Fs) (r : DiskINode) (name : List ℕ) where
  part-is : part_in s r name ≡ bind (find_folder r name) (λ _. bind (find_id s.arena r name) (stand_on s))
  unfolding part_in stand_on
  part-is = found-is s.arena r name (stand_on s)

  module _ {n : ℕ} (e : n ≡ answer (find_folder r name)) where
    pub part-not : (w : Spot) {q : ℕ} → (n ≡ 0 → ⊥) → q ≡ n → Went (part_in s r name) w Unit q
    part-not w z f = rw f (ill (above_zero n z) (part-is ∙ rw (asked-not (find_folder r name) n e z)))

    module _ (z : n ≡ 0) {id m : ℕ} (g : Went (find_id s.arena r name) id Unit m) where
      asks : find_folder r name ≡ done tt
      asks = asked-done (find_folder r name) (asks-folder r name) n e z

      pub part-lost : (w : Spot) {q : ℕ} → (m ≡ 0 → ⊥) → q ≡ m → Went (part_in s r name) w Unit q
      part-lost w y f = rw f (ill (above_zero m y) (part-is ∙ rw (asks, went-not g y)))

      pub part-on : {w : Spot} {q : ℕ} → m ≡ 0 → Went (stand_on s id) w Unit q → Went (part_in s r name) w Unit q
      part-on y h = rw (part-is, asks, went-is g y) h

-- ---- a text is entered

module _ (s : Fs) (at : Spot) (l : List ℕ) {n : ℕ} (e : n ≡ answer (ensure (good_text l) 5)) where
  pub enter-bad : (w : Spot) {q : ℕ} → (n ≡ 0 → ⊥) → q ≡ n → Went (enter s at l) w Unit q
  unfolding enter
  enter-bad w z f = rw f (ill (above_zero n z) (rw (asked-not (ensure (good_text l) 5) n e z)))

  module _ (z : n ≡ 0) {b : Bool} (f : b ≡ from_root l) where
    good : ensure (good_text l) 5 ≡ done tt
    good = asked-done (ensure (good_text l) 5) (asks-ensure (good_text l) 5 (omega arith)) n e z

    pub enter-root : {w : Spot} {q : ℕ} → b ≡ true → Went (at_root s) w Unit q → Went (enter s at l) w Unit q
    unfolding enter
    enter-root t h = rw (good, sym f ∙ t) h

    pub enter-here : b ≡ false → Went (enter s at l) at Unit 0
    unfolding enter
    enter-here t = well (rw (good, sym f ∙ t)) tt
