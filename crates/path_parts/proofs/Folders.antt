-- The folder above: from what the code asks and answers to the definition's steps.
use mathlib.Core.Path.{◌≡◌}
use mathlib.Core.List.{List}
use Prim.Native.Nat.{ℕ, ◌+◌, ◌-◌, ◌≤◌}
use native.Mathlib.Omega.{arith}
use lib.ListN.{length, drop, length-drop}
use lib.Seq.{length-take-le}
use borrow.Author.Tests.{eq-eqb, ne_eqb}
use Rattle.base.specs.Out.{Went, well, ill}
use Rattle.base.specs.Parts.{part}
use Rattle.base.proofs.Outs.{went-is, went-not, above_zero}
use Rattle.structs.specs.declared.DiskINode.{DiskINode}
use Rattle.sefs.specs.State.{Fs}
use Rattle.sefs.specs.Move.{record_on, dots_of}
use Rattle.walk.specs.Walk.{Spot, spot}
use Rattle.paths.specs.Path.{folder_on, name_in}
use Rattle.paths.specs.Spans.{above_of, Reached, reached, step_up}

-- ---- the record of a folder: it is there, and is a folder's

module _ (s : Fs) (id : ℕ) {v : DiskINode} {n : ℕ} (g : Went (record_on s id) v Unit n) where
  pub folder-stop : (w : DiskINode) → (n ≡ 0 → ⊥) → Went (folder_on s id) w Unit n
  unfolding folder_on
  folder-stop w z = ill (above_zero n z) (rw (went-not g z))

  module _ (z : n ≡ 0) where
    pub folder-there : v.kind ≡ 2 → Went (folder_on s id) v Unit n
    unfolding folder_on
    folder-there k = rw z (well (rw (went-is g z, eq-eqb v.kind 2 k)) tt)

    pub folder-other : (w : DiskINode) → (v.kind ≡ 2 → ⊥) → Went (folder_on s id) w Unit 19
    unfolding folder_on
    folder-other w k = ill {r = 19} (omega arith) (rw (went-is g z, ne_eqb v.kind 2 k))

-- ---- what slot 1 names

module _ (s : Fs) (r : DiskINode) {id n : ℕ} (g : Went (dots_of s r) id Unit n) where
  pub above-stop : (w : Spot) {q : ℕ} → (n ≡ 0 → ⊥) → q ≡ n → Went (above_of s r) w Unit q
  unfolding above_of
  above-stop w z e = rw e (ill (above_zero n z) (rw (went-not g z)))

  -- the id is slot 1's, whatever the look at its node says
  pub above_on : {v : DiskINode} {q : ℕ} → n ≡ 0 → Went (folder_on s id) v Unit q → Went (above_of s r) (spot id v) Unit q
  unfolding above_of
  above_on z (well e p) = well (rw (went-is g z, e)) tt
  above_on z (ill l e) = ill l (rw (went-is g z, e))

-- ---- one turn of the way up

-- a name that stands in a slot is as long as is said
part-long : (l : List ℕ) (n : ℕ) → length l ≡ 264 → n ≤ 255 → length (part l 4 (4 + n)) ≡ n
part-long l n e h = let q : 4 + n - 4 ≤ length (drop 4 l) = omega (arith, length-drop 4 l) in omega (arith, length-take-le (4 + n - 4) (drop 4 l) q)

module _ (s : Fs) (x : ℕ) (r : DiskINode) {u : Spot} {n : ℕ} (g : Went (above_of s r) u Unit n) where
  pub step-stop : (w : Reached) (Q : Type 0) → (n ≡ 0 → ⊥) → Went (step_up s x r) w Q n
  unfolding step_up
  step-stop w Q z = ill (above_zero n z) (rw (went-not g z))

  pub step-on : (l : List ℕ) (m : ℕ) {q : ℕ} → n ≡ 0 → length l ≡ 264 → Went (name_in s.arena u.rec x) (part l 4 (4 + m)) (m ≤ 255) q → Went (step_up s x r) (reached u m) (m ≤ 255) q
  unfolding step_up
  step-on l m z e (well f p) = well (rw (went-is g z, f, part-long l m e p)) p
  step-on l m z e (ill o f) = ill o (rw (went-is g z, f))
