-- What each contract says of the number and of all that was lent has one solution.
use mathlib.Core.Path.{◌≡◌, sym, ◌∙◌}
use mathlib.Core.List.{List}
use Prim.Native.Nat.{ℕ}
use Rattle.base.specs.Out.{Out}
use Rattle.table.specs.declared.Added.{Added}
use Rattle.walk.specs.Walk.{Walked}
use Rattle.edge.specs.Edge.{Answers, Walks}

module _ {n m : ℕ} where
  pub answers_one : {A P : Type 0} {o : Out A} {leaves : A → P} {l p q : P} → Answers o leaves l p n → Answers o leaves l q m → (n ≡ m) × (p ≡ q)
  answers_one f g = (f.number ∙ sym g.number, f.places ∙ sym g.places)

  pub walks-one : {x : Walked Added} {p q r : List ℕ} {l u v : List ℕ × List ℕ} → Walks x p q l u n → Walks x p r l v m → (q ≡ r) × ((n ≡ m) × (u ≡ v))
  walks-one f g = (f.links ∙ sym g.links, answers_one f.answers g.answers)
