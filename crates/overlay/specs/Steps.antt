-- What a step does to the workspace, said by what it does to the view.
use Rattle.std.specs.Prelude.{◌≡◌, List, ℕ, ◌+◌, ◌≤◌, ◌<◌}
use Rattle.base.specs.Out.{Out, done, refused}
use Rattle.overlay.specs.View.{view, left, Fine}

-- the workspace was w and is u: the view is v now, and at most n blocks of the workspace were taken
pub record Changed (a w u v : List ℕ) (n : ℕ) : Type 0 where
  pub is : view a u ≡ v
  pub fine : Fine a u
  pub room : left w ≤ left u + n

-- the step's answer r is what the definition's outcome o is: 0 where it was done, and then the view is what o left; or the reason
pub data Did (o : Out (List ℕ)) (a w u : List ℕ) (n : ℕ) : ℕ → Type 0 where
  went : {v : List ℕ} → o ≡ done v → Changed a w u v n → Did o a w u n 0
  stopped : {r : ℕ} → 0 < r → o ≡ refused r → Did o a w u n r
