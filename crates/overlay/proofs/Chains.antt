-- The laws of steps in a row.
use mathlib.Core.Path.{◌≡◌, refl, ap, ◌∙◌, sym}
use mathlib.Core.List.{List}
use Prim.Native.Nat.{ℕ, ◌+◌, ◌≤◌}
use native.Mathlib.Omega.{arith}
use Rattle.base.specs.Out.{Out, done, refused, bind, answer, kept}
use Rattle.base.proofs.Outs.{above_zero, refused_says, done-says}
use Rattle.overlay.specs.View.{view, left, Fine}
use Rattle.overlay.specs.Steps.{Changed, Did, went, stopped}

-- nothing was changed
pub changed-none : (a w : List ℕ) → Fine a w → Changed a w w (view a w) 0
changed-none a w F = record { is = refl; fine = F; room = omega arith }

-- one change after another
pub changed_then : {a w u t v x : List ℕ} {m n : ℕ} → Changed a w u v m → Changed a u t x n → Changed a w t x (m + n)
changed_then c d = record { is = d.is; fine = d.fine; room = omega (arith, c.room, d.room) }

-- at most so many are at most more
pub changed-more : {a w u v : List ℕ} {m : ℕ} (n : ℕ) → m ≤ n → Changed a w u v m → Changed a w u v n
changed-more n l c = record { is = c.is; fine = c.fine; room = omega (arith, c.room) }

-- a step that was done, and one that was not
pub record Well (o : Out (List ℕ)) (a w u : List ℕ) (n : ℕ) : Type 0 where
  pub is : o ≡ done (view a u)
  pub fine : Fine a u
  pub room : left w ≤ left u + n

pub did-well : {o : Out (List ℕ)} {a w u : List ℕ} {n r : ℕ} → Did o a w u n r → r ≡ 0 → Well o a w u n
did-well (went e c) z = record { is = e ∙ ap done (sym c.is); fine = c.fine; room = c.room }
did-well (stopped l e) z = absurd (omega arith)

pub did-ill : {o : Out (List ℕ)} {a w u : List ℕ} {n r : ℕ} → Did o a w u n r → (r ≡ 0 → ⊥) → o ≡ refused r
did-ill (went e c) z = absurd (z refl)
did-ill (stopped l e) z = e

-- a chain goes on after a step that was done, and stops at one that was not
did-room : {o : Out (List ℕ)} {a w u t : List ℕ} {n r : ℕ} (m k : ℕ) → left w ≤ left u + m → m + n ≤ k → Did o a u t n r → Did o a w t k r
did-room m k l h (went e c) = went e (record { is = c.is; fine = c.fine; room = omega (arith, c.room) })
did-room m k l h (stopped g e) = stopped g e

-- at most so many are at most more
pub did_more : {o : Out (List ℕ)} {a w u : List ℕ} {n r : ℕ} (m : ℕ) → n ≤ m → Did o a w u n r → Did o a w u m r
did_more m l d = did-room 0 m (omega arith) (omega arith) d

pub did-next : {o : Out (List ℕ)} {a w u t : List ℕ} {m n r : ℕ} (f : List ℕ → Out (List ℕ)) (k : ℕ) → Well o a w u m → m + n ≤ k → Did (f (view a u)) a u t n r → Did (bind o f) a w t k r
did-next {m = m} f k w l d = rw w.is (did-room m k w.room l d)

pub did-stop : {o : Out (List ℕ)} {a w u : List ℕ} {m r : ℕ} (f : List ℕ → Out (List ℕ)) (t : List ℕ) (k : ℕ) → (r ≡ 0 → ⊥) → Did o a w u m r → Did (bind o f) a w t k r
did-stop f t k z d = stopped (above_zero _ z) (rw (did-ill d z))

-- a whole call on an arena of which nothing is changed yet: what it answers and leaves where it was refused, and where it was done and committed
pub call-refused : {a w u : List ℕ} {n r : ℕ} (o : List ℕ → Out (List ℕ)) → view a w ≡ a → (r ≡ 0 → ⊥) → Did (o (view a w)) a w u n r → (r ≡ answer (o a)) × (a ≡ kept a (o a))
call-refused {a = a} o v z d = refused_says a (ap o (sym v) ∙ did-ill d z)

pub call-done : {a w u : List ℕ} {n r : ℕ} (o : List ℕ → Out (List ℕ)) (d : List ℕ) → view a w ≡ a → r ≡ 0 → Did (o (view a w)) a w u n r → d ≡ view a u → (0 ≡ answer (o a)) × (d ≡ kept a (o a))
call-done {a = a} o d v z s f = let e = done-says a (ap o (sym v) ∙ (did-well s z).is) in (e.0, f ∙ e.1)
