-- Where a list of runs leads, by any transport: to the pair that its calls lead to, whose bytes pass. From there more may be run.
use mathlib.Core.Path.{◌≡◌, refl, ap, ◌∙◌}
use mathlib.Core.List.{List, [], ◌∷◌, ◌++◌}
use mathlib.Core.Logic.{◌≢◌}
use Prim.Native.Nat.{ℕ}
use Rattle.sequences.specs.Pairs.{Pair}
use Rattle.sequences.specs.Calls.{Call, Fits, next}
use Rattle.sequences.specs.Promises.{Along}
use Rattle.sequences.specs.Promises as along
use Rattle.drawings.specs.Saved.{led}
use Rattle.linked.specs.Images.{Image, pair_of, Passes, Places}
use Rattle.linked.specs.Linked.{Functions, Runs, none, ran, wrong, Goes, AlongRuns, Transports}
use Rattle.linked.proofs.Transport.{same-pair, same-trusted}

-- what any list of calls has
abbrev pub Free : Call → Pair → Type 0
Free c p = Unit

freely : (p : Pair) (l : List Call) → Along Free p l
freely p [] = along.ends
freely p (c ∷ l) = along.goes tt (freely (next c p) l)

module _ {R : Functions} where
  -- one list after another
  pub joined : {s v z : Image} {l k : List Call} → Runs R s l v → Runs R v k z → Runs R s (l ++ k) z
  joined none m = m
  joined (ran f r a n) m = ran f r a (joined n m)
  joined (wrong r n) m = wrong r (joined n m)

  -- what is so along both is so along the second
  second : {s v z : Image} {l k : List Call} (n : Runs R s l v) (m : Runs R v k z) → AlongRuns Free (joined n m) → AlongRuns Free m
  unfolding joined
  second none m A = A
  second (ran f r a n) m A = second n m A.1
  second (wrong r n) m A = second n m A.2

  -- where they lead
  leads : {s v : Image} {l : List Call} (m : Runs R s l v) → AlongRuns Free m → pair_of v ≡ led (pair_of s) l
  leads none A = refl
  leads (ran {l = l} f r a m) A = leads m A.1 ∙ ap (λ (p : Pair). led p l) A.0.left
  leads {l = l} (wrong r m) A = leads m A.2 ∙ ap (λ (p : Pair). led p l) (same-pair A.0)

  -- there the bytes pass
  passing : {s v : Image} {l : List Call} (m : Runs R s l v) → AlongRuns Free m → Passes s → Passes v
  passing none A y = y
  passing (ran f r a m) A y = passing m A.1 A.0.trusted
  passing (wrong r m) A y = passing m A.2 (same-trusted A.0 y)

module _ {R : Functions} {I : Image → Type 0} (T : Transports R I) where
  pub along-free : {s v : Image} {l : List Call} → I s → (m : Runs R s l v) → AlongRuns Free m
  along-free {s = s} {v = v} {l = l} i m = T Free s v l m i (freely (pair_of s) l)

  -- after a list of runs: one run more
  pub goes_after : {s v z : Image} {l : List Call} {c : Call} {x y : Places} {n : ℕ} → I s → Runs R s l v → Fits c → R c v x z y n → n ≢ 255 → Goes Free c v x z y n
  goes_after i m F r k = (second m (ran F r k none) (along-free i (joined m (ran F r k none)))).0

  -- a list more
  pub led-after : {s v z : Image} {l k : List Call} → I s → Runs R s l v → (m : Runs R v k z) → pair_of z ≡ led (pair_of v) k
  led-after i n m = leads m (second n m (along-free i (joined n m)))

  pub passes-after : {s v : Image} {l : List Call} → I s → Passes s → Runs R s l v → Passes v
  passes-after i y m = passing m (along-free i m) y

  -- a run, as a list of one
  pub one : {c : Call} {s u : Image} {x y : Places} {n : ℕ} → I s → Fits c → R c s x u y n → n ≢ 255 → Goes Free c s x u y n
  one i F r z = goes_after i none F r z
