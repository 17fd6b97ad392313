-- The laws of outcomes.
use mathlib.Core.Path.{◌≡◌, refl, sym, ap, subst}
use mathlib.Core.Bool.{Bool, true, false}
use Prim.Native.Nat.{ℕ, zero, suc, ◌<◌}
use native.Mathlib.Omega.{arith}
use Rattle.base.specs.Out.{Out, done, refused, bind, guard, ensure, answer, kept, Ok, went, said, Went, well, ill}

pub ok-bind : {A B : Type 0} {P : A → Type 0} {Q : B → Type 0} {R : ℕ → Type 0} {m : Out A} {f : A → Out B}
    → Ok P R m → ((a : A) → P a → Ok Q R (f a)) → Ok Q R (bind m f)
ok-bind (went {a = a} h) k = k a h
ok-bind (said h) k = said h

pub ok-weaken : {A : Type 0} {P Q : A → Type 0} {R S : ℕ → Type 0} {m : Out A} → ((a : A) → P a → Q a) → ((n : ℕ) → R n → S n) → Ok P R m → Ok Q S m
ok-weaken f g (went h) = went (f _ h)
ok-weaken f g (said h) = said (g _ h)

pub ok-guard : {A : Type 0} {Q : A → Type 0} {R : ℕ → Type 0} (b : Bool) (n : ℕ) {m : Out A} → R n → (b ≡ true → Ok Q R m) → Ok Q R (guard b n m)
ok-guard true n r h = h refl
ok-guard false n r h = said r

-- a test that stands alone guards what comes after it
pub ensure-guard : {A : Type 0} (b : Bool) (n : ℕ) (m : Out A) → bind (ensure b n) (λ _. m) ≡ guard b n m
ensure-guard true n m = refl
ensure-guard false n m = refl

-- what is known of an outcome that was done
of-done : {A : Type 0} {Q : A → Type 0} {R : ℕ → Type 0} {m : Out A} → Ok Q R m → (a : A) → m ≡ done a → Q a
of-done {Q = Q} (went {a = x} h) a e = let q : x ≡ a = cc in subst Q q h
of-done (said h) a e = absurd (let z : ◌≡◌ {A = ℕ} 0 1 = cc in omega arith)

pub ok-done : {A : Type 0} {Q : A → Type 0} {R : ℕ → Type 0} {a : A} → Ok Q R (done a) → Q a
ok-done {a = a} h = of-done h a refl

-- a chain that was done: each of its steps was
pub bind-is-done : {A B : Type 0} (m : Out A) (f : A → Out B) (b : B) → bind m f ≡ done b → (a : A) × (m ≡ done a) × (f a ≡ done b)
bind-is-done (done a) f b e = (a, refl, e)
bind-is-done (refused n) f b e = absurd (let z : ◌≡◌ {A = ℕ} 0 1 = cc in omega arith)

pub bind_assoc : {A B C : Type 0} (m : Out A) (f : A → Out B) (g : B → Out C) → bind (bind m f) g ≡ bind m (λ a. bind (f a) g)
bind_assoc (done a) f g = refl
bind_assoc (refused n) f g = refl

-- ---- steps of the code

-- an answer of 0: it was done
pub went-is : {A : Type 0} {o : Out A} {v : A} {P : Type 0} {r : ℕ} → Went o v P r → r ≡ 0 → o ≡ done v
went-is (well e p) z = e
went-is (ill l e) z = absurd (omega arith)

pub went-has : {A : Type 0} {o : Out A} {v : A} {P : Type 0} {r : ℕ} → Went o v P r → r ≡ 0 → P
went-has (well e p) z = p
went-has (ill l e) z = absurd (omega arith)

-- another answer: it is the reason
pub went-not : {A : Type 0} {o : Out A} {v : A} {P : Type 0} {r : ℕ} → Went o v P r → (r ≡ 0 → ⊥) → o ≡ refused r
went-not (well e p) z = absurd (z refl)
went-not (ill l e) z = e

pub above_zero : (r : ℕ) → (r ≡ 0 → ⊥) → 0 < r
above_zero zero h = absurd (h refl)
above_zero (suc r) h = omega arith

-- a chain goes on after a step that was done, and stops at one that was not
pub went-next : {A B : Type 0} {o : Out A} {v : A} {w : B} {Q : Type 0} {r : ℕ} (f : A → Out B) → o ≡ done v → Went (f v) w Q r → Went (bind o f) w Q r
went-next f e g = rw e g

pub went-stop : {A B : Type 0} {o : Out A} {v : A} {P Q : Type 0} {r : ℕ} (f : A → Out B) (w : B) → (r ≡ 0 → ⊥) → Went o v P r → Went (bind o f) w Q r
went-stop f w z g = ill (above_zero _ z) (rw (went-not g z))

-- what holds where it was done may be weakened
pub went-weaken : {A : Type 0} {o : Out A} {v : A} {P Q : Type 0} {r : ℕ} → (P → Q) → Went o v P r → Went o v Q r
went-weaken f (well e p) = well e (f p)
went-weaken f (ill l e) = ill l e

-- ---- outcomes and what is kept

-- a chain whose last step does nothing
pub bind_done : {A : Type 0} (m : Out A) → bind m done ≡ m
bind_done (done x) = refl
bind_done (refused n) = refl

-- what code answers, and what it leaves, where an outcome was refused and where it was done
pub refused_says : {A : Type 0} {o : Out A} {n : ℕ} (x : A) → o ≡ refused n → (n ≡ answer o) × (x ≡ kept x o)
refused_says x e = (sym (ap answer e), sym (ap (kept x) e))

pub done-says : {A : Type 0} {o : Out A} {y : A} (x : A) → o ≡ done y → (0 ≡ answer o) × (y ≡ kept x o)
done-says x e = (sym (ap answer e), sym (ap (kept x) e))

-- an outcome that is not refused is done
pub ok-does : {A : Type 0} {Q : A → Type 0} {R : ℕ → Type 0} {m : Out A} → Ok Q R m → ((n : ℕ) → R n → ⊥) → (x : A) × (m ≡ done x) × Q x
ok-does (went {a = a} q) never = (a, refl, q)
ok-does (said {n = n} r) never = absurd (never n r)

-- a test before the rest
pub ok-test : {A : Type 0} {Q : A → Type 0} {R : ℕ → Type 0} (b : Bool) (n : ℕ) {m : Out A} → (b ≡ false → R n) → (b ≡ true → Ok Q R m) → Ok Q R (guard b n m)
ok-test true n r h = h refl
ok-test false n r h = said (r refl)
