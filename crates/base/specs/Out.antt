-- The outcome of a step: done with what it leaves, or refused with a reason's number. A refusal carries no state, so nothing is kept of it.
use Rattle.std.specs.Prelude.{Bool, true, false, ◌≡◌, ℕ, ◌<◌}

pub data Out (A : Type 0) : Type 0 where
  done : A → Out A
  refused : ℕ → Out A

-- one step after another: the first that is refused answers
abbrev pub bind : {A B : Type 0} → Out A → (A → Out B) → Out B
bind (done a) f = f a
bind (refused n) f = refused n

-- the same, as a chain of steps is written
infixl 20 ◌>>=◌
abbrev pub ◌>>=◌ : {A B : Type 0} → Out A → (A → Out B) → Out B
m >>= f = bind m f

-- a test before the rest: the rest runs where it passed
abbrev pub guard : {A : Type 0} → Bool → ℕ → Out A → Out A
guard true n m = m
guard false n m = refused n

-- the same test as a step of a chain
abbrev pub ensure : Bool → ℕ → Out Unit
ensure true n = done tt
ensure false n = refused n

-- the answer as a number: 0, or the reason
abbrev pub answer : {A : Type 0} → Out A → ℕ
answer (done a) = 0
answer (refused n) = n

-- what there is afterwards: a refusal keeps what was
abbrev pub kept : {A : Type 0} → A → Out A → A
kept x (done y) = y
kept x (refused n) = x

-- what is known of an outcome: Q of what is done, R of the number refused
pub data Ok {A : Type 0} (Q : A → Type 0) (R : ℕ → Type 0) : Out A → Type 0 where
  went : {a : A} → Q a → Ok Q R (done a)
  said : {n : ℕ} → R n → Ok Q R (refused n)

-- a step of the code answers r where its definition has the outcome o: 0 where it was done, and then o is v and P holds; or o's reason
pub data Went {A : Type 0} (o : Out A) (v : A) (P : Type 0) : ℕ → Type 0 where
  well : o ≡ done v → P → Went o v P 0
  ill : {r : ℕ} → 0 < r → o ≡ refused r → Went o v P r
