-- How a call begins and ends: from its handles to its steps, and from its steps' answer to what it returns.
use mathlib.Core.Path.{◌≡◌, refl, sym, ◌∙◌, ap}
use mathlib.Core.Bool.{true}
use mathlib.Core.List.{List}
use Prim.Native.Nat.{ℕ, ◌*◌, ◌≤◌}
use native.Mathlib.Omega.{arith}
use lib.ListN.{replicate}
use Rattle.base.specs.Out.{Out, done, refused, bind, Went, ill}
use Rattle.std.specs.Prelude.{Result}
use Rattle.base.specs.Told.{code}
use Rattle.base.specs.declared.reasons.Reason.{Reason}
use Rattle.base.proofs.Outs.{went-is, went-not, went-weaken, above_zero}
use Rattle.arena.specs.Blocks.{legal}
use Rattle.arena.proofs.Blocks.{legal-is}
use Rattle.overlay.specs.View.{view, begun, Empty}
use Rattle.overlay.proofs.Views.{ready}
use Rattle.table.specs.declared.Table.{Table}
use Rattle.sefs.specs.State.{Fs}
use Rattle.sefs.specs.Meta.{load_meta}
use Rattle.sefs.specs.Ask.{start}
use Rattle.sefs.specs.Create.{After}
use Rattle.mem.specs.Mem.{table_in, meta_in, Whole}
use Rattle.mem.specs.State.{fs_of, fs_at}
use Rattle.chains.specs.Led.{Led}
use Rattle.calls.specs.declared.Reply as answered
use Rattle.calls.specs.Answers.{after_of, said}
use Rattle.calls.proofs.Answers.{said-done, said-refused, said-one}
use Rattle.steps.specs.Ends.{Begun, Rest, on, off, ending, Ended, went, stopped, Returned}

-- ---- the start

-- a workspace of m blocks of zeros, made ready
pub started : (a w : List ℕ) (m : ℕ) → legal a ≡ true → 10 ≤ m → m ≤ 255 → w ≡ begun (replicate (512 * m) 0) → Empty a w m
started a w m l h k e = ready a w m (legal-is a l).whole (legal-is a l).most h k e

-- the memory that a call has begun with is its state
pub begun-start : {a first next m n : List ℕ} → Begun a first next m n → fs_at a n ≡ start a (table_in m)
begun-start b = rw (b.meta, b.table)

-- and so is a workspace with no block
pub fs-begun : (a w m : List ℕ) (k : ℕ) → Empty a w k → fs_of a w m ≡ fs_at a m
unfolding fs_of
fs-begun a w m k R = rw R.is

-- ---- what a call asks before its steps

pub rest-is : {A : Type 0} {o e : Out A} {P : Type 0} {r : ℕ} → Rest o e P r → r ≡ 0 → o ≡ e
rest-is (on e p) z = e
rest-is (off l e) z = absurd (omega arith)

pub rest_has : {A : Type 0} {o e : Out A} {P : Type 0} {r : ℕ} → Rest o e P r → r ≡ 0 → P
rest_has (on e p) z = p
rest_has (off l e) z = absurd (omega arith)

pub rest-not : {A : Type 0} {o e : Out A} {P : Type 0} {r : ℕ} → Rest o e P r → (r ≡ 0 → ⊥) → o ≡ refused r
rest-not (on e p) z = absurd (z refl)
rest-not (off l e) z = e

-- a reason
pub rest-off : {A : Type 0} {o e : Out A} {P : Type 0} {r : ℕ} → (r ≡ 0 → ⊥) → o ≡ refused r → Rest o e P r
rest-off z e = off (above_zero _ z) e

-- an outcome by another name, and more known of its rest
pub rest-as : {A : Type 0} {o q e : Out A} {P Q : Type 0} {r : ℕ} → q ≡ o → (P → Q) → Rest o e P r → Rest q e Q r
rest-as x f (on e p) = on (x ∙ e) (f p)
rest-as x f (off l e) = off l (x ∙ e)

-- what comes after it
pub rest_then : {A B : Type 0} {o e : Out A} {P : Type 0} {r : ℕ} (f : A → Out B) → Rest o e P r → Rest (bind o f) (bind e f) P r
rest_then f (on e p) = on (ap (λ x. bind x f) e) p
rest_then f (off l e) = off l (rw e)

-- ---- the end

-- what ends a chain ends its last step
pub ending-bind : {A : Type 0} (m : Out A) (f : A → Out Fs) (g : A → Out After) → ((x : A) → g x ≡ ending (f x)) → bind m g ≡ ending (bind m f)
ending-bind (done x) f g h = h x
ending-bind (refused n) f g h = refl

pub ending-both : {A B : Type 0} (m : Out A) (f : A → Out B) (k : B → Out Fs) (g : A → Out After) → ((x : A) → g x ≡ ending (bind (f x) k)) → bind m g ≡ ending (bind (bind m f) k)
ending-both (done x) f k g h = h x
ending-both (refused n) f k g h = refl

-- chains that go on alike are alike
pub bind-same : {A B : Type 0} (m : Out A) (f g : A → Out B) → ((x : A) → f x ≡ g x) → bind m f ≡ bind m g
bind-same (done x) f g h = h x
bind-same (refused n) f g h = refl

-- steps from the state z that were refused: nothing was written
pub ended-not : (f : Fs → Out Fs) {x z v : Fs} {P : Type 0} {r : ℕ} (a b : List ℕ) (u : Table) → x ≡ z → Went (f x) v P r → (r ≡ 0 → ⊥) → b ≡ a → Ended (ending (f z)) a b u r
ended-not f a b u q g n e = rw (← q) (stopped (above_zero _ n) (rw (went-not g n)) e)

-- steps that were done: what they left was written
pub ended-done : (f : Fs → Out Fs) {x z : Fs} {P : Type 0} {r : ℕ} (a b w n : List ℕ) → x ≡ z → Went (f x) (fs_of a w n) P r → r ≡ 0 → b ≡ view a w → Ended (ending (f z)) a b (table_in n) 0
unfolding fs_of
ended-done f a b w n q g z e = rw (← q) (went (rw (went-is g z, e)))

-- an outcome by another name
pub ended_is : {o p : Out After} {a b : List ℕ} {u : Table} {n : ℕ} → o ≡ p → Ended p a b u n → Ended o a b u n
ended_is e g = rw e g

pub ended-refused : {o : Out After} {a b : List ℕ} {u : Table} {n : ℕ} → (n ≡ 0 → ⊥) → o ≡ refused n → b ≡ a → Ended o a b u n
ended-refused z e k = stopped (above_zero _ z) e k

-- what the call returns, by what its steps answered
pub returned-ended : (t : Table) {o : Out After} {a b : List ℕ} {u : Table} (n : Result Unit Reason) {r : answered.Reply Reason} → Ended o a b u (code n) → r ≡ after_of t u n → Returned t o a b r
returned-ended t {o = o} {a = a} {b = b} {u = u} n {r = r} g q = go (code n) refl g
  where
    go : (k : ℕ) → code n ≡ k → Ended o a b u k → Returned t o a b r
    go k z (went e) = record { answer = ap said q ∙ said-done t u n z ∙ rw e; arena = rw e }
    go k z (stopped l e f) = record { answer = ap said q ∙ said-refused t u n k z (λ y. omega arith) ∙ rw e; arena = f ∙ rw e }

-- the same, where the table that memory was given is known by another name
pub returned-table : (f : Table → Out After) (t : Table) {x y : Table} {a b : List ℕ} {u : Table} (n : Result Unit Reason) {r : answered.Reply Reason} → x ≡ y → Ended (f x) a b u (code n) → r ≡ after_of t u n → Returned t (f y) a b r
returned-table f t n q g e = rw (← q) (returned-ended t n g e)

-- ---- two results that satisfy a contract are the same

pub returned-one : (t : Table) (o : Out After) {a b c : List ℕ} {r s : answered.Reply Reason} → Returned t o a b r → Returned t o a c s → (r ≡ s) × (b ≡ c)
returned-one t o p q = (said-one _ _ (p.answer ∙ sym q.answer), p.arena ∙ sym q.arena)

-- ---- how a call begins: the handles' rows, and then superblock and maps

module _ {A R : Type 0} {o : Out A} {v : A} {r : ℕ} (g : Went o v R r) where
  pub begin-not : (Q : Type 0) → (r ≡ 0 → ⊥) → Went o v Q r
  begin-not Q z = ill (above_zero r z) (went-not g z)

  pub begin-read : {a first next : List ℕ} (m d : List ℕ) → Led a first next → (meta_in d ≡ load_meta a) × ((table_in d ≡ table_in m) × Whole d) → Went o v (Begun a first next m d × R) r
  begin-read m d k l = went-weaken (λ p. (record { led = k; meta = l.0; table = l.1.0; whole = l.1.1 }, p)) g
