-- How a call that makes a hold ends: from its steps' answer to what it returns.
use mathlib.Core.Path.{◌≡◌, refl, ◌∙◌, ap}
use mathlib.Core.List.{List}
use Prim.Native.Nat.{ℕ, ◌<◌}
use native.Mathlib.Omega.{arith}
use Rattle.base.specs.Out.{Out, done, refused, bind, Went}
use Rattle.base.proofs.Outs.{went-is, went-has, went-not, above_zero}
use Rattle.overlay.specs.View.{view}
use Rattle.table.specs.declared.Table.{Table}
use Rattle.table.specs.declared.Added.{Added}
use Rattle.table.specs.Table.{add_hold}
use Rattle.sefs.specs.State.{Fs}
use Rattle.sefs.specs.Nodes.{Opened, opened}
use Rattle.sefs.specs.Create.{Given}
use Rattle.mem.specs.Mem.{table_in, Whole}
use Rattle.mem.specs.State.{fs_of, Still}
use Rattle.calls.specs.declared.HeldReply as answered
use Rattle.std.specs.Prelude.{Result}
use Rattle.std.specs.Result.{result_unwrap_or}
use Rattle.base.specs.Told.{code}
use Rattle.base.specs.declared.reasons.Reason.{Reason}
use Rattle.table.specs.declared.Handle.{Handle}
use Rattle.calls.specs.Answers.{added_as, no_handle, said_held, given_of}
use Rattle.calls.proofs.Answers.{given-is, said-held, said-not_held}
use Rattle.calls_create.specs.Held.{holding, leaving, EndedOpen, opens, stays, EndedHeld, held, stopped, ReturnedHeld}

-- what ends a chain ends its last step
pub holding-bind : {A : Type 0} (who : ℕ) (m : Out A) (f : A → Out Opened) (g : A → Out Given) → ((x : A) → g x ≡ holding who (f x)) → bind m g ≡ holding who (bind m f)
holding-bind who (done x) f g h = h x
holding-bind who (refused n) f g h = refl

pub holding-both : {A B : Type 0} (who : ℕ) (m : Out A) (f : A → Out B) (k : B → Out Opened) (g : A → Out Given) → ((x : A) → g x ≡ holding who (bind (f x) k)) → bind m g ≡ holding who (bind (bind m f) k)
holding-both who (done x) f k g h = h x
holding-both who (refused n) f k g h = refl

-- steps from the state z that were refused: nothing was written
pub opens_not : (f : Fs → Out Opened) {x z : Fs} {v : Opened} {P : Type 0} {r : ℕ} (a b m : List ℕ) (row : ℕ) → x ≡ z → Went (f x) v P r → (r ≡ 0 → ⊥) → b ≡ a → EndedOpen (f z) a b m row r
opens_not f a b m row q g n e = rw (← q) (stays (above_zero _ n) (went-not g n) e)

-- steps that were done: what they left was written
pub opens-done : (f : Fs → Out Opened) {x z : Fs} {v : List ℕ} {k r : ℕ} (a b w n : List ℕ) (row : ℕ) → x ≡ z → Went (f x) (opened (fs_of a w n) row) (Still a v w n k × (row < 34)) r → r ≡ 0 → b ≡ view a w → EndedOpen (f z) a b n row r
unfolding fs_of
opens-done f a b w n row q g z e = rw (← q, z) (opens (went-has g z).0.whole (went-has g z).1 (λ who. rw (went-is g z, e)))

-- what a hold can be made of
pub opens-has : {o : Out Opened} {a b m : List ℕ} {row n : ℕ} → EndedOpen o a b m row n → n ≡ 0 → Whole m × (row < 34)
opens-has (opens w l e) z = (w, l)
opens-has (stays l e k) z = absurd (omega arith)

-- the hold x on that row
pub handed : {o : Out Opened} {a b m : List ℕ} {x : Added} {row n r : ℕ} (who : ℕ) → r ≡ n → (n ≡ 0 → add_hold (table_in m) who row ≡ x) → EndedOpen o a b m row n → EndedHeld (holding who o) a b x r
handed {b = b} who k h (opens w l e) = rw k (held (e who ∙ ap (λ (y : Added). done (leaving b y)) (h refl)))
handed who k h (stays l e j) = rw k (stopped l (rw e) j)

-- an outcome by another name
pub held-is : {o p : Out Given} {a b : List ℕ} {x : Added} {n : ℕ} → o ≡ p → EndedHeld p a b x n → EndedHeld o a b x n
held-is e g = rw e g

-- a call that is refused before its steps
pub held-refused : {o : Out Given} {a b : List ℕ} {x : Added} {n : ℕ} → (n ≡ 0 → ⊥) → o ≡ refused n → b ≡ a → EndedHeld o a b x n
held-refused z e k = stopped (above_zero _ z) e k

-- what the call returns, by what its steps answered
returned-ended : (t u : Table) {o : Out Given} {a b : List ℕ} (n : Result Handle Reason) {r : answered.HeldReply} → EndedHeld o a b (added_as (result_unwrap_or n no_handle) u) (code n) → r ≡ given_of t u n → ReturnedHeld t o a b r
returned-ended t u {o = o} {a = a} {b = b} n {r = r} g q = go (code n) refl g
  where
    go : (k : ℕ) → code n ≡ k → EndedHeld o a b (added_as (result_unwrap_or n no_handle) u) k → ReturnedHeld t o a b r
    go k z (held e) = record { answer = ap said_held q ∙ said-held t u n (result_unwrap_or n no_handle) (given-is n no_handle z) ∙ rw e; arena = rw e }
    go k z (stopped l e f) = record { answer = ap said_held q ∙ said-not_held t u n k z (λ y. omega arith) ∙ rw e; arena = f ∙ rw e }

-- the same, where the table that memory was given is known by another name
pub returned-table : (f : Table → Out Given) (t : Table) {u v w : Table} {a b : List ℕ} (n : Result Handle Reason) {r : answered.HeldReply} → u ≡ v → EndedHeld (f u) a b (added_as (result_unwrap_or n no_handle) w) (code n) → r ≡ given_of t w n → ReturnedHeld t (f v) a b r
returned-table f t {w = w} n q g e = rw (← q) (returned-ended t w n g e)
