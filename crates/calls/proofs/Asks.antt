-- Questions: what an answer's number says of the outcome, and one question after another.
use mathlib.Core.Path.{◌≡◌, refl, sym, ◌∙◌, ap}
use mathlib.Core.Bool.{Bool, true, false, not, ◌&&◌}
use mathlib.Core.List.{List}
use Prim.Native.Nat.{ℕ, ◌<◌}
use native.Mathlib.Omega.{arith}
use lib.ListN.{length, replicate, get_or-replicate}
use lib.Dec.{eqb, ltb, leb}
use Rattle.base.specs.Out.{Out, done, refused, bind, ensure, answer, Ok, went, said, Went, well, ill}
use Rattle.base.specs.Reasons.{invalid_param}
use Rattle.base.specs.Search.{pick, found_below}
use Rattle.std.specs.Prelude.{Option, Some, None}
use Rattle.base.proofs.Outs.{ok-bind, above_zero, went-is, went-has, went-not}
use Rattle.base.proofs.Searches.{at-found}
use Rattle.structs.specs.Types.{is_folder, is_type}
use Rattle.structs.specs.declared.DiskINode.{DiskINode}
use Rattle.utf8.specs.Names.{early_reason, new_reason}
use Rattle.utf8.specs.declared.NameVerdict.{NameVerdict}
use Rattle.utf8.specs.declared.NameVerdict.TheVariants.{Good, Slashed, Bad}
use Rattle.table.specs.declared.Table.{Table}
use Rattle.table.specs.declared.Handle.{Handle}
use Rattle.table.specs.Table.{hold_at, is_own, is_owner, live_row}
use Rattle.table.specs.Formed.{well_formed}
use Rattle.arena.specs.Blocks.{legal, blocks}
use Rattle.arena.proofs.Blocks.{legal-is}
use Rattle.sound.specs.Sound.{sound}
use Rattle.sound.specs.Chain.{Chains, firsts, nexts}
use Rattle.sound.proofs.Chains.{length-firsts, length-nexts}
use Rattle.sefs.specs.Ask.{admit_arena, admit, an_owner, by_handle, or_bad_handle, known, folder, not_removed, live_folder}
use Rattle.sefs.specs.Read.{readable}
use Rattle.sefs.specs.Contents.{has_contents}
use Rattle.chains.specs.Led.{Led}
use Rattle.mem.specs.Mem.{table_in, Whole}
use Rattle.calls.specs.Asked.{Blank, Admitted, by_two}

-- a refusal has a reason's number, and no reason's number is 0
abbrev pub Asks : {A : Type 0} → Out A → Type 0
Asks o = Ok (λ x. Unit) (λ n. 0 < n) o

pub asks-ensure : (b : Bool) (n : ℕ) → 0 < n → Asks (ensure b n)
asks-ensure true n l = went tt
asks-ensure false n l = said l

pub asks-then : {A B : Type 0} {m : Out A} {f : A → Out B} → Asks m → ((x : A) → Asks (f x)) → Asks (bind m f)
asks-then p q = ok-bind p (λ x _. q x)

-- a number above 0 is the reason
pub asked-not : {A : Type 0} (o : Out A) (r : ℕ) → r ≡ answer o → (r ≡ 0 → ⊥) → o ≡ refused r
asked-not (done x) r e z = absurd (z e)
asked-not (refused n) r e z = ap refused (sym e)

-- 0 says that nothing was refused
pub asked-done : (o : Out Unit) → Asks o → (r : ℕ) → r ≡ answer o → r ≡ 0 → o ≡ done tt
asked-done (done x) s r e z = refl
asked-done (refused n) (said l) r e z = absurd (omega arith)

pub asked-went : (o : Out Unit) → Asks o → (r : ℕ) → r ≡ answer o → Went o tt Unit r
asked-went (done x) s r e = rw e (well refl tt)
asked-went (refused n) (said l) r e = rw e (ill l refl)

-- a test's answer
pub ensure-done : {b : Bool} (n : ℕ) → b ≡ true → 0 ≡ answer (ensure b n)
ensure-done n e = rw e

pub ensure-not : {b : Bool} (n : ℕ) → b ≡ false → n ≡ answer (ensure b n)
ensure-not n e = rw e

-- a question that refuses answers for what comes after it; else what comes after it answers
pub answer-stop : {A B : Type 0} (o : Out A) (f : A → Out B) (r : ℕ) → r ≡ answer o → (r ≡ 0 → ⊥) → r ≡ answer (bind o f)
answer-stop (done x) f r e z = absurd (z e)
answer-stop (refused n) f r e z = e

pub answer-next : {B : Type 0} (o : Out Unit) (f : Unit → Out B) → Asks o → (r : ℕ) → r ≡ answer o → r ≡ 0 → answer (f tt) ≡ answer (bind o f)
answer-next (done x) f s r e z = refl
answer-next (refused n) f (said l) r e z = absurd (omega arith)

-- ---- the questions

pub asks-live : (r : DiskINode) → Asks (live_folder r)
unfolding live_folder
asks-live r =
    asks-then (asks-ensure (ltb 0 r.kind && leb r.kind 4) 19 (omega arith))
    (λ _. asks-then (asks-ensure (eqb r.kind 2) 7 (omega arith)) (λ _. asks-ensure (ltb 0 r.nlinks) 8 (omega arith)))

-- the questions of a live folder, in turn: a number n that the question before answered
module _ (r : DiskINode) (n : ℕ) where
  pub live-stop : n ≡ answer (known r) → (n ≡ 0 → ⊥) → n ≡ answer (live_folder r)
  unfolding live_folder
  live-stop e z = answer-stop (known r) (λ _. bind (folder r) (λ _. not_removed r)) n e z

  pub live-next : n ≡ answer (known r) → n ≡ 0 → answer (bind (folder r) (λ _. not_removed r)) ≡ answer (live_folder r)
  unfolding live_folder
  live-next e z = answer-next (known r) (λ _. bind (folder r) (λ _. not_removed r)) (asks-ensure (ltb 0 r.kind && leb r.kind 4) 19 (omega arith)) n e z

  pub folder-stop : n ≡ answer (folder r) → (n ≡ 0 → ⊥) → n ≡ answer (bind (folder r) (λ _. not_removed r))
  folder-stop e z = answer-stop (folder r) (λ _. not_removed r) n e z

  pub folder-next : n ≡ answer (folder r) → n ≡ 0 → answer (not_removed r) ≡ answer (bind (folder r) (λ _. not_removed r))
  folder-next e z = answer-next (folder r) (λ _. not_removed r) (asks-ensure (eqb r.kind 2) 7 (omega arith)) n e z

pub asks-readable : (r : DiskINode) → Asks (readable r)
unfolding readable
asks-readable r = asks-then (asks-ensure (leb r.kind 4) 19 (omega arith)) (λ _. asks-ensure (eqb r.kind 2) 7 (omega arith))

-- a type above 4, and then 7
module _ (r : DiskINode) where
  pub readable-stop : leb r.kind 4 ≡ false → 19 ≡ answer (readable r)
  unfolding readable
  readable-stop e = rw e

  pub readable-next : leb r.kind 4 ≡ true → answer (folder r) ≡ answer (readable r)
  unfolding readable
  readable-next e = rw e

-- a type above 4, and then 21
pub asks-contents : (r : DiskINode) → Asks (has_contents r)
unfolding has_contents
asks-contents r = asks-then (asks-ensure (leb r.kind 4) 19 (omega arith)) (λ _. asks-ensure (is_type r.kind && not (is_folder r.kind)) 21 (omega arith))

module _ (r : DiskINode) where
  pub contents-stop : leb r.kind 4 ≡ false → 19 ≡ answer (has_contents r)
  unfolding has_contents
  contents-stop e = rw e

  pub contents-next : {n : ℕ} → leb r.kind 4 ≡ true → n ≡ answer (ensure (is_type r.kind && not (is_folder r.kind)) 21) → n ≡ answer (has_contents r)
  unfolding has_contents
  contents-next e q = q ∙ sym (ap (λ (b : Bool). answer (bind (ensure b 19) (λ _. ensure (is_type r.kind && not (is_folder r.kind)) 21))) e)

-- a name is bad by reason 5, or by none
pub early : (v : NameVerdict) → early_reason v ≡ answer (ensure (eqb (early_reason v) 0) 5)
early (Good long) = refl
early (Slashed long) = refl
early Bad = refl

pub newly : (v : NameVerdict) → new_reason v ≡ answer (ensure (eqb (new_reason v) 0) 5)
newly (Good long) = refl
newly (Slashed long) = refl
newly Bad = refl

-- ---- handles

-- the row of a live handle is a row
pub live_below : (t : Table) (w : ℕ) (h : Handle) (i : ℕ) → live_row t w h ≡ Some i → i < 34
unfolding live_row
live_below t w h i = go (is_own t w h)
  where
    go : (b : Bool) → pick b (found_below (hold_at t h.hold).row 34) None ≡ Some i → i < 34
    go true e = (at-found _ 34 i e).1
    go false e = absurd (let z : ◌≡◌ {A = ℕ} 0 1 = cc in omega arith)

pub asks-owner : (w : ℕ) → Asks (an_owner w)
asks-owner w = asks-ensure (is_owner w) invalid_param (omega arith)

-- who asks, and then whether the handle is live and theirs
module _ (t : Table) (w : ℕ) (h : Handle) (i : ℕ) {r : ℕ} (a : r ≡ answer (an_owner w)) where
  pub owner-not : (r ≡ 0 → ⊥) → Went (by_handle t w h) i (i < 34) r
  unfolding by_handle
  owner-not z = ill (above_zero r z) (rw (asked-not (an_owner w) r a z))

  is_one : r ≡ 0 → an_owner w ≡ done tt
  is_one z = asked-done (an_owner w) (asks-owner w) r a z

  pub handle-at : r ≡ 0 → live_row t w h ≡ Some i → Went (by_handle t w h) i (i < 34) 0
  unfolding by_handle
  handle-at z e = well (rw (is_one z, e)) (live_below t w h i e)

  pub handle-not : r ≡ 0 → live_row t w h ≡ None → Went (by_handle t w h) i (i < 34) 4
  unfolding by_handle
  handle-not z e = ill {r = 4} (omega arith) (rw (is_one z, e))

pub handle-below : (t : Table) (w : ℕ) (h : Handle) (i : ℕ) → by_handle t w h ≡ done i → i < 34
unfolding by_handle
handle-below t w h i = go (is_owner w) (live_row t w h) refl
  where
    go : (b : Bool) (f : Option ℕ) → live_row t w h ≡ f → bind (ensure b invalid_param) (λ _. or_bad_handle f) ≡ done i → i < 34
    go true (Some j) q e = live_below t w h i (q ∙ ap Some (let z : j ≡ i = cc in z))
    go true None q e = absurd (let z : ◌≡◌ {A = ℕ} 0 1 = cc in omega arith)
    go false f q e = absurd (let z : ◌≡◌ {A = ℕ} 0 1 = cc in omega arith)

-- one handle after the other
module _ (t : Table) (w : ℕ) (h k : Handle) {i n : ℕ} (g : Went (by_handle t w h) i (i < 34) n) where
  pub two-not : (v : ℕ × ℕ) (Q : Type 0) → (n ≡ 0 → ⊥) → Went (by_two t w h k) v Q n
  unfolding by_two
  two-not v Q z = ill (above_zero n z) (rw (went-not g z))

  pub two-by : {j r : ℕ} → n ≡ 0 → Went (by_handle t w k) j (j < 34) r → Went (by_two t w h k) (i, j) ((i < 34) × (j < 34)) r
  unfolding by_two
  two-by z (well e l) = well (rw (went-is g z, e)) (went-has g z, l)
  two-by z (ill l e) = ill l (rw (went-is g z, e))

-- a call with one handle, once arena and table are known
module _ {A : Type 0} {P : Type 0} (a : List ℕ) (t : Table) (w : ℕ) (h : Handle) (q : admit a t ≡ done tt) (f : ℕ → Out A) (row r : ℕ) (g : Went (by_handle t w h) row P r) where
  pub call-stop : (r ≡ 0 → ⊥) → bind (admit a t) (λ _. bind (by_handle t w h) f) ≡ refused r
  call-stop z = rw (q, went-not g z)

  pub call_next : r ≡ 0 → bind (admit a t) (λ _. bind (by_handle t w h) f) ≡ f row
  call_next z = rw (q, went-is g z)

-- ---- the first questions, with the chains

-- an array of zeros
pub blank : Blank (replicate 8192 0)
blank = record { size = refl; zeros = λ h l. get_or-replicate 8192 h 0 0 (omega arith) }

module _ (a : List ℕ) (e : legal a ≡ true) where
  pub arena-damaged : (P : Type 0) → sound a ≡ false → Went (admit_arena a) tt P 2
  unfolding admit_arena
  arena-damaged P f = ill {r = 2} (omega arith) (rw (e, f))

  pub arena-led : (c : List ℕ) → length c ≡ 8192 → sound a ≡ true → Chains a (firsts c) (nexts c) (blocks a) → Went (admit_arena a) tt (Led a (firsts c) (nexts c)) 0
  unfolding admit_arena
  arena-led c n f k =
      well (rw (e, f)) (record { whole = e; most = (legal-is a e).most; starts = length-firsts c n; links = length-nexts c n; chains = k; fine = f })

pub arena-illegal : (a : List ℕ) (P : Type 0) → legal a ≡ false → Went (admit_arena a) tt P 1
unfolding admit_arena
arena-illegal a P f = ill {r = 1} (omega arith) (rw f)

module _ {first next : List ℕ} (a m : List ℕ) {n : ℕ} (g : Went (admit_arena a) tt (Led a first next) n) where
  pub admit-not : (Q : Type 0) → (n ≡ 0 → ⊥) → Went (admit a (table_in m)) tt Q n
  unfolding admit
  admit-not Q z = ill (above_zero n z) (rw (went-not g z))

  pub admit-formed : n ≡ 0 → Whole m → well_formed (table_in m) ≡ true → Went (admit a (table_in m)) tt (Admitted a first next m) 0
  unfolding admit
  admit-formed z w f = well (rw (went-is g z, f)) (record { led = went-has g z; whole = w; formed = f })

  pub admit-ill : (Q : Type 0) → n ≡ 0 → well_formed (table_in m) ≡ false → Went (admit a (table_in m)) tt Q 3
  unfolding admit
  admit-ill Q z f = ill {r = 3} (omega arith) (rw (went-is g z, f))

-- what was tested once is not refused
pub admitted : {a first next m : List ℕ} → Admitted a first next m → admit a (table_in m) ≡ done tt
unfolding admit admit_arena
admitted p = rw (p.led.whole, p.led.fine, p.formed)
