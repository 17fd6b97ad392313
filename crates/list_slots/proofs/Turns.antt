-- Slots read one after another.
use mathlib.Core.Path.{◌≡◌, refl, sym, ◌∙◌, ap, ap₂, subst}
use mathlib.Core.Logic.{⊎_elim}
use mathlib.Core.Bool.{Bool, true, false}
use mathlib.Core.List.{List, [], ◌++◌}
use Prim.Native.Nat.{ℕ, zero, suc, ◌+◌, ◌*◌, ◌<◌, ◌≤◌}
use native.Mathlib.Numerals.{add-one}
use native.Mathlib.Nat.{eq-or-lt_of_le, le_of_suc-le-suc}
use native.Mathlib.Omega.{arith}
use lib.ListN.{length, length-append}
use lib.Dec.{ltb}
use borrow.Author.Tests.{lt-ltb, le-ltb}
use Rattle.base.specs.Out.{Out, done, refused, bind, ensure, Went, well, ill}
use Rattle.base.specs.Parts.{paste, back}
use Rattle.base.proofs.Lists.{paste-paste}
use Rattle.base.proofs.Outs.{went-is, went-has, went-not, above_zero, bind-is-done}
use Rattle.le.specs.Le.{le_at}
use Rattle.structs.specs.Layout.{entry_of}
use Rattle.structs.specs.declared.DiskINode.{DiskINode}
use Rattle.utf8.specs.Names.{stored_name}
use Rattle.sefs.specs.Slots.{slot_bytes, is_ended}
use Rattle.sefs.specs.Read.{named_slot, list_slot, list_to}
use Rattle.calls.specs.Answers.{Laid, lay}
use Rattle.calls.proofs.Outputs.{laid-is}
use Rattle.list_slots.specs.List.{whether}

-- ---- one slot

module _ {P : Type 0} (a : List ℕ) (r : DiskINode) (k : ℕ) {l : List ℕ} {n : ℕ} (g : Went (named_slot a r k) l P n) where
  pub list-stop : (n ≡ 0 → ⊥) → Went (list_slot a r k) l P n
  unfolding list_slot
  list-stop z = ill (above_zero n z) (rw (went-not g z))

  pub list_done : (kind : ℕ) → n ≡ 0 → kind ≡ le_at l 260 4 → (kind ≡ 0 → ⊥) → Went (list_slot a r k) l P 0
  unfolding list_slot entry_of
  list_done kind z q s = well (rw (went-is g z, lt-ltb 0 (le_at l 260 4) (omega (arith, above_zero kind s)))) (went-has g z)

  pub list-stuck : (kind : ℕ) → n ≡ 0 → kind ≡ le_at l 260 4 → kind ≡ 0 → Went (list_slot a r k) l P 19
  unfolding list_slot entry_of
  list-stuck kind z q s = ill {r = 19} (omega arith) (rw (went-is g z, le-ltb 0 (le_at l 260 4) (omega arith)))

module _ (a : List ℕ) (r : DiskINode) (k : ℕ) (l : List ℕ) where
  -- a slot that is listed is as it is stored
  pub list-bytes : list_slot a r k ≡ done l → slot_bytes a r k ≡ done l
  unfolding list_slot named_slot
  list-bytes = go (slot_bytes a r k)
    where
      last : (m : List ℕ) (b : Bool) → bind (ensure b 19) (λ _. done m) ≡ done l → done m ≡ done l
      last m true e = e
      last m false e = absurd (let z : ◌≡◌ {A = ℕ} 0 1 = cc in omega arith)

      mid : (m : List ℕ) (b : Bool) → bind (bind (ensure b 19) (λ _. done m)) (λ x. bind (ensure (ltb 0 (entry_of x).kind) 19) (λ _. done x)) ≡ done l → done m ≡ done l
      mid m true e = last m (ltb 0 (entry_of m).kind) e
      mid m false e = absurd (let z : ◌≡◌ {A = ℕ} 0 1 = cc in omega arith)

      go : (o : Out (List ℕ)) → bind (bind o (λ m. bind (ensure (is_ended (stored_name (entry_of m).name)) 19) (λ _. done m))) (λ x. bind (ensure (ltb 0 (entry_of x).kind) 19) (λ _. done x)) ≡ done l → o ≡ done l
      go (done m) e = mid m (is_ended (stored_name (entry_of m).name)) e
      go (refused n) e = absurd (let z : ◌≡◌ {A = ℕ} 0 1 = cc in omega arith)

-- ---- slots in turn

pub whether-is : {A : Type 0} (o : Out A) → whether o ≡ done tt → (x : A) × (o ≡ done x)
whether-is (done x) e = (x, refl)
whether-is (refused n) e = absurd (let z : ◌≡◌ {A = ℕ} 0 1 = cc in omega arith)

pub whether-not : {A : Type 0} (o : Out A) (n : ℕ) → whether o ≡ refused n → o ≡ refused n
whether-not (done x) n e = absurd (let z : ◌≡◌ {A = ℕ} 0 1 = cc in omega arith)
whether-not (refused m) n e = ap refused (let q : m ≡ n = cc in q)

module _ (a : List ℕ) (r : DiskINode) (next : ℕ) where
  pub list_to-none : list_to a r next 0 ≡ done []
  unfolding list_to
  list_to-none = refl

  pub list_to-more : (n : ℕ) → list_to a r next (n + 1) ≡ bind (list_to a r next n) (λ l. bind (list_slot a r (next + n)) (λ b. done (l ++ b)))
  unfolding list_to
  list_to-more n = rw add-one

  -- a slot more
  pub list_to-next : (n : ℕ) (l b : List ℕ) → list_to a r next n ≡ done l → list_slot a r (next + n) ≡ done b → list_to a r next (n + 1) ≡ done (l ++ b)
  list_to-next n l b e f = list_to-more n ∙ rw (e, f)

  pub whether-next : {P : Type 0} {b : List ℕ} {s : ℕ} (n : ℕ) → whether (list_to a r next n) ≡ done tt → Went (list_slot a r (next + n)) b P s → s ≡ 0 → whether (list_to a r next (n + 1)) ≡ done tt
  whether-next {b = b} n w g z = let p = whether-is (list_to a r next n) w in ap whether (list_to-next n p.0 b p.1 (went-is g z))

  -- what refuses a slot refuses all
  pub list_to-stuck : (n m k : ℕ) → k < n → whether (list_to a r next k) ≡ done tt → list_slot a r (next + k) ≡ refused m → list_to a r next n ≡ refused m
  list_to-stuck zero m k l w e = absurd (omega arith)
  list_to-stuck (suc n) m k l w e =
      ap (list_to a r next) (sym (add-one n)) ∙ list_to-more n ∙ ⊎_elim (λ q. here q) (λ lt. rw (list_to-stuck n m k lt w e)) (eq-or-lt_of_le (le_of_suc-le-suc l))
    where
      here : k ≡ n → bind (list_to a r next n) (λ l. bind (list_slot a r (next + n)) (λ b. done (l ++ b))) ≡ refused m
      here q = let p = whether-is (list_to a r next n) (rw q at w) in rw (p.1, rw q at e)

  pub whether-stop : {P : Type 0} {b : List ℕ} {s : ℕ} (n k : ℕ) → k < n → whether (list_to a r next k) ≡ done tt → Went (list_slot a r (next + k)) b P s → (s ≡ 0 → ⊥) → Went (whether (list_to a r next n)) tt Unit s
  whether-stop {s = s} n k l w g z = ill (above_zero s z) (ap whether (list_to-stuck n s k l w (went-not g z)))

  pub whether-all : (n k : ℕ) → n ≡ k → whether (list_to a r next k) ≡ done tt → Went (whether (list_to a r next n)) tt Unit 0
  whether-all n k e w = well (ap (λ (x : ℕ). whether (list_to a r next x)) e ∙ w) tt

  -- all that is listed was listed turn by turn
  pub list_to-turn : (n k : ℕ) (x : List ℕ) → k < n → list_to a r next n ≡ done x → (b : List ℕ) × (list_slot a r (next + k) ≡ done b)
  list_to-turn zero k x l e = absurd (omega arith)
  list_to-turn (suc n) k x l e =
      let m = bind-is-done (list_to a r next n) (λ l. bind (list_slot a r (next + n)) (λ b. done (l ++ b))) x (sym (list_to-more n) ∙ ap (list_to a r next) (add-one n) ∙ e) in
      let p = bind-is-done (list_slot a r (next + n)) (λ b. done (m.0 ++ b)) x m.2 in
      ⊎_elim (λ q. (p.0, rw q p.1)) (λ lt. list_to-turn n k m.0 lt m.1) (eq-or-lt_of_le (le_of_suc-le-suc l))

-- a step whose outcome is known
pub went-done : {A : Type 0} {o : Out A} {v : A} {P : Type 0} {r : ℕ} (b : A) → Went o v P r → o ≡ done b → (b ≡ v) × P
went-done b (well e p) q = (cc, p)
went-done b (ill l e) q = absurd (let z : ◌≡◌ {A = ℕ} 0 1 = cc in omega arith)

-- the part of slot k comes back with the slot
write-turn : (out₀ out l v : List ℕ) (k : ℕ) → out ≡ paste out₀ 0 l → length l ≡ 264 * k → length v ≡ 264 → 264 * k + 264 ≤ length out₀ → back out (264 * k) (264 * k + 264) v ≡ paste out₀ 0 (l ++ v)
write-turn out₀ out l v k e n m h =
    sym (paste-back out (264 * k) v m)
    ∙ ap₂ (λ (x : List ℕ) (s : ℕ). paste x s v) e (let q : 264 * k ≡ 0 + length l = omega arith in q)
    ∙ paste-paste out₀ 0 l v (omega arith)
  where
    paste-back : (d : List ℕ) (s : ℕ) (v : List ℕ) → length v ≡ 264 → paste d s v ≡ back d s (s + 264) v
    paste-back d s v m = unfold paste in rw m

-- nothing laid over a list
paste_none : (l : List ℕ) → paste l 0 [] ≡ l
unfolding paste
paste_none l = refl

module _ (a : List ℕ) (r : DiskINode) (next : ℕ) (out₀ : List ℕ) where
  -- no slot is written
  pub write-none : (n : ℕ) → n ≡ 0 → Laid (list_to a r next n) out₀ out₀ (264 * n) 0
  write-none n z = lay {l = []} (ap (list_to a r next) z ∙ list_to-none a r next) (omega arith) (sym (paste_none out₀))

  -- one slot more
  pub write-next : {b out : List ℕ} {s : ℕ} (n k : ℕ) → k < n → 264 * n ≤ length out₀ → whether (list_to a r next n) ≡ done tt → Laid (list_to a r next k) out₀ out (264 * k) 0
      → Went (slot_bytes a r (next + k)) b (length b ≡ 264) s → Laid (list_to a r next (k + 1)) out₀ (back out (264 * k) (264 * k + 264) b) (264 * (k + 1)) 0
  write-next {b = b} {out = out} n k l h w L g =
      let x = whether-is (list_to a r next n) w in
      let y = list_to-turn a r next n k x.0 l x.1 in
      let d = went-done y.0 g (list-bytes a r (next + k) y.0 y.1) in
      let m = laid-is L refl in
      lay {l = m.0 ++ b} (list_to-next a r next k m.0 b m.1.0 (y.1 ∙ ap done d.0))
      (length-append m.0 b ∙ omega (arith, m.1.1.0, d.1))
      (write-turn out₀ out m.0 b k m.1.1.1 m.1.1.0 d.1 (omega arith))

  pub write-all : {out : List ℕ} (n k : ℕ) → k ≡ n → Laid (list_to a r next k) out₀ out (264 * k) 0 → Laid (list_to a r next n) out₀ out (264 * n) 0
  write-all {out = out} n k e L = subst (λ (x : ℕ). Laid (list_to a r next x) out₀ out (264 * x) 0) e L
