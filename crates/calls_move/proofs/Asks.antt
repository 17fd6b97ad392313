-- What move asks of records and names, question after question.
use mathlib.Core.Path.{◌≡◌, refl}
use mathlib.Core.Bool.{Bool, true, false, ◌&&◌}
use mathlib.Core.List.{List}
use Prim.Native.Nat.{ℕ, ◌≤◌}
use native.Mathlib.Omega.{arith}
use lib.ListN.{length}
use lib.Dec.{ltb, leb}
use borrow.Author.Tests.{ltb-true, leb-true}
use Rattle.base.specs.Out.{Out, bind, ensure, answer, Went, well, ill}
use Rattle.base.proofs.Outs.{went-is, went-has, went-next, went-stop, went-weaken}
use Rattle.base.proofs.Bools.{and_parts}
use Rattle.structs.specs.declared.DiskINode.{DiskINode}
use Rattle.sefs.specs.Ask.{not_long, known, live_folder}
use Rattle.calls.proofs.Asks.{Asks, asks-ensure, asks-live, asked-done, asked-went}
use Rattle.climbs.specs.Types.{Typed}
use Rattle.calls_move.specs.Parts.{known_two, good_two, plain_two, short_two, late_asks, move_asks}

-- a question, and a second one
module _ (o p : Out Unit) (s : Asks o) {n : ℕ} (e : n ≡ answer o) where
  pub pair-stop : {P : Type 0} → (n ≡ 0 → ⊥) → Went (bind o (λ _. p)) tt P n
  pair-stop z = went-stop _ tt z (asked-went o s n e)

  pub pair-next : {P : Type 0} {x : ℕ} → n ≡ 0 → Went p tt P x → Went (bind o (λ _. p)) tt P x
  pair-next z h = went-next _ (asked-done o s n e z) h

pub asks-long : (name : List ℕ) → Asks (not_long name)
asks-long name = asks-ensure (leb (length name) 255) 10 (omega arith)

-- a node whose metadata can be taken has a type of the table of verdicts
typed : (r : DiskINode) (n : ℕ) → n ≡ answer (known r) → Went (known r) tt (Typed r) n
typed r n e = go (ltb 0 r.kind && leb r.kind 4) refl e
  where
    go : (b : Bool) → (ltb 0 r.kind && leb r.kind 4) ≡ b → n ≡ answer (ensure b 19) → Went (ensure b 19) tt (Typed r) n
    go true q d = let k = and_parts _ _ q in rw d (well refl (ltb-true _ _ k.0, leb-true _ _ k.1))
    go false q d = rw d (ill {r = 19} (omega arith) refl)

module _ (moved gone : DiskINode) {n : ℕ} (e : n ≡ answer (known moved)) where
  pub known-stop : (n ≡ 0 → ⊥) → Went (known_two moved gone) tt (Typed moved × Typed gone) n
  unfolding known_two
  known-stop z = went-stop _ tt z (typed moved n e)

  pub known_next : {x : ℕ} → n ≡ 0 → x ≡ answer (known gone) → Went (known_two moved gone) tt (Typed moved × Typed gone) x
  unfolding known_two
  known_next z f = went-next _ (went-is (typed moved n e) z) (went-weaken (λ k. (went-has (typed moved n e) z, k)) (typed gone _ f))

module _ (target : DiskINode) (old name : List ℕ) {m : ℕ} (g : Went (plain_two old name) tt Unit m) where
  pub late-plain : (m ≡ 0 → ⊥) → Went (late_asks target old name) tt (length name ≤ 255) m
  unfolding late_asks
  late-plain z = went-stop _ tt z g

  module _ {n : ℕ} (z : m ≡ 0) (h : Went (short_two old name) tt (length name ≤ 255) n) where
    pub late-short : (n ≡ 0 → ⊥) → Went (late_asks target old name) tt (length name ≤ 255) n
    unfolding late_asks
    late-short y = went-next _ (went-is g z) (went-stop _ tt y h)

    pub late-live : {x : ℕ} → n ≡ 0 → x ≡ answer (live_folder target) → Went (late_asks target old name) tt (length name ≤ 255) x
    unfolding late_asks
    late-live y e = went-next _ (went-is g z) (went-next _ (went-is h y) (went-weaken (λ _. went-has h y) (asked-went (live_folder target) (asks-live target) _ e)))

module _ (source target : DiskINode) (old name : List ℕ) {m : ℕ} (g : Went (good_two old name) tt Unit m) where
  pub ask-good : (m ≡ 0 → ⊥) → Went (move_asks source target old name) tt (length name ≤ 255) m
  unfolding move_asks
  ask-good z = went-stop _ tt z g

  module _ {n : ℕ} (z : m ≡ 0) (e : n ≡ answer (live_folder source)) where
    pub ask-live : (n ≡ 0 → ⊥) → Went (move_asks source target old name) tt (length name ≤ 255) n
    unfolding move_asks
    ask-live y = went-next _ (went-is g z) (went-stop _ tt y (asked-went (live_folder source) (asks-live source) n e))

    pub ask-late : {x : ℕ} → n ≡ 0 → Went (late_asks target old name) tt (length name ≤ 255) x → Went (move_asks source target old name) tt (length name ≤ 255) x
    unfolding move_asks
    ask-late y h = went-next _ (went-is g z) (went-next _ (asked-done (live_folder source) (asks-live source) n e y) h)
