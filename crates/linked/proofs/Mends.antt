-- The mender's promises, of runs; and that a host may die.
use mathlib.Core.Path.{◌≡◌, refl, sym, ap, ◌∙◌, subst}
use mathlib.Core.List.{List, []}
use mathlib.Core.Logic.{◌≢◌}
use Prim.Native.Nat.{ℕ}
use lib.ListN.{length}
use Rattle.base.specs.Out.{Out, done, refused, bind, answer}
use Rattle.base.proofs.Outs.{bind-is-done}
use Rattle.table.specs.declared.Table.{Table}
use Rattle.table.specs.Table.{empty_table}
use Rattle.table_bytes.specs.Layout.{table_of, bytes_of_table}
use Rattle.table_bytes.proofs.Empty.{empty-fits}
use Rattle.table_bytes.proofs.Fits.{table_fits}
use Rattle.table_bytes.proofs.Layouts.{length-fits, table_of-table_bytes}
use Rattle.mending.specs.Mend.{call_mend}
use Rattle.mending.specs.Promises.{IsMended, MendPasses, MendAgain}
use Rattle.rules.specs.Tests.{checked}
use Rattle.mending.proofs.Theorems.{is-mended, mend-bytes, mend-passes, mend-again}
use Rattle.edge_words.specs.Words.{time_of}
use Rattle.edge.specs.Edge.{Answers, mended_of}
use Rattle.edge.proofs.Laws.{sized-is}
use Rattle.sequences.specs.Pairs.{pair}
use Rattle.sequences.specs.Calls.{Call, mend, does, next}
use Rattle.deaths.specs.Deaths.{Recovered, Recovers, Lived, formats, calls, deaths, AlwaysRecovers}
use Rattle.deaths.proofs.Sequences.{always-recovers}
use Rattle.linked.specs.Images.{Image, image, pair_of, Same, Passes, Ready, Places, nowhere}
use Rattle.linked.specs.Tested.{Ran}
use Rattle.linked.specs.Tested as tested
use Rattle.linked.specs.Owning.{Owns}
use Rattle.linked.specs.Linked.{Functions, Runs, none, ran, wrong, Transports, AlongRuns, Mixed, Linked, OwnLinked, MixedLinked, FormatDoes}
use Rattle.linked.specs.Mends.{RunMends, MendTrusts, RunMendsAgain, RunMendRefuses, FormatLives, RunsLive, RunRecovers}
use Rattle.linked.proofs.Runs.{Free, along-free}
use Rattle.linked.proofs.Starts.{sized-said, format-sized, format-does}
use Rattle.linked.proofs.Transport.{zero-done, same-pair, not_255}
use Rattle.linked.proofs.Linked.{linked, own-linked, mixed-linked}

-- what a run's contract says, where the table has its size
pub mend-ran : {s u : Image} {x y : Places} {n : ℕ} → Ran mend s x u y n → length s.table ≡ 4402
    → Answers (call_mend s.arena (table_of s.table)) mended_of s.arena u.arena n × (u.table ≡ s.table)
mend-ran (tested.mends _ a a' t n L) e =
    (subst (λ (o : Out (List ℕ)). Answers o mended_of a.now a'.now n) (sized-is 4402 t.now (call_mend a.now (table_of t.now)) e) L, refl)

-- which it has, where the number is not 255
mend-sized : {s u : Image} {x y : Places} {n : ℕ} → Ran mend s x u y n → n ≢ 255 → length s.table ≡ 4402
mend-sized (tested.mends _ a _ t _ L) k = (sized-said 4402 t.now (call_mend a.now (table_of t.now)) (λ e. k (L.number ∙ e))).0

-- 0 is no reason
zero-mends : (a : List ℕ) (t : Table) → 0 ≡ answer (call_mend a t) → (b : List ℕ) × (call_mend a t ≡ done b)
unfolding does
zero-mends a t z =
    let d = bind-is-done (call_mend a t) (λ b. done (pair b t)) (next mend (pair a t)) (zero-done mend (pair a t) (z ∙ sym (same (call_mend a t)))) in
    (d.0, d.1)
  where
    same : (o : Out (List ℕ)) → answer (bind o (λ b. done (pair b t))) ≡ answer o
    same (done b) = refl
    same (refused n) = refl

-- a run that answers 0 leaves what the definition gives
mend-done : {s u : Image} {x y : Places} → Ran mend s x u y 0 → (call_mend s.arena (table_of s.table) ≡ done u.arena) × (u.table ≡ s.table)
mend-done {s = s} {u = u} r =
    let A = mend-ran r (mend-sized r not_255) in
    let d = zero-mends s.arena (table_of s.table) A.0.number in
    let K : Answers (done d.0) mended_of s.arena u.arena 0 = subst (λ (o : Out (List ℕ)). Answers o mended_of s.arena u.arena 0) d.1 A.0 in
    (d.1 ∙ ap done (sym K.places), A.1)

pub run-mends : RunMends
unfolding RunMends MendPasses IsMended
run-mends s u x y B r =
    let d = mend-done r in
    record {
      passes = ap (λ (t : List ℕ). checked u.arena (table_of t)) d.1 ∙ mend-passes s.arena u.arena (table_of s.table) B d.0;
      mended = is-mended s.arena u.arena (table_of s.table) B d.0;
      table = d.1;
    }

pub mend-trusts : MendTrusts
unfolding MendTrusts MendPasses
mend-trusts κs a a' t B C L =
    let r : Ran mend (image a.now [] t.now) nowhere (image a'.now [] t.now) nowhere 0 = tested.mends κs a a' t 0 L in
    let n = mend-sized r not_255 in
    let d = (mend-done r).0 in
    record {
      size = n;
      passes = record {
        typed = record { bytes = mend-bytes a.now a'.now (table_of t.now) B d; fits = table_fits t.now C n };
        passes = mend-passes a.now a'.now (table_of t.now) B d;
      };
    }

pub run-mends-again : RunMendsAgain
unfolding RunMendsAgain MendAgain
run-mends-again s u v x y z w n B r q k =
    let d = mend-done r in
    let A = mend-ran q (mend-sized q k) in
    let e : call_mend u.arena (table_of u.table) ≡ done u.arena =
    ap (λ (t : List ℕ). call_mend u.arena (table_of t)) d.1 ∙ mend-again s.arena u.arena (table_of s.table) B d.0 in
    let K : Answers (done u.arena) mended_of u.arena v.arena n = subst (λ (o : Out (List ℕ)). Answers o mended_of u.arena v.arena n) e A.0 in
    (K.number, record { arena = K.places; table = A.1 })

pub run-mend-refuses : RunMendRefuses
unfolding RunMendRefuses
run-mend-refuses s u x y n r z k =
    let A = mend-ran r (mend-sized r k) in
    by (call_mend s.arena (table_of s.table)) A.0 A.1
  where
    by : (o : Out (List ℕ)) → Answers o mended_of s.arena u.arena n → u.table ≡ s.table → (o ≡ refused n) × Same s u
    by (done b) K e = absurd (z K.number)
    by (refused m) K e = (ap refused (sym K.number), record { arena = K.places; table = e })

-- ---- a host that dies

pub empty_back : {t : List ℕ} → t ≡ bytes_of_table empty_table → table_of t ≡ empty_table
empty_back e = ap table_of e ∙ table_of-table_bytes empty_table empty-fits

pub format-lives : FormatLives
unfolding FormatLives FormatDoes
format-lives κs a a' t t' file sec nsec B M F L =
    let S = format-sized κs a a' t t' file sec nsec 0 L not_255 in
    let g = (format-does κs a a' t t' file sec nsec 0 B M F L not_255).made refl in
    subst (λ (t : Table). Lived (pair a'.now t)) (sym (empty_back g.1)) (formats a.now (time_of sec nsec) file.now a'.now B M S.0 F g.0)

module _ {R : Functions} {I : Image → Type 0} (T : Transports R I) where
  live : {s v : Image} {l : List Call} (m : Runs R s l v) → AlongRuns Free m → Lived (pair_of s) → Lived (pair_of v)
  live none A y = y
  live (ran {c = c} f r z m) A y = live m A.1 (subst Lived (sym A.0.left) (calls c y f))
  live (wrong r m) A y = live m A.2 (subst Lived (sym (same-pair A.0)) y)

  lives : RunsLive R I
  unfolding RunsLive
  lives s v l m i y = live m (along-free T i m) y

pub tested_live : RunsLive Ran Passes
unfolding Linked
tested_live = lives linked

pub own-live : RunsLive Owns Ready
unfolding OwnLinked
own-live = lives own-linked

pub mixed-live : RunsLive Mixed Passes
unfolding MixedLinked
mixed-live = lives mixed-linked

pub run-recovers : RunRecovers
unfolding RunRecovers AlwaysRecovers
run-recovers v s u x y n l e f r =
    let G : Recovers (pair_of v) = (always-recovers (pair_of v) l).1 in
    let w : table_of s.table ≡ empty_table = empty_back f in
    let A = mend-ran r (ap length f ∙ length-fits empty_table empty-fits) in
    let K : Answers (done G.0) mended_of s.arena u.arena n = subst (λ (o : Out (List ℕ)). Answers o mended_of s.arena u.arena n) ((λ i. call_mend (e i) (w i)) ∙ G.1) A.0 in
    let q : pair G.0 empty_table ≡ pair_of u = λ i. pair (sym K.places i) (sym (ap table_of A.1 ∙ w) i) in
    (K.number, subst (Recovered (pair_of v)) (sym K.places) G.2, subst Lived q (deaths l G.1))
