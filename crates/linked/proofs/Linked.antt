-- Every theorem over sequences of calls, of runs: by one transport.
use mathlib.Core.Path.{◌≡◌, refl, sym, ap, ◌∙◌, subst}
use mathlib.Core.Bool.{true, false}
use mathlib.Core.List.{List, [], ◌∷◌}
use mathlib.Core.Logic.{◌≢◌, ◌⊎◌, ◌↔◌, inl, inr, ⊎_elim}
use Prim.Native.Nat.{ℕ}
use native.Mathlib.Omega.{arith}
use lib.Dec.{T}
use Rattle.base.specs.Out.{Out, done, refused, answer}
use Rattle.base.specs.Reasons.{table_full}
use Rattle.base.proofs.Outs.{bind-is-done}
use Rattle.structs.specs.declared.Timespec.{Timespec}
use Rattle.table.specs.declared.Table.{Table}
use Rattle.table.specs.declared.Handle.{Handle}
use Rattle.table.specs.declared.Added.{Added}
use Rattle.table.specs.Table.{row_at, can_hold}
use Rattle.table.specs.Formed.{well_formed}
use Rattle.table_bytes.specs.Layout.{table_of}
use Rattle.sefs.specs.Create.{Given, call_create}
use Rattle.walk.specs.Walk.{call_walk}
use Rattle.rules.proofs.Check.{check-pass}
use Rattle.edge_words.specs.Words.{handle_words}
use Rattle.owners_kept.specs.Owned.{Chained}
use Rattle.sequences.specs.Pairs.{Pair, pair}
use Rattle.sequences.specs.Calls.{Call, walk, create, close, does, reason_of, next}
use Rattle.sequences.specs.Promises.{Along, Well, Sequence, On, Safe, Apart, Spent, Closed, Ended, Slashless, NoSlashes}
use Rattle.sequences.specs.Promises as along
use Rattle.sequences.specs.Places.{Full, FullMeans, RootFull, FullByOwn, Refused, ApartByOwner}
use Rattle.sequences.specs.Reasons.{reasons_of, has, Reasons}
use Rattle.sequences.proofs.Sequences.{sequence, apart, no-slashes}
use Rattle.sequences.proofs.Places.{full-means, root-full, full-by-own, refused-others, apart-by-owner}
use Rattle.sequences.proofs.Ends.{closed, ended}
use Rattle.sequences.proofs.Reasons.{reasons}
use Rattle.linked.specs.Images.{Image, pair_of, Passes, Ready, Places, handed, Did}
use Rattle.linked.specs.Tested.{Ran}
use Rattle.linked.specs.Owning.{Owns}
use Rattle.linked.specs.Linked.{Does, OwnDoes, Functions, none, ran, Goes, Transports, Linked, OwnLinked, Mixed, tested, owning, MixedLinked, RunsWell, RunsApart, RunsElse, RunsByOwner, RunsRefused, RunsFull, RunsRootFull, RunsFullByOwn, RunsClosed, RunsSlashless, RunsWalk, RunsHalt, Theorems, Numbers}
use Rattle.linked.proofs.Functions.{does-calls, own-does-calls}
use Rattle.linked.proofs.Transport.{zero-done, not_255, number_is, fitting, transport}
use Rattle.linked.proofs.Runs.{Free, one}
use Rattle.linked.proofs.Walks.{walked-finds, walked-halts}

-- ---- the transport

pub linked : Linked
unfolding Linked Does
linked P s v l m y = transport (λ (s : Image). Unit) (λ c s u x y n p k r. (does-calls c s u x y n r, tt)) P s v l m y tt

pub own-linked : OwnLinked
unfolding OwnLinked OwnDoes
own-linked P s v l m y =
    transport (λ (s : Image). Chained s.arena s.chains) (λ c s u x y n p k r. own-does-calls c s u x y n (record { trusted = p; chained = k }) r) P s v l m y.trusted y.chained

pub mixed-linked : MixedLinked
unfolding MixedLinked Does OwnDoes
mixed-linked P s v l m y = transport (λ (s : Image). Unit) law P s v l m y tt
  where
    law : (c : Call) (s u : Image) (x y : Places) (n : ℕ) → Passes s → Unit {0} → Mixed c s x u y n → Did c s x u y n × Unit {0}
    law c s u x y n p k (tested r) = (does-calls c s u x y n r, tt)
    law c s u x y n p k (owning e r) = ((own-does-calls c s u x y n (record { trusted = p; chained = e }) r).0, tt)

-- ---- the theorems, by any such transport

along-both : {P Q S : Call → Pair → Type 0} → ((c : Call) (p : Pair) → P c p → Q c p → S c p) → {p : Pair} {l : List Call} → Along P p l → Along Q p l → Along S p l
along-both f along.ends along.ends = along.ends
along-both f {p} (along.goes {c = c} h a) (along.goes k b) = along.goes (f c p h k) (along-both f a b)

-- a create that is done leaves the pair with what it gives, and its handle's words
module _ (p : Pair) (w : ℕ) (h : Handle) (name : List ℕ) (kind mode : ℕ) (time : Timespec) (file : List ℕ) (g : Given)
    (d : call_create p.arena p.table w h name kind mode time file ≡ done g) where
  create-next : next (create w h name kind mode time file) p ≡ pair g.arena g.table
  unfolding does
  create-next = rw d refl

  create-words : (x : Places) → (handed (create w h name kind mode time file) p x).words ≡ handle_words g.handle
  unfolding handed
  create-words x = rw d refl

-- a walk likewise, by how it ends
module _ (p : Pair) (w : ℕ) (h : Handle) (path : List ℕ) (room : ℕ) where
  walk-next : (g : Added) → (call_walk p.arena p.table w h path room).end ≡ done g → next (walk w h path room) p ≡ pair p.arena g.table
  unfolding does
  walk-next g d = rw d refl

  walk-words : (g : Added) → (call_walk p.arena p.table w h path room).end ≡ done g → (x : Places) → (handed (walk w h path room) p x).words ≡ handle_words g.handle
  unfolding handed
  walk-words g d x = rw d refl

  pub walk-reason : (o : Out Added) → (call_walk p.arena p.table w h path room).end ≡ o → reason_of (walk w h path room) p ≡ answer o
  unfolding does
  walk-reason (done g) d = rw d refl
  walk-reason (refused n) d = rw d refl

module _ {R : Functions} {I : Image → Type 0} (T : Transports R I) (trusted : (s : Image) → I s → Passes s) where
  runs-well : RunsWell R I
  unfolding RunsWell Sequence
  runs-well s v l m i = T Well s v l m i (sequence (pair_of s) l (trusted s i).passes (fitting m (pair_of s)))

  runs-apart : RunsApart R I
  unfolding RunsApart Apart
  runs-apart s v l m w h n f i o x = T (Safe w h n f) s v l m i (apart (pair_of s) l w h n f (trusted s i).passes o (along-both (λ c p f z. record { fits = f; not-closed = z }) (fitting m (pair_of s)) x))

  runs-by-owner : RunsByOwner R I
  unfolding RunsByOwner ApartByOwner
  runs-by-owner s v l m w h n f i o x = T (Safe w h n f) s v l m i (apart-by-owner (pair_of s) l w h n f (trusted s i).passes o (along-both (λ c p f z. (f, z)) (fitting m (pair_of s)) x))

  runs-slashless : RunsSlashless R I
  unfolding RunsSlashless NoSlashes
  runs-slashless s v l m i n = T (λ c q. Slashless (next c q)) s v l m i (no-slashes (pair_of s) l (trusted s i).passes n (fitting m (pair_of s)))

  runs-refused : RunsRefused R I
  unfolding RunsRefused Refused
  runs-refused c s u x y n w h k i F r z e o d N = (one T i F r z).number ∙ refused-others (pair_of s) c w h k (trusted s i).passes e o d N

  runs-full : RunsFull R I
  unfolding RunsFull FullMeans
  runs-full c s u x y n i F r z =
      let g = one T i F r z in
      let f : Full c (pair_of s) = full-means c (pair_of s) in
      (λ e. f.only (sym g.number ∙ e), λ k e. g.left ∙ f.none_made k e)

  runs-root-full : RunsRootFull R I
  unfolding RunsRootFull RootFull
  runs-root-full s u x y n w i F r z o =
      subst (λ (k : ℕ). (k ≡ table_full) ↔ (can_hold (pair_of s).table w ≡ false)) (sym (one T i F r z).number) (root-full (pair_of s) w (trusted s i).passes o)

  formed : (s : Image) → I s → well_formed (pair_of s).table ≡ true
  formed s i = (check-pass s.arena (table_of s.table) (trusted s i).passes.passes).rule2.formed

  runs-full-by-own : RunsFullByOwn R I
  unfolding RunsFullByOwn FullByOwn
  runs-full-by-own c s u t v x y z q n m i j F r k a b e S A f =
      (one T j F k b).number ∙ ap (λ (a : List ℕ). reason_of c (pair a (table_of t.table))) e
      ∙ full-by-own s.arena (table_of s.table) (table_of t.table) c (formed s i) (formed t j) S A (sym (one T i F r a).number ∙ f)

  runs_closed : RunsClosed R I
  unfolding RunsClosed Closed Ended
  runs_closed s u v x y l w h i F r m =
      let c : Call = close w h in
      let g : Goes Free c s x u y 0 = one T i F r not_255 in
      let e : Spent (next c (pair_of s)).table h = closed (pair_of s) (next c (pair_of s)) w h (trusted s i).passes (zero-done c (pair_of s) g.number) in (
        subst (λ (p : Pair). Spent p.table h) (sym g.left) e,
        (T (λ c q. Spent (next c q).table h) s v (c ∷ l) (ran F r not_255 m) i (along.goes e (ended (next c (pair_of s)) l h e))).1,
      )

  runs-else : RunsElse R I
  unfolding RunsElse Apart does
  runs-else s u x y w g name kind mode time file v h n f i F r o =
      let c : Call = create w g name kind mode time file in
      let p : Pair = pair_of s in
      let other : c ≢ close v h = λ e. let q : ◌≡◌ {A = ℕ} 0 1 = cc in omega (arith, q) in
      let a : Along (Safe v h n f) p (c ∷ []) = apart p (c ∷ []) v h n f (trusted s i).passes o (along.goes (record { fits = F; not-closed = other }) along.ends) in
      let G : Goes (Safe v h n f) c s x u y 0 = (T (Safe v h n f) s u (c ∷ []) (ran F r not_255 none) i a).0 in
      let d = bind-is-done (call_create p.arena p.table w g name kind mode time file) (λ z. done (pair z.arena z.table)) (next c p) (zero-done c p G.number) in
      let E = G.holds.new w g name kind mode time file d.0 refl d.1 in
      let t : (pair_of u).table ≡ d.0.table = ap (λ (q : Pair). q.table) (G.left ∙ create-next p w g name kind mode time file d.0 d.1) in
      record {
        id = E.id;
        file = E.file;
        handles = record {
          handle = d.0.handle;
          are = ap (λ (z : Places). z.words) G.given ∙ create-words p w g name kind mode time file d.0 d.1 x;
          on = subst (λ (t : Table). On t w d.0.handle E.id E.file) (sym t) E.on;
        };
        other-id = E.other-id;
        other-file = E.other-file;
      }

  runs-walk : RunsWalk R I
  unfolding RunsWalk
  runs-walk s u x y n w h g j k path room t i F r z l m good rel c =
      let p : Pair = pair_of s in
      let G = one T i F r z in
      ⊎_elim
      (λ W. inl (
        G.number ∙ walk-reason p w h path room (done W.0) W.1,
        record {
          handle = W.0.handle;
          are = ap (λ (z : Places). z.words) G.given ∙ walk-words p w h path room W.0 W.1 x;
          on = subst (λ (q : Pair). On q.table w W.0.handle (row_at t k).id (row_at t k).rec.file) (sym (G.left ∙ walk-next p w h path room W.0 W.1)) W.2;
        },
      ))
      (λ e. inr (G.number ∙ walk-reason p w h path room (refused table_full) e))
      (walked-finds s.arena p.table w h j path room (trusted s i).passes l good rel t g k m c)

  runs-halt : RunsHalt R I
  unfolding RunsHalt
  runs-halt s u x y n w h g j path room t ps p qs m i F r z l good rel parts c e b f =
      (one T i F r z).number
      ∙ walk-reason (pair_of s) w h path room (refused m) (walked-halts s.arena (pair_of s).table w h j path room (trusted s i).passes l good rel t g ps p qs m parts c e b f)

  theorems : Theorems R I
  theorems = record {
    well = runs-well;
    apart = runs-apart;
    else = runs-else;
    by-owner = runs-by-owner;
    refused = runs-refused;
    full = runs-full;
    root-full = runs-root-full;
    full-by-own = runs-full-by-own;
    closed = runs_closed;
    slashless = runs-slashless;
    walk = runs-walk;
    halt = runs-halt;
  }

-- of tested functions, of an owner's, of both
pub tested-theorems : Theorems Ran Passes
unfolding Linked
tested-theorems = theorems linked (λ s y. y)

pub own-theorems : Theorems Owns Ready
unfolding OwnLinked
own-theorems = theorems own-linked (λ s y. y.trusted)

pub mixed-theorems : Theorems Mixed Passes
unfolding MixedLinked
mixed-theorems = theorems mixed-linked (λ s y. y)

-- ---- on any bytes

pub numbers : Numbers
unfolding Numbers Does Reasons
numbers c s u x y n r z =
    let e : n ≡ reason_of c (pair_of s) = number_is (does-calls c s u x y n r) z in
    (e, subst (λ (k : ℕ). (k ≡ 0) ⊎ T (has (reasons_of c) k)) (sym e) (reasons c (pair_of s)))
