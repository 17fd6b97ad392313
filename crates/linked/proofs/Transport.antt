-- From one run to a list of runs: what holds along the calls holds along the runs.
use mathlib.Core.Path.{◌≡◌, refl, sym, ap, ap₂, ◌∙◌, subst}
use mathlib.Core.List.{List}
use mathlib.Core.Logic.{◌≢◌}
use Prim.Native.Nat.{ℕ}
use native.Mathlib.Omega.{arith}
use lib.Dec.{T}
use lib.ListN.{length}
use Rattle.base.specs.Out.{Out, done, refused, answer, kept, said}
use Rattle.table.specs.declared.Table.{Table}
use Rattle.table_bytes.specs.Layout.{table_of, bytes_of_table}
use Rattle.table_bytes.proofs.Layouts.{length-fits, table_of-table_bytes}
use Rattle.sequences.specs.Pairs.{Pair, pair, Passed}
use Rattle.sequences.specs.Calls.{Call, root, find, walk, create, link, remove_file, remove_folder, move, metadata, set_metadata, get_entry, listing, full_path, read, write, resize, fallocate, sync, close, check, inventory, mend, Fits, does, reason_of, next}
use Rattle.sequences.specs.Reasons.{reasons_of, has}
use Rattle.sequences.specs.Promises.{Along, Keeps}
use Rattle.sequences.specs.Promises as along
use Rattle.sequences.proofs.Sequences.{keeps}
use Rattle.sequences.proofs.Reasons.{says-does}
use Rattle.sefs_laws.proofs.Says.{Says}
use Rattle.linked.specs.Images.{Image, pair_of, Same, Trusted, Passes, Places, Has, written, unwritten, Did, did, denied, uncalled}
use Rattle.linked.specs.Linked.{Functions, Runs, none, ran, wrong, Goes, AlongRuns}

-- ---- neither 0 nor 255 is a reason: 0 says that the call was done, and 255 that none was made

not_in : (c : Call) → (T (has (reasons_of c) 0) → ⊥) × (T (has (reasons_of c) 255) → ⊥)
not_in (root w) = (λ z. z, λ z. z)
not_in (find w h name) = (λ z. z, λ z. z)
not_in (walk w h path room) = (λ z. z, λ z. z)
not_in (create w h name kind mode time file) = (λ z. z, λ z. z)
not_in (link w h name child) = (λ z. z, λ z. z)
not_in (remove_file w h name) = (λ z. z, λ z. z)
not_in (remove_folder w h name) = (λ z. z, λ z. z)
not_in (move w h old target name) = (λ z. z, λ z. z)
not_in (metadata w h) = (λ z. z, λ z. z)
not_in (set_metadata w h mode uid gid atime mtime ctime) = (λ z. z, λ z. z)
not_in (get_entry w h k room) = (λ z. z, λ z. z)
not_in (listing w h m room) = (λ z. z, λ z. z)
not_in (full_path w h room) = (λ z. z, λ z. z)
not_in (read w h place room) = (λ z. z, λ z. z)
not_in (write w h place bytes) = (λ z. z, λ z. z)
not_in (resize w h n) = (λ z. z, λ z. z)
not_in (fallocate w h mode from len) = (λ z. z, λ z. z)
not_in sync = (λ z. z, λ z. z)
not_in (close w h) = (λ z. z, λ z. z)
not_in check = (λ z. z, λ z. z)
not_in (inventory room) = (λ z. z, λ z. z)
not_in mend = (λ z. z, λ z. z)

pub zero-done : (c : Call) (p : Pair) → 0 ≡ reason_of c p → does c p ≡ done (next c p)
zero-done c p = by (does c p) (says-does c p)
  where
    by : (o : Out Pair) → Says (λ (n : ℕ). T (has (reasons_of c) n)) o → 0 ≡ answer o → o ≡ done (kept p o)
    by (done q) s z = refl
    by (refused n) (said r) z = absurd ((not_in c).0 (subst (λ (k : ℕ). T (has (reasons_of c) k)) (sym z) r))

never-255 : (c : Call) (p : Pair) → does c p ≡ refused 255 → ⊥
never-255 c p d = by (subst (Says (λ (n : ℕ). T (has (reasons_of c) n))) d (says-does c p))
  where
    by : Says {A = Pair} (λ (n : ℕ). T (has (reasons_of c) n)) (refused 255) → ⊥
    by (said r) = (not_in c).1 r

-- ---- bytes that pass

-- a table that is written is read again
pub trusted-written : (b : List ℕ) (u : Table) → Passed (pair b u) → Trusted b (bytes_of_table u)
trusted-written b u y = record {
  size = length-fits u y.typed.fits;
  passes = subst (λ (v : Table). Passed (pair b v)) (sym (table_of-table_bytes u y.typed.fits)) y;
}

module _ {s u : Image} (S : Same s u) where
  pub same-pair : pair_of u ≡ pair_of s
  same-pair = ap₂ (λ (a t : List ℕ). pair a (table_of t)) S.arena S.table

  pub same-trusted : Passes s → Passes u
  same-trusted y = subst (λ (x : List ℕ). Trusted x u.table) (sym S.arena) (subst (Trusted s.arena) (sym S.table) y)

-- ---- one run

pub number_is : {c : Call} {s u : Image} {x y : Places} {n : ℕ} → Did c s x u y n → n ≢ 255 → n ≡ reason_of c (pair_of s)
number_is (did d h e z) k = z ∙ sym (ap answer d)
number_is (denied d S e) k = sym (ap answer d)
number_is (uncalled S e z) k = absurd (k z)

module _ (c : Call) (s u : Image) (T : Passes s) (F : Fits c) where
  module _ (q : Pair) (d : does c (pair_of s) ≡ done q) where
    next-is : next c (pair_of s) ≡ q
    next-is = ap (kept (pair_of s)) d

    passed : Passed q
    unfolding Keeps
    passed = subst Passed next-is (keeps (pair_of s) c T.passes F).passes

    has-pair : Has s u q → pair_of u ≡ q
    has-pair (written e f) = ap₂ pair e (ap table_of f ∙ table_of-table_bytes q.table passed.typed.fits)
    has-pair (unwritten e f g) = ap₂ pair e (ap table_of g ∙ sym f)

    has-trusted : Has s u q → Passes u
    has-trusted (written e f) = subst (λ (b : List ℕ). Trusted b u.table) (sym e) (subst (Trusted q.arena) (sym f) (trusted-written q.arena q.table passed))
    has-trusted (unwritten e f g) = record { size = ap length g ∙ T.size; passes = subst Passed (sym (has-pair (unwritten e f g))) passed }

  -- the bytes pass together again
  pub after : {x y : Places} {n : ℕ} → Did c s x u y n → Passes u
  after (did {q = q} d h e z) = has-trusted q d h
  after (denied d S e) = same-trusted S T
  after (uncalled S e z) = same-trusted S T

  pub called : {x y : Places} {n : ℕ} (P : Call → Pair → Type 0) → Did c s x u y n → n ≢ 255 → P c (pair_of s) → Goes P c s x u y n
  called P (did {q = q} d h e z) k p =
      record { holds = p; number = number_is (did d h e z) k; left = has-pair q d h ∙ sym (next-is q d); given = e; trusted = has-trusted q d h }
  called P (denied d S e) k p =
      record { holds = p; number = sym (ap answer d); left = same-pair S ∙ sym (ap (kept (pair_of s)) d); given = e; trusted = same-trusted S T }
  called P (uncalled S e z) k p = absurd (k z)

pub not_255 : ◌≢◌ {A = ℕ} 0 255
not_255 e = omega (arith, e)

-- a run that answers 255 leaves all as it was
not-called : {c : Call} {s u : Image} {x y : Places} → Did c s x u y 255 → Same s u × (y ≡ x)
not-called (did d h e z) = absurd (omega (arith, z))
not-called {c = c} {s = s} (denied d S e) = absurd (never-255 c (pair_of s) d)
not-called (uncalled S e z) = (S, e)

-- ---- a list of runs. K is what a function needs, and leaves, beside arena and table that pass

module _ {R : Functions} where
  -- the calls that they made fit, wherever they are made
  pub fitting : {s v : Image} {l : List Call} → Runs R s l v → (p : Pair) → Along (λ c q. Fits c) p l
  fitting none p = along.ends
  fitting (ran {c = c} f r z m) p = along.goes f (fitting m (next c p))
  fitting (wrong r m) p = fitting m p

  module _ (K : Image → Type 0)
      (law : (c : Call) (s u : Image) (x y : Places) (n : ℕ) → Passes s → K s → R c s x u y n → Did c s x u y n × K u) where
    pub transport : (P : Call → Pair → Type 0) (s v : Image) (l : List Call) (m : Runs R s l v) → Passes s → K s → Along P (pair_of s) l → AlongRuns P m
    transport P s v l none y k a = tt
    transport P s v l (ran {c = c} {u = u} {x = x} {y = w} {l = t} {n = n} f r z m) y k (along.goes h a) =
        let d = law c s u x w n y k r in
        let g : Goes P c s x u w n = called c s u y f P d.0 z h in
        (g, transport P u v t m g.trusted d.1 (subst (λ (p : Pair). Along P p t) (sym g.left) a))
    transport P s v l (wrong {c = c} {u = u} {x = x} {y = w} r m) y k a =
        let d = law c s u x w 255 y k r in
        let S : Same s u × (w ≡ x) = not-called d.0 in
        (S.0, S.1, transport P u v l m (same-trusted S.0 y) d.1 (subst (λ (p : Pair). Along P p l) (sym (same-pair S.0)) a))
