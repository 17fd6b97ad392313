-- From the three slices to the state: a store changes the arena, a change in memory the table or superblock and maps, and steps go on in a row.
use mathlib.Core.Path.{◌≡◌, refl, ap, ◌∙◌, sym, subst}
use mathlib.Core.Bool.{false}
use mathlib.Core.List.{List}
use Prim.Native.Nat.{ℕ, suc, ◌+◌, ◌*◌, ◌≤◌, ◌<◌, ◌/◌}
use native.Mathlib.Numerals.{add-one}
use native.Mathlib.Omega.{arith}
use lib.ListN.{length, get_or}
use lib.Dec.{eqb}
use Rattle.base.specs.Out.{Out, done, refused, bind, Went, well, ill}
use Rattle.base.specs.Parts.{part}
use Rattle.base.proofs.Lists.{length_part}
use Rattle.base.proofs.Outs.{bind_assoc, above_zero, went-is, went-has, went-next, went-weaken}
use Rattle.le.specs.Le.{Bytes}
use Rattle.table.specs.declared.Table.{Table}
use Rattle.overlay.specs.View.{view, Fine}
use Rattle.overlay.specs.Steps.{Did, went, stopped}
use Rattle.overlay.proofs.Chains.{Well, did-well, did-ill, did_more, did-next, did-stop}
use Rattle.files.specs.Store.{put_file, touched}
use Rattle.files.proofs.Puts.{touched-within}
use Rattle.sefs.specs.State.{Fs, Meta, with_arena, with_table, with_meta}
use Rattle.sefs.specs.Meta.{meta_file, map_at, store_maps, sync_meta}
use Rattle.mem.specs.Mem.{super_in, maps_in, Whole, Tabled, Mapped, memory_size}
use Rattle.mem.specs.State.{fs_of, Still, Stepped, fs_at}
use Rattle.nodes.proofs.Common.{row-stops}
use Rattle.nodes.proofs.Bytes.{meta-is, meta-none, super-part}

-- ---- a change in memory

pub at-tabled : (a : List ℕ) {m n : List ℕ} {t : Table} → Tabled m n t → fs_at a n ≡ with_table (fs_at a m) t
at-tabled a c = λ x. record { arena = a; table = c.table x; meta = c.meta x }

pub fs-tabled : (a w : List ℕ) {m n : List ℕ} {t : Table} → Tabled m n t → fs_of a w n ≡ with_table (fs_of a w m) t
unfolding fs_of
fs-tabled a w c = at-tabled (view a w) c

pub fs-mapped : (a w : List ℕ) {m n : List ℕ} {y : Meta} → Mapped m n y → fs_of a w n ≡ with_meta (fs_of a w m) y
unfolding fs_of
fs-mapped a w c = λ x. record { arena = view a w; table = c.table x; meta = c.meta x }

-- ---- a store

pub fs-stored : (a w u m : List ℕ) → with_arena (fs_of a w m) (view a u) ≡ fs_of a u m
unfolding fs_of
fs-stored a w u m = refl

pub well-still : {o : Out (List ℕ)} {a w u m : List ℕ} {k : ℕ} → Whole m → Well o a w u k → Still a w u m k
well-still h e = record { fine = e.fine; whole = h; room = e.room }

-- the whole state after it
pub did-step : {o : Out (List ℕ)} {a w u m : List ℕ} {k r : ℕ} → Whole m → Did o a w u k r → Stepped (bind o (λ d. done (with_arena (fs_of a w m) d))) a w u m k r
did-step {a = a} {w = w} {u = u} {m = m} h (went e c) =
    well (rw (e, ← c.is) (ap done (fs-stored a w u m))) (record { fine = c.fine; whole = h; room = c.room })
did-step h (stopped l e) = ill l (rw e)

-- with a change in memory behind it
pub did-tabled : {o : Out (List ℕ)} {a w u m n : List ℕ} {k r : ℕ} {t : Table} → Did o a w u k r → r ≡ 0 → Tabled m n t → Stepped (bind o (λ d. done (with_table (with_arena (fs_of a w m) d) t))) a w u n k 0
unfolding fs_of
did-tabled {a = a} {u = u} d z c =
    let e = did-well d z in
    well (rw e.is (ap done (sym (fs-tabled a u c)))) (well-still c.whole e)

pub did-mapped : {o : Out (List ℕ)} {a w u m n : List ℕ} {k r : ℕ} {y : Meta} → Did o a w u k r → r ≡ 0 → Mapped m n y → Stepped (bind o (λ d. done (with_meta (with_arena (fs_of a w m) d) y))) a w u n k 0
unfolding fs_of
did-mapped {a = a} {u = u} d z c =
    let e = did-well d z in
    well (rw e.is (ap done (sym (fs-mapped a u c)))) (well-still c.whole e)

-- a store that is refused ends what it begins
pub did-stops : {B : Type 0} {o : Out (List ℕ)} {a w u : List ℕ} {k r : ℕ} (f : List ℕ → Out B) (v : B) (P : Type 0) → (r ≡ 0 → ⊥) → Did o a w u k r → Went (bind o f) v P r
did-stops {r = r} f v P z d = ill (above_zero r z) (rw (did-ill d z))

-- ---- steps in a row

pub still-none : {a w m : List ℕ} (k : ℕ) → Fine a w → Whole m → Still a w w m k
still-none k f h = record { fine = f; whole = h; room = omega arith }

pub still-then : {a w u t m n : List ℕ} {j k : ℕ} (l : ℕ) → j + k ≤ l → Still a w u m j → Still a u t n k → Still a w t n l
still-then l h s q = record { fine = q.fine; whole = q.whole; room = omega (arith, s.room, q.room) }

pub step-next : {o : Out Fs} {a w u t m n : List ℕ} {j k r q : ℕ} (l : ℕ) (f : Fs → Out Fs) → j + k ≤ l → r ≡ 0 → Stepped o a w u m j r → Stepped (f (fs_of a u m)) a u t n k q → Stepped (bind o f) a w t n l q
step-next l f h z d e = went-next f (went-is d z) (went-weaken (still-then l h (went-has d z)) e)

-- a step that changes memory only comes first
pub mem-next : {o : Out Fs} {a w u m n : List ℕ} {k r q : ℕ} (f : Fs → Out Fs) → r ≡ 0 → Went o (fs_of a w m) (Whole m) r → Stepped (f (fs_of a w m)) a w u n k q → Stepped (bind o f) a w u n k q
mem-next f z d e = went-next f (went-is d z) e

-- ---- the maps stored, group after group

-- a map lies in one block of its file
pub map-touches : (g pos n : ℕ) → g < 4 → pos ≡ map_at g → n ≡ 128 → touched pos n ≤ 1
map-touches g pos n l e h = let q : 273 * g ≤ pos / 480 = omega arith in touched-within pos n (omega arith)

stores-suc : (a maps : List ℕ) (n : ℕ) → store_maps a maps (suc n) ≡ bind (store_maps a maps n) (λ d. put_file d meta_file (map_at n) (part maps (128 * n) (128 * n + 128)))
unfolding store_maps
stores-suc a maps n = refl

pub stores-none : (a w maps : List ℕ) → Fine a w → Well (store_maps (view a w) maps 0) a w w (2 * 0)
unfolding store_maps
stores-none a w maps f = record { is = refl; fine = f; room = omega arith }

module _ (a w u t maps : List ℕ) (g r : ℕ) (so_far : Well (store_maps (view a w) maps g) a w u (2 * g)) (d : Did (put_file (view a u) meta_file (map_at g) (part maps (128 * g) (128 * g + 128))) a u t 2 r) where
  next-stores : Did (store_maps (view a w) maps (g + 1)) a w t (2 * (g + 1)) r
  next-stores =
      let e : store_maps (view a w) maps (g + 1) ≡ bind (store_maps (view a w) maps g) (λ d. put_file d meta_file (map_at g) (part maps (128 * g) (128 * g + 128))) = ap (store_maps (view a w) maps) (add-one g) ∙ stores-suc (view a w) maps g in
      subst (λ (o : Out (List ℕ)). Did o a w t (2 * (g + 1)) r) (sym e)
      (did-next (λ d. put_file d meta_file (map_at g) (part maps (128 * g) (128 * g + 128))) (2 * (g + 1)) so_far (omega arith) d)

  -- one map more
  pub stores-turn : r ≡ 0 → Well (store_maps (view a w) maps (g + 1)) a w t (2 * (g + 1))
  stores-turn z = did-well next-stores z

  -- a map that cannot be stored
  pub stores-stop : (n k : ℕ) → g < n → (r ≡ 0 → ⊥) → Did (store_maps (view a w) maps n) a w t k r
  stores-stop n k l z =
      stopped (above_zero r z)
      (row-stops (store_maps (view a w) maps) (λ i d. put_file d meta_file (map_at i) (part maps (128 * i) (128 * i + 128))) (stores-suc (view a w) maps) r (g + 1) n (omega arith) (did-ill next-stores z))

pub well-did : {o : Out (List ℕ)} {a w u : List ℕ} {k : ℕ} → Well o a w u k → Did o a w u k 0
well-did e = went e.is (record { is = refl; fine = e.fine; room = e.room })

-- ---- superblock and maps stored

-- what `sync_meta` is where they could be read
abbrev pub stores_all : List ℕ → List ℕ → List ℕ → Out (List ℕ)
stores_all a w m = bind (put_file (view a w) meta_file 0 (part m 4403 4419)) (λ d. store_maps d (maps_in m) (super_in m).groups)

pub sync-is : (a w m : List ℕ) → Bytes m → length m ≡ memory_size → get_or m 4402 0 ≡ 1 → sync_meta (fs_of a w m) ≡ bind (stores_all a w m) (λ d. done (with_arena (fs_of a w m) d))
unfolding sync_meta fs_of
sync-is a w m b h f =
    let e : sync_meta (fs_of a w m) ≡ bind (put_file (view a w) meta_file 0 (part m 4403 4419)) (λ d. bind (store_maps d (maps_in m) (super_in m).groups) (λ x. done (with_arena (fs_of a w m) x))) = rw (meta-is m f, super-part m b h) in
    e ∙ sym (bind_assoc (put_file (view a w) meta_file 0 (part m 4403 4419)) (λ d. store_maps d (maps_in m) (super_in m).groups) (λ x. done (with_arena (fs_of a w m) x)))

pub sync-none : (a w m : List ℕ) → eqb (get_or m 4402 0) 1 ≡ false → sync_meta (fs_of a w m) ≡ refused 19
unfolding sync_meta fs_of
sync-none a w m h = rw (meta-none m h)

module _ (a w u m : List ℕ) (r : ℕ) (b : Bytes m) (h : Whole m) (f : get_or m 4402 0 ≡ 1) (d : Did (put_file (view a w) meta_file 0 (part m 4403 4419)) a w u (1 + touched 0 (length (part m 4403 4419))) r) where
  super-did : Did (put_file (view a w) meta_file 0 (part m 4403 4419)) a w u 2 r
  super-did =
      let n = length_part m 4403 4419 (omega arith) (omega (arith, h.size)) in
      let l = touched-within 0 (length (part m 4403 4419)) (omega arith) in
      did_more 2 (omega arith) d

  pub sync-stop : (r ≡ 0 → ⊥) → Stepped (sync_meta (fs_of a w m)) a w u m 10 r
  sync-stop z = rw (sync-is a w m b h.size f) (did-step h (did-stop (λ d. store_maps d (maps_in m) (super_in m).groups) u 10 z super-did))

  pub sync-done : (t : List ℕ) (q : ℕ) → r ≡ 0 → Did (store_maps (view a u) (maps_in m) (super_in m).groups) a u t (2 * (super_in m).groups) q → Stepped (sync_meta (fs_of a w m)) a w t m 10 q
  sync-done t q z e =
      rw (sync-is a w m b h.size f)
      (did-step h (did-next (λ d. store_maps d (maps_in m) (super_in m).groups) 10 (did-well super-did z) (omega (arith, h.few f)) e))
