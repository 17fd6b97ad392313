-- Superblock and maps read: what was read stands in memory, and a refusal is 19.
use mathlib.Core.Path.{◌≡◌, refl, ap, ◌∙◌, sym}
use mathlib.Core.Bool.{◌&&◌}
use mathlib.Core.List.{List, ◌++◌}
use Prim.Native.Nat.{ℕ, zero, suc, ◌+◌, ◌*◌, ◌≤◌, ◌<◌}
use native.Mathlib.Numerals.{add-one}
use native.Mathlib.Omega.{arith}
use lib.ListN.{length, get_or, set}
use lib.Dec.{eqb, ltb}
use borrow.Author.Tests.{lt-ltb, le-ltb, ne_eqb}
use Rattle.base.proofs.Parts.{part_join}
use Rattle.base.specs.Count.{bit}
use Rattle.base.specs.Out.{Out, done, refused, bind, Ok, went, Went, well, ill}
use Rattle.base.specs.Parts.{part, back}
use Rattle.base.proofs.Outs.{ok-bind, ok-guard, went-is, went-not, went-weaken, above_zero}
use Rattle.structs.specs.Layout.{super_of}
use Rattle.structs.specs.declared.SuperBlock.{SuperBlock}
use Rattle.arena.specs.Fields.{File}
use Rattle.files.specs.Read.{read_file}
use Rattle.sefs.specs.State.{Meta}
use Rattle.sefs.specs.Meta.{meta_file, map_at, load_maps, load_meta}
use Rattle.mem.specs.Mem.{table_in, super_in, maps_in, meta_in, Whole, memory_size}
use Rattle.nodes.specs.Steps.{meta_of}
use Rattle.nodes.proofs.Common.{part-agree, part-back, ok-refused, row-stops, read_ok}
use Rattle.nodes.proofs.Bytes.{table-agree, meta-is, meta-none, mark-table, mark-super, mark-meta, mark-at, mark-size}

-- ---- refusals: each is 19

abbrev Nineteen : {A : Type 0} → Out A → Type 0
Nineteen o = Ok (λ _. Unit) (λ n. n ≡ 19) o

maps-ok : (a : List ℕ) (n : ℕ) → Nineteen (load_maps a n)
unfolding load_maps
maps-ok a zero = went tt
maps-ok a (suc n) = ok-bind (maps-ok a n) (λ m _. ok-bind (read_ok a meta_file (map_at n) 128) (λ l _. went tt))

meta-ok : (a : List ℕ) → Nineteen (load_meta a)
unfolding load_meta
meta-ok a =
    ok-bind (read_ok a meta_file 0 16)
    (λ l _. ok-guard (ltb 0 (super_of l).groups && ltb (super_of l).groups 5) 19 refl (λ _. ok-bind (maps-ok a (super_of l).groups) (λ m _. went tt)))

-- ---- bytes read into a part of the memory

pub read-in : {P : Type 0} (a : List ℕ) (f : File) (p n s e r : ℕ) (m d : List ℕ) → s + n ≡ e → e ≤ length m → length d ≡ n → Went (read_file a f p n) d P r → Went (read_file a f p n) (part (back m s e d) s e) Unit r
read-in a f p n s e r m d h l k g = rw (part-back m s e d (omega arith) l) (went-weaken (λ _. tt) g)

-- ---- the maps, group after group

maps-suc : (a : List ℕ) (n : ℕ) → load_maps a (suc n) ≡ bind (load_maps a n) (λ m. bind (read_file a meta_file (map_at n) 128) (λ l. done (m ++ l)))
unfolding load_maps
maps-suc a n = refl

pub maps_none : (a m : List ℕ) → load_maps a 0 ≡ done (part m 4419 (4419 + 128 * 0))
unfolding load_maps
maps_none a m = refl

module _ (a m n : List ℕ) (g r : ℕ) (so_far : load_maps a g ≡ done (part m 4419 (4419 + 128 * g))) (w : Went (read_file a meta_file (map_at g) 128) (part n (4419 + 128 * g) (4419 + 128 * g + 128)) Unit r) where
  next-is : load_maps a (g + 1) ≡ bind (load_maps a g) (λ m. bind (read_file a meta_file (map_at g) 128) (λ l. done (m ++ l)))
  next-is = rw add-one (maps-suc a g)

  -- one map more
  pub maps-turn : r ≡ 0 → part n 0 (4419 + 128 * g) ≡ part m 0 (4419 + 128 * g) → load_maps a (g + 1) ≡ done (part n 4419 (4419 + 128 * (g + 1)))
  maps-turn z h =
      next-is
      ∙ rw (so_far, went-is w z)
      (ap (λ (l : List ℕ). done (l ++ part n (4419 + 128 * g) (4419 + 128 * g + 128))) (sym (part-agree n m (4419 + 128 * g) 4419 (4419 + 128 * g) (omega arith) h))
      ∙ ap done (sym (part_join n 4419 (128 * g) 128) ∙ ap (part n 4419) (let q : 4419 + (128 * g + 128) ≡ 4419 + 128 * (g + 1) = omega arith in q)))

  -- a map that cannot be read
  pub maps-stop : (k : ℕ) → g < k → (r ≡ 0 → ⊥) → (v : List ℕ) → Went (load_maps a k) v Unit r
  maps-stop k l z v =
      ill (above_zero r z)
      (row-stops (load_maps a) (λ n m. bind (read_file a meta_file (map_at n) 128) (λ l. done (m ++ l))) (maps-suc a) r (g + 1) k (omega arith) (next-is ∙ rw (so_far, went-not w z)))

-- ---- both

pub super-is : (m : List ℕ) → super_of (part m 4403 4419) ≡ super_in m
unfolding super_in
super-is m = refl

-- the superblock cannot be read
pub meta-stop : (a l : List ℕ) (r : ℕ) → Went (read_file a meta_file 0 16) l Unit r → (v : Meta) (P : Type 0) → (r ≡ 0 → ⊥) → Went (load_meta a) v P r
unfolding load_meta
meta-stop a l r g v P z = ill (above_zero r z) (rw (went-not g z))

module _ (a m : List ℕ) (read : read_file a meta_file 0 16 ≡ done (part m 4403 4419)) where
  -- no group, or too many
  pub meta-few : (n : List ℕ) (P : Type 0) → (super_in m).groups ≡ 0 → Went (load_meta a) (meta_of n) P 19
  unfolding load_meta super_in
  meta-few n P h = ill {r = 19} (omega arith) (rw (read, le-ltb 0 (super_of (part m 4403 4419)).groups (omega arith)))

  pub meta-many : (n : List ℕ) (P : Type 0) → 4 < (super_in m).groups → Went (load_meta a) (meta_of n) P 19
  unfolding load_meta super_in
  meta-many n P h =
      ill {r = 19} (omega arith)
      (rw (read, lt-ltb 0 (super_of (part m 4403 4419)).groups (omega arith), le-ltb (super_of (part m 4403 4419)).groups 5 (omega arith)))

  module _ (n : List ℕ) (some : (super_in m).groups ≡ 0 → ⊥) (few : (super_in m).groups ≤ 4) (same : part n 0 4419 ≡ part m 0 4419) where
    super-same : super_in n ≡ super_in m
    unfolding super_in
    super-same = ap super_of (part-agree n m 4419 4403 4419 (omega arith) same)

    groups-same : (super_in n).groups ≡ (super_in m).groups
    groups-same = ap (λ (s : SuperBlock). s.groups) super-same

    meta-bind : load_meta a ≡ bind (load_maps a (super_in m).groups) (λ l. done (record { super = super_in m; maps = l }))
    unfolding load_meta super_in
    meta-bind =
        rw (read, lt-ltb 0 (super_of (part m 4403 4419)).groups (above_zero _ some), lt-ltb (super_of (part m 4403 4419)).groups 5 (omega arith))

    joined : (record { super = super_in m; maps = part n 4419 (4419 + 128 * (super_in m).groups) }) ≡ meta_of n
    unfolding maps_in
    joined =
        ap (λ (s : SuperBlock). record { super = s; maps = part n 4419 (4419 + 128 * s.groups) }) (sym super-same)

    -- the maps were read, or not
    pub meta-read : {r : ℕ} → Went (load_maps a (super_in m).groups) (part n 4419 (4419 + 128 * (super_in m).groups)) Unit r → Went (load_meta a) (meta_of n) ((0 < (super_in n).groups) × ((super_in n).groups ≤ 4)) r
    meta-read (well e u) = well (meta-bind ∙ rw e (ap done joined)) (omega (arith, groups-same, above_zero _ some), omega (arith, groups-same))
    meta-read (ill l e) = ill l (meta-bind ∙ rw e)

-- ---- the mark beside them says whether they could be read

pub record Loaded (a m p : List ℕ) : Type 0 where
  pub meta : meta_in p ≡ load_meta a
  pub table : table_in p ≡ table_in m
  pub whole : Whole p

pub loaded : (a m n : List ℕ) (r : ℕ) → length n ≡ memory_size → part n 0 4403 ≡ part m 0 4403 → Went (load_meta a) (meta_of n) ((0 < (super_in n).groups) × ((super_in n).groups ≤ 4)) r → Loaded a m (set n 4402 (bit (eqb r 0)))
loaded a m n r h s (well e p) =
    record {
      meta = meta-is (set n 4402 1) (mark-at n 1 h) ∙ (ap done (mark-meta n 1 h) ∙ sym e);
      table = mark-table n 1 h ∙ table-agree m n (part-agree n m 4403 0 4402 (omega arith) s);
      whole = record {
        size = mark-size n 1 h;
        some = λ _. rw (mark-super n 1 h) p.0;
        few = λ _. rw (mark-super n 1 h) p.1;
      };
    }
loaded a m n r h s (ill l e) =
    let z : bit (eqb r 0) ≡ 0 = rw (ne_eqb r 0 (λ q. omega arith)) in
    let x = set n 4402 (bit (eqb r 0)) in
    let v : get_or x 4402 0 ≡ 0 = mark-at n (bit (eqb r 0)) h ∙ z in
    record {
      meta = meta-none x (ne_eqb (get_or x 4402 0) 1 (λ q. omega arith)) ∙ (ap refused (sym (ok-refused (meta-ok a) r e)) ∙ sym e);
      table = mark-table n (bit (eqb r 0)) h ∙ table-agree m n (part-agree n m 4403 0 4402 (omega arith) s);
      whole = record {
        size = mark-size n (bit (eqb r 0)) h;
        some = λ q. absurd (omega arith);
        few = λ q. absurd (omega arith);
      };
    }
