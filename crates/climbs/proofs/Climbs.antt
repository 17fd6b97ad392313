-- The climb: what a turn comes to, and what the turns so far leave of it.
use mathlib.Core.Path.{◌≡◌, refl, sym, ◌∙◌, ap}
use mathlib.Core.List.{List}
use Prim.Native.Nat.{ℕ, zero, suc, ◌-◌, ◌<◌}
use native.Mathlib.Omega.{arith}
use borrow.Author.Tests.{eq-eqb, ne_eqb}
use Rattle.base.specs.Out.{Out, done, refused, bind, Went, well, ill}
use Rattle.base.proofs.Outs.{went-is, went-not, above_zero}
use Rattle.le.specs.Le.{le_at}
use Rattle.structs.specs.Layout.{entry_of}
use Rattle.structs.specs.declared.DiskINode.{DiskINode}
use Rattle.table.specs.Table.{row_at}
use Rattle.sefs.specs.State.{Fs}
use Rattle.sefs.specs.Slots.{slot_bytes}
use Rattle.sefs.specs.Move.{record_on, dots_of, climb, not_below}
use Rattle.mem.specs.Mem.{table_in}
use Rattle.mem.specs.State.{fs_at}

-- ---- what slot 1 names

module _ (a m : List ℕ) (x : DiskINode) where
  pub dots-other : (v : ℕ) → (x.kind ≡ 2 → ⊥) → Went (dots_of (fs_at a m) x) v Unit 19
  unfolding dots_of
  dots-other v k = ill {r = 19} (omega arith) (rw (ne_eqb x.kind 2 k))

  module _ {l : List ℕ} {P : Type 0} {r : ℕ} (k : x.kind ≡ 2) (g : Went (slot_bytes a x 1) l P r) where
    pub dots-stop : (v : ℕ) → (r ≡ 0 → ⊥) → Went (dots_of (fs_at a m) x) v Unit r
    unfolding dots_of
    dots-stop v z = ill (above_zero _ z) (rw (eq-eqb x.kind 2 k, went-not g z))

    pub dots-done : (v : ℕ) → r ≡ 0 → v ≡ le_at l 0 4 → Went (dots_of (fs_at a m) x) v Unit 0
    unfolding dots_of entry_of
    dots-done v z e = well (rw (eq-eqb x.kind 2 k, went-is g z, e)) tt

-- ---- a turn

module _ (s : Fs) (c : ℕ) where
  climb-met : (n x : ℕ) (o : Out DiskINode) → x ≡ c → climb s c n x o ≡ refused 6
  unfolding climb
  climb-met zero x o e = rw (eq-eqb x c e)
  climb-met (suc n) x o e = rw (eq-eqb x c e)

  climb-root : (n x : ℕ) (o : Out DiskINode) → (x ≡ c → ⊥) → x ≡ 2 → climb s c n x o ≡ done tt
  unfolding climb
  climb-root zero x o k e = rw (ne_eqb x c k, eq-eqb x 2 e)
  climb-root (suc n) x o k e = rw (ne_eqb x c k, eq-eqb x 2 e)

  climb-past : (x : ℕ) (o : Out DiskINode) → (x ≡ c → ⊥) → (x ≡ 2 → ⊥) → climb s c 0 x o ≡ refused 19
  unfolding climb
  climb-past x o k e = rw (ne_eqb x c k, ne_eqb x 2 e)

  climb-suc : (n x : ℕ) (o : Out DiskINode) → (x ≡ c → ⊥) → (x ≡ 2 → ⊥) → climb s c (suc n) x o ≡ bind o (λ r. bind (dots_of s r) (λ y. climb s c n y (record_on s y)))
  unfolding climb
  climb-suc n x o k e = rw (ne_eqb x c k, ne_eqb x 2 e)

  climb-turn : (n x : ℕ) (o : Out DiskINode) → 0 < n → (x ≡ c → ⊥) → (x ≡ 2 → ⊥) → climb s c n x o ≡ bind o (λ r. bind (dots_of s r) (λ y. climb s c (n - 1) y (record_on s y)))
  climb-turn n x o l k e = ap (λ (i : ℕ). climb s c i x o) (let q : n ≡ suc (n - 1) = omega arith in q) ∙ climb-suc (n - 1) x o k e

  -- no more folders may be climbed from
  pub end-met : (x : ℕ) (o : Out DiskINode) → x ≡ c → Went (climb s c 0 x o) tt Unit 6
  end-met x o e = ill {r = 6} (omega arith) (climb-met 0 x o e)

  pub end-root : (x : ℕ) (o : Out DiskINode) → (x ≡ c → ⊥) → x ≡ 2 → Went (climb s c 0 x o) tt Unit 0
  end-root x o k e = well (climb-root 0 x o k e) tt

  pub end-past : (x : ℕ) (o : Out DiskINode) → (x ≡ c → ⊥) → (x ≡ 2 → ⊥) → Went (climb s c 0 x o) tt Unit 19
  end-past x o k e = ill {r = 19} (omega arith) (climb-past x o k e)

-- ---- the turns so far: the climb from folder `id` with the record `rec` is the one from folder x, that n folders may be climbed from. Reading x's
-- record answered the reason p and the record r

pub record Climbing (s : Fs) (c id : ℕ) (rec : DiskINode) (n x p : ℕ) (r : DiskINode) : Type 0 where
  pub read : Out DiskINode
  pub noted : Went read r Unit p
  pub same : climb s c 4096 id (done rec) ≡ climb s c n x read

pub climb-starts : (s : Fs) (c id : ℕ) (rec : DiskINode) → Climbing s c id rec 4096 id 0 rec
climb-starts s c id rec = record { read = done rec; noted = well refl tt; same = refl }

module _ (s : Fs) (c id : ℕ) (rec : DiskINode) (n x p : ℕ) (r : DiskINode) (g : Climbing s c id rec n x p r) where
  pub way-met : x ≡ c → Went (climb s c 4096 id (done rec)) tt Unit 6
  way-met e = ill {r = 6} (omega arith) (g.same ∙ climb-met s c n x g.read e)

  pub way-root : (x ≡ c → ⊥) → x ≡ 2 → Went (climb s c 4096 id (done rec)) tt Unit 0
  way-root k e = well (g.same ∙ climb-root s c n x g.read k e) tt

  pub way-ends : {q : ℕ} → n ≡ 0 → ((s : Fs) (o : Out DiskINode) → Went (climb s c 0 x o) tt Unit q) → Went (climb s c 4096 id (done rec)) tt Unit q
  way-ends z h = rw (g.same, z) (h s g.read)

  module _ (l : 0 < n) (k : x ≡ c → ⊥) (e : x ≡ 2 → ⊥) where
    pub way-stuck : (p ≡ 0 → ⊥) → Went (climb s c 4096 id (done rec)) tt Unit p
    way-stuck z = ill (above_zero _ z) (g.same ∙ climb-turn s c n x g.read l k e ∙ rw (went-not g.noted z))

    module _ (z : p ≡ 0) {y q : ℕ} (d : Went (dots_of s r) y Unit q) where
      pub way-lost : (q ≡ 0 → ⊥) → Went (climb s c 4096 id (done rec)) tt Unit q
      way-lost o = ill (above_zero _ o) (g.same ∙ climb-turn s c n x g.read l k e ∙ rw (went-is g.noted z, went-not d o))

      pub way_on : {t : ℕ} {v : DiskINode} → q ≡ 0 → Went (record_on s y) v Unit t → Climbing s c id rec (n - 1) y t v
      way_on o h = record { read = record_on s y; noted = h; same = g.same ∙ climb-turn s c n x g.read l k e ∙ rw (went-is g.noted z, went-is d o) }

-- ---- whether there is a climb: x and y are the folders' ids

module _ (a m : List ℕ) (i j c x y : ℕ) (p : x ≡ (row_at (table_in m) i).id) (q : y ≡ (row_at (table_in m) j).id) where
  pub below-within : x ≡ y → Went (not_below (fs_at a m) i j c) tt Unit 0
  unfolding not_below
  below-within e = well (rw (eq-eqb (row_at (table_in m) i).id (row_at (table_in m) j).id (sym p ∙ e ∙ q))) tt

  module _ (n : x ≡ y → ⊥) (k : DiskINode) (f : k ≡ (row_at (table_in m) c).rec) where
    apart : (row_at (table_in m) i).id ≡ (row_at (table_in m) j).id → ⊥
    apart o = n (p ∙ o ∙ sym q)

    pub below_other : (k.kind ≡ 2 → ⊥) → Went (not_below (fs_at a m) i j c) tt Unit 0
    unfolding not_below
    below_other h = well (rw (ne_eqb (row_at (table_in m) i).id (row_at (table_in m) j).id apart, ← f, ne_eqb k.kind 2 h)) tt

    pub below-climb : k.kind ≡ 2 → {r : ℕ} (u v : ℕ) (w : DiskINode) → u ≡ (row_at (table_in m) c).id → v ≡ (row_at (table_in m) j).id → w ≡ (row_at (table_in m) j).rec → Went (climb (fs_at a m) u 4096 v (done w)) tt Unit r → Went (not_below (fs_at a m) i j c) tt Unit r
    unfolding not_below
    below-climb h u v w d e b g = rw (ne_eqb (row_at (table_in m) i).id (row_at (table_in m) j).id apart, ← f, eq-eqb k.kind 2 h, ← d, ← e, ← b) g
