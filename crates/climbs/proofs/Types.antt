-- Slots that are read, and the type rules.
use mathlib.Core.Path.{◌≡◌, refl, sym, ◌∙◌, ap, subst}
use mathlib.Core.List.{List}
use mathlib.Core.Logic.{⊎_elim}
use Prim.Native.Nat.{ℕ, zero, suc, ◌+◌, ◌≤◌, ◌<◌}
use native.Mathlib.Nat.{eq-or-lt_of_le, le_of_suc-le-suc}
use native.Mathlib.Numerals.{add-one}
use native.Mathlib.Omega.{arith}
use borrow.Author.Tests.{le-leb, lt-leb}
use Rattle.base.specs.Out.{done, refused, Went, well, ill}
use Rattle.base.proofs.Outs.{went-is, went-not, above_zero}
use Rattle.structs.specs.declared.DiskINode.{DiskINode}
use Rattle.structs.specs.declared.DiskEntry.{DiskEntry}
use Rattle.structs.specs.declared.MoveVerdict.{MoveVerdict}
use Rattle.structs.specs.declared.MoveVerdict.TheVariants.{Allowed, NotDir, IsDir, IfEmpty}
use Rattle.structs.specs.Types.{move_verdict_of}
use Rattle.table.specs.Table.{row_at}
use Rattle.sefs.specs.State.{Fs}
use Rattle.sefs.specs.Nodes.{rec_at}
use Rattle.sefs.specs.Slots.{slot_at}
use Rattle.sefs.specs.Move.{read_slots}
use Rattle.mem.specs.Mem.{table_in}
use Rattle.mem.specs.State.{fs_at}
use Rattle.climbs.specs.Types.{Typed, if_empty, judge_rows}

-- ---- slots that are read

module _ (s : Fs) (d : ℕ) where
  pub read_none : read_slots s d 0 ≡ done s
  unfolding read_slots
  read_none = refl

  read_next : (k : ℕ) (e : DiskEntry) → read_slots s d k ≡ done s → slot_at s.arena (rec_at s d) k ≡ done e → read_slots s d (k + 1) ≡ done s
  unfolding read_slots
  read_next k e p q = rw (add-one, p, q)

  read-stuck : (k x : ℕ) → read_slots s d k ≡ done s → slot_at s.arena (rec_at s d) k ≡ refused x → read_slots s d (suc k) ≡ refused x
  unfolding read_slots
  read-stuck k x p q = rw (p, q)

  read-over : (m n x : ℕ) → read_slots s d m ≡ refused x → m ≤ n → read_slots s d n ≡ refused x
  unfolding read_slots
  read-over m zero x e h = subst (λ (j : ℕ). read_slots s d j ≡ refused x) (let q : m ≡ 0 = omega arith in q) e
  read-over m (suc n) x e h =
      ⊎_elim
      (λ q. subst (λ (j : ℕ). read_slots s d j ≡ refused x) q e)
      (λ l. rw (read-over m n x e (le_of_suc-le-suc l)))
      (eq-or-lt_of_le h)

module _ (a m : List ℕ) (d : ℕ) (rec : DiskINode) (y : rec ≡ (row_at (table_in m) d).rec) (k : ℕ) {x : ℕ} {v : DiskEntry} {P : Type 0} (e : read_slots (fs_at a m) d k ≡ done (fs_at a m)) (g : Went (slot_at a rec k) v P x) where
  at-fs : Went (slot_at a (row_at (table_in m) d).rec k) v P x
  at-fs = rw y at g

  pub read-ends : (n : ℕ) → k < n → (x ≡ 0 → ⊥) → Went (read_slots (fs_at a m) d n) (fs_at a m) Unit x
  read-ends n l z = ill (above_zero _ z) (read-over (fs_at a m) d (suc k) n _ (read-stuck (fs_at a m) d k _ e (went-not at-fs z)) l)

  pub read_more : x ≡ 0 → read_slots (fs_at a m) d (k + 1) ≡ done (fs_at a m)
  read_more z = read_next (fs_at a m) d k _ e (went-is at-fs z)

pub read_all : (s : Fs) (d k n : ℕ) → read_slots s d k ≡ done s → k ≤ n → n ≤ k → Went (read_slots s d n) s Unit 0
read_all s d k n e l h = well (ap (read_slots s d) (let z : n ≡ k = omega arith in z) ∙ e) tt

-- ---- type rules

module _ (a m : List ℕ) (d : ℕ) (x : DiskINode) (e : x ≡ (row_at (table_in m) d).rec) where
  pub empty-not : 2 < x.blocks → Went (if_empty (fs_at a m) d) (fs_at a m) Unit 13
  unfolding if_empty
  empty-not l = ill {r = 13} (omega arith) (rw (← e, lt-leb x.blocks 2 l))

  pub empty-read : {r : ℕ} (n : ℕ) → n ≡ x.blocks → x.blocks ≤ 2 → Went (read_slots (fs_at a m) d n) (fs_at a m) Unit r → Went (if_empty (fs_at a m) d) (fs_at a m) Unit r
  unfolding if_empty
  empty-read n q l h = rw (← e, le-leb x.blocks 2 l, ← q) h

-- a type that is known of a record, by another name of it
pub typed-of : {x y : DiskINode} → x ≡ y → Typed y → Typed x
typed-of e h = subst Typed (sym e) h

module _ (a m : List ℕ) (c d : ℕ) (x y : DiskINode) (p : x ≡ (row_at (table_in m) c).rec) (q : y ≡ (row_at (table_in m) d).rec) (v : MoveVerdict) (e : v ≡ move_verdict_of x.kind y.kind) where
  is-verdict : (u : MoveVerdict) → v ≡ u → move_verdict_of (row_at (table_in m) c).rec.kind (row_at (table_in m) d).rec.kind ≡ u
  is-verdict u k = rw (← p, ← q, ← e, k)

  pub judge-allowed : v ≡ Allowed → Went (judge_rows (fs_at a m) c d) (fs_at a m) Unit 0
  unfolding judge_rows
  judge-allowed k = well (rw (is-verdict Allowed k)) tt

  pub judge-not-dir : v ≡ NotDir → Went (judge_rows (fs_at a m) c d) (fs_at a m) Unit 7
  unfolding judge_rows
  judge-not-dir k = ill {r = 7} (omega arith) (rw (is-verdict NotDir k))

  pub judge-is-dir : v ≡ IsDir → Went (judge_rows (fs_at a m) c d) (fs_at a m) Unit 9
  unfolding judge_rows
  judge-is-dir k = ill {r = 9} (omega arith) (rw (is-verdict IsDir k))

  pub judge-empty : {r : ℕ} → v ≡ IfEmpty → Went (if_empty (fs_at a m) d) (fs_at a m) Unit r → Went (judge_rows (fs_at a m) c d) (fs_at a m) Unit r
  unfolding judge_rows if_empty
  judge-empty k h = rw (is-verdict IfEmpty k) h
