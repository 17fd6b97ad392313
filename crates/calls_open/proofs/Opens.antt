-- The call open: from its parts to the call.
use mathlib.Core.Path.{◌≡◌, refl, ◌∙◌, subst}
use mathlib.Core.Bool.{true, false, ◌&&◌}
use mathlib.Core.List.{List}
use Prim.Native.Nat.{ℕ, ◌≤◌}
use native.Mathlib.Omega.{arith}
use lib.Dec.{eqb, ltb}
use borrow.Author.Tests.{ltb-true}
use Rattle.base.specs.Out.{done, bind, Went, ill}
use Rattle.base.proofs.Bools.{and_parts}
use Rattle.base.proofs.Outs.{went-is, went-not, above_zero}
use Rattle.structs.specs.Layout.{super_of}
use Rattle.structs.specs.declared.SuperBlock.{SuperBlock}
use Rattle.table.specs.Table.{empty_table}
use Rattle.files.specs.Read.{read_file}
use Rattle.sefs.specs.Meta.{meta_file, load_maps}
use Rattle.sefs.specs.Ask.{admit_arena}
use Rattle.sefs.specs.Open.{call_open}
use Rattle.calls.proofs.General.{went-last}
use Rattle.calls_open.specs.Opens.{is_sefs, open_read}

-- its groups are 1 to 4
pub few-groups : (b : SuperBlock) → is_sefs b ≡ true → b.groups ≤ 4
few-groups b e =
    let p = and_parts (eqb b.magic 0x2f8d_be2a) (ltb 0 b.groups && ltb b.groups 5) e in
    let q = and_parts (ltb 0 b.groups) (ltb b.groups 5) p.1 in
    omega (arith, ltb-true b.groups 5 q.1)

-- the superblock cannot be read
pub read-stop : (a l : List ℕ) (r : ℕ) → Went (read_file a meta_file 0 16) l Unit r → (r ≡ 0 → ⊥) → Went (open_read a) empty_table Unit r
unfolding open_read
read-stop a l r g z = ill (above_zero r z) (rw (went-not g z))

module _ (a l : List ℕ) (read : read_file a meta_file 0 16 ≡ done l) where
  -- it is another file system's
  pub read-other : is_sefs (super_of l) ≡ false → Went (open_read a) empty_table Unit 18
  unfolding open_read
  read-other e = ill {r = 18} (omega arith) (rw (read, e))

  maps-next : is_sefs (super_of l) ≡ true → open_read a ≡ bind (load_maps a (super_of l).groups) (λ m. done empty_table)
  unfolding open_read
  maps-next e = rw (read, e)

  -- the maps are read, or not
  pub read-maps : (m : List ℕ) (k r : ℕ) → is_sefs (super_of l) ≡ true → k ≡ (super_of l).groups → Went (load_maps a k) m Unit r → Went (open_read a) empty_table Unit r
  read-maps m k r e q g =
      rw (maps-next e) (went-last (λ (m : List ℕ). empty_table) (λ (u : Unit). u) (subst (λ (x : ℕ). Went (load_maps a x) m Unit r) q g))

module _ {P : Type 0} (a : List ℕ) {n : ℕ} (g : Went (admit_arena a) tt P n) where
  open_is : call_open a ≡ bind (admit_arena a) (λ _. open_read a)
  unfolding call_open open_read
  open_is = refl

  pub open-stop : (n ≡ 0 → ⊥) → Went (call_open a) empty_table Unit n
  open-stop z = ill (above_zero n z) (open_is ∙ rw (went-not g z))

  pub open_next : {r : ℕ} → n ≡ 0 → Went (open_read a) empty_table Unit r → Went (call_open a) empty_table Unit r
  open_next z f = rw (open_is, went-is g z) f
