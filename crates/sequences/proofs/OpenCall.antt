-- Open: which reasons it can give, and that what the checker passes opens.
use mathlib.Core.Path.{◌≡◌, refl, subst}
use mathlib.Core.Bool.{◌&&◌}
use mathlib.Core.List.{List}
use mathlib.Core.Logic.{◌⊎◌, inl, inr}
use Prim.Native.Nat.{ℕ}
use native.Mathlib.Omega.{arith}
use lib.Dec.{T, eqb, ltb}
use borrow.Author.Tests.{lt-ltb, eq-eqb}
use Rattle.base.specs.Out.{Out, done, answer, Ok, went, said}
use Rattle.base.proofs.Outs.{ok-bind, ok-done}
use Rattle.structs.specs.Constants.{sefs_magic}
use Rattle.structs.specs.Layout.{super_of}
use Rattle.table.specs.declared.Table.{Table}
use Rattle.table.specs.Table.{empty_table}
use Rattle.sefs.specs.Meta.{meta_file}
use Rattle.sefs.specs.Ask.{admit_arena}
use Rattle.sefs.specs.Open.{call_open}
use Rattle.rules.specs.Image.{stored_super}
use Rattle.rules.specs.Rules.{Allowed}
use Rattle.rules.proofs.Check.{check-pass}
use Rattle.sefs_laws.proofs.Says.{says-ensure, says-read, says-maps, says-arena}
use Rattle.image.proofs.Images.{fair}
use Rattle.image.proofs.Nodes.{meta-read, maps-is}
use Rattle.sequences.specs.Reasons.{has, open_reasons, OpenSays, OpenEmpty, OldOpen}

-- ---- its reasons, and what it gives

abbrev In : ℕ → Type 0
In n = T (has open_reasons n)

open-law : (a : List ℕ) → Ok (λ (t : Table). t ≡ empty_table) In (call_open a)
unfolding call_open
open-law a =
    ok-bind (says-arena tt tt a) λ _ _.
    ok-bind (says-read In tt a meta_file 0 16) λ l _.
    ok-bind (says-ensure (eqb (super_of l).magic sefs_magic && (ltb 0 (super_of l).groups && ltb (super_of l).groups 5)) 18 tt) λ _ _.
    ok-bind (says-maps In tt a (super_of l).groups) λ m _. went refl

pub open-says : OpenSays
unfolding OpenSays
open-says a = by (open-law a)
  where
    by : {o : Out Table} → Ok (λ (t : Table). t ≡ empty_table) In o → (answer o ≡ 0) ⊎ T (has open_reasons (answer o))
    by (went e) = inl refl
    by (said r) = inr r

pub open-empty : OpenEmpty
unfolding OpenEmpty
open-empty a t e = ok-done (subst (Ok (λ (t : Table). t ≡ empty_table) In) e (open-law a))

-- ---- what the checker passes

opens : (a : List ℕ) (t : Table) → Allowed a t → call_open a ≡ done empty_table
unfolding call_open admit_arena stored_super
opens a t A =
    rw (
      A.rule1.length,
      A.rule1.sound,
      meta-read a t (fair a t A) 0 16 (omega (arith, A.rule3.some)),
      eq-eqb (stored_super a).magic sefs_magic A.rule3.magic,
      lt-ltb 0 (stored_super a).groups A.rule3.some,
      lt-ltb (stored_super a).groups 5 (omega (arith, A.rule3.few)),
      maps-is a t (fair a t A) (stored_super a).groups (omega arith),
    ) refl

pub old-open : OldOpen
unfolding OldOpen
old-open a t e = opens a t (check-pass a t e)
