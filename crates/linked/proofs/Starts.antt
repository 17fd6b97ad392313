-- How an owner begins, and goes on; open, and what the check says.
use mathlib.Core.Path.{◌≡◌, refl, sym, ap, ◌∙◌, subst}
use mathlib.Core.Bool.{Bool, true, false, ◌&&◌}
use mathlib.Core.List.{List}
use mathlib.Core.Logic.{◌≢◌, inl, inr, ⊎_elim}
use Prim.Native.Nat.{ℕ, ◌<◌}
use native.Mathlib.Omega.{arith}
use lib.Dec.{eqb, ltb}
use lib.IntN.{ℤ}
use lib.ListN.{length}
use contract.Lifetimes.{Lfts}
use borrow.Author.Tests.{eqb-true}
use Rattle.base.specs.Out.{Out, done, refused, bind, answer, Ok, went, said, Went, well, ill}
use Rattle.base.specs.Search.{pick}
use Rattle.base.proofs.Bools.{bool_cases, and_parts}
use Rattle.base.proofs.Finds.{eq-cases}
use Rattle.base.proofs.Outs.{ok-bind}
use Rattle.structs.specs.Constants.{sefs_magic}
use Rattle.structs.specs.Layout.{super_of}
use Rattle.structs.specs.declared.Timespec.{Timespec}
use Rattle.table.specs.declared.Table.{Table}
use Rattle.table.specs.Table.{empty_table}
use Rattle.table_bytes.specs.Layout.{table_of, bytes_of_table}
use Rattle.table_bytes.proofs.Layouts.{table_of-table_bytes}
use Rattle.table_bytes.proofs.Fits.{table_fits}
use Rattle.arena.specs.Blocks.{legal}
use Rattle.files.specs.Read.{read_file}
use Rattle.sefs.specs.Meta.{meta_file, load_maps, load_meta}
use Rattle.sefs.specs.Create.{After, call_format}
use Rattle.sefs.specs.Open.{call_open}
use Rattle.sefs_laws.proofs.Says.{Says, says-done, says-read, says-meta, says-arena, ensure-asks}
use Rattle.files_laws.proofs.Bounds.{named-node}
use Rattle.rules.specs.Tests.{checked}
use Rattle.fsck.specs.Verdicts.{pass_of, verdict_of}
use Rattle.fsck.specs.declared.Verdict.TheVariants.{Fail}
use Rattle.calls_format.specs.Format.{formatted}
use Rattle.edge_words.specs.Words.{time_of}
use Rattle.edge.specs.Edge.{sized, Answers, left_of, counted}
use Rattle.edge.proofs.Laws.{sized-is, sized-not}
use Rattle.edge.proofs.dz_format.Reads as dz-format
use Rattle.sequences.specs.Pairs.{pair}
use Rattle.sequences.specs.Promises.{Fresh, Slashless, FreshSlashless}
use Rattle.sequences.proofs.Fresh.{format-goes, fresh, fresh-slashless}
use Rattle.linked.specs.Images.{◌&◌, Slice, ReadSlice, Ready}
use Rattle.linked.specs.Linked.{OwnDoes, CheckSays, OpenDoes, FormatDid, FormatDoes, FreshImage, FormatFresh, CheckTrusts, ChainsOwn, OwnKeeps}
use Rattle.linked.proofs.Functions.{owned, asked, own-does-calls}
use Rattle.linked.proofs.Transport.{trusted-written, not_255, after}

-- where the number is not 255, no slice had a wrong size
pub sized-said : {A : Type 0} (k : ℕ) (l : List ℕ) (o : Out A) → answer (sized k l o) ≢ 255 → (length l ≡ k) × (sized k l o ≡ o)
sized-said k l o x = ⊎_elim (λ e. (e, sized-is k l o e)) (λ z. absurd (x (ap answer (sized-not k l o z)))) (eq-cases (length l) k)

-- ---- a format, a check, the chains

-- where the number is not 255, what format has left is by its own outcome
pub format-sized : (κs : Lfts 3) (a a' t t' : Slice) (file : ReadSlice) (sec nsec : ℤ) (n : ℕ) → dz-format.Learnt κs (a & t & sec & nsec & file & tt) n (a' & t' & sec & nsec & file & tt) → n ≢ 255
    → (length file.now ≡ 16) × Answers (formatted (call_format a.now (time_of sec nsec) file.now)) left_of (a.now, t.now) (a'.now, t'.now) n
format-sized κs a a' t t' file sec nsec n L z =
    let o : Out After = formatted (call_format a.now (time_of sec nsec) file.now) in
    let x = sized-said 4402 t.now (sized 16 file.now o) (λ e. z (L.number ∙ e)) in
    let y = sized-said 16 file.now o (λ e. z (L.number ∙ ap answer x.1 ∙ e)) in
    (y.0, subst (λ (o : Out After). Answers o left_of (a.now, t.now) (a'.now, t'.now) n) (x.1 ∙ y.1) L)

-- by a done one, and by a refused one
module _ {a t : List ℕ} (time : Timespec) (file : List ℕ) {a' t' : List ℕ} {n : ℕ} (L : Answers (formatted (call_format a time file)) left_of (a, t) (a', t') n) where
  left_by : {o : Out (List ℕ)} → call_format a time file ≡ o → Answers (formatted o) left_of (a, t) (a', t') n
  left_by e = subst (λ (o : Out (List ℕ)). Answers (formatted o) left_of (a, t) (a', t') n) e L

  format-made : (b : List ℕ) → call_format a time file ≡ done b → FormatDid a t time file a' t' n
  format-made b e = let K = left_by e in record {
    number = K.number ∙ sym (ap answer e);
    says = inl K.number;
    made = λ _. (e ∙ ap done (λ i. (sym K.places i).0), λ i. (K.places i).1);
    stays = λ z. absurd (z K.number);
  }

  format-refused : call_format a time file ≡ refused 1 → FormatDid a t time file a' t' n
  format-refused e = let K = left_by e in record {
    number = K.number ∙ sym (ap answer e);
    says = inr K.number;
    made = λ z. absurd (omega (arith, z, K.number));
    stays = λ _. (λ i. (K.places i).0, λ i. (K.places i).1);
  }

pub format-does : FormatDoes
unfolding FormatDoes call_format
format-does κs a a' t t' file sec nsec n B M F L z =
    let S = format-sized κs a a' t t' file sec nsec n L z in
    ⊎_elim
    (λ l. let g = format-goes a.now (time_of sec nsec) file.now M (named-node file.now S.0 F) l in format-made (time_of sec nsec) file.now S.1 g.0 g.1)
    (λ l. format-refused (time_of sec nsec) file.now S.1 (rw l))
    (bool_cases (legal a.now))

pub format-fresh : FormatFresh
unfolding FormatFresh FormatDoes Fresh FreshSlashless
format-fresh κs a a' t t' file sec nsec B M F L =
    let S = format-sized κs a a' t t' file sec nsec 0 L not_255 in
    let g = (format-does κs a a' t t' file sec nsec 0 B M F L not_255).made refl in
    let p = fresh a.now (time_of sec nsec) file.now B M S.0 F a'.now g.0 in
    let w : FreshImage a'.now (bytes_of_table empty_table) = record {
      trusted = trusted-written a'.now empty_table p;
      slashless = subst (λ (v : Table). Slashless (pair a'.now v)) (sym (table_of-table_bytes empty_table p.typed.fits)) (fresh-slashless a.now (time_of sec nsec) file.now B M S.0 F a'.now g.0);
    } in
    subst (FreshImage a'.now) (sym g.1) w

pub check-says : CheckSays
unfolding CheckSays verdict_of pass_of
check-says κs a t out out' n L x =
    let o : Out (List ℕ) = counted (verdict_of a.now (table_of t.now)) in
    let s = sized-said 4402 t.now (sized 3 out.now o) (λ e. x (L.number ∙ e)) in
    let r = sized-said 3 out.now o (λ e. x (L.number ∙ ap answer s.1 ∙ e)) in
    L.number ∙ ap answer (s.1 ∙ r.1) ∙ by (eqb (checked a.now (table_of t.now)) 0) refl
  where
    by : (b : Bool) → eqb (checked a.now (table_of t.now)) 0 ≡ b → answer (counted (pick b (pass_of a.now) (Fail (checked a.now (table_of t.now))))) ≡ checked a.now (table_of t.now)
    by true e = sym (eqb-true (checked a.now (table_of t.now)) 0 e)
    by false e = refl

pub check-trusts : CheckTrusts
unfolding CheckTrusts CheckSays
check-trusts κs a t out out' B C L =
    let n : length t.now ≡ 4402 = (sized-said 4402 t.now (sized 3 out.now (counted (verdict_of a.now (table_of t.now)))) (λ e. not_255 (L.number ∙ e))).0 in
    record { size = n; passes = record { typed = record { bytes = B; fits = table_fits t.now C n }; passes = sym (check-says κs a t out out' 0 L not_255) } }

pub chains-own : ChainsOwn
unfolding ChainsOwn
chains-own κs a k k' t y L = let c = by L.went in (record { trusted = y; chained = c }, owned y c)
  where
    by : {A : Type 0} {o : Out A} {v : A} {P : Type 0} → Went o v P 0 → P
    by (well e p) = p
    by (ill l e) = absurd (omega (arith, l))

-- ---- open

module _ (a : List ℕ) where
  abbrev Some : ℕ → Type 0
  Some n = n ≢ 0

  some : (n : ℕ) → 0 < n → Some n
  some n l e = omega (arith, l, e)

  known : {A : Type 0} (o : Out A) → Says Some o → Ok (λ x. o ≡ done x) Some o
  known (done x) s = went refl
  known (refused n) (said r) = said r

  first_says : {A B : Type 0} (m : Out A) (f : A → Out B) → Says Some (bind m f) → Says Some m
  first_says (done x) f s = says-done
  first_says (refused n) f (said r) = said r

  -- open reads the maps that every call reads
  maps-say : (l : List ℕ) → read_file a meta_file 0 16 ≡ done l → (ltb 0 (super_of l).groups && ltb (super_of l).groups 5) ≡ true → Says Some (load_maps a (super_of l).groups)
  unfolding load_meta
  maps-say l e g = first_says (load_maps a (super_of l).groups) _ (rw (e, g) at (says-meta Some (some 19 (omega arith)) a))

  -- it gives the empty table, or a reason
  open-law : Ok (λ u. u ≡ empty_table) Some (call_open a)
  unfolding call_open
  open-law =
      ok-bind (says-arena (some 1 (omega arith)) (some 2 (omega arith)) a) λ _ _.
      ok-bind (known (read_file a meta_file 0 16) (says-read Some (some 19 (omega arith)) a meta_file 0 16)) λ l e.
      ok-bind (ensure-asks (eqb (super_of l).magic sefs_magic && (ltb 0 (super_of l).groups && ltb (super_of l).groups 5)) 18 (some 18 (omega arith))) λ _ g.
      ok-bind (maps-say l e (and_parts (eqb (super_of l).magic sefs_magic) (ltb 0 (super_of l).groups && ltb (super_of l).groups 5) g).1) λ m _. went refl

pub open-does : OpenDoes
unfolding OpenDoes
open-does κs a t t' n L x =
    let s = sized-said 4402 t.now (call_open a.now) (λ e. x (L.number ∙ e)) in
    by (call_open a.now) (open-law a.now) (subst (λ (o : Out Table). Answers o bytes_of_table t.now t'.now n) s.1 L)
  where
    by : (o : Out Table) → Ok (λ u. u ≡ empty_table) (λ k. k ≢ 0) o → Answers o bytes_of_table t.now t'.now n
        → (n ≡ answer o) × (n ≡ 0 → t'.now ≡ bytes_of_table empty_table) × (n ≢ 0 → t'.now ≡ t.now)
    by (done u) (went e) K = (K.number, λ _. K.places ∙ ap bytes_of_table e, λ z. absurd (z K.number))
    by (refused m) (said r) K = (K.number, λ z. absurd (r (sym K.number ∙ z)), λ _. K.places)

-- ---- the next call

pub own-keeps : OwnKeeps
unfolding OwnKeeps OwnDoes
own-keeps c s u x y n k F r =
    let d = own-does-calls c s u x y n k r in
    let K : Ready u = record { trusted = after c s u k.trusted F d.0; chained = d.1 } in
    (K, asked K)
