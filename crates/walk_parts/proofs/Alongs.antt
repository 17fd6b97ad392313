-- Along what is left of a text: the part at a place, and what the turns so far leave.
use mathlib.Core.Path.{◌≡◌, refl, sym, ◌∙◌, ap, ap₂, subst}
use mathlib.Core.Bool.{true, false}
use mathlib.Core.List.{List, ◌∷◌}
use mathlib.Core.Logic.{⊎_elim}
use Prim.Native.Nat.{ℕ, suc, ◌+◌, ◌<◌, ◌≤◌}
use native.Mathlib.Nat.{min-eq_left, min-eq_right}
use native.Mathlib.Omega.{arith}
use lib.ListN.{length, get_or, take, drop, drop_of_length-le}
use lib.Seq.{drop-cons, drop-drop, drop-length}
use lib.Dec.{eqb}
use borrow.Author.Tests.{eq-eqb, ne_eqb}
use Rattle.base.specs.Out.{Went}
use Rattle.base.specs.Parts.{part}
use Rattle.base.proofs.Numbers.{lt-or-le}
use Rattle.std.specs.Prelude.{Ok, Err}
use Rattle.base.specs.Told.{number}
use Rattle.base.specs.declared.reasons.Reason.{Reason}
use Rattle.base.proofs.Outs.{went-is, went-not}
use Rattle.base.proofs.Tells.{number-ne}
use Rattle.base.proofs.Parts.{part-size}
use Rattle.structs.specs.declared.DiskINode.{DiskINode}
use Rattle.utf8.specs.Names.{first_at}
use Rattle.sefs.specs.State.{Fs}
use Rattle.walk.specs.Walk.{Spot, cut, spot, part_in, along}
use Rattle.walk.proofs.Cuts.{cut-none, cut-first}
use Rattle.walk.proofs.Walks.{along-none, along-stop, along-link, along-on}
use Rattle.walk_parts.specs.Texts.{end_at, next_at}
use Rattle.walk_parts.specs.States.{way_of}
use Rattle.walk_parts.specs.declared.Passed.{Passed}

-- ---- the part at a place

module _ (l : List ℕ) (i : ℕ) where
  abbrev slash_at : ℕ
  slash_at = first_at 47 (drop i l)

  after-slash : (e : ℕ) → e ≡ i + slash_at → drop (suc slash_at) (drop i l) ≡ drop (next_at l e) l
  after-slash e q =
      drop-drop (suc slash_at) i l
      ∙ ⊎_elim
      (λ (h : e < length l). ap (λ (n : ℕ). drop n l) (let z : i + suc slash_at ≡ suc e = omega arith in z ∙ sym (min-eq_left h)))
      (λ (h : length l ≤ e). drop_of_length-le l {i = i + suc slash_at} (omega arith) ∙ sym (drop-length l) ∙ ap (λ (n : ℕ). drop n l) (sym (min-eq_right {n = length l} {m = suc e} (omega arith))))
      (lt-or-le e (length l))

  first_part : i < length l → cut (drop i l) ≡ take slash_at (drop i l) ∷ cut (drop (suc slash_at) (drop i l))
  first_part h = subst (λ (m : List ℕ). cut m ≡ take (first_at 47 m) m ∷ cut (drop (suc (first_at 47 m)) m)) (sym (drop-cons l i 0 h)) (cut-first (get_or l i 0) (drop (suc i) l))

  pub cut_at : (e : ℕ) → i < length l → e ≡ end_at l i → cut (drop i l) ≡ part l i e ∷ cut (drop (next_at l e) l)
  cut_at e h q =
      first_part h
      ∙ ap₂ (λ (p : List ℕ) (m : List ℕ). p ∷ cut m) (sym (part-size l i slash_at) ∙ ap (part l i) (sym q)) (after-slash e q)

  pub next-after : (e r : ℕ) → i < length l → i ≤ e → r ≡ next_at l e → i < r
  next-after e r h g q = omega (arith, h, g, q)

-- ---- the turns so far

pub record Passing (s : Fs) (l : List ℕ) (id : ℕ) (rec : DiskINode) (at : ℕ) (dir : DiskINode) (i : ℕ) : Type 0 where
  pub most : i ≤ length l
  pub same : along s (spot id rec) (cut l) ≡ along s (spot at dir) (cut (drop i l))

pub passing-none : (s : Fs) (l : List ℕ) (id : ℕ) (rec : DiskINode) → Passing s l id rec id rec 0
passing-none s l id rec = record { most = omega arith; same = refl }

pub passed-all : (s : Fs) (l : List ℕ) (id : ℕ) (rec : DiskINode) (at : ℕ) (dir : DiskINode) (i : ℕ) (x : DiskINode) → Passing s l id rec at dir i → length l ≤ i
    → (along s (spot id rec) (cut l) ≡ way_of l (Ok (record { link = false; id = at; rec = dir; node = x; place = i }))) × (i ≤ length l)
unfolding way_of
passed-all s l id rec at dir i x g h = (g.same ∙ ap (λ (m : List ℕ). along s (spot at dir) (cut m)) (drop_of_length-le l h) ∙ ap (along s (spot at dir)) cut-none ∙ along-none s (spot at dir), g.most)

module _ (s : Fs) (l : List ℕ) (id : ℕ) (rec : DiskINode) (at : ℕ) (dir : DiskINode) (i : ℕ) (g : Passing s l id rec at dir i) (h : i < length l)
    (e : ℕ) (q : e ≡ end_at l i) (x n : ℕ) (r : DiskINode) (w : Went (part_in s dir (part l i e)) (spot x r) Unit n) (p : ℕ) (y : p ≡ next_at l e) (z : p ≤ length l) where
  from : along s (spot id rec) (cut l) ≡ along s (spot at dir) (part l i e ∷ cut (drop p l))
  from = g.same ∙ ap (along s (spot at dir)) (cut_at l i e h q ∙ ap (λ (k : ℕ). part l i e ∷ cut (drop k l)) (sym y))

  abbrev here : Passed
  here = record { link = true; id = at; rec = dir; node = r; place = p }

  link_here : n ≡ 0 → eqb r.kind 3 ≡ true → along s (spot id rec) (cut l) ≡ way_of l (Ok here)
  unfolding way_of
  link_here o t = from ∙ along-link s (spot at dir) (part l i e) (cut (drop p l)) (went-is w o) t

  pub passed_here : n ≡ 0 → r.kind ≡ 3 → (along s (spot id rec) (cut l) ≡ way_of l (Ok (record { link = true; id = at; rec = dir; node = r; place = p }))) × (p ≤ length l)
  passed_here o t = (link_here o (eq-eqb r.kind 3 t), z)

  pub passing-more : n ≡ 0 → (r.kind ≡ 3 → ⊥) → Passing s l id rec x r p
  passing-more o t = record { most = z; same = from ∙ along-on s (spot at dir) (part l i e) (cut (drop p l)) (went-is w o) (ne_eqb r.kind 3 t) }

-- the part at a place was refused
pub passed-not : (s : Fs) (l : List ℕ) (id : ℕ) (rec : DiskINode) (at : ℕ) (dir : DiskINode) (i : ℕ) → Passing s l id rec at dir i → i < length l
    → (e : ℕ) → e ≡ end_at l i → (x : Spot) (r : Reason) → Went (part_in s dir (part l i e)) x Unit (number r)
    → (along s (spot id rec) (cut l) ≡ way_of l (Err r)) × (0 ≤ length l)
unfolding way_of
passed-not s l id rec at dir i g h e q x r w =
    (g.same ∙ ap (along s (spot at dir)) (cut_at l i e h q) ∙ along-stop s (spot at dir) (part l i e) (cut (drop (next_at l e) l)) (went-not w (number-ne r)), omega arith)
