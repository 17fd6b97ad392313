-- The table: at each phase the traces that `traces_of` lists are seen, and no others.
use mathlib.Core.Path.{◌≡◌, refl, sym, subst}
use mathlib.Core.Bool.{Bool, true, false}
use mathlib.Core.List.{List, [], ◌∷◌}
use mathlib.Core.Logic.{inl, inr, ⊎_elim}
use Prim.Native.Nat.{ℕ, ◌/◌, ◌≤◌, ◌<◌}
use native.Mathlib.Omega.{arith}
use Rattle.base.specs.Search.{pick}
use Rattle.base.proofs.Bools.{true-false}
use Rattle.cuts.specs.Creates.{Birth, grows, before_file, before_slot, before_super, before_own_map, before_node}
use Rattle.cuts.specs.Traces.{Trace, used-id, nameless-record, stray-file, longer-folder, longer-metadata, wrong-unused, zero-map, Phase, begun, lengthened, filed, slotted, counted, mapped, recorded, ended, AtPhase, same_record, traces_of, Among, Shows}
use Rattle.cuts.proofs.Counts.{no-group}
use Rattle.cuts.proofs.Facts.{known}
use Rattle.cuts.proofs.Used.{used_at, record_at, Spans, at-super, at_map, at-used, at-node, used-least, used-most, record-least, record-most, no_record}
use Rattle.cuts.proofs.Spans.{shows-b, seen_b}
use Rattle.cuts.proofs.Between.{gone}

-- P holds of each of a list
abbrev Each : (Trace → Type 0) → List Trace → Type 0
Each P [] = Unit
Each P (y ∷ l) = P y × Each P l

each_in : (P : Trace → Type 0) (l : List Trace) → Each P l → (x : Trace) → Among x l → P x
each_in P [] e x m = absurd m
each_in P (y ∷ l) e x m = ⊎_elim (λ (q : x ≡ y). subst P (sym q) e.0) (λ q. each_in P l e.1 x q) m

module _ (a : List ℕ) (c : Birth) (n : ℕ) (i : c.id / 1024 < c.after.super.groups) (free : grows c ≡ true → same_record a c ≡ false) where
  record-late : used_at c ≤ record_at a c
  record-late = go (same_record a c)
    where
      go : (x : Bool) → used_at c ≤ pick x (used_at c) (before_node c)
      go true = omega arith
      go false = omega (arith, used-most c)

  -- ---- what is there is listed

  meta-in : (y : Bool) → grows c ≡ y → grows c ≡ true → Among longer-metadata (pick y (longer-metadata ∷ []) [])
  meta-in true e t = inl refl
  meta-in false e t = absurd (true-false t e)

  zero_in : (y : Bool) → grows c ≡ y → grows c ≡ true → Among zero-map (pick y (used-id ∷ zero-map ∷ []) [])
  zero_in true e t = inr (inl refl)
  zero_in false e t = absurd (true-false t e)

  used-in : (y : Bool) → grows c ≡ y → used_at c < n → n ≤ before_own_map c → Among used-id (pick y (used-id ∷ zero-map ∷ []) [])
  used-in true e o l = inl refl
  used-in false e o l = absurd (let q = at_map c e in omega arith)

  nameless-in : (y : Bool) → same_record a c ≡ y → record_at a c < n → n ≤ before_node c → nameless-record ≡ pick y nameless-record stray-file
  nameless-in true e o l = refl
  nameless-in false e o l = absurd (let q = at-node a c e in omega arith)

  stray-in : (y : Bool) → same_record a c ≡ y → before_own_map c < n → n ≤ record_at a c → stray-file ≡ pick y nameless-record stray-file
  stray-in true e o l = absurd (let q = at-used a c e in omega (arith, used-most c))
  stray-in false e o l = refl

  in-lengthened : n ≤ before_file c → (x : Trace) → Spans a c n x → Among x (traces_of a c lengthened)
  unfolding Spans traces_of
  in-lengthened l used-id s = absurd (omega (arith, s.0, used-least c))
  in-lengthened l nameless-record s = absurd (omega (arith, s.0, record-least a c))
  in-lengthened l stray-file s = absurd (omega (arith, s.0))
  in-lengthened l longer-folder s = absurd (omega (arith, s.0))
  in-lengthened l longer-metadata s = inl refl
  in-lengthened l wrong-unused s = absurd (omega (arith, s.0))
  in-lengthened l zero-map s = absurd (omega (arith, s.1))

  in-filed : n ≤ before_slot c → (x : Trace) → Spans a c n x → Among x (traces_of a c filed)
  unfolding Spans traces_of
  in-filed l used-id s = absurd (omega (arith, s.0, used-least c))
  in-filed l nameless-record s = absurd (omega (arith, s.0, record-least a c))
  in-filed l stray-file s = inl refl
  in-filed l longer-folder s = absurd (omega (arith, s.0))
  in-filed l longer-metadata s = inr (meta-in (grows c) refl s.0)
  in-filed l wrong-unused s = absurd (omega (arith, s.0))
  in-filed l zero-map s = absurd (omega (arith, s.1))

  in-slotted : n ≤ before_super c → (x : Trace) → Spans a c n x → Among x (traces_of a c slotted)
  unfolding Spans traces_of
  in-slotted l used-id s = absurd (omega (arith, s.0, used-least c))
  in-slotted l nameless-record s = absurd (omega (arith, s.0, record-least a c))
  in-slotted l stray-file s = inl refl
  in-slotted l longer-folder s = inr (inl refl)
  in-slotted l longer-metadata s = inr (inr (meta-in (grows c) refl s.0))
  in-slotted l wrong-unused s = absurd (omega (arith, s.0))
  in-slotted l zero-map s = absurd (omega (arith, s.1))

  stray-counted : n ≤ before_own_map c → (y : Bool) → grows c ≡ y → n ≤ record_at a c
  stray-counted l true e = let q = at-node a c (free e) in omega arith
  stray-counted l false e = let q = at_map c e in omega (arith, record-late)

  in-counted : before_super c < n → n ≤ before_own_map c → (x : Trace) → Spans a c n x → Among x (traces_of a c counted)
  unfolding Spans traces_of
  in-counted o l used-id s = inr (inr (inr (used-in (grows c) refl s.0 l)))
  in-counted o l nameless-record s = absurd (let q = stray-counted l (grows c) refl in omega (arith, s.0))
  in-counted o l stray-file s = inl refl
  in-counted o l longer-folder s = inr (inl refl)
  in-counted o l longer-metadata s = absurd (omega (arith, s.2))
  in-counted o l wrong-unused s = inr (inr (inl refl))
  in-counted o l zero-map s = inr (inr (inr (zero_in (grows c) refl s.0)))

  in-mapped : before_own_map c < n → n ≤ before_node c → (x : Trace) → Spans a c n x → Among x (traces_of a c mapped)
  unfolding Spans traces_of
  in-mapped o l used-id s = inr (inr (inl refl))
  in-mapped o l nameless-record s = inl (nameless-in (same_record a c) refl s.0 l)
  in-mapped o l stray-file s = inl (stray-in (same_record a c) refl o s.1)
  in-mapped o l longer-folder s = inr (inl refl)
  in-mapped o l longer-metadata s = absurd (omega (arith, s.2))
  in-mapped o l wrong-unused s = absurd (omega (arith, s.1))
  in-mapped o l zero-map s = absurd (omega (arith, s.2))

  in-recorded : before_node c < n → (x : Trace) → Spans a c n x → Among x (traces_of a c recorded)
  unfolding Spans traces_of
  in-recorded o used-id s = inr (inr (inl refl))
  in-recorded o nameless-record s = inl refl
  in-recorded o stray-file s = absurd (omega (arith, s.1, record-most a c i))
  in-recorded o longer-folder s = inr (inl refl)
  in-recorded o longer-metadata s = absurd (omega (arith, s.2))
  in-recorded o wrong-unused s = absurd (omega (arith, s.1))
  in-recorded o zero-map s = absurd (omega (arith, s.2))

  listed : (s : Phase) → AtPhase c n s → (x : Trace) → Spans a c n x → Among x (traces_of a c s)
  unfolding AtPhase traces_of
  listed begun t x s = absurd (let y = gone a c n i x s in omega (arith, y.0))
  listed lengthened t x s = in-lengthened t.1 x s
  listed filed t x s = in-filed t.1 x s
  listed slotted t x s = in-slotted t.1 x s
  listed counted t x s = in-counted t.0 t.1 x s
  listed mapped t x s = in-mapped t.0 t.1 x s
  listed recorded t x s = in-recorded t.0 x s
  listed ended t x s = absurd (let y = gone a c n i x s in omega (arith, y.1))

  -- ---- what is listed is there

  abbrev All : List Trace → Type 0
  All l = Each (Spans a c n) l

  there-lengthened : 0 < n → n ≤ before_file c → (y : Bool) → grows c ≡ y → All (longer-metadata ∷ [])
  unfolding Spans
  there-lengthened o l true e = ((e, o, omega arith), tt)
  there-lengthened o l false e = absurd (omega (arith, no-group c e))

  longs : before_file c < n → n ≤ before_super c → (y : Bool) → grows c ≡ y → All (pick y (longer-metadata ∷ []) [])
  unfolding Spans
  longs o l true e = ((e, omega arith, l), tt)
  longs o l false e = tt

  zeros : before_super c < n → n ≤ before_own_map c → (y : Bool) → grows c ≡ y → All (pick y (used-id ∷ zero-map ∷ []) [])
  unfolding Spans
  zeros o l true e = let q = at-super c e in ((omega arith, omega arith), ((e, o, l), tt))
  zeros o l false e = tt

  one-mapped : before_own_map c < n → n ≤ before_node c → (y : Bool) → same_record a c ≡ y → Spans a c n (pick y nameless-record stray-file)
  unfolding Spans
  one-mapped o l true e = let q = at-used a c e in (omega (arith, used-most c), omega arith)
  one-mapped o l false e = let q = at-node a c e in (omega arith, omega arith)

  all_there : (s : Phase) → AtPhase c n s → All (traces_of a c s)
  unfolding AtPhase traces_of Spans
  all_there begun t = tt
  all_there lengthened t = there-lengthened t.0 t.1 (grows c) refl
  all_there filed t = ((t.0, omega (arith, t.1, record-least a c)), longs t.0 (omega (arith, t.1)) (grows c) refl)
  all_there slotted t =
      let stray : Spans a c n stray-file = (omega (arith, t.0), omega (arith, t.1, record-least a c)) in
      (stray, ((t.0, omega (arith, t.1)), longs (omega (arith, t.0)) t.1 (grows c) refl))
  all_there counted t =
      let stray : Spans a c n stray-file = (omega (arith, t.0), stray-counted t.1 (grows c) refl) in
      (stray, ((omega (arith, t.0), omega (arith, t.1)), (t, zeros t.0 t.1 (grows c) refl)))
  all_there mapped t =
      let longer : Spans a c n longer-folder = (omega (arith, t.0), omega (arith, t.1)) in
      let used : Spans a c n used-id = (omega (arith, t.0, used-most c), omega (arith, t.1)) in
      (one-mapped t.0 t.1 (same_record a c) refl, (longer, (used, tt)))
  all_there recorded t =
      let used : Spans a c n used-id = (omega (arith, t.0, used-most c), t.1) in
      ((omega (arith, t.0, record-most a c i), t.1), ((omega (arith, t.0), t.1), (used, tt)))
  all_there ended t = tt

pub shows : Shows
unfolding Shows
shows p c g B n b h s t x =
    let i : c.id / 1024 < c.after.super.groups = omega (arith, (known p c g B).taken.inside) in
    let free = no_record p c g B in (
      λ v. listed p.arena c n i free s t x (seen_b p c g B n b h x v),
      λ m. shows-b p c g B n b h x (each_in (Spans p.arena c n) (traces_of p.arena c s) (all_there p.arena c n i free s t) x m),
    )
