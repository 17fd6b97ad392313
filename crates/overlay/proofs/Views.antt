-- The laws of the view: its blocks, a block stored, a block freed, and the view of no marks.
use mathlib.Core.Path.{◌≡◌, refl, ap, ◌∙◌, sym}
use mathlib.Core.Logic.{◌≢◌, ⊎_elim}
use mathlib.Core.List.{List, [], ◌∷◌}
use Prim.Native.Nat.{ℕ, zero, suc, ◌+◌, ◌*◌, ◌≤◌, ◌<◌, ◌-◌, ◌/◌}
use native.Mathlib.Numerals.{add-one}
use native.Mathlib.Omega.{arith}
use native.Mathlib.Decide.{ℕ_discrete}
use lib.ListN.{length, get_or, take, drop, set, replicate, length-set, length-replicate}
use lib.Seq.{get_or-set_same, get_or-set_other}
use borrow.Author.Tests.{eq-eqb, ne_eqb, lt-ltb, le-ltb}
use Rattle.base.proofs.Parts.{get_or-zero-list}
use Rattle.base.proofs.Numbers.{lt-or-le}
use Rattle.arena.specs.Blocks.{blk, put_blk, blocks}
use Rattle.arena.specs.Fields.{seal, zeros}
use Rattle.arena.proofs.Blocks.{length-blk, get_or-blk, length-put_blk, blk-put_blk-same, blk-put_blk-other, get_or-put_blk, ext-blk}
use Rattle.arena.proofs.Fresh.{zeros-is}
use Rattle.arena.proofs.Seals.{length-seal, seal-seal, seal-zeros}
use Rattle.overlay.specs.View.{mark_of, used_of, blk_of, view_to, view, committed, left, has_own, stored_new, stored, freed, begun, Fine, Empty}
use Rattle.overlay.specs.Steps.{Changed}

-- a change of a byte below block j leaves block j
blk-set : (w : List ℕ) (i x j : ℕ) → i < 512 * j → blk (set w i x) j ≡ blk w j
unfolding blk
blk-set w i x j l = ap (take (512 * j + 512 - 512 * j)) (drop-set (512 * j) w i l)
  where
    drop-set : (n : ℕ) (w : List ℕ) (i : ℕ) → i < n → drop n (set w i x) ≡ drop n w
    drop-set zero w i h = absurd (omega arith)
    drop-set (suc n) [] i h = refl
    drop-set (suc n) (y ∷ w) zero h = refl
    drop-set (suc n) (y ∷ w) (suc i) h = drop-set n w i (omega arith)

less : (k n : ℕ) → k < suc n → k ≢ n → k < n
less k n h d = omega arith

module _ (a w : List ℕ) (F : Fine a w) where
  slot-length : (k : ℕ) → k < blocks a → length (blk w (mark_of w k)) ≡ 512
  slot-length k l = length-blk w (mark_of w k) (omega (arith, F.low k (omega (arith, F.small)), F.room))

  pub length-blk_of : (k : ℕ) → k < blocks a → length (blk_of a w k) ≡ 512
  unfolding blk_of
  length-blk_of k l = elim (ℕ_discrete (mark_of w k) 0) [ yes q ↦ rw (eq-eqb _ _ q) (length-blk a k l) | no ne ↦ rw (ne_eqb _ _ ne) (slot-length k l) ]

  pub length-view_to : (n : ℕ) → n ≤ blocks a → length (view_to a w n) ≡ length a
  unfolding view_to
  length-view_to zero l = refl
  length-view_to (suc n) l =
      let r = length-view_to n (omega arith) in
      elim (ℕ_discrete (mark_of w n) 0) [ yes q ↦ rw (eq-eqb _ _ q) r | no ne ↦ rw (ne_eqb _ _ ne) (length-put_blk (view_to a w n) n _ (omega (arith, r)) (slot-length n (omega arith)) ∙ r) ]

  blk-view_to-above : (n k : ℕ) → n ≤ blocks a → n ≤ k → blk (view_to a w n) k ≡ blk a k
  unfolding view_to
  blk-view_to-above zero k l h = refl
  blk-view_to-above (suc n) k l h =
      let r = blk-view_to-above n k (omega arith) (omega arith) in
      elim (ℕ_discrete (mark_of w n) 0) [
        | yes q ↦ rw (eq-eqb _ _ q) r
        | no ne ↦ rw (ne_eqb _ _ ne) (blk-put_blk-other (view_to a w n) n _ (omega (arith, length-view_to n (omega arith))) (slot-length n (omega arith)) k (λ z. omega arith) ∙ r)
      ]

  blk-view_to : (n k : ℕ) → n ≤ blocks a → k < n → blk (view_to a w n) k ≡ blk_of a w k
  unfolding view_to blk_of
  blk-view_to zero k l h = absurd (omega arith)
  blk-view_to (suc n) k l h =
      elim (ℕ_discrete k n) [
        | yes e ↦ rw e (elim (ℕ_discrete (mark_of w n) 0) [
          | yes q ↦ rw (eq-eqb _ _ q) (blk-view_to-above n n (omega arith) (omega arith))
          | no ne ↦ rw (ne_eqb _ _ ne) (blk-put_blk-same (view_to a w n) n _ (omega (arith, length-view_to n (omega arith))) (slot-length n (omega arith)))
        ])
        | no d ↦
            let r = blk-view_to n k (omega arith) (less k n h d) in
            elim (ℕ_discrete (mark_of w n) 0) [
              | yes q ↦ rw (eq-eqb (mark_of w n) 0 q) r
              | no ne ↦ rw (ne_eqb (mark_of w n) 0 ne) (blk-put_blk-other (view_to a w n) n _ (omega (arith, length-view_to n (omega arith))) (slot-length n (omega arith)) k d ∙ r)
            ]
      ]

  pub length-view : length (view a w) ≡ length a
  unfolding view
  length-view = length-view_to (blocks a) (omega arith)

  pub blocks-view : blocks (view a w) ≡ blocks a
  blocks-view = ap (λ (x : ℕ). x / 512) length-view

  -- block k of the view
  pub blk-view : (k : ℕ) → k < blocks a → blk (view a w) k ≡ blk_of a w k
  unfolding view
  blk-view k l = blk-view_to (blocks a) k (omega arith) l

-- one block more committed: the block writer leaves what is sealed already
pub commit-turn : (a w : List ℕ) → Fine a w → (d : List ℕ) (n : ℕ) → n < blocks a → d ≡ view_to a w n → committed d w n ≡ view_to a w (n + 1)
unfolding committed view_to
commit-turn a w F d n l e =
    rw (add-one, e) (elim (ℕ_discrete (mark_of w n) 0) [
      | yes q ↦ rw (eq-eqb (mark_of w n) 0 q)
      | no ne ↦ rw (ne_eqb (mark_of w n) 0 ne) (ap (put_blk (view_to a w n) n) (F.sealed (mark_of w n) (F.apart n (omega (arith, F.small)) ne) (F.low n (omega (arith, F.small)))))
    ])

-- a view whose blocks are those of another with block k replaced
view-is : (a w u : List ℕ) (F : Fine a w) (G : Fine a u) (k : ℕ) (b : List ℕ) → k < blocks a → length b ≡ 512
    → blk_of a u k ≡ b → ((i : ℕ) → i < 4096 → i ≢ k → blk_of a u i ≡ blk_of a w i) → view a u ≡ put_blk (view a w) k b
view-is a w u F G k b lk lb here other =
    let lv = length-view a w F in
    let lu = length-view a u G in
    let lp = length-put_blk (view a w) k b (omega (arith, lv)) lb in
    ext-blk _ _ (omega (arith, lu, F.whole)) (lu ∙ sym (lp ∙ lv)) (λ i l.
    let li : i < blocks a = omega (arith, lu) in
    blk-view a u G i li ∙ elim (ℕ_discrete i k) [
      | yes q ↦ rw q (here ∙ sym (blk-put_blk-same (view a w) k b (omega (arith, lv)) lb))
      | no ne ↦ other i (omega (arith, F.small)) ne ∙ sym (blk-view a w F i li) ∙ sym (blk-put_blk-other (view a w) k b (omega (arith, lv)) lb i ne)
    ])

-- ---- a block stored
module _ (a w : List ℕ) (F : Fine a w) (k : ℕ) (b : List ℕ) (lk : k < blocks a) (lb : length b ≡ 512) (more : 1 ≤ left w) where
  m : ℕ
  m = used_of w

  free-slot : used_of w < blocks w
  unfolding left
  free-slot = omega arith

  ls : length (seal b) ≡ 512
  ls = length-seal b lb

  p : List ℕ
  p = put_blk w (used_of w) (seal b)

  lp : length (put_blk w (used_of w) (seal b)) ≡ length w
  lp = length-put_blk w (used_of w) (seal b) free-slot ls

  abbrev u : List ℕ
  u = set (set (put_blk w (used_of w) (seal b)) k (used_of w)) 4096 (used_of w + 1)

  k-small : k < 4096
  k-small = omega (arith, F.small)

  long : 5120 ≤ length w
  long = omega (arith, F.size, F.room, F.high)

  lq : length (set (put_blk w (used_of w) (seal b)) k (used_of w)) ≡ length w
  lq = length-set (put_blk w (used_of w) (seal b)) k (used_of w) ∙ lp

  lu : length u ≡ length w
  lu = length-set (set (put_blk w (used_of w) (seal b)) k (used_of w)) 4096 (used_of w + 1) ∙ lq

  used-u : used_of u ≡ used_of w + 1
  used-u = get_or-set_same (set (put_blk w (used_of w) (seal b)) k (used_of w)) 4096 (used_of w + 1) 0 (omega (arith, lq, long))

  mark-same : mark_of u k ≡ used_of w
  mark-same =
      get_or-set_other (set (put_blk w (used_of w) (seal b)) k (used_of w)) 4096 k (used_of w + 1) 0 (omega (arith, k-small))
      ∙ get_or-set_same (put_blk w (used_of w) (seal b)) k (used_of w) 0 (omega (arith, lp, long, k-small))

  mark-other : (i : ℕ) → i < 4096 → i ≢ k → mark_of u i ≡ mark_of w i
  mark-other i l ne =
      get_or-set_other (set (put_blk w (used_of w) (seal b)) k (used_of w)) 4096 i (used_of w + 1) 0 (omega arith)
      ∙ get_or-set_other (put_blk w (used_of w) (seal b)) k i (used_of w) 0 ne
      ∙ get_or-put_blk w (used_of w) (seal b) free-slot ls i (λ g. absurd (omega (arith, F.high)))

  blk-u-same : blk u (used_of w) ≡ seal b
  blk-u-same =
      blk-set (set (put_blk w (used_of w) (seal b)) k (used_of w)) 4096 (used_of w + 1) (used_of w) (omega (arith, F.high))
      ∙ blk-set (put_blk w (used_of w) (seal b)) k (used_of w) (used_of w) (omega (arith, F.high, k-small))
      ∙ blk-put_blk-same w (used_of w) (seal b) free-slot ls

  blk-u-other : (j : ℕ) → 9 ≤ j → j ≢ used_of w → blk u j ≡ blk w j
  blk-u-other j l ne =
      blk-set (set (put_blk w (used_of w) (seal b)) k (used_of w)) 4096 (used_of w + 1) j (omega arith)
      ∙ blk-set (put_blk w (used_of w) (seal b)) k (used_of w) j (omega (arith, k-small))
      ∙ blk-put_blk-other w (used_of w) (seal b) free-slot ls j ne

  fine-u : Fine a u
  fine-u = record {
    whole = F.whole;
    small = F.small;
    size = omega (arith, lu, F.size);
    few = omega (arith, lu, F.few);
    high = omega (arith, used-u, F.high);
    room = omega (arith, lu, used-u, free-slot);
    low = λ i l. elim (ℕ_discrete i k) [ yes q ↦ rw (q, mark-same, used-u) (omega arith) | no ne ↦ rw (mark-other i l ne, used-u) (omega (arith, F.low i l)) ];
    apart = λ i l z. elim (ℕ_discrete i k) [ yes q ↦ rw (q, mark-same) (omega (arith, F.high)) | no ne ↦ rw (mark-other i l ne) (F.apart i l (λ y. z (mark-other i l ne ∙ y))) ];
    own = λ i j li lj g e. elim (ℕ_discrete i k) [
      | yes q ↦ elim (ℕ_discrete j k) [
        | yes p ↦ q ∙ sym p
        | no ne ↦ absurd (let z : used_of w ≡ mark_of w j = sym mark-same ∙ sym (ap (mark_of u) q) ∙ e ∙ mark-other j lj ne in omega (arith, F.low j lj))
      ]
      | no ne ↦ elim (ℕ_discrete j k) [
        | yes p ↦ absurd (let z : mark_of w i ≡ used_of w = sym (mark-other i li ne) ∙ e ∙ ap (mark_of u) p ∙ mark-same in omega (arith, F.low i li))
        | no nf ↦ F.own i j li lj (rw (sym (mark-other i li ne)) g) (sym (mark-other i li ne) ∙ e ∙ mark-other j lj nf)
      ]
    ];
    zero = blk-u-other 9 (omega arith) (omega (arith, F.high)) ∙ F.zero;
    sealed = λ j g l. elim (ℕ_discrete j (used_of w)) [
      | yes q ↦ rw (q, blk-u-same) (seal-seal b lb)
      | no ne ↦ rw (blk-u-other j g ne) (F.sealed j g (omega (arith, used-u)))
    ];
  }

  here : blk_of a u k ≡ seal b
  unfolding blk_of
  here = rw (mark-same, ne_eqb (used_of w) 0 (λ q. omega (arith, F.high))) blk-u-same

  other : (i : ℕ) → i < 4096 → i ≢ k → blk_of a u i ≡ blk_of a w i
  unfolding blk_of
  other i l ne =
      rw (mark-other i l ne) (elim (ℕ_discrete (mark_of w i) 0) [
        | yes q ↦ rw (eq-eqb (mark_of w i) 0 q)
        | no z ↦ rw (ne_eqb (mark_of w i) 0 z) (blk-u-other (mark_of w i) (F.apart i l z) (λ y. omega (arith, F.low i l)))
      ])

  changed-new : Changed a w (stored_new w k b) (put_blk (view a w) k (seal b)) 1
  unfolding stored_new left
  changed-new = record {
    is = view-is a w u F fine-u k (seal b) lk ls here other;
    fine = fine-u;
    room = omega (arith, lu, used-u);
  }

-- ---- a block stored again
module _ (a w : List ℕ) (F : Fine a w) (k : ℕ) (b : List ℕ) (lk : k < blocks a) (lb : length b ≡ 512) (has : 9 < mark_of w k) where
  at-k : k < 4096
  at-k = omega (arith, F.small)

  in-w : mark_of w k < blocks w
  in-w = omega (arith, F.low k at-k, F.room)

  sealed-length : length (seal b) ≡ 512
  sealed-length = length-seal b lb

  abbrev v : List ℕ
  v = put_blk w (mark_of w k) (seal b)

  same-marks : (i : ℕ) → i < 4097 → get_or v i 0 ≡ get_or w i 0
  same-marks i l = get_or-put_blk w (mark_of w k) (seal b) in-w sealed-length i (λ g. absurd (omega arith))

  length-v : length v ≡ length w
  length-v = length-put_blk w (mark_of w k) (seal b) in-w sealed-length

  blk-v-same : blk v (mark_of w k) ≡ seal b
  blk-v-same = blk-put_blk-same w (mark_of w k) (seal b) in-w sealed-length

  blk-v-other : (j : ℕ) → j ≢ mark_of w k → blk v j ≡ blk w j
  blk-v-other j ne = blk-put_blk-other w (mark_of w k) (seal b) in-w sealed-length j ne

  fine-v : Fine a v
  fine-v = record {
    whole = F.whole;
    small = F.small;
    size = omega (arith, length-v, F.size);
    few = omega (arith, length-v, F.few);
    high = omega (arith, same-marks 4096 (omega arith), F.high);
    room = omega (arith, length-v, same-marks 4096 (omega arith), F.room);
    low = λ i l. rw (same-marks i (omega arith), same-marks 4096 (omega arith)) (F.low i l);
    apart = λ i l z. rw (same-marks i (omega arith)) (F.apart i l (λ y. z (same-marks i (omega arith) ∙ y)));
    own = λ i j li lj g e. F.own i j li lj (rw (sym (same-marks i (omega arith))) g) (sym (same-marks i (omega arith)) ∙ e ∙ same-marks j (omega arith));
    zero = blk-v-other 9 (omega arith) ∙ F.zero;
    sealed = λ j g l. elim (ℕ_discrete j (mark_of w k)) [
      | yes q ↦ rw (q, blk-v-same) (seal-seal b lb)
      | no ne ↦ rw (blk-v-other j ne) (F.sealed j g (omega (arith, same-marks 4096 (omega arith))))
    ];
  }

  here-v : blk_of a v k ≡ seal b
  unfolding blk_of
  here-v = rw (same-marks k (omega (arith, at-k)), ne_eqb (mark_of w k) 0 (λ q. omega arith)) blk-v-same

  other-v : (i : ℕ) → i < 4096 → i ≢ k → blk_of a v i ≡ blk_of a w i
  unfolding blk_of
  other-v i l ne =
      rw (same-marks i (omega arith)) (elim (ℕ_discrete (mark_of w i) 0) [
        | yes q ↦ rw (eq-eqb (mark_of w i) 0 q)
        | no z ↦ rw (ne_eqb (mark_of w i) 0 z) (blk-v-other (mark_of w i) (λ y. ne (F.own i k l at-k (omega arith) y)))
      ])

  changed-over : Changed a w (put_blk w (mark_of w k) (seal b)) (put_blk (view a w) k (seal b)) 1
  unfolding left
  changed-over = record {
    is = view-is a w v F fine-v k (seal b) lk sealed-length here-v other-v;
    fine = fine-v;
    room = omega (arith, length-v, same-marks 4096 (omega arith));
  }

-- a block stored is a block of the view replaced, with its check, and takes at most one block of the workspace
pub changed-stored : (a w : List ℕ) (F : Fine a w) (k : ℕ) (b : List ℕ) → k < blocks a → length b ≡ 512 → 1 ≤ left w → Changed a w (stored w k b) (put_blk (view a w) k (seal b)) 1
unfolding stored has_own
changed-stored a w F k b lk lb more =
    ⊎_elim
    (λ (h : 9 < mark_of w k). rw (lt-ltb 9 (mark_of w k) h, lt-ltb (mark_of w k) (used_of w) (F.low k (omega (arith, F.small)))) (changed-over a w F k b lk lb h))
    (λ (g : mark_of w k ≤ 9). rw (le-ltb 9 (mark_of w k) g) (changed-new a w F k b lk lb more))
    (lt-or-le 9 (mark_of w k))

-- ---- a block freed
module _ (a w : List ℕ) (F : Fine a w) (k : ℕ) (lk : k < blocks a) where
  k-low : k < 4096
  k-low = omega (arith, F.small)

  wide : 5120 ≤ length w
  wide = omega (arith, F.size, F.room, F.high)

  mark-freed : mark_of (set w k 9) k ≡ 9
  mark-freed = get_or-set_same w k 9 0 (omega (arith, wide, k-low))

  mark-kept : (i : ℕ) → i ≢ k → mark_of (set w k 9) i ≡ mark_of w i
  mark-kept i ne = get_or-set_other w k i 9 0 ne

  blk-kept : (j : ℕ) → 9 ≤ j → blk (set w k 9) j ≡ blk w j
  blk-kept j l = blk-set w k 9 j (omega (arith, k-low))

  used-kept : used_of (set w k 9) ≡ used_of w
  used-kept = mark-kept 4096 (omega (arith, k-low))

  len-kept : length (set w k 9) ≡ length w
  len-kept = length-set w k 9

  fine-freed : Fine a (set w k 9)
  fine-freed = record {
    whole = F.whole;
    small = F.small;
    size = omega (arith, len-kept, F.size);
    few = omega (arith, len-kept, F.few);
    high = omega (arith, used-kept, F.high);
    room = omega (arith, len-kept, used-kept, F.room);
    low = λ i l. elim (ℕ_discrete i k) [ yes q ↦ rw (q, mark-freed, used-kept) (omega (arith, F.high)) | no ne ↦ rw (mark-kept i ne, used-kept) (F.low i l) ];
    apart = λ i l z. elim (ℕ_discrete i k) [ yes q ↦ rw (q, mark-freed) (omega arith) | no ne ↦ rw (mark-kept i ne) (F.apart i l (λ y. z (mark-kept i ne ∙ y))) ];
    own = λ i j li lj g e. elim (ℕ_discrete i k) [
      | yes q ↦ absurd (let z : mark_of (set w k 9) i ≡ 9 = ap (mark_of (set w k 9)) q ∙ mark-freed in omega arith)
      | no ne ↦ elim (ℕ_discrete j k) [
        | yes p ↦ absurd (let z : mark_of (set w k 9) i ≡ 9 = e ∙ ap (mark_of (set w k 9)) p ∙ mark-freed in omega arith)
        | no nf ↦ F.own i j li lj (rw (sym (mark-kept i ne)) g) (sym (mark-kept i ne) ∙ e ∙ mark-kept j nf)
      ]
    ];
    zero = blk-kept 9 (omega arith) ∙ F.zero;
    sealed = λ j g l. rw (blk-kept j g) (F.sealed j g (omega (arith, used-kept)));
  }

  here-freed : blk_of a (set w k 9) k ≡ zeros
  unfolding blk_of
  here-freed = rw mark-freed (blk-kept 9 (omega arith) ∙ F.zero)

  other-freed : (i : ℕ) → i < 4096 → i ≢ k → blk_of a (set w k 9) i ≡ blk_of a w i
  unfolding blk_of
  other-freed i l ne =
      rw (mark-kept i ne) (elim (ℕ_discrete (mark_of w i) 0) [
        | yes q ↦ rw (eq-eqb (mark_of w i) 0 q)
        | no z ↦ rw (ne_eqb (mark_of w i) 0 z) (blk-kept (mark_of w i) (F.apart i l z))
      ])

  zeros-length : length zeros ≡ 512
  zeros-length = ap length (sym F.zero) ∙ length-blk w 9 (omega (arith, F.room, F.high))

  -- a block freed is a block of the view that becomes zeros, and takes no block of the workspace
  pub changed-freed : Changed a w (freed w k) (put_blk (view a w) k zeros) 0
  unfolding freed left
  changed-freed = record {
    is = view-is a w (set w k 9) F fine-freed k zeros lk zeros-length here-freed other-freed;
    fine = fine-freed;
    room = omega (arith, len-kept, used-kept);
  }

-- ---- the start

unmarked : (a w : List ℕ) (n : ℕ) → ((i : ℕ) → i < n → mark_of w i ≡ 0) → view_to a w n ≡ a
unfolding view_to
unmarked a w zero h = refl
unmarked a w (suc n) h = rw (eq-eqb (mark_of w n) 0 (h n (omega arith))) (unmarked a w n (λ i l. h i (omega arith)))

module _ (a w : List ℕ) (whole : length a ≡ 512 * blocks a) (small : blocks a ≤ 4096) (size : length w ≡ 512 * blocks w) (ten : 10 ≤ blocks w) (few : blocks w ≤ 255) (zero-w : (i : ℕ) → get_or w i 0 ≡ 0) (nine : blk w 9 ≡ zeros) where
  used_start : used_of (set w 4096 10) ≡ 10
  used_start = get_or-set_same w 4096 10 0 (omega arith)

  mark-start : (i : ℕ) → i < 4096 → mark_of (set w 4096 10) i ≡ 0
  mark-start i l = get_or-set_other w 4096 i 10 0 (omega arith) ∙ zero-w i

  nine-start : blk (set w 4096 10) 9 ≡ zeros
  nine-start = blk-set w 4096 10 9 (omega arith) ∙ nine

  pub fine-start : Fine a (begun w)
  unfolding begun
  fine-start = record {
    whole = whole;
    small = small;
    size = omega (arith, length-set w 4096 10);
    few = omega (arith, length-set w 4096 10);
    high = omega (arith, used_start);
    room = omega (arith, length-set w 4096 10, used_start);
    low = λ i l. rw (mark-start i l, used_start) (omega arith);
    apart = λ i l z. absurd (z (mark-start i l));
    own = λ i j li lj g e. absurd (omega (arith, mark-start i li));
    zero = nine-start;
    sealed = λ j g l. let e : j ≡ 9 = omega (arith, used_start) in rw (e, nine-start) seal-zeros;
  }

  -- the view of no marks is the arena
  pub view-start : view a (begun w) ≡ a
  unfolding begun view
  view-start = go (blocks a) (omega arith)
    where
      go : (n : ℕ) → n ≤ blocks a → view_to a (set w 4096 10) n ≡ a
      go n l = unmarked a (set w 4096 10) n (λ i h. mark-start i (omega arith))

  pub left-start : left (begun w) ≡ blocks w - 10
  unfolding begun left
  left-start = omega (arith, length-set w 4096 10, used_start)

-- ---- a workspace of zeros, made ready

pub ready : (a w : List ℕ) (m : ℕ) → length a ≡ 512 * blocks a → blocks a ≤ 4096 → 10 ≤ m → m ≤ 255 → w ≡ begun (replicate (512 * m) 0) → Empty a w m
ready a w m whole small ten few e =
    let z : List ℕ = replicate (512 * m) 0 in
    let lz : length (replicate {A = ℕ} (512 * m) 0) ≡ 512 * m = length-replicate (512 * m) 0 in
    let bz : blocks (replicate (512 * m) 0) ≡ m = omega arith in
    let nine : blk (replicate (512 * m) 0) 9 ≡ zeros = zeros-is _ (length-blk z 9 (omega arith)) (λ j l. get_or-blk z 9 j l ∙ get_or-zero-list (512 * m) (512 * 9 + j)) in
    let size : length (replicate {A = ℕ} (512 * m) 0) ≡ 512 * blocks (replicate (512 * m) 0) = omega arith in
    rw e (record {
      fine = fine-start a z whole small size (omega arith) (omega arith) (get_or-zero-list (512 * m)) nine;
      is = view-start a z whole small size (omega arith) (omega arith) (get_or-zero-list (512 * m)) nine;
      room = left-start a z whole small size (omega arith) (omega arith) (get_or-zero-list (512 * m)) nine ∙ omega arith;
    })
