-- Blocks that are all there, written from the last to the first: what is written is always one write of the last bytes.
use mathlib.Core.Path.{◌≡◌, sym, ap, ap₂, ◌∙◌, subst}
use mathlib.Core.Bool.{Bool, true}
use mathlib.Core.List.{List, ◌++◌}
use Prim.Native.Nat.{ℕ, suc, ◌+◌, ◌*◌, ◌-◌, ◌/◌, ◌≤◌, ◌<◌, min}
use native.Mathlib.Omega.{arith}
use lib.ListN.{length, take, get_or}
use borrow.Author.Tests.{lt-ltb, ltb-true}
use Rattle.base.specs.Out.{done}
use Rattle.base.specs.Parts.{tab}
use Rattle.base.specs.Search.{pick}
use Rattle.base.proofs.Lists.{length-tab, get_or-tab, tab-cong}
use Rattle.le.specs.Le.{Bytes}
use Rattle.arena.specs.Blocks.{blocks}
use Rattle.arena.specs.Fields.{File}
use Rattle.arena.specs.Places.{free_of, data_of}
use Rattle.files.specs.Read.{length_of, present, byte_at}
use Rattle.files.specs.Store.{longest, write_blk, lo, hi, touched, put_file}
use Rattle.files.proofs.Puts.{put-none}
use Rattle.files_laws.specs.Laws.{touches}
use Rattle.files_laws.proofs.Bounds.{length-fits, read-bytes}
use Rattle.files_laws.proofs.Put.{touched-is, put_all, put_is}
use Rattle.pieces.proofs.Fronts.{SameFronts, fronts-there, fronts-data, fronts-present, fronts-length, over-fronts, put-before, put_one}
use Rattle.pieces.proofs.Runs.{tab-join}
use Rattle.chains.specs.Led.{block_at}
use Rattle.plans.specs.Plan.{byte_by}
use Rattle.plans.proofs.Plans.{touched-some}
use Rattle.range_stores.specs.Moves.{Fillable}
use Rattle.range_stores.proofs.Runs.{raise-none}
use Rattle.range_stores.proofs.Sources.{read-later}

-- where the blocks from block i on begin, of n bytes from dst on; or their end
abbrev pub falls_to : ℕ → ℕ → ℕ → ℕ
falls_to dst n i = min (dst + n) (lo dst (dst / 480 + i))

-- the bytes from y on are written
abbrev pub FilledFrom : List ℕ → File → ℕ → ℕ → ℕ → ℕ → List ℕ → Type 0
FilledFrom m f src dst n y d = put_file m f y (tab (byte_at m f) (src + (y - dst)) (dst + n - y)) ≡ done d

-- ---- places of a run

falls-end : (dst n i : ℕ) → 0 < n → i ≡ touched dst n → dst + n - falls_to dst n i ≡ 0
falls-end dst n i some e = omega (arith, touched-some dst n (λ z. omega arith))

falls-start : (dst n : ℕ) → falls_to dst n 0 ≡ dst
falls-start dst n = omega arith

falls-here : (dst n i : ℕ) → lo dst (dst / 480 + i) < hi dst n (dst / 480 + i) → (falls_to dst n i ≡ lo dst (dst / 480 + i)) × (falls_to dst n (i + 1) ≡ hi dst n (dst / 480 + i))
falls-here dst n i l = (omega arith, omega arith)

module _ {m : List ℕ} {f : File} {src dst n : ℕ} {plan source : List ℕ} (F : Fillable m f src dst n plan source) (B : Bytes m) where
  range : dst + n ≤ longest
  range = omega (arith, F.long, length-fits m f B)

  -- none is written yet
  pub fill_none : (i : ℕ) → i ≡ touched dst n → FilledFrom m f src dst n (falls_to dst n i) m
  fill_none i e =
      let y : ℕ = falls_to dst n i in
      let l : List ℕ = tab (byte_at m f) (src + (falls_to dst n i - dst)) (dst + n - falls_to dst n i) in
      let z : length (tab (byte_at m f) (src + (falls_to dst n i - dst)) (dst + n - falls_to dst n i)) ≡ 0 = length-tab (byte_at m f) (src + (falls_to dst n i - dst))
      (dst + n - falls_to dst n i) ∙ falls-end dst n i F.some e in
      put_all m f y l F.exists (omega (arith, range)) ∙ put-none m f y l z ∙ ap done (raise-none m f (y + length l) (omega (arith, F.long)))

  -- the blocks after block i are written, to d
  module _ (i : ℕ) (d : List ℕ) (t : i < touched dst n) (e : FilledFrom m f src dst n (falls_to dst n (i + 1)) d) where
    abbrev q : ℕ
    q = dst / 480 + i

    meets : lo dst q < hi dst n q
    meets = ltb-true (lo dst q) (hi dst n q) (touched-is dst n i t)

    -- its own bytes, and those that are written
    abbrev own : List ℕ
    own = tab (byte_at m f) (src + (lo dst q - dst)) (hi dst n q - lo dst q)

    abbrev later : List ℕ
    later = tab (byte_at m f) (src + (hi dst n q - dst)) (dst + n - hi dst n q)

    size : length own ≡ hi dst n q - lo dst q
    size = length-tab (byte_at m f) (src + (lo dst q - dst)) (hi dst n q - lo dst q)

    size-later : length later ≡ dst + n - hi dst n q
    size-later = length-tab (byte_at m f) (src + (hi dst n q - dst)) (dst + n - hi dst n q)

    written : put_file m f (hi dst n q) later ≡ done d
    written = subst (λ (y : ℕ). FilledFrom m f src dst n y d) (falls-here dst n i meets).1 e

    here : (x : ℕ) (k : ℕ) → dst ≤ x → x + k ≤ dst + n → (r : ℕ) → touches x k r ≡ true → present m f r ≡ true
    here x k g l r h = let w : lo x r < hi x k r = ltb-true (lo x r) (hi x k r) h in F.here r (lt-ltb (lo dst r) (hi dst n r) (omega arith))

    -- the blocks are where they were
    alike : SameFronts m d
    alike =
        over-fronts m f (hi dst n q) later F.exists (omega (arith, size-later, F.long)) (omega (arith, size-later, range))
        (λ r h. here (hi dst n q) (length later) (omega (arith, meets)) (omega (arith, size-later)) r h) d written

    -- where block i is: none has to be made
    pub fill-found : (c : ℕ) → c ≡ get_or plan i 0 → (c ≡ block_at d f q) × (c ≡ 0 → free_of d < blocks d)
    fill-found c h =
        let y : present m f q ≡ true = F.here q (touched-is dst n i t) in
        let z : c ≡ suc (data_of m f q) = h ∙ F.places i t ∙ ap (λ (x : Bool). pick x (suc (data_of m f q)) 0) y in
        (h ∙ F.places i t ∙ ap₂ (λ (x : Bool) (k : ℕ). pick x (suc k) 0) (fronts-present m d alike f q) (fronts-data m d alike f q), λ none. absurd (omega arith))

    -- what is read now is what was there
    still : (k : ℕ) → k ≡ touched src n → (p : ℕ) → src ≤ p → p < src + n → p < hi dst n q → byte_by d (take k source) (src / 480) p ≡ byte_at m f p
    still k is p g l low =
        read-later F.read is d p g l
        (λ y. (sym (fronts-present m d alike f (p / 480)) ∙ y, sym (fronts-data m d alike f (p / 480))))
        ((put_is m f (hi dst n q) later d written).outside p (λ h. absurd (omega arith)))

    both : own ++ later ≡ tab (byte_at m f) (src + (lo dst q - dst)) (dst + n - lo dst q)
    both =
        ap (λ (x : ℕ). own ++ tab (byte_at m f) x (dst + n - hi dst n q))
        (let z : src + (hi dst n q - dst) ≡ src + (lo dst q - dst) + (hi dst n q - lo dst q) = omega (arith, meets) in z)
        ∙ tab-join (byte_at m f) (src + (lo dst q - dst)) (hi dst n q - lo dst q) (dst + n - hi dst n q)
        ∙ ap (tab (byte_at m f) (src + (lo dst q - dst))) (let z : hi dst n q - lo dst q + (dst + n - hi dst n q) ≡ dst + n - lo dst q = omega (arith, meets) in z)

    bytes-tab : (s k : ℕ) → s + k ≤ length_of m f → Bytes (tab (byte_at m f) s k)
    bytes-tab s k l =
        read-bytes m f s k (tab (byte_at m f) s k) B (record { was = F.exists; range = l; size = length-tab (byte_at m f) s k; byte = λ j h. get_or-tab (byte_at m f) s k j h })

    -- block i is written too
    pub fill-turn : (k : ℕ) → k ≡ touched src n → (b : List ℕ)
        → write_blk d f q (lo dst q - 480 * q) (tab (byte_by d (take k source) (src / 480)) (src + (lo dst q - dst)) (hi dst n q - lo dst q)) ≡ done b
        → FilledFrom m f src dst n (falls_to dst n i) b
    fill-turn k is b h =
        let x : lo dst q + length own ≡ hi dst n q = omega (arith, size, meets) in
        let back : src ≤ dst = F.back in
        let w : put_file d f (lo dst q) own ≡ done b =
        sym (put_one d f q (lo dst q) own (sym (fronts-there m d alike f) ∙ F.exists) (omega arith) (omega (arith, x)) (omega (arith, size, meets))
        (omega (arith, x, F.long, fronts-length m d alike f)) (omega (arith, x, range)))
        ∙ ap (write_blk d f q (lo dst q - 480 * q))
        (sym (tab-cong (byte_by d (take k source) (src / 480)) (byte_at m f) (src + (lo dst q - dst)) (src + (lo dst q - dst)) (hi dst n q - lo dst q) (λ j l.
        still k is (src + (lo dst q - dst) + j) (omega arith) (omega (arith, meets)) (omega (arith, meets)))))
        ∙ h in
        subst (λ (y : ℕ). FilledFrom m f src dst n y b) (sym (falls-here dst n i meets).0)
        (ap (put_file m f (lo dst q)) (sym both)
        ∙ sym (put-before m f (lo dst q) own later d F.fine B (bytes-tab _ _ (omega (arith, F.long, meets))) (bytes-tab _ _ (omega (arith, F.long))) F.exists
        (omega (arith, x, size-later, F.long))
        (λ r z. here (lo dst q) (length own + length later) (omega arith) (omega (arith, x, size-later)) r z)
        (subst (λ (y : ℕ). put_file m f y later ≡ done d) (sym x) written))
        ∙ w)

  -- all are written
  pub fill-whole : (d : List ℕ) → FilledFrom m f src dst n (falls_to dst n 0) d → put_file m f dst (tab (byte_at m f) src n) ≡ done d
  fill-whole d e =
      ap₂ (λ (s k : ℕ). put_file m f dst (tab (byte_at m f) s k)) (let z : src ≡ src + (dst - dst) = omega arith in z) (let z : n ≡ dst + n - dst = omega arith in z)
      ∙ subst (λ (y : ℕ). FilledFrom m f src dst n y d) (falls-start dst n) e
