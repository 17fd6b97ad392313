-- Each mode of order 13's call gives reasons of its list alone, on any pair.
use mathlib.Core.Path.{◌≡◌, refl, sym, subst}
use mathlib.Core.Bool.{Bool, true, false, ◌&&◌, ◌||◌}
use mathlib.Core.List.{List, [], ◌∷◌}
use Prim.Native.Nat.{ℕ, ◌+◌, ◌≤◌}
use lib.Dec.{T, eqb, ltb, leb}
use borrow.Author.Tests.{eqb-true}
use Rattle.base.specs.Out.{done, said}
use Rattle.base.proofs.Outs.{ok-bind, ok-weaken}
use Rattle.structs.specs.Constants.{type_file}
use Rattle.structs.specs.declared.DiskINode.{DiskINode}
use Rattle.table.specs.declared.Table.{Table}
use Rattle.table.specs.declared.Handle.{Handle}
use Rattle.table.specs.Table.{row_at}
use Rattle.files.specs.Store.{longest}
use Rattle.pieces.proofs.Pieces.{put-says}
use Rattle.sefs.specs.Nodes.{node_file, rec_at}
use Rattle.sefs.specs.Ask.{start}
use Rattle.sefs.specs.Contents.{resize_steps}
use Rattle.sefs_laws.proofs.Says.{Says, says-done, says_then, says-ensure, says-pick, says-cut, says-end, says-resize, says-admit}
use Rattle.sefs_laws.proofs.Handles.{says-handle}
use Rattle.ranges.specs.Ranges.{plain_file, aligned, fits_mode, grow_steps, mode_steps, call_fallocate}
use Rattle.ranges.specs.declared.FallocateMode.{FallocateMode}
use Rattle.ranges.specs.declared.FallocateMode.TheVariants.{Allocate, PunchHoleKeepSize, ZeroRange, ZeroRangeKeepSize, CollapseRange, InsertRange, Unknown}
use Rattle.sequences.specs.Calls.{fallocate}
use Rattle.sequences.specs.Reasons.{reasons_of, has}
use Rattle.sequences.specs.Ranges.{reasons_in}
use Rattle.sequences.proofs.RangeSteps.{goes-mode}

-- a mode's reasons
abbrev pub ModeGives : FallocateMode → ℕ → Type 0
ModeGives mode n = T (has (reasons_in mode) n)

-- ---- what is asked

says_plain : {R : ℕ → Type 0} → R 19 → R 21 → (r : DiskINode) → Says R (plain_file r)
unfolding plain_file
says_plain stuck none r = says_then (says-ensure (leb r.kind 4) 19 stuck) λ _. says-ensure (eqb r.kind type_file) 21 none

-- the reasons of `fits_mode`, where a mode has them
pub says-fits : {R : ℕ → Type 0} → R 6 → R 22 → (mode : FallocateMode) (size from len : ℕ) → Says R (fits_mode mode size from len)
says-fits six big (Allocate keep) size from len = says-done
says-fits six big PunchHoleKeepSize size from len = says-done
says-fits six big ZeroRange size from len = says-done
says-fits six big ZeroRangeKeepSize size from len = says-done
says-fits six big CollapseRange size from len = says-ensure (ltb (from + len) size && (aligned from && aligned len)) 6 six
says-fits six big InsertRange size from len =
    says_then (says-ensure (ltb from size && (aligned from && aligned len)) 6 six) λ _. ok-weaken (λ _ _. tt) (λ n r. r) (says-end big (size + len))
says-fits six big Unknown size from len = said six

-- ---- the steps

-- those of a mode that stores
says-steps : {R : ℕ → Type 0} → R 17 → R 19 → R 6 → (mode : FallocateMode) (a : List ℕ) (t : Table) (i from len : ℕ) → Says R (mode_steps mode (start a t) i from len)
unfolding resize_steps
says-steps {R} space stuck six mode a t i from len =
    goes-mode R space stuck (λ _ _. Unit) i
    (λ s pos src _. ok-weaken (λ _ _. tt) (λ _ r. r) (put-says R space s.arena (node_file (rec_at s i)) pos src (λ _. stuck)))
    (λ s n _. says_then (says-cut R space stuck s.arena (node_file (rec_at s i)) n) λ b. says-done)
    six mode (start a t) from len tt

-- an allocate never meets 17: its end was asked
says-grow : (keep : Bool) (a : List ℕ) (t : Table) (i from len : ℕ) → from + len ≤ longest → Says (ModeGives (Allocate keep)) (mode_steps (Allocate keep) (start a t) i from len)
unfolding grow_steps
says-grow true a t i from len l = says-done
says-grow false a t i from len l =
    says-pick (ltb (row_at t i).rec.size (from + len)) (resize_steps (start a t) i (from + len)) (done (start a t)) (says-resize tt (start a t) i (from + len) l) says-done

-- ---- the call

-- once its mode's own reasons are known
says-call : (mode : FallocateMode) (a : List ℕ) (t : Table) (w : ℕ) (h : Handle) (from len : ℕ)
    → ModeGives mode 1 → ModeGives mode 2 → ModeGives mode 3 → ModeGives mode 6 → ModeGives mode 4 → ModeGives mode 19 → ModeGives mode 21 → ModeGives mode 22
    → ((i : ℕ) → from + len ≤ longest → Says (ModeGives mode) (mode_steps mode (start a t) i from len)) → Says (ModeGives mode) (call_fallocate a t w h mode from len)
unfolding call_fallocate
says-call mode a t w h from len one two three six four stuck none big steps =
    says_then (says-admit one two three a t) λ _. says_then (says-handle six four t w h) λ i.
    says_then (says_plain stuck none (row_at t i).rec) λ _.
    ok-bind (says-end big (from + len)) λ _ l.
    says_then (says-fits six big mode (row_at t i).rec.size from len) λ _. says_then (steps i l) λ s. says-done

-- each mode, on any pair
pub says-mode : (mode : FallocateMode) (a : List ℕ) (t : Table) (w : ℕ) (h : Handle) (from len : ℕ) → Says (ModeGives mode) (call_fallocate a t w h mode from len)
says-mode (Allocate keep) a t w h from len = says-call (Allocate keep) a t w h from len tt tt tt tt tt tt tt tt (λ i l. says-grow keep a t i from len l)
says-mode PunchHoleKeepSize a t w h from len = says-call PunchHoleKeepSize a t w h from len tt tt tt tt tt tt tt tt (λ i _. says-steps tt tt tt PunchHoleKeepSize a t i from len)
says-mode ZeroRange a t w h from len = says-call ZeroRange a t w h from len tt tt tt tt tt tt tt tt (λ i _. says-steps tt tt tt ZeroRange a t i from len)
says-mode ZeroRangeKeepSize a t w h from len = says-call ZeroRangeKeepSize a t w h from len tt tt tt tt tt tt tt tt (λ i _. says-steps tt tt tt ZeroRangeKeepSize a t i from len)
says-mode CollapseRange a t w h from len = says-call CollapseRange a t w h from len tt tt tt tt tt tt tt tt (λ i _. says-steps tt tt tt CollapseRange a t i from len)
says-mode InsertRange a t w h from len = says-call InsertRange a t w h from len tt tt tt tt tt tt tt tt (λ i _. says-steps tt tt tt InsertRange a t i from len)
says-mode Unknown a t w h from len = says-call Unknown a t w h from len tt tt tt tt tt tt tt tt (λ i _. said tt)

-- ---- all modes' reasons are the call's

-- the numbers of l are among those of m
abbrev all_in : List ℕ → List ℕ → Bool
all_in [] m = true
all_in (x ∷ l) m = has m x && all_in l m

among : (l m : List ℕ) (n : ℕ) → T (all_in l m) → T (has l n) → T (has m n)
among [] m n A h = absurd h
among (x ∷ l) m n A h = go (has m x) (eqb x n) refl refl A h (λ B k. among l m n B k)
  where
    go : (c b : Bool) → has m x ≡ c → eqb x n ≡ b → T (c && all_in l m) → T (b || has l n) → (T (all_in l m) → T (has l n) → T (has m n)) → T (has m n)
    go true true d e B k rest = subst (λ (k : ℕ). T (has m k)) (eqb-true x n e) (subst T (sym d) tt)
    go true false d e B k rest = rest B k
    go false b d e B k rest = absurd B

in-call : (mode : FallocateMode) (w : ℕ) (h : Handle) (from len : ℕ) → T (all_in (reasons_in mode) (reasons_of (fallocate w h mode from len)))
in-call (Allocate keep) w h from len = tt
in-call PunchHoleKeepSize w h from len = tt
in-call ZeroRange w h from len = tt
in-call ZeroRangeKeepSize w h from len = tt
in-call CollapseRange w h from len = tt
in-call InsertRange w h from len = tt
in-call Unknown w h from len = tt

pub says-fallocate : (a : List ℕ) (t : Table) (w : ℕ) (h : Handle) (mode : FallocateMode) (from len : ℕ)
    → Says (λ n. T (has (reasons_of (fallocate w h mode from len)) n)) (call_fallocate a t w h mode from len)
says-fallocate a t w h mode from len =
    ok-weaken (λ _ _. tt) (λ n r. among (reasons_in mode) (reasons_of (fallocate w h mode from len)) n (in-call mode w h from len) r) (says-mode mode a t w h from len)
