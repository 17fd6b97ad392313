-- Order 13's call once more: which reasons each mode can give, and what a pair that passes answers, exactly.
use Rattle.std.specs.Prelude.{◌≡◌, List, [], ◌∷◌, ◌⊎◌, ℕ, ◌≤◌, ◌<◌, T}
use Rattle.base.specs.Out.{done, Ok}
use Rattle.base.specs.Reasons.{no_device_space}
use Rattle.table.specs.declared.Handle.{Handle}
use Rattle.arena.specs.Places.{free_count}
use Rattle.sefs_laws.specs.Contents.{file_at, size_at}
use Rattle.ranges.specs.Says.{questions, blocks_wanted}
use Rattle.ranges.specs.declared.FallocateMode.{FallocateMode}
use Rattle.ranges.specs.declared.FallocateMode.TheVariants.{Allocate, PunchHoleKeepSize, ZeroRange, ZeroRangeKeepSize, CollapseRange, InsertRange, Unknown}
use Rattle.sequences.specs.Pairs.{Pair, Passed}
use Rattle.sequences.specs.Calls.{fallocate, does, reason_of}
use Rattle.sequences.specs.Reasons.{has}

-- ---- the reasons: "21 unless type 1; 22 ..; 6 ..; 22 ..; then 19 or 17", after those of every call

abbrev pub reasons_in : FallocateMode → List ℕ
reasons_in (Allocate keep) = 1 ∷ 2 ∷ 3 ∷ 6 ∷ 4 ∷ 21 ∷ 22 ∷ 19 ∷ []
reasons_in PunchHoleKeepSize = 1 ∷ 2 ∷ 3 ∷ 6 ∷ 4 ∷ 21 ∷ 22 ∷ 17 ∷ 19 ∷ []
reasons_in ZeroRange = 1 ∷ 2 ∷ 3 ∷ 6 ∷ 4 ∷ 21 ∷ 22 ∷ 17 ∷ 19 ∷ []
reasons_in ZeroRangeKeepSize = 1 ∷ 2 ∷ 3 ∷ 6 ∷ 4 ∷ 21 ∷ 22 ∷ 17 ∷ 19 ∷ []
reasons_in CollapseRange = 1 ∷ 2 ∷ 3 ∷ 6 ∷ 4 ∷ 21 ∷ 22 ∷ 6 ∷ 17 ∷ 19 ∷ []
reasons_in InsertRange = 1 ∷ 2 ∷ 3 ∷ 6 ∷ 4 ∷ 21 ∷ 22 ∷ 6 ∷ 22 ∷ 17 ∷ 19 ∷ []
reasons_in Unknown = 1 ∷ 2 ∷ 3 ∷ 6 ∷ 4 ∷ 21 ∷ 22 ∷ 6 ∷ 19 ∷ []

-- of any pair, passed or not, and any arguments
unfoldable pub ReasonsRanges : Type 0
ReasonsRanges = (w : ℕ) (h : Handle) (mode : FallocateMode) (from len : ℕ) (p : Pair)
    → (reason_of (fallocate w h mode from len) p ≡ 0) ⊎ T (has (reasons_in mode) (reason_of (fallocate w h mode from len) p))

-- ---- on a pair that passes: once all is asked, it is done where the blocks that the mode wants are free, and else 17

unfoldable pub RangesFull : Type 0
RangesFull = (p : Pair) (w : ℕ) (h : Handle) (mode : FallocateMode) (from len i : ℕ) → Passed p → questions p.arena p.table w h mode from len ≡ done i
    → Ok (λ q. blocks_wanted mode p.arena (file_at p.table i) (size_at p.table i) from len ≤ free_count p.arena)
    (λ r. (r ≡ no_device_space) × (free_count p.arena < blocks_wanted mode p.arena (file_at p.table i) (size_at p.table i) from len))
    (does (fallocate w h mode from len) p)
