-- What a designer was told of her drawings (crates/drawings), said of runs of the functions that are linked: she writes by `dz_write` or `dz_own_write`,
-- and who reads, reads by `dz_read` or `dz_own_read`. A run that answers 255 was made with a slice of a wrong size, and made no call.
use Rattle.std.specs.Prelude.{◌≡◌, List, [], ◌∷◌, ◌≢◌, ◌⊎◌, ◌↔◌, ℕ, ◌+◌, ◌≤◌, ◌<◌, T, length, take, Some}
use contract.Lifetimes.{Lfts}
use Rattle.base.specs.Out.{done}
use Rattle.base.specs.Parts.{part, paste}
use Rattle.base.specs.Reasons.{table_full, no_device_space}
use Rattle.arena.specs.Places.{free_count}
use Rattle.table.specs.declared.Handle.{Handle}
use Rattle.table.specs.Table.{live_row}
use Rattle.sefs_laws.specs.Contents.{file_at, size_at}
use Rattle.ranges.specs.declared.FallocateMode.{FallocateMode}
use Rattle.ranges.specs.Says.{questions, blocks_wanted}
use Rattle.edge_words.specs.Words.{handle_words}
use Rattle.edge.proofs.dz_open.Reads as dz-open
use Rattle.edge.proofs.dz_check.Reads as dz-check
use Rattle.sequences.specs.Calls.{Call, find, read, write, resize, fallocate, Fits, asker}
use Rattle.sequences.specs.Promises.{Along, On}
use Rattle.sequences.specs.TableFull.{ReachesCheck, NoPlace}
use Rattle.sequences.specs.Reasons.{has}
use Rattle.sequences.specs.Ranges.{reasons_in}
use Rattle.drawings.specs.Saved.{Elsewhere, ReadsAll, filled_to}
use Rattle.drawings.specs.Rests.{Drawing, LeavesBe, Rested, Named}
use Rattle.drawings.specs.Names.{LeavesName, LeavesBoth}
use Rattle.drawings.specs.Ranges.{text_at, new_text}
use Rattle.linked.specs.Images.{◌&◌, Slice, ReadSlice, Image, pair_of, Places}
use Rattle.linked.specs.Tested.{Ran}
use Rattle.linked.specs.Linked.{Functions, Runs}

-- a read that was lent x, left y and returned k: it answers 0, the output begins with those bytes, and the word says how many
pub record GaveBytes (bytes : List ℕ) (x y : Places) (k : ℕ) : Type 0 where
  pub number : k ≡ 0
  pub output : y.output ≡ paste x.output 0 bytes
  pub count : y.words ≡ length bytes ∷ []

-- two reads, of which the first was lent x, left y and returned k, and the second p, q and j, gave the same: both the same bytes; or both one reason, and then
-- neither wrote anything
pub data GaveSame (x y : Places) (k : ℕ) (p q : Places) (j : ℕ) : Type 0 where
  both-gave : (bytes : List ℕ) → GaveBytes bytes x y k → GaveBytes bytes p q j → GaveSame x y k p q j
  both-refused : k ≢ 0 → j ≡ k → y ≡ x → q ≡ p → GaveSame x y k p q j

-- she saves: her handle h is on node n, whose file is f, and a write through h of those bytes to that place answers 0
pub record SavesRun (R : Functions) (w : ℕ) (h : Handle) (n : ℕ) (f : List ℕ) (place : ℕ) (bytes : List ℕ) (s u : Image) : Type 0 where
  pub on : On (pair_of s).table w h n f
  pub fits : Fits (write w h place bytes)
  pub before : Places
  pub after : Places
  pub answers : R (write w h place bytes) s before u after 0

module _ (R : Functions) (I : Image → Type 0) where
  -- `saved`: she saves; then come any runs, whose calls leave what she saved; and she reads what she wrote
  unfoldable pub RunsSaved : Type 0
  RunsSaved = (s u v z : Image) (l : List Call) (w : ℕ) (h : Handle) (n : ℕ) (f : List ℕ) (place : ℕ) (bytes : List ℕ) (x y : Places) (k : ℕ) → I s
      → SavesRun R w h n f place bytes s u → Runs R u l v → Along (Elsewhere w h n) (pair_of u) l
      → Fits (read w h place (length bytes)) → R (read w h place (length bytes)) v x z y k → k ≢ 255 → GaveBytes bytes x y k

  -- `both-saved`: she saves; then come any runs that leave what she saved; a colleague o saves through his handle g to another node; then come any runs
  -- that leave both: she reads hers, and he reads his
  unfoldable pub RunsBothSaved : Type 0
  RunsBothSaved = (s u v i z a b : Image) (l t : List Call) (w o : ℕ) (h g : Handle) (n m : ℕ) (f e : List ℕ) (place at : ℕ) (hers his : List ℕ) (x y p q : Places) (k j : ℕ) → I s
      → SavesRun R w h n f place hers s u → Runs R u l v → Along (Elsewhere w h n) (pair_of u) l
      → m ≢ n → SavesRun R o g m e at his v i → Runs R i t z → Along (Elsewhere w h n) (pair_of i) t → Along (Elsewhere o g m) (pair_of i) t
      → Fits (read w h place (length hers)) → R (read w h place (length hers)) z x a y k → k ≢ 255
      → Fits (read o g at (length his)) → R (read o g at (length his)) z p b q j → j ≢ 255 → GaveBytes hers x y k × GaveBytes his p q j

  -- `read_stays`: not only what she wrote: every read by h gives what it gave before such runs, or its reason
  unfoldable pub RunsReadStays : Type 0
  RunsReadStays = (s u v z : Image) (l : List Call) (w : ℕ) (h : Handle) (n : ℕ) (f : List ℕ) (at room : ℕ) (x y p q : Places) (k j : ℕ) → I s → On (pair_of s).table w h n f
      → Fits (read w h at room) → R (read w h at room) s x u y k → k ≢ 255 → Runs R u l v → Along (Elsewhere w h n) (pair_of u) l
      → R (read w h at room) v p z q j → j ≢ 255 → GaveSame x y k p q j

  -- `rests-along`: a node that is no folder, open or not, keeps type, file name, size and every byte
  unfoldable pub RunsRest : Type 0
  RunsRest = (s v : Image) (l : List Call) (n : ℕ) → I s → Drawing n (pair_of s) → Runs R s l v → Along (LeavesBe n) (pair_of s) l → Rested n (pair_of s) (pair_of v)

  -- `closed-and-kept`: she saves, closes and goes home; then a read of the place, through any handle on her node, gives what she wrote
  unfoldable pub RunsKept : Type 0
  RunsKept = (s u v z : Image) (l : List Call) (w o : ℕ) (h g : Handle) (n : ℕ) (f e : List ℕ) (place : ℕ) (bytes : List ℕ) (x y : Places) (k : ℕ) → I s
      → SavesRun R w h n f place bytes s u → Runs R u l v → Along (LeavesBe n) (pair_of u) l → On (pair_of v).table o g n e
      → Fits (read o g place (length bytes)) → R (read o g place (length bytes)) v x z y k → k ≢ 255 → GaveBytes bytes x y k

  -- `read-rests`: not only what she wrote: any read through such a handle gives what it gave by h before those runs, or its reason
  unfoldable pub RunsReadRests : Type 0
  RunsReadRests = (s u v z : Image) (l : List Call) (w o : ℕ) (h g : Handle) (n : ℕ) (f e : List ℕ) (at room : ℕ) (x y p q : Places) (k j : ℕ) → I s → Drawing n (pair_of s)
      → On (pair_of s).table w h n f → Fits (read w h at room) → R (read w h at room) s x u y k → k ≢ 255 → Runs R u l v → Along (LeavesBe n) (pair_of u) l
      → On (pair_of v).table o g n e → Fits (read o g at room) → R (read o g at room) v p z q j → j ≢ 255 → GaveSame x y k p q j

  -- `names-stay`: a name stays in its folder, unless a call that takes it away is done
  unfoldable pub RunsNamesStay : Type 0
  RunsNamesStay = (s v : Image) (l : List Call) (d n : ℕ) (name : List ℕ) → I s → Named d name n (pair_of s) → Runs R s l v → Along (LeavesName d name) (pair_of s) l
      → Named d name n (pair_of v)

  -- `found-by-name`: she saves, and folder d has a name for her node; then come any runs that leave both; o, who has a handle g on the folder, finds the
  -- name, and reads by the handle whose words the find gave what she wrote
  unfoldable pub RunsFound : Type 0
  RunsFound = (s u v i z : Image) (l : List Call) (w o : ℕ) (h g got : Handle) (n d : ℕ) (f e name : List ℕ) (place : ℕ) (bytes : List ℕ) (p q x y : Places) (k : ℕ) → I s
      → SavesRun R w h n f place bytes s u → Named d name n (pair_of u) → Runs R u l v → Along (LeavesBoth d name n) (pair_of u) l → On (pair_of v).table o g d e
      → Fits (find o g name) → R (find o g name) v p i q 0 → q.words ≡ handle_words got
      → Fits (read o got place (length bytes)) → R (read o got place (length bytes)) i x z y k → k ≢ 255 → GaveBytes bytes x y k

  -- `finds-it`: and it is found: of who has a handle on the folder, a find of a name that stayed answers 0, or he has no place for a hold more (16)
  unfoldable pub RunsFindsIt : Type 0
  RunsFindsIt = (s v z : Image) (l : List Call) (o : ℕ) (g : Handle) (n d : ℕ) (e name : List ℕ) (x y : Places) (k : ℕ) → I s → Named d name n (pair_of s)
      → Runs R s l v → Along (LeavesName d name) (pair_of s) l → On (pair_of v).table o g d e
      → Fits (find o g name) → R (find o g name) v x z y k → k ≢ 255 → (k ≡ 0) ⊎ (k ≡ table_full)

  -- `laid-over`: what any read gives after a write that answers 0, where before it a read of all gave `old`
  unfoldable pub RunsLaidOver : Type 0
  RunsLaidOver = (s u z : Image) (w : ℕ) (h : Handle) (place : ℕ) (new old : List ℕ) (at room : ℕ) (a b x y : Places) (k : ℕ) → I s → ReadsAll w h old (pair_of s)
      → Fits (write w h place new) → R (write w h place new) s a u b 0
      → Fits (read w h at room) → R (read w h at room) u x z y k → k ≢ 255 → GaveBytes (part (paste (filled_to (place + length new) old) place new) at (at + room)) x y k

  -- `resized-to`: and after a resize that answers 0
  unfoldable pub RunsResized : Type 0
  RunsResized = (s u z : Image) (w : ℕ) (h : Handle) (n : ℕ) (old : List ℕ) (at room : ℕ) (a b x y : Places) (k : ℕ) → I s → ReadsAll w h old (pair_of s)
      → Fits (resize w h n) → R (resize w h n) s a u b 0
      → Fits (read w h at room) → R (read w h at room) u x z y k → k ≢ 255 → GaveBytes (part (take n (filled_to n old)) at (at + room)) x y k

  -- `reads-new`: and after a fallocate that answers 0, in whatever mode
  unfoldable pub RunsReadNew : Type 0
  RunsReadNew = (s u z : Image) (w : ℕ) (h : Handle) (mode : FallocateMode) (from len : ℕ) (old : List ℕ) (at room : ℕ) (a b x y : Places) (k : ℕ) → I s → ReadsAll w h old (pair_of s)
      → Fits (fallocate w h mode from len) → R (fallocate w h mode from len) s a u b 0
      → Fits (read w h at room) → R (read w h at room) u x z y k → k ≢ 255 → GaveBytes (part (new_text mode from len old) at (at + room)) x y k

  -- `reads-text`: so through anybody's handle g on the row of h, whose file had that text
  unfoldable pub RunsReadText : Type 0
  RunsReadText = (s u z : Image) (w v : ℕ) (h g : Handle) (mode : FallocateMode) (from len i at room : ℕ) (a b x y : Places) (k : ℕ) → I s
      → live_row (pair_of s).table w h ≡ Some i → live_row (pair_of s).table v g ≡ Some i
      → Fits (fallocate w h mode from len) → R (fallocate w h mode from len) s a u b 0
      → Fits (read v g at room) → R (read v g at room) u x z y k → k ≢ 255
      → GaveBytes (part (new_text mode from len (text_at s.arena (pair_of s).table i)) at (at + room)) x y k

  -- `ranges-full`: once all is asked, a fallocate answers 0 where the blocks that its mode wants are free, and else 17
  unfoldable pub RunsRangesFull : Type 0
  RunsRangesFull = (s u : Image) (w : ℕ) (h : Handle) (mode : FallocateMode) (from len i : ℕ) (x y : Places) (k : ℕ) → I s
      → Fits (fallocate w h mode from len) → R (fallocate w h mode from len) s x u y k → k ≢ 255 → questions s.arena (pair_of s).table w h mode from len ≡ done i
      → ((k ≡ 0) × (blocks_wanted mode s.arena (file_at (pair_of s).table i) (size_at (pair_of s).table i) from len ≤ free_count s.arena))
      ⊎ ((k ≡ no_device_space) × (free_count s.arena < blocks_wanted mode s.arena (file_at (pair_of s).table i) (size_at (pair_of s).table i) from len))

  pub record Drawings : Type 0 where
    pub saved : RunsSaved
    pub both-saved : RunsBothSaved
    pub read_stays : RunsReadStays
    pub rest : RunsRest
    pub kept : RunsKept
    pub read-rests : RunsReadRests
    pub names-stay : RunsNamesStay
    pub found : RunsFound
    pub finds-it : RunsFindsIt
    pub laid-over : RunsLaidOver
    pub resized : RunsResized
    pub read-new : RunsReadNew
    pub read-text : RunsReadText
    pub ranges-full : RunsRangesFull

-- ---- on any bytes

-- `full-exactly`, of a tested function: 16 exactly where its call reaches the check and its asker has no place left
unfoldable pub NumberFull : Type 0
NumberFull = (c : Call) (s u : Image) (x y : Places) (n : ℕ) → Ran c s x u y n → n ≢ 255 → (n ≡ table_full) ↔ (ReachesCheck (pair_of s) c × NoPlace (pair_of s).table (asker c))

-- `reasons-ranges`, of a tested function: which numbers each mode of a fallocate can answer
unfoldable pub NumberRanges : Type 0
NumberRanges = (s u : Image) (x y : Places) (n w : ℕ) (h : Handle) (mode : FallocateMode) (from len : ℕ) → Ran (fallocate w h mode from len) s x u y n → n ≢ 255
    → (n ≡ 0) ⊎ T (has (reasons_in mode) n)

-- `old-open`: "so old projects open": where a check of the arena, with whatever table, answers 0, `dz_open` does
unfoldable pub OldOpens : Type 0
OldOpens = (κs : Lfts 3) (λs : Lfts 2) (a t : ReadSlice) (out out' u u' : Slice) (n : ℕ) → dz-check.Learnt κs (a & t & out & tt) 0 (a & t & out' & tt)
    → dz-open.Learnt λs (a & u & tt) n (a & u' & tt) → n ≢ 255 → n ≡ 0
