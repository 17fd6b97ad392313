-- Theorems over sequences of calls, said of runs of the functions that are linked.
use Rattle.std.specs.Prelude.{◌≡◌, true, false, List, [], ◌∷◌, ◌++◌, ◌≢◌, ◌⊎◌, ◌↔◌, ℕ, T, ℤ, Some}
use contract.Lifetimes.{Lfts}
use Rattle.base.specs.Out.{done, answer, refused}
use Rattle.base.specs.Reasons.{bad_handle, bad_name, table_full}
use Rattle.le.specs.Le.{Bytes}
use Rattle.structs.specs.Fits.{TimeFits}
use Rattle.structs.specs.declared.Timespec.{Timespec}
use Rattle.table.specs.declared.Table.{Table}
use Rattle.table.specs.declared.Handle.{Handle}
use Rattle.table.specs.Table.{empty_table, row_at, live_row, can_hold}
use Rattle.table_laws.specs.Rules.{Owner}
use Rattle.table_bytes.specs.Layout.{table_of, bytes_of_table}
use Rattle.sefs.specs.Create.{call_format}
use Rattle.sefs.specs.Open.{call_open, call_find}
use Rattle.walk.specs.Walk.{from_root, good_text, parts_of}
use Rattle.rules.specs.Tests.{checked}
use Rattle.edge_words.specs.Words.{handle_words, time_of}
use Rattle.edge.proofs.dz_format.Reads as dz-format
use Rattle.edge.proofs.dz_open.Reads as dz-open
use Rattle.edge.proofs.dz_check.Reads as dz-check
use Rattle.owners.proofs.dz_own_chains.Reads as own-chains
use Rattle.owners_kept.specs.Owned.{Chained, Owned}
use Rattle.sequences.specs.Pairs.{Pair, pair}
use Rattle.sequences.specs.Calls.{Call, root, walk, create, close, Fits, asker, reason_of, next}
use Rattle.sequences.specs.Promises.{Along, Well, On, Safe, Spent, Slashless}
use Rattle.sequences.specs.Places.{Makes, SameFor, Arrives, Names}
use Rattle.sequences.specs.Reasons.{reasons_of, has}
use Rattle.sequences.specs.Chains.{Finds}
use Rattle.linked.specs.Images.{◌&◌, Slice, ReadSlice, Image, image, pair_of, Same, Trusted, Passes, Ready, Places, handed, Did}
use Rattle.linked.specs.Tested.{Ran}
use Rattle.linked.specs.Owning.{Owns}

-- ---- one law a function

-- of the tested ones, on any bytes: whatever the contract allows did the call
unfoldable pub Does : Type 0
Does = (c : Call) (s u : Image) (x y : Places) (n : ℕ) → Ran c s x u y n → Did c s x u y n

-- of an owner's, where the image is ready for them: the same, and the chains are the arena's again
unfoldable pub OwnDoes : Type 0
OwnDoes = (c : Call) (s u : Image) (x y : Places) (n : ℕ) → Ready s → Owns c s x u y n → Did c s x u y n × Chained u.arena u.chains

-- ---- a list of runs, of any functions R with any arguments that their types hold (`Fits`) and any places: from s to v, and l are the calls that they made.
-- A run that answers 255 made none

abbrev pub Functions : Type 1
Functions = Call → Image → Places → Image → Places → ℕ → Type 0

pub data Runs (R : Functions) : Image → List Call → Image → Type 0 where
  none : {s : Image} → Runs R s [] s
  ran : {c : Call} {s u v : Image} {x y : Places} {l : List Call} {n : ℕ} → Fits c → R c s x u y n → n ≢ 255 → Runs R u l v → Runs R s (c ∷ l) v
  wrong : {c : Call} {s u v : Image} {x y : Places} {l : List Call} → R c s x u y 255 → Runs R u l v → Runs R s l v

-- a run that made the call c, at s: P holds of the call at the pair that the bytes are, and what the definitions say of number, pair and results is so
-- of the number that was returned and of the bytes that were left; arena and table pass together
pub record Goes (P : Call → Pair → Type 0) (c : Call) (s : Image) (x : Places) (u : Image) (y : Places) (n : ℕ) : Type 0 where
  pub holds : P c (pair_of s)
  pub number : n ≡ reason_of c (pair_of s)
  pub left : pair_of u ≡ next c (pair_of s)
  pub given : y ≡ handed c (pair_of s) x
  pub trusted : Passes u

-- so of each run of the list; one that answers 255 leaves all as it was
abbrev pub AlongRuns : {R : Functions} (P : Call → Pair → Type 0) {s v : Image} {l : List Call} → Runs R s l v → Type 0
AlongRuns P none = Unit
AlongRuns P (ran {c = c} {s = s} {u = u} {x = x} {y = y} {n = n} f r z m) = Goes P c s x u y n × AlongRuns P m
AlongRuns P (wrong {s = s} {u = u} {x = x} {y = y} r m) = Same s u × (y ≡ x) × AlongRuns P m

-- ---- one transport: what holds along the calls holds along the runs. I is what the start must be

abbrev pub Transports : Functions → (Image → Type 0) → Type 1
Transports R I = (P : Call → Pair → Type 0) (s v : Image) (l : List Call) (m : Runs R s l v) → I s → Along P (pair_of s) l → AlongRuns P m

-- of tested functions, from bytes that pass together
unfoldable pub Linked : Type 1
Linked = Transports Ran Passes

-- of an owner's: each finds what it requires
unfoldable pub OwnLinked : Type 1
OwnLinked = Transports Owns Ready

-- of both, mixed, where an owner's is run with chains that are the arena's
pub data Mixed (c : Call) (s : Image) (x : Places) (u : Image) (y : Places) (n : ℕ) : Type 0 where
  tested : Ran c s x u y n → Mixed c s x u y n
  owning : Chained s.arena s.chains → Owns c s x u y n → Mixed c s x u y n

unfoldable pub MixedLinked : Type 1
MixedLinked = Transports Mixed Passes

-- ---- the theorems of crates/sequences, so

-- the words are a handle that is live, and w's, in table t on node n, whose file is f
pub record Handles (words : List ℕ) (t : Table) (w n : ℕ) (f : List ℕ) : Type 0 where
  pub handle : Handle
  pub are : words ≡ handle_words handle
  pub on : On t w handle n f

-- they are one on another node than n, with another file than f
pub record OnAnother (words : List ℕ) (t : Table) (w n : ℕ) (f : List ℕ) : Type 0 where
  pub id : ℕ
  pub file : List ℕ
  pub handles : Handles words t w id file
  pub other-id : id ≢ n
  pub other-file : file ≢ f

module _ (R : Functions) (I : Image → Type 0) where
  -- `sequence`
  unfoldable pub RunsWell : Type 0
  RunsWell = (s v : Image) (l : List Call) (m : Runs R s l v) → I s → AlongRuns Well m

  -- `apart`
  unfoldable pub RunsApart : Type 0
  RunsApart = (s v : Image) (l : List Call) (m : Runs R s l v) (w : ℕ) (h : Handle) (n : ℕ) (f : List ℕ) → I s → On (pair_of s).table w h n f
      → Along (λ c q. c ≢ close w h) (pair_of s) l → AlongRuns (Safe w h n f) m

  -- its new nodes, by the words that a create gives with 0: where v's handle h is live on node n, they are one on another
  unfoldable pub RunsElse : Type 0
  RunsElse = (s u : Image) (x y : Places) (w : ℕ) (g : Handle) (name : List ℕ) (kind mode : ℕ) (time : Timespec) (file : List ℕ) (v : ℕ) (h : Handle) (n : ℕ) (f : List ℕ) → I s
      → Fits (create w g name kind mode time file) → R (create w g name kind mode time file) s x u y 0 → On (pair_of s).table v h n f → OnAnother y.words (pair_of u).table w n f

  -- `apart-by-owner`
  unfoldable pub RunsByOwner : Type 0
  RunsByOwner = (s v : Image) (l : List Call) (m : Runs R s l v) (w : ℕ) (h : Handle) (n : ℕ) (f : List ℕ) → I s → On (pair_of s).table w h n f
      → Along (λ c q. asker c ≢ w) (pair_of s) l → AlongRuns (Safe w h n f) m

  -- `refused-others`
  unfoldable pub RunsRefused : Type 0
  RunsRefused = (c : Call) (s u : Image) (x y : Places) (n w : ℕ) (h : Handle) (i : ℕ) → I s → Fits c → R c s x u y n → n ≢ 255
      → live_row (pair_of s).table w h ≡ Some i → Owner (asker c) → asker c ≢ w → Names h c → n ≡ bad_handle

  -- `full-means`: 16 says that the asker has no place left, and where he has none nothing is made
  unfoldable pub RunsFull : Type 0
  RunsFull = (c : Call) (s u : Image) (x y : Places) (n : ℕ) → I s → Fits c → R c s x u y n → n ≢ 255
      → (n ≡ table_full → can_hold (pair_of s).table (asker c) ≡ false) × (Makes c → can_hold (pair_of s).table (asker c) ≡ false → pair_of u ≡ pair_of s)

  -- `root-full`: root says it exactly there
  unfoldable pub RunsRootFull : Type 0
  RunsRootFull = (s u : Image) (x y : Places) (n w : ℕ) → I s → Fits (root w) → R (root w) s x u y n → n ≢ 255 → Owner w → (n ≡ table_full) ↔ (can_hold (pair_of s).table w ≡ false)

  -- `full-by-own`: of two images with one arena, whose tables are the same for him, both say it or neither
  unfoldable pub RunsFullByOwn : Type 0
  RunsFullByOwn = (c : Call) (s u t v : Image) (x y z q : Places) (n m : ℕ) → I s → I t → Fits c → R c s x u y n → R c t z v q m → n ≢ 255 → m ≢ 255
      → t.arena ≡ s.arena → SameFor (asker c) (pair_of s).table (pair_of t).table → Arrives s.arena (pair_of t).table c → n ≡ table_full → m ≡ table_full

  -- `closed` and `ended`: a close that answers 0, and then any runs
  unfoldable pub RunsClosed : Type 0
  RunsClosed = (s u v : Image) (x y : Places) (l : List Call) (w : ℕ) (h : Handle) → I s → Fits (close w h) → R (close w h) s x u y 0 → (m : Runs R u l v)
      → Spent (pair_of u).table h × AlongRuns (λ c q. Spent (next c q).table h) m

  -- `no-slashes`
  unfoldable pub RunsSlashless : Type 0
  RunsSlashless = (s v : Image) (l : List Call) (m : Runs R s l v) → I s → Slashless (pair_of s) → AlongRuns (λ c q. Slashless (next c q)) m

  -- `walk-as-finds`: where finds lead from h to g, in table t, a walk of the path from h gives a handle on g's node; or w has no place left
  unfoldable pub RunsWalk : Type 0
  RunsWalk = (s u : Image) (x y : Places) (n w : ℕ) (h g : Handle) (i j : ℕ) (path : List ℕ) (room : ℕ) (t : Table) → I s → Fits (walk w h path room)
      → R (walk w h path room) s x u y n → n ≢ 255 → live_row (pair_of s).table w h ≡ Some i → live_row t w g ≡ Some j → good_text path ≡ true → from_root path ≡ false
      → Finds s.arena w (pair_of s).table h (parts_of path) t g
      → ((n ≡ 0) × Handles y.words (pair_of u).table w (row_at t j).id (row_at t j).rec.file) ⊎ (n ≡ table_full)

  -- `halts-as-find`: and where the next find is refused, the walk is, with its reason
  unfoldable pub RunsHalt : Type 0
  RunsHalt = (s u : Image) (x y : Places) (n w : ℕ) (h g : Handle) (i : ℕ) (path : List ℕ) (room : ℕ) (t : Table) (ps : List (List ℕ)) (p : List ℕ) (qs : List (List ℕ)) (m : ℕ)
      → I s → Fits (walk w h path room) → R (walk w h path room) s x u y n → n ≢ 255 → live_row (pair_of s).table w h ≡ Some i → good_text path ≡ true → from_root path ≡ false
      → parts_of path ≡ ps ++ (p ∷ qs) → Finds s.arena w (pair_of s).table h ps t g → call_find s.arena t w g p ≡ refused m → m ≢ bad_name → m ≢ table_full → n ≡ m

  pub record Theorems : Type 0 where
    pub well : RunsWell
    pub apart : RunsApart
    pub else : RunsElse
    pub by-owner : RunsByOwner
    pub refused : RunsRefused
    pub full : RunsFull
    pub root-full : RunsRootFull
    pub full-by-own : RunsFullByOwn
    pub closed : RunsClosed
    pub slashless : RunsSlashless
    pub walk : RunsWalk
    pub halt : RunsHalt

-- ---- on any bytes, passed or not: a tested function's number is the reason of the definition, which is one of the call's own list, or 255. So each
-- theorem about `reason_of c p` (`refused-others`, `full-means`, `root-full` ..) is one about the number
unfoldable pub Numbers : Type 0
Numbers = (c : Call) (s u : Image) (x y : Places) (n : ℕ) → Ran c s x u y n → n ≢ 255 → (n ≡ reason_of c (pair_of s)) × ((n ≡ 0) ⊎ T (has (reasons_of c) n))

-- the check's number is its verdict
unfoldable pub CheckSays : Type 0
CheckSays = (κs : Lfts 3) (a t : ReadSlice) (out out' : Slice) (n : ℕ) → dz-check.Learnt κs (a & t & out & tt) n (a & t & out' & tt) → n ≢ 255 → n ≡ checked a.now (table_of t.now)

-- open, which is no call of a sequence, answers as its definition, and leaves the bytes of the empty table where it answers 0, and where it does not
-- those that were there
unfoldable pub OpenDoes : Type 0
OpenDoes = (κs : Lfts 2) (a : ReadSlice) (t t' : Slice) (n : ℕ) → dz-open.Learnt κs (a & t & tt) n (a & t' & tt) → n ≢ 255
    → (n ≡ answer (call_open a.now)) × (n ≡ 0 → t'.now ≡ bytes_of_table empty_table) × (n ≢ 0 → t'.now ≡ t.now)

-- format, which is none either, on arena a and table t, with that time and file name, left a' and t' and returned n: it answers as its definition, 0 or 1;
-- where it answers 0 the arena is the one that its definition gives, and the table's bytes are the empty table's; where it does not, both are as they were
pub record FormatDid (a t : List ℕ) (time : Timespec) (file a' t' : List ℕ) (n : ℕ) : Type 0 where
  pub number : n ≡ answer (call_format a time file)
  pub says : (n ≡ 0) ⊎ (n ≡ 1)
  pub made : n ≡ 0 → (call_format a time file ≡ done a') × (t' ≡ bytes_of_table empty_table)
  pub stays : n ≢ 0 → (a' ≡ a) × (t' ≡ t)

-- so of whatever its contract allows, but for 255 (of the arguments, what their types give)
unfoldable pub FormatDoes : Type 0
FormatDoes = (κs : Lfts 3) (a a' t t' : Slice) (file : ReadSlice) (sec nsec : ℤ) (n : ℕ) → Bytes a.now → TimeFits (time_of sec nsec) → Bytes file.now
    → dz-format.Learnt κs (a & t & sec & nsec & file & tt) n (a' & t' & sec & nsec & file & tt) → n ≢ 255
    → FormatDid a.now t.now (time_of sec nsec) file.now a'.now t'.now n

-- ---- how an owner begins, and goes on

-- a format that answers 0 (of the arguments, what their types give): arena and table pass, and no name has a slash
pub record FreshImage (a t : List ℕ) : Type 0 where
  pub trusted : Trusted a t
  pub slashless : Slashless (pair a (table_of t))

unfoldable pub FormatFresh : Type 0
FormatFresh = (κs : Lfts 3) (a a' t t' : Slice) (file : ReadSlice) (sec nsec : ℤ) → Bytes a.now → TimeFits (time_of sec nsec) → Bytes file.now
    → dz-format.Learnt κs (a & t & sec & nsec & file & tt) 0 (a' & t' & sec & nsec & file & tt) → FreshImage a'.now t'.now

-- or a check that answers 0
unfoldable pub CheckTrusts : Type 0
CheckTrusts = (κs : Lfts 3) (a t : ReadSlice) (out out' : Slice) → Bytes a.now → Bytes t.now → dz-check.Learnt κs (a & t & out & tt) 0 (a & t & out' & tt) → Trusted a.now t.now

-- and then chains that answer 0: what is kept is what each of an owner's functions requires
unfoldable pub ChainsOwn : Type 0
ChainsOwn = (κs : Lfts 2) (a : ReadSlice) (k k' : Slice) (t : List ℕ) → Trusted a.now t → own-chains.Learnt κs (a & k & tt) 0 (a & k' & tt)
    → Ready (image a.now k'.now t) × Owned a.now k'.now t

-- each of them keeps it
unfoldable pub OwnKeeps : Type 0
OwnKeeps = (c : Call) (s u : Image) (x y : Places) (n : ℕ) → Ready s → Fits c → Owns c s x u y n → Ready u × Owned u.arena u.chains u.table
