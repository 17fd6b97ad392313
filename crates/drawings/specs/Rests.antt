-- A drawing that nobody has open: she saves, closes and goes home. Whatever the others call meanwhile, what she saved is there.
use Rattle.std.specs.Prelude.{◌≡◌, true, false, List, ◌≢◌, ℕ, ◌≤◌, ◌<◌, length}
use Rattle.base.specs.Out.{done}
use Rattle.structs.specs.Types.{is_folder}
use Rattle.utf8.specs.Names.{name_of}
use Rattle.table.specs.declared.Handle.{Handle}
use Rattle.table.specs.declared.Added.{Added}
use Rattle.sefs.specs.Open.{call_find}
use Rattle.sefs.specs.Contents.{call_read}
use Rattle.rules.specs.Image.{is_node, rec_of, is_folder_at, slot_in}
use Rattle.sequences.specs.Pairs.{Pair, Passed}
use Rattle.sequences.specs.Calls.{Call, find, Fits, reason_of, next}
use Rattle.sequences.specs.Promises.{Along, On, SameFile, Through}
use Rattle.drawings.specs.Saved.{led, Saves}

-- n is a node, and no folder, whether open or not
pub record Drawing (n : ℕ) (p : Pair) : Type 0 where
  pub node : is_node p.arena n ≡ true
  pub no-folder : is_folder (rec_of p.arena p.table n).kind ≡ false

-- in pairs p and q node n has the same type, file name and size, cached or stored, and its file the same length and bytes
pub record SameNode (n : ℕ) (p q : Pair) : Type 0 where
  pub kind : (rec_of q.arena q.table n).kind ≡ (rec_of p.arena p.table n).kind
  pub file : (rec_of q.arena q.table n).file ≡ (rec_of p.arena p.table n).file
  pub size : (rec_of q.arena q.table n).size ≡ (rec_of p.arena p.table n).size
  pub bytes : SameFile (rec_of p.arena p.table n).file p.arena q.arena

-- a call, whoever's, that leaves the drawing: no write, resize or fallocate is done through a handle on node n, and n is a node afterwards. Opening
-- it, closing it, its names and its metadata are free. (A number that is no node's any more may become another's; when it stays one is said below.)
pub record LeavesBe (n : ℕ) (c : Call) (p : Pair) : Type 0 where
  pub fits : Fits c
  pub not_written : Through n p.table c → reason_of c p ≢ 0
  pub stays-node : is_node (next c p).arena n ≡ true

-- one call, from a passed pair
unfoldable pub Rests : Type 0
Rests = (p : Pair) (c : Call) (n : ℕ) → Passed p → Drawing n p → LeavesBe n c p → SameNode n p (next c p)

-- any list of calls: all is as it was, and it may go on from there
pub record Rested (n : ℕ) (p q : Pair) : Type 0 where
  pub passes : Passed q
  pub drawing : Drawing n q
  pub same : SameNode n p q

unfoldable pub RestsAlong : Type 0
RestsAlong = (p : Pair) (l : List Call) (n : ℕ) → Passed p → Drawing n p → Along (LeavesBe n) p l → Rested n p (led p l)

-- ---- when a node stays one: while a folder's later slot names it, or a handle on it is live

-- slot k of folder d names node n
pub record NamedAt (d k n : ℕ) (p : Pair) : Type 0 where
  pub folder : is_folder_at p.arena p.table d ≡ true
  pub later : 2 ≤ k
  pub inside : k < (rec_of p.arena p.table d).blocks
  pub names : (slot_in p.arena (rec_of p.arena p.table d) k).id ≡ n

-- folder d has this name for node n
pub record Named (d : ℕ) (name : List ℕ) (n : ℕ) (p : Pair) : Type 0 where
  pub slot : ℕ
  pub at : NamedAt d slot n p
  pub is : name_of (slot_in p.arena (rec_of p.arena p.table d) slot).name ≡ name

unfoldable pub NodeNamed : Type 0
NodeNamed = (p : Pair) (d k n : ℕ) → Passed p → NamedAt d k n p → is_node p.arena n ≡ true

unfoldable pub NodeHeld : Type 0
NodeHeld = (p : Pair) (w : ℕ) (h : Handle) (n : ℕ) (f : List ℕ) → Passed p → On p.table w h n f → is_node p.arena n ≡ true

-- so a number that is no node's, in a passed pair, has lost its last link and its last hold
pub record Unreached (n : ℕ) (p : Pair) : Type 0 where
  pub unnamed : (d k : ℕ) → NamedAt d k n p → ⊥
  pub unheld : (w : ℕ) (h : Handle) (f : List ℕ) → On p.table w h n f → ⊥

unfoldable pub GoneOnly : Type 0
GoneOnly = (p : Pair) (n : ℕ) → Passed p → is_node p.arena n ≡ false → Unreached n p

-- ---- the sentence

-- from a passed pair she saves; then come any calls that leave the drawing, her close of h among them: then a read of the place, through any handle
-- g on n, whoever's and whenever given, gives what she wrote
unfoldable pub ClosedAndKept : Type 0
ClosedAndKept = (p q : Pair) (l : List Call) (w v : ℕ) (h g : Handle) (n : ℕ) (f e : List ℕ) (place : ℕ) (bytes : List ℕ)
    → Passed p → Saves w h n f place bytes p q → Along (LeavesBe n) q l → On (led q l).table v g n e
    → call_read (led q l).arena (led q l).table v g place (length bytes) ≡ done bytes

-- not only what she wrote: any read through such a handle gives what it gave by h before those calls
unfoldable pub ReadRests : Type 0
ReadRests = (p : Pair) (l : List Call) (w v : ℕ) (h g : Handle) (n : ℕ) (f e : List ℕ) (at room : ℕ)
    → Passed p → Drawing n p → On p.table w h n f → Along (LeavesBe n) p l → On (led p l).table v g n e
    → call_read (led p l).arena (led p l).table v g at room ≡ call_read p.arena p.table w h at room

-- and where a folder d still has a name for it, v, who has a handle g on that folder, finds it by name and reads it
unfoldable pub FoundAndKept : Type 0
FoundAndKept = (p q : Pair) (l : List Call) (w v : ℕ) (h g : Handle) (n d : ℕ) (f e name : List ℕ) (place : ℕ) (bytes : List ℕ) (x : Added)
    → Passed p → Saves w h n f place bytes p q → Along (LeavesBe n) q l → On (led q l).table v g d e
    → Named d name n (led q l) → Fits (find v g name) → call_find (led q l).arena (led q l).table v g name ≡ done x
    → call_read (led q l).arena x.table v x.handle place (length bytes) ≡ done bytes
