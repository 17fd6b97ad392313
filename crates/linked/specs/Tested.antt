-- What a run of a tested function (`dz_*` of `edge` and `edge_contents`) is: nothing but what its contract lets it leave. The contract itself is cited:
-- `Learnt` of a function is what its `ensures` tells a caller, over the arguments, the number returned, and the arguments at exit.
--
-- A new function needs one constructor here, or in Owning: as many lifetimes as it has references, each slice that it may write twice, its contract, and the call that
-- it is with the image and the places before and after. And one clause of `ran-did`, or `owns-did` (proofs/Functions): `answers-did`, where the slices that it may write
-- stand, one `fixed` for each `sized`, outermost first, and `refl` where `handed` and `does` have the call's own outcome.
use Rattle.std.specs.Prelude.{List, [], ℕ, ℤ, length}
use contract.Lifetimes.{Lfts}
use Rattle.ranges.specs.Modes.{mode_of}
use Rattle.edge_words.specs.Words.{handle_of, time_of}
use Rattle.edge.specs.Edge.{start_in}
use Rattle.edge.proofs.dz_root.Reads as dz-root
use Rattle.edge.proofs.dz_find.Reads as dz-find
use Rattle.edge.proofs.dz_walk.Reads as dz-walk
use Rattle.edge.proofs.dz_create.Reads as dz-create
use Rattle.edge.proofs.dz_link.Reads as dz-link
use Rattle.edge.proofs.dz_remove_file.Reads as dz-remove-file
use Rattle.edge.proofs.dz_remove_folder.Reads as dz-remove-folder
use Rattle.edge.proofs.dz_move.Reads as dz-move
use Rattle.edge.proofs.dz_metadata.Reads as dz-metadata
use Rattle.edge.proofs.dz_set_metadata.Reads as dz-set-metadata
use Rattle.edge_contents.proofs.dz_get_entry.Reads as dz-get-entry
use Rattle.edge_contents.proofs.dz_list.Reads as dz-list
use Rattle.edge_contents.proofs.dz_path.Reads as dz-path
use Rattle.edge_contents.proofs.dz_read.Reads as dz-read
use Rattle.edge_contents.proofs.dz_write.Reads as dz-write
use Rattle.edge_contents.proofs.dz_resize.Reads as dz-resize
use Rattle.edge_contents.proofs.dz_fallocate.Reads as dz-fallocate
use Rattle.edge.proofs.dz_sync.Reads as dz-sync
use Rattle.edge.proofs.dz_close.Reads as dz-close
use Rattle.edge.proofs.dz_check.Reads as dz-check
use Rattle.edge.proofs.dz_inventory.Reads as dz-inventory
use Rattle.edge.proofs.dz_mend.Reads as dz-mend
use Rattle.sequences.specs.Calls.{Call, root, find, walk, create, link, remove_file, remove_folder, move, metadata, set_metadata, get_entry, listing, full_path, read, write, resize, fallocate, sync, close, check, inventory, mend}
use Rattle.linked.specs.Images.{◌&◌, Slice, ReadSlice, Image, image, Places, places, in_words, nowhere, reason_in}

-- a primed slice is the slice at exit; k are the chains, that the function is not lent
pub data Ran : Call → Image → Places → Image → Places → ℕ → Type 0 where
  roots : (κs : Lfts 3) (a : ReadSlice) (t t' out out' : Slice) (w n : ℕ) {k : List ℕ}
      → dz-root.Learnt κs (a & t & w & out & tt) n (a & t' & w & out' & tt)
      → Ran (root w) (image a.now k t.now) (in_words out.now) (image a.now k t'.now) (in_words out'.now) n
  finds : (κs : Lfts 4) (a : ReadSlice) (t t' : Slice) (name : ReadSlice) (out out' : Slice) (w hold stamp n : ℕ) {k : List ℕ}
      → dz-find.Learnt κs (a & t & w & hold & stamp & name & out & tt) n (a & t' & w & hold & stamp & name & out' & tt)
      → Ran (find w (handle_of hold stamp) name.now) (image a.now k t.now) (in_words out.now) (image a.now k t'.now) (in_words out'.now) n
  walks : (κs : Lfts 5) (a : ReadSlice) (t t' : Slice) (path : ReadSlice) (links links' out out' : Slice) (w hold stamp n : ℕ) {k : List ℕ}
      → dz-walk.Learnt κs (a & t & w & hold & stamp & path & links & out & tt) n (a & t' & w & hold & stamp & path & links' & out' & tt)
      → Ran (walk w (handle_of hold stamp) path.now (length links.now)) (image a.now k t.now) (places out.now [] links.now) (image a.now k t'.now) (places out'.now [] links'.now) n
  creates : (κs : Lfts 5) (a a' t t' : Slice) (name file : ReadSlice) (out out' : Slice) (w hold stamp kind mode n : ℕ) (sec nsec : ℤ) {k : List ℕ}
      → dz-create.Learnt κs (a & t & w & hold & stamp & name & kind & mode & sec & nsec & file & out & tt) n (a' & t' & w & hold & stamp & name & kind & mode & sec & nsec & file & out' & tt)
      → Ran (create w (handle_of hold stamp) name.now kind mode (time_of sec nsec) file.now) (image a.now k t.now) (in_words out.now) (image a'.now k t'.now) (in_words out'.now) n
  links : (κs : Lfts 3) (a a' t t' : Slice) (name : ReadSlice) (w hold stamp chold cstamp n : ℕ) {k : List ℕ}
      → dz-link.Learnt κs (a & t & w & hold & stamp & name & chold & cstamp & tt) n (a' & t' & w & hold & stamp & name & chold & cstamp & tt)
      → Ran (link w (handle_of hold stamp) name.now (handle_of chold cstamp)) (image a.now k t.now) nowhere (image a'.now k t'.now) nowhere n
  removes-file : (κs : Lfts 3) (a a' t t' : Slice) (name : ReadSlice) (w hold stamp n : ℕ) {k : List ℕ}
      → dz-remove-file.Learnt κs (a & t & w & hold & stamp & name & tt) n (a' & t' & w & hold & stamp & name & tt)
      → Ran (remove_file w (handle_of hold stamp) name.now) (image a.now k t.now) nowhere (image a'.now k t'.now) nowhere n
  removes-folder : (κs : Lfts 3) (a a' t t' : Slice) (name : ReadSlice) (w hold stamp n : ℕ) {k : List ℕ}
      → dz-remove-folder.Learnt κs (a & t & w & hold & stamp & name & tt) n (a' & t' & w & hold & stamp & name & tt)
      → Ran (remove_folder w (handle_of hold stamp) name.now) (image a.now k t.now) nowhere (image a'.now k t'.now) nowhere n
  moves : (κs : Lfts 4) (a a' t t' : Slice) (old name : ReadSlice) (w hold stamp thold tstamp n : ℕ) {k : List ℕ}
      → dz-move.Learnt κs (a & t & w & hold & stamp & old & thold & tstamp & name & tt) n (a' & t' & w & hold & stamp & old & thold & tstamp & name & tt)
      → Ran (move w (handle_of hold stamp) old.now (handle_of thold tstamp) name.now) (image a.now k t.now) nowhere (image a'.now k t'.now) nowhere n
  tells : (κs : Lfts 3) (a t : ReadSlice) (out out' : Slice) (w hold stamp n : ℕ) {k : List ℕ}
      → dz-metadata.Learnt κs (a & t & w & hold & stamp & out & tt) n (a & t & w & hold & stamp & out' & tt)
      → Ran (metadata w (handle_of hold stamp)) (image a.now k t.now) (in_words out.now) (image a.now k t.now) (in_words out'.now) n
  sets : (κs : Lfts 2) (a : ReadSlice) (t t' : Slice) (w hold stamp mode uid gid n : ℕ) (asec ansec msec mnsec csec cnsec : ℤ) {k : List ℕ}
      → dz-set-metadata.Learnt κs (a & t & w & hold & stamp & mode & uid & gid & asec & ansec & msec & mnsec & csec & cnsec & tt) n (a & t' & w & hold & stamp & mode & uid & gid & asec & ansec & msec & mnsec & csec & cnsec & tt)
      → Ran (set_metadata w (handle_of hold stamp) mode uid gid (time_of asec ansec) (time_of msec mnsec) (time_of csec cnsec)) (image a.now k t.now) nowhere (image a.now k t'.now) nowhere n
  enters : (κs : Lfts 3) (a t : ReadSlice) (out out' : Slice) (w hold stamp slot n : ℕ) {k : List ℕ}
      → dz-get-entry.Learnt κs (a & t & w & hold & stamp & slot & out & tt) n (a & t & w & hold & stamp & slot & out' & tt)
      → Ran (get_entry w (handle_of hold stamp) slot (length out.now)) (image a.now k t.now) (places [] out.now []) (image a.now k t.now) (places [] out'.now []) n
  lists : (κs : Lfts 4) (a t : ReadSlice) (next next' out out' : Slice) (w hold stamp dots n : ℕ) {k : List ℕ}
      → dz-list.Learnt κs (a & t & w & hold & stamp & next & dots & out & tt) n (a & t & w & hold & stamp & next' & dots & out' & tt)
      → Ran (listing w (handle_of hold stamp) (start_in dots next.now) (length out.now)) (image a.now k t.now) (places next.now out.now []) (image a.now k t.now) (places next'.now out'.now []) n
  paths : (κs : Lfts 4) (a t : ReadSlice) (out out' count count' : Slice) (w hold stamp n : ℕ) {k : List ℕ}
      → dz-path.Learnt κs (a & t & w & hold & stamp & out & count & tt) n (a & t & w & hold & stamp & out' & count' & tt)
      → Ran (full_path w (handle_of hold stamp) (length out.now)) (image a.now k t.now) (places count.now out.now []) (image a.now k t.now) (places count'.now out'.now []) n
  reads : (κs : Lfts 4) (a t : ReadSlice) (out out' count count' : Slice) (w hold stamp place n : ℕ) {k : List ℕ}
      → dz-read.Learnt κs (a & t & w & hold & stamp & place & out & count & tt) n (a & t & w & hold & stamp & place & out' & count' & tt)
      → Ran (read w (handle_of hold stamp) place (length out.now)) (image a.now k t.now) (places count.now out.now []) (image a.now k t.now) (places count'.now out'.now []) n
  writes : (κs : Lfts 3) (a a' t t' : Slice) (src : ReadSlice) (w hold stamp place n : ℕ) {k : List ℕ}
      → dz-write.Learnt κs (a & t & w & hold & stamp & place & src & tt) n (a' & t' & w & hold & stamp & place & src & tt)
      → Ran (write w (handle_of hold stamp) place src.now) (image a.now k t.now) nowhere (image a'.now k t'.now) nowhere n
  resizes : (κs : Lfts 2) (a a' t t' : Slice) (w hold stamp size n : ℕ) {k : List ℕ}
      → dz-resize.Learnt κs (a & t & w & hold & stamp & size & tt) n (a' & t' & w & hold & stamp & size & tt)
      → Ran (resize w (handle_of hold stamp) size) (image a.now k t.now) nowhere (image a'.now k t'.now) nowhere n
  fallocates : (κs : Lfts 2) (a a' t t' : Slice) (w hold stamp mode flags from len n : ℕ) {k : List ℕ}
      → dz-fallocate.Learnt κs (a & t & w & hold & stamp & mode & flags & from & len & tt) n (a' & t' & w & hold & stamp & mode & flags & from & len & tt)
      → Ran (fallocate w (handle_of hold stamp) (mode_of mode flags) from len) (image a.now k t.now) nowhere (image a'.now k t'.now) nowhere n
  syncs : (κs : Lfts 2) (a a' t t' : Slice) (n : ℕ) {k : List ℕ}
      → dz-sync.Learnt κs (a & t & tt) n (a' & t' & tt)
      → Ran sync (image a.now k t.now) nowhere (image a'.now k t'.now) nowhere n
  closes : (κs : Lfts 2) (a a' t t' : Slice) (w hold stamp n : ℕ) {k : List ℕ}
      → dz-close.Learnt κs (a & t & w & hold & stamp & tt) n (a' & t' & w & hold & stamp & tt)
      → Ran (close w (handle_of hold stamp)) (image a.now k t.now) nowhere (image a'.now k t'.now) nowhere n
  checks : (κs : Lfts 3) (a t : ReadSlice) (out out' : Slice) (n : ℕ) {k : List ℕ}
      → dz-check.Learnt κs (a & t & out & tt) n (a & t & out' & tt)
      → Ran check (image a.now k t.now) (in_words out.now) (image a.now k t.now) (in_words out'.now) (reason_in n)
  -- which is not lent the table
  inventories : (κs : Lfts 3) (a : ReadSlice) (out out' count count' : Slice) (n : ℕ) {k t : List ℕ}
      → dz-inventory.Learnt κs (a & out & count & tt) n (a & out' & count' & tt)
      → Ran (inventory (length out.now)) (image a.now k t) (places count.now out.now []) (image a.now k t) (places count'.now out'.now []) n
  mends : (κs : Lfts 2) (a a' : Slice) (t : ReadSlice) (n : ℕ) {k : List ℕ}
      → dz-mend.Learnt κs (a & t & tt) n (a' & t & tt)
      → Ran mend (image a.now k t.now) nowhere (image a'.now k t.now) nowhere n
