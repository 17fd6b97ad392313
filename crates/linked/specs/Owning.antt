-- What a run of an owner's function (`dz_own_*` of `owners` and `owners_contents`) is: what its contract lets it leave where what it requires holds (`Asked`, which is
-- `Owned`). Where it does not, the run may leave anything.
use Rattle.std.specs.Prelude.{[], ℕ, ℤ, length}
use contract.Lifetimes.{Lfts}
use Rattle.ranges.specs.Modes.{mode_of}
use Rattle.edge_words.specs.Words.{handle_of, time_of}
use Rattle.edge.specs.Edge.{start_in}
use Rattle.owners.proofs.dz_own_root.Reads as own-root
use Rattle.owners.proofs.dz_own_find.Reads as own-find
use Rattle.owners.proofs.dz_own_walk.Reads as own-walk
use Rattle.owners.proofs.dz_own_create.Reads as own-create
use Rattle.owners.proofs.dz_own_link.Reads as own-link
use Rattle.owners.proofs.dz_own_remove_file.Reads as own-remove-file
use Rattle.owners.proofs.dz_own_remove_folder.Reads as own-remove-folder
use Rattle.owners.proofs.dz_own_move.Reads as own-move
use Rattle.owners.proofs.dz_own_metadata.Reads as own-metadata
use Rattle.owners.proofs.dz_own_set_metadata.Reads as own-set-metadata
use Rattle.owners_contents.proofs.dz_own_get_entry.Reads as own-get-entry
use Rattle.owners_contents.proofs.dz_own_list.Reads as own-list
use Rattle.owners_contents.proofs.dz_own_path.Reads as own-path
use Rattle.owners_contents.proofs.dz_own_read.Reads as own-read
use Rattle.owners_contents.proofs.dz_own_write.Reads as own-write
use Rattle.owners_contents.proofs.dz_own_resize.Reads as own-resize
use Rattle.owners_contents.proofs.dz_own_fallocate.Reads as own-fallocate
use Rattle.owners.proofs.dz_own_sync.Reads as own-sync
use Rattle.owners.proofs.dz_own_close.Reads as own-close
use Rattle.sequences.specs.Calls.{Call, root, find, walk, create, link, remove_file, remove_folder, move, metadata, set_metadata, get_entry, listing, full_path, read, write, resize, fallocate, sync, close}
use Rattle.linked.specs.Images.{◌&◌, Slice, ReadSlice, Image, image, Places, places, in_words, nowhere}

pub data Owns : Call → Image → Places → Image → Places → ℕ → Type 0 where
  roots : (κs : Lfts 4) (a k : ReadSlice) (t t' out out' : Slice) (w n : ℕ)
      → (own-root.Asked κs (a & k & t & w & out & tt)
      → own-root.Learnt κs (a & k & t & w & out & tt) n (a & k & t' & w & out' & tt))
      → Owns (root w) (image a.now k.now t.now) (in_words out.now) (image a.now k.now t'.now) (in_words out'.now) n
  finds : (κs : Lfts 5) (a k : ReadSlice) (t t' : Slice) (name : ReadSlice) (out out' : Slice) (w hold stamp n : ℕ)
      → (own-find.Asked κs (a & k & t & w & hold & stamp & name & out & tt)
      → own-find.Learnt κs (a & k & t & w & hold & stamp & name & out & tt) n (a & k & t' & w & hold & stamp & name & out' & tt))
      → Owns (find w (handle_of hold stamp) name.now) (image a.now k.now t.now) (in_words out.now) (image a.now k.now t'.now) (in_words out'.now) n
  walks : (κs : Lfts 6) (a k : ReadSlice) (t t' : Slice) (path : ReadSlice) (links links' out out' : Slice) (w hold stamp n : ℕ)
      → (own-walk.Asked κs (a & k & t & w & hold & stamp & path & links & out & tt)
      → own-walk.Learnt κs (a & k & t & w & hold & stamp & path & links & out & tt) n (a & k & t' & w & hold & stamp & path & links' & out' & tt))
      → Owns (walk w (handle_of hold stamp) path.now (length links.now)) (image a.now k.now t.now) (places out.now [] links.now) (image a.now k.now t'.now) (places out'.now [] links'.now) n
  creates : (κs : Lfts 6) (a a' k k' t t' : Slice) (name file : ReadSlice) (out out' : Slice) (w hold stamp kind mode n : ℕ) (sec nsec : ℤ)
      → (own-create.Asked κs (a & k & t & w & hold & stamp & name & kind & mode & sec & nsec & file & out & tt)
      → own-create.Learnt κs (a & k & t & w & hold & stamp & name & kind & mode & sec & nsec & file & out & tt) n (a' & k' & t' & w & hold & stamp & name & kind & mode & sec & nsec & file & out' & tt))
      → Owns (create w (handle_of hold stamp) name.now kind mode (time_of sec nsec) file.now) (image a.now k.now t.now) (in_words out.now) (image a'.now k'.now t'.now) (in_words out'.now) n
  links : (κs : Lfts 4) (a a' k k' t t' : Slice) (name : ReadSlice) (w hold stamp chold cstamp n : ℕ)
      → (own-link.Asked κs (a & k & t & w & hold & stamp & name & chold & cstamp & tt)
      → own-link.Learnt κs (a & k & t & w & hold & stamp & name & chold & cstamp & tt) n (a' & k' & t' & w & hold & stamp & name & chold & cstamp & tt))
      → Owns (link w (handle_of hold stamp) name.now (handle_of chold cstamp)) (image a.now k.now t.now) nowhere (image a'.now k'.now t'.now) nowhere n
  removes-file : (κs : Lfts 4) (a a' k k' t t' : Slice) (name : ReadSlice) (w hold stamp n : ℕ)
      → (own-remove-file.Asked κs (a & k & t & w & hold & stamp & name & tt)
      → own-remove-file.Learnt κs (a & k & t & w & hold & stamp & name & tt) n (a' & k' & t' & w & hold & stamp & name & tt))
      → Owns (remove_file w (handle_of hold stamp) name.now) (image a.now k.now t.now) nowhere (image a'.now k'.now t'.now) nowhere n
  removes-folder : (κs : Lfts 4) (a a' k k' t t' : Slice) (name : ReadSlice) (w hold stamp n : ℕ)
      → (own-remove-folder.Asked κs (a & k & t & w & hold & stamp & name & tt)
      → own-remove-folder.Learnt κs (a & k & t & w & hold & stamp & name & tt) n (a' & k' & t' & w & hold & stamp & name & tt))
      → Owns (remove_folder w (handle_of hold stamp) name.now) (image a.now k.now t.now) nowhere (image a'.now k'.now t'.now) nowhere n
  moves : (κs : Lfts 5) (a a' k k' t t' : Slice) (old name : ReadSlice) (w hold stamp thold tstamp n : ℕ)
      → (own-move.Asked κs (a & k & t & w & hold & stamp & old & thold & tstamp & name & tt)
      → own-move.Learnt κs (a & k & t & w & hold & stamp & old & thold & tstamp & name & tt) n (a' & k' & t' & w & hold & stamp & old & thold & tstamp & name & tt))
      → Owns (move w (handle_of hold stamp) old.now (handle_of thold tstamp) name.now) (image a.now k.now t.now) nowhere (image a'.now k'.now t'.now) nowhere n
  tells : (κs : Lfts 4) (a k t : ReadSlice) (out out' : Slice) (w hold stamp n : ℕ)
      → (own-metadata.Asked κs (a & k & t & w & hold & stamp & out & tt)
      → own-metadata.Learnt κs (a & k & t & w & hold & stamp & out & tt) n (a & k & t & w & hold & stamp & out' & tt))
      → Owns (metadata w (handle_of hold stamp)) (image a.now k.now t.now) (in_words out.now) (image a.now k.now t.now) (in_words out'.now) n
  sets : (κs : Lfts 3) (a k : ReadSlice) (t t' : Slice) (w hold stamp mode uid gid n : ℕ) (asec ansec msec mnsec csec cnsec : ℤ)
      → (own-set-metadata.Asked κs (a & k & t & w & hold & stamp & mode & uid & gid & asec & ansec & msec & mnsec & csec & cnsec & tt)
      → own-set-metadata.Learnt κs (a & k & t & w & hold & stamp & mode & uid & gid & asec & ansec & msec & mnsec & csec & cnsec & tt) n (a & k & t' & w & hold & stamp & mode & uid & gid & asec & ansec & msec & mnsec & csec & cnsec & tt))
      → Owns (set_metadata w (handle_of hold stamp) mode uid gid (time_of asec ansec) (time_of msec mnsec) (time_of csec cnsec)) (image a.now k.now t.now) nowhere (image a.now k.now t'.now) nowhere n
  enters : (κs : Lfts 4) (a k t : ReadSlice) (out out' : Slice) (w hold stamp slot n : ℕ)
      → (own-get-entry.Asked κs (a & k & t & w & hold & stamp & slot & out & tt)
      → own-get-entry.Learnt κs (a & k & t & w & hold & stamp & slot & out & tt) n (a & k & t & w & hold & stamp & slot & out' & tt))
      → Owns (get_entry w (handle_of hold stamp) slot (length out.now)) (image a.now k.now t.now) (places [] out.now []) (image a.now k.now t.now) (places [] out'.now []) n
  lists : (κs : Lfts 5) (a k t : ReadSlice) (next next' out out' : Slice) (w hold stamp dots n : ℕ)
      → (own-list.Asked κs (a & k & t & w & hold & stamp & next & dots & out & tt)
      → own-list.Learnt κs (a & k & t & w & hold & stamp & next & dots & out & tt) n (a & k & t & w & hold & stamp & next' & dots & out' & tt))
      → Owns (listing w (handle_of hold stamp) (start_in dots next.now) (length out.now)) (image a.now k.now t.now) (places next.now out.now []) (image a.now k.now t.now) (places next'.now out'.now []) n
  paths : (κs : Lfts 5) (a k t : ReadSlice) (out out' count count' : Slice) (w hold stamp n : ℕ)
      → (own-path.Asked κs (a & k & t & w & hold & stamp & out & count & tt)
      → own-path.Learnt κs (a & k & t & w & hold & stamp & out & count & tt) n (a & k & t & w & hold & stamp & out' & count' & tt))
      → Owns (full_path w (handle_of hold stamp) (length out.now)) (image a.now k.now t.now) (places count.now out.now []) (image a.now k.now t.now) (places count'.now out'.now []) n
  reads : (κs : Lfts 5) (a k t : ReadSlice) (out out' count count' : Slice) (w hold stamp place n : ℕ)
      → (own-read.Asked κs (a & k & t & w & hold & stamp & place & out & count & tt)
      → own-read.Learnt κs (a & k & t & w & hold & stamp & place & out & count & tt) n (a & k & t & w & hold & stamp & place & out' & count' & tt))
      → Owns (read w (handle_of hold stamp) place (length out.now)) (image a.now k.now t.now) (places count.now out.now []) (image a.now k.now t.now) (places count'.now out'.now []) n
  writes : (κs : Lfts 4) (a a' k k' t t' : Slice) (src : ReadSlice) (w hold stamp place n : ℕ)
      → (own-write.Asked κs (a & k & t & w & hold & stamp & place & src & tt)
      → own-write.Learnt κs (a & k & t & w & hold & stamp & place & src & tt) n (a' & k' & t' & w & hold & stamp & place & src & tt))
      → Owns (write w (handle_of hold stamp) place src.now) (image a.now k.now t.now) nowhere (image a'.now k'.now t'.now) nowhere n
  resizes : (κs : Lfts 3) (a a' k k' t t' : Slice) (w hold stamp size n : ℕ)
      → (own-resize.Asked κs (a & k & t & w & hold & stamp & size & tt)
      → own-resize.Learnt κs (a & k & t & w & hold & stamp & size & tt) n (a' & k' & t' & w & hold & stamp & size & tt))
      → Owns (resize w (handle_of hold stamp) size) (image a.now k.now t.now) nowhere (image a'.now k'.now t'.now) nowhere n
  fallocates : (κs : Lfts 3) (a a' k k' t t' : Slice) (w hold stamp mode flags from len n : ℕ)
      → (own-fallocate.Asked κs (a & k & t & w & hold & stamp & mode & flags & from & len & tt)
      → own-fallocate.Learnt κs (a & k & t & w & hold & stamp & mode & flags & from & len & tt) n (a' & k' & t' & w & hold & stamp & mode & flags & from & len & tt))
      → Owns (fallocate w (handle_of hold stamp) (mode_of mode flags) from len) (image a.now k.now t.now) nowhere (image a'.now k'.now t'.now) nowhere n
  syncs : (κs : Lfts 3) (a a' k k' t t' : Slice) (n : ℕ)
      → (own-sync.Asked κs (a & k & t & tt)
      → own-sync.Learnt κs (a & k & t & tt) n (a' & k' & t' & tt))
      → Owns sync (image a.now k.now t.now) nowhere (image a'.now k'.now t'.now) nowhere n
  closes : (κs : Lfts 3) (a a' k k' t t' : Slice) (w hold stamp n : ℕ)
      → (own-close.Asked κs (a & k & t & w & hold & stamp & tt)
      → own-close.Learnt κs (a & k & t & w & hold & stamp & tt) n (a' & k' & t' & w & hold & stamp & tt))
      → Owns (close w (handle_of hold stamp)) (image a.now k.now t.now) nowhere (image a'.now k'.now t'.now) nowhere n
