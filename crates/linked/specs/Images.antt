-- What a customer keeps and lends to the functions that it links, the pair that it is, and what it is that a function did a call.
use Rattle.std.specs.Prelude.{◌≡◌, List, [], ◌∷◌, ℕ, ◌+◌, ◌/◌, eqb, length}
use Rattle.std.specs.Borrow.{Bor, MutBor}
use Rattle.base.specs.Out.{done, refused}
use Rattle.base.specs.Parts.{paste}
use Rattle.base.specs.Search.{pick}
use Rattle.table_bytes.specs.Layout.{table_of, bytes_of_table}
use Rattle.sefs.specs.Open.{call_root, call_find}
use Rattle.sefs.specs.Create.{call_create}
use Rattle.sefs.specs.Read.{call_metadata, call_entry, call_listing}
use Rattle.sefs.specs.Contents.{call_read}
use Rattle.walk.specs.Walk.{call_walk}
use Rattle.paths.specs.Path.{call_path}
use Rattle.inventory.specs.Inventory.{call_inventory}
use Rattle.fsck.specs.Verdicts.{verdict_of}
use Rattle.edge_words.specs.Words.{handle_words, metadata_words}
use Rattle.edge.specs.Edge.{lent, counted}
use Rattle.owners_kept.specs.Owned.{Chained}
use Rattle.sequences.specs.Pairs.{Pair, pair, Passed}
use Rattle.sequences.specs.Calls.{Call, root, find, walk, create, link, remove_file, remove_folder, move, metadata, set_metadata, get_entry, listing, full_path, read, write, resize, fallocate, sync, close, check, inventory, mend, does}

-- a slice that may be written, as a contract sees it; `now` is what it holds
abbrev pub Slice : Type 0
Slice = MutBor (List ℕ)

-- one that is only read
abbrev pub ReadSlice : Type 0
ReadSlice = Bor (List ℕ)

-- a function's arguments, one after another
infixr 20 ◌&◌
abbrev pub ◌&◌ : {A B : Type 0} → A → B → A × B
a & b = (a, b)

-- ---- what is kept from call to call: the arena, its chains (an owner's; the other functions are not lent them), the table's bytes

pub record Image : Type 0 where
  pub arena : List ℕ
  pub chains : List ℕ
  pub table : List ℕ

abbrev pub image : List ℕ → List ℕ → List ℕ → Image
image a k t = record { arena = a; chains = k; table = t }

abbrev pub pair_of : Image → Pair
pair_of s = pair s.arena (table_of s.table)

-- no byte of arena and table has changed
pub record Same (s u : Image) : Type 0 where
  pub arena : u.arena ≡ s.arena
  pub table : u.table ≡ s.table

-- the arena a, and the bytes t of a table, pass together
pub record Trusted (a t : List ℕ) : Type 0 where
  pub size : length t ≡ 4402
  pub passes : Passed (pair a (table_of t))

-- so do those of the image
abbrev pub Passes : Image → Type 0
Passes s = Trusted s.arena s.table

-- and the chains beside it are the arena's: an owner's functions may be run
pub record Ready (s : Image) : Type 0 where
  pub trusted : Passes s
  pub chained : Chained s.arena s.chains

-- ---- what is lent for a call's results: words, an output, walk's link buffer. A function that has none of a kind is lent an empty one

pub record Places : Type 0 where
  pub words : List ℕ
  pub output : List ℕ
  pub links : List ℕ

abbrev pub places : List ℕ → List ℕ → List ℕ → Places
places w o l = record { words = w; output = o; links = l }

-- words alone
abbrev pub in_words : List ℕ → Places
in_words w = places w [] []

abbrev pub nowhere : Places
nowhere = in_words []

abbrev pub with_words : Places → List ℕ → Places
with_words x w = places w x.output x.links

-- what a call leaves there: a refusal what was there, but for the targets that a walk has read
unfoldable pub handed : Call → Pair → Places → Places
handed (root w) p x = lent (λ g. with_words x (handle_words g.handle)) x (call_root p.arena p.table w)
handed (find w h name) p x = lent (λ g. with_words x (handle_words g.handle)) x (call_find p.arena p.table w h name)
handed (walk w h path room) p x =
    let o = call_walk p.arena p.table w h path room in
    places (lent (λ g. handle_words g.handle) x.words o.end) x.output (paste x.links 0 o.links)
handed (create w h name kind mode time file) p x = lent (λ g. with_words x (handle_words g.handle)) x (call_create p.arena p.table w h name kind mode time file)
handed (link w h name child) p x = x
handed (remove_file w h name) p x = x
handed (remove_folder w h name) p x = x
handed (move w h old target name) p x = x
handed (metadata w h) p x = lent (λ m. with_words x (metadata_words m)) x (call_metadata p.arena p.table w h)
handed (set_metadata w h mode uid gid atime mtime ctime) p x = x
handed (get_entry w h k room) p x = lent (λ l. places x.words (paste x.output 0 l) x.links) x (call_entry p.arena p.table w h k room)
handed (listing w h next room) p x = lent (λ l. places ((next + length l / 264) ∷ []) (paste x.output 0 l) x.links) x (call_listing p.arena p.table w h next room)
handed (full_path w h room) p x = lent (λ l. places (length l ∷ []) (paste x.output 0 l) x.links) x (call_path p.arena p.table w h room)
handed (read w h place room) p x = lent (λ l. places (length l ∷ []) (paste x.output 0 l) x.links) x (call_read p.arena p.table w h place room)
handed (write w h place bytes) p x = x
handed (resize w h n) p x = x
handed (fallocate w h mode from len) p x = x
handed sync p x = x
handed (close w h) p x = x
handed check p x = lent (with_words x) x (counted (verdict_of p.arena p.table))
handed (inventory room) p x = lent (λ l. places (length l ∷ []) (paste x.output 0 l) x.links) x (call_inventory p.arena room)
handed mend p x = x

-- ---- the call c was made on s, with x lent for its results, and left u and y; n is its reason, 0 where it was done. On any bytes

-- u has the pair q that a call on s is done with: the table is written, as it is written; or its bytes stay
pub data Has (s u : Image) (q : Pair) : Type 0 where
  written : u.arena ≡ q.arena → u.table ≡ bytes_of_table q.table → Has s u q
  unwritten : u.arena ≡ q.arena → q.table ≡ table_of s.table → u.table ≡ s.table → Has s u q

pub data Did (c : Call) (s : Image) (x : Places) (u : Image) (y : Places) (n : ℕ) : Type 0 where
  did : {q : Pair} → does c (pair_of s) ≡ done q → Has s u q → y ≡ handed c (pair_of s) x → n ≡ 0 → Did c s x u y n
  denied : does c (pair_of s) ≡ refused n → Same s u → y ≡ handed c (pair_of s) x → Did c s x u y n
  -- a slice had not its fixed size: 255, and no call was made
  uncalled : Same s u → y ≡ x → n ≡ 255 → Did c s x u y n

-- the check refuses nothing: its number is a verdict, but for 255
abbrev pub reason_in : ℕ → ℕ
reason_in n = pick (eqb n 255) 255 0
