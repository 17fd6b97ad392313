-- A tiny case, computed: folder `B` in root. Two files of one block each beside their heads; what no block holds reads as zeros.
use mathlib.Core.Path.{◌≡◌, refl, sym, ap, ◌∙◌}
use mathlib.Core.Bool.{true, false}
use mathlib.Core.List.{List, [], ◌∷◌, ◌++◌}
use Prim.Native.Nat.{ℕ}
use native.Mathlib.Omega.{arith}
use lib.ListN.{replicate}
use borrow.Author.Tests.{eq-eqb}
use Rattle.base.specs.Count.{sum_to, count_to}
use Rattle.base.specs.Out.{done, refused, bind}
use Rattle.base.specs.Decides.{same}
use Rattle.base.specs.Parts.{tab}
use Rattle.base.specs.Search.{lowest, found_below}
use Rattle.base.proofs.Outs.{ok-does}
use Rattle.le.specs.Le.{le_of, le_bytes, le_at}
use Rattle.structs.specs.Constants.{type_dir}
use Rattle.structs.specs.Layout.{entry_of}
use Rattle.structs.specs.declared.DiskINode.{DiskINode}
use Rattle.maps.specs.Maps.{bit_of, bit_at}
use Rattle.utf8.specs.Utf8.{within, lead, tail, step, after, utf8}
use Rattle.utf8.specs.Names.{zero_at, has_zero, stored_name}
use Rattle.table.specs.Zero.{zero_time}
use Rattle.table.specs.declared.Table.{Table}
use Rattle.table.specs.declared.Handle.{Handle}
use Rattle.table.specs.Table.{empty_table, row_of, own_holds, can_hold}
use Rattle.table_laws.specs.Rules.{Owner}
use Rattle.arena.specs.Blocks.{blk}
use Rattle.arena.specs.Fields.{same_file, is_head, is_data}
use Rattle.arena.specs.Places.{head_of, data_of}
use Rattle.files.specs.Read.{there, length_of, present, byte_at, read_file}
use Rattle.sefs.specs.State.{Fs}
use Rattle.sefs.specs.Meta.{is_used}
use Rattle.sefs.specs.Records.{new_record, with_links, with_blocks}
use Rattle.sefs.specs.Slots.{slot_bytes, slot_at}
use Rattle.sefs.specs.Move.{record_on, dots_of}
use Rattle.rules.specs.Image.{rec_of}
use Rattle.sefs_laws.proofs.Handles.{live-owns, handle-done}
use Rattle.walk.specs.Walk.{Spot, spot}
use Rattle.paths.specs.Path.{namer_to, name_in, folder_on, names_to, slashed, path_of, call_path}
use Rattle.paths.specs.Laws.{RootSlash}
use Rattle.paths.proofs.Paths.{root-slash}
use Rattle.image.proofs.Handles.{admitted, formed}
use Rattle.image.proofs.Images.{fair, root-node}
use Rattle.sequences.specs.Pairs.{Pair, pair, Passed}
use Rattle.sequences.proofs.Passing.{allowed}
use Rattle.sequences.proofs.Chains.{Gives, hold-gives, begins}
use Rattle.sequences.proofs.Example.{some-fresh}

-- the file of node n
abbrev uuid : ℕ → List ℕ
uuid n = replicate 16 n

abbrev folder : ℕ → ℕ → DiskINode
folder n slots = with_blocks (with_links (new_record type_dir 493 zero_time (uuid n)) 2) slots

-- a head; a data block, whose payload is so many zeros, some bytes, and zeros
abbrev head : ℕ → ℕ → List ℕ
head n long = 1 ∷ 1 ∷ 0 ∷ 0 ∷ (uuid n ++ (le_bytes 4 long ++ replicate 488 0))

abbrev data-at : ℕ → ℕ → ℕ → List ℕ → ℕ → List ℕ
data-at n q before l after = 2 ∷ 1 ∷ 0 ∷ 0 ∷ (uuid n ++ (le_bytes 4 q ++ (replicate before 0 ++ (l ++ replicate after 0))))

-- root's slot 2 names node k as `B`; slot 1 of node 3 names node 2
abbrev arena : ℕ → List ℕ
arena k = head 2 792 ++ (data-at 2 1 48 (k ∷ 0 ∷ 0 ∷ 0 ∷ 66 ∷ []) 435 ++ (head 3 528 ++ data-at 3 0 264 (2 ∷ []) 223))

abbrev table : Table
table = record { rows = record { id = 2; dirty = false; rec = folder 2 3 } ∷ record { id = 3; dirty = false; rec = folder 3 2 } ∷ []; holds = []; next = 1 }

abbrev image : ℕ → Fs
image k = record { arena = arena k; table = table; meta = done (record { super = record { magic = 0; blocks = 1024; unused = 0; groups = 1 }; maps = replicate 128 0 }) }

-- what is opened so that the bytes of a file are computed, and a climb
unfoldable bytes-computed : ℕ
unfolding read_file there head_of blk is_head same_file same length_of present byte_at data_of is_data lowest tab le_at le_of le_bytes
bytes-computed = 0

unfoldable computed : ℕ
unfolding bytes-computed names_to dots_of slot_bytes entry_of folder_on record_on is_used bit_at bit_of row_of found_below name_in namer_to slot_at stored_name has_zero zero_at utf8 after step lead tail within slashed
computed = 0

-- `/B`
one_name_lem : bind (names_to (image 3) 4096 3 (folder 3 2)) (λ names. done (path_of names)) ≡ done (47 ∷ 66 ∷ [])
unfolding computed
one_name_lem = refl

-- "19 if .. a name is missing": root names another node
no_name : names_to (image 4) 4096 3 (folder 3 2) ≡ refused 19
unfolding computed
no_name = refl

-- "19 if climbing passes 4,096 folders": here none may be climbed from
no_step : names_to (image 3) 0 3 (folder 3 2) ≡ refused 19
unfolding computed
no_step = refl

-- ---- and a pair that passes, with a handle whose path is `/`: what format leaves of 16 blocks of zeros, and the root opened

-- a handle on root is given wherever there is a place, and then gives `/`
root-given : (p : Pair) (y : Passed p) (w : ℕ) → Owner w → can_hold p.table w ≡ true
    → (q : Pair) × Passed q × (h : Handle) × (call_path q.arena q.table w h 1 ≡ done (47 ∷ []))
unfolding RootSlash
root-given p y w who can =
    let a : List ℕ = p.arena in
    let t : Table = p.table in
    let B = allowed p y in
    let H = ok-does (hold-gives a t w t (begins a t w y) who can 2 (root-node a t (fair a t B))) (λ _ z. z) in
    let u : Table = H.0.table in
    let G : Gives p.arena p.table w H.0 (spot 2 (rec_of p.arena p.table 2)) = H.2 in
    let rec-is = ap (λ (x : Spot). x.rec) G.is in
    let A = allowed (pair a u) G.follows.passes in (
      pair a u,
      G.follows.passes,
      H.0.handle,
      root-slash a u w H.0.handle G.row 1 (admitted a u A)
          (handle-done u w H.0.handle G.row (live-owns u w H.0.handle G.row (formed a u A) G.live))
          (ap (λ (x : Spot). x.id) G.is)
          (eq-eqb _ 2 (ap (λ (r : DiskINode). r.kind) rec-is ∙ B.rule5.root))
          (λ e. (fair a t B).tidy.two.links (ap (λ (r : DiskINode). r.nlinks) (sym rec-is) ∙ e)),
    )

free-place : can_hold empty_table 1 ≡ true
unfolding can_hold own_holds count_to sum_to
free-place = refl

pub some-path : (p : Pair) × Passed p × (h : Handle) × (call_path p.arena p.table 1 h 1 ≡ done (47 ∷ []))
some-path = root-given (pair some-fresh.0 empty_table) some-fresh.1 1 (record { least = omega arith; most = omega arith }) free-place
