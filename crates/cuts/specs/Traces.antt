-- The traces by their names, what is seen of each, and when each is there.
use Rattle.std.specs.Prelude.{◌≡◌, Bool, true, List, [], ◌∷◌, ◌≢◌, ◌⊎◌, ◌↔◌, ℕ, ◌*◌, ◌<◌, ◌≤◌, replicate}
use Rattle.base.specs.Decides.{same}
use Rattle.base.specs.Search.{pick}
use Rattle.structs.specs.Layout.{record_bytes}
use Rattle.maps.specs.Maps.{set_bits}
use Rattle.table.specs.Table.{empty_table}
use Rattle.files.specs.Read.{there, length_of}
use Rattle.sefs.specs.Meta.{meta_file, map_at}
use Rattle.sefs.specs.Nodes.{node_file}
use Rattle.rules.specs.Image.{run, stored_super, stored_maps, ids_in, is_node, stored_bytes, is_folder_at, names_in}
use Rattle.mending.specs.Mendable.{rec_in}
use Rattle.cuts.specs.Creates.{Birth, grows, before_file, before_slot, before_super, before_own_map, before_node, before_parent}
use Rattle.cuts.specs.Premise.{OfCuts}

-- "Used ids and records without a name, a stray file, a longer folder or metadata file, a wrong unused and a new group whose map still reads as
-- zeros are the only other traces, each named."
pub data Trace : Type 0 where
  used-id : Trace
  nameless-record : Trace
  stray-file : Trace
  longer-folder : Trace
  longer-metadata : Trace
  wrong-unused : Trace
  zero-map : Trace

-- ---- what is seen of each, in the arena b that a cut leaves; a is the arena before

-- no later slot of a folder that was there names the id
abbrev pub Nameless : List ℕ → ℕ → List ℕ → Type 0
Nameless a id b = (f : ℕ) → is_folder_at a empty_table f ≡ true → names_in b (rec_in b f) id ≡ 0

-- the new node's record is stored
abbrev pub HasRecord : Birth → List ℕ → Type 0
HasRecord c b = stored_bytes b c.id ≡ record_bytes c.child

-- by a trace, what it is to see it. (A file is stray while no earlier node's record names it, and the new id is not used or has not the new record yet.)
unfoldable pub Seen : List ℕ → Birth → List ℕ → Trace → Type 0
Seen a c b used-id = (is_node b c.id ≡ true) × Nameless a c.id b
Seen a c b nameless-record = (is_node b c.id ≡ true) × HasRecord c b × Nameless a c.id b
Seen a c b stray-file =
    (there b (node_file c.child) ≡ true) × ((id : ℕ) → is_node a id ≡ true → (rec_in b id).file ≢ c.child.file)
    × (is_node b c.id ≡ true → HasRecord c b → ⊥)
Seen a c b longer-folder = 264 * (rec_in b c.up).blocks < length_of b (node_file (rec_in b c.up))
Seen a c b longer-metadata = 131072 * (stored_super b).groups < length_of b meta_file
Seen a c b wrong-unused = (stored_super b).unused ≢ set_bits (stored_maps b) (ids_in b)
Seen a c b zero-map = (c.before.super.groups < (stored_super b).groups) × (run b meta_file (map_at c.before.super.groups) 128 ≡ replicate 128 0)

-- ---- the phases of a create, by the store that came last

pub data Phase : Type 0 where
  -- none yet
  begun : Phase
  -- the metadata file's length, where a group comes
  lengthened : Phase
  -- the file, and a new folder's slots in it
  filed : Phase
  -- the slot in the parent
  slotted : Phase
  -- the superblock, and the maps before the one with the new id's bit
  counted : Phase
  -- that map, and those after it
  mapped : Phase
  -- the new node's record
  recorded : Phase
  -- the parent's
  ended : Phase

-- after n stores
unfoldable pub AtPhase : Birth → ℕ → Phase → Type 0
AtPhase c n begun = n ≡ 0
AtPhase c n lengthened = (0 < n) × (n ≤ before_file c)
AtPhase c n filed = (before_file c < n) × (n ≤ before_slot c)
AtPhase c n slotted = (before_slot c < n) × (n ≤ before_super c)
AtPhase c n counted = (before_super c < n) × (n ≤ before_own_map c)
AtPhase c n mapped = (before_own_map c < n) × (n ≤ before_node c)
AtPhase c n recorded = (before_node c < n) × (n ≤ before_parent c)
AtPhase c n ended = before_parent c < n

-- each cut is in one of them
unfoldable pub Phases : Type 0
Phases = (c : Birth) (n : ℕ) → (s : Phase) × AtPhase c n s

-- ---- the traces of each phase

-- the new node's record is there already, byte by byte: an earlier node had the id and just such a record, and was freed with it, as the mender frees one
abbrev pub same_record : List ℕ → Birth → Bool
same_record a c = same (stored_bytes a c.id) (record_bytes c.child)

-- by a phase, its traces. (A new group's map reads as zeros until it is stored, so its ids look used. Where the record is there already, the file is the
-- used id's, and not stray.)
unfoldable pub traces_of : List ℕ → Birth → Phase → List Trace
traces_of a c begun = []
traces_of a c lengthened = longer-metadata ∷ []
traces_of a c filed = stray-file ∷ pick (grows c) (longer-metadata ∷ []) []
traces_of a c slotted = stray-file ∷ longer-folder ∷ pick (grows c) (longer-metadata ∷ []) []
traces_of a c counted = stray-file ∷ longer-folder ∷ wrong-unused ∷ pick (grows c) (used-id ∷ zero-map ∷ []) []
traces_of a c mapped = pick (same_record a c) nameless-record stray-file ∷ longer-folder ∷ used-id ∷ []
traces_of a c recorded = nameless-record ∷ longer-folder ∷ used-id ∷ []
traces_of a c ended = []

-- x is one of the list
abbrev pub Among : Trace → List Trace → Type 0
Among x [] = ⊥
Among x (y ∷ l) = (x ≡ y) ⊎ Among x l

-- these are seen, and no others. (That nothing else has changed is `OnlyTraces`, with `KeepsFolder` and `KeepsOthers`.)
unfoldable pub Shows : Type 0
Shows = OfCuts (λ a c n b. (s : Phase) → AtPhase c n s → (x : Trace) → Seen a c b x ↔ Among x (traces_of a c s))

-- between two stores there is one at least; before the first and after the last there is none
pub record SomeTrace (a : List ℕ) (c : Birth) (n : ℕ) (b : List ℕ) : Type 0 where
  pub between : 0 < n → n ≤ before_parent c → (x : Trace) × Seen a c b x
  pub none : n ≡ 0 → (x : Trace) → Seen a c b x → ⊥
  pub end : before_parent c < n → (x : Trace) → Seen a c b x → ⊥

-- so it is of each cut
unfoldable pub Between : Type 0
Between = OfCuts SomeTrace
