-- "To be rejected: a port that always refuses, gives one constant answer, stores nothing, or performs only the first call of a sequence; a
-- checker that passes or fails everything, or reports invented node and block counts". A statement for each: whatever function does so,
-- there is an input at which the contract of the public call does not hold. The contracts are those that the code's `ensures` cite.
use Rattle.std.specs.Prelude.{◌≡◌, List, ℕ, Err}
use Rattle.std.specs.Prelude as std
use Rattle.base.specs.declared.reasons.Reason.{Reason}
use Rattle.structs.specs.declared.Timespec.{Timespec}
use Rattle.table.specs.declared.Handle.{Handle}
use Rattle.table.specs.declared.Table.{Table}
use Rattle.sefs.specs.Create.{call_create, call_link}
use Rattle.sefs.specs.Open.{call_find}
use Rattle.sefs.specs.Remove.{call_remove_file}
use Rattle.sefs.specs.Move.{call_move}
use Rattle.sefs.specs.Contents.{call_write, call_resize}
use Rattle.sefs.specs.Close.{call_sync}
use Rattle.calls.specs.declared.Reply.{Reply}
use Rattle.calls.specs.declared.HeldReply.{HeldReply}
use Rattle.steps.specs.Ends.{Returned}
use Rattle.calls_create.specs.Held.{ReturnedHeld}
use Rattle.calls_find.specs.Finds.{Gives}
use Rattle.fsck.specs.Verdicts.{verdict_of}
use Rattle.fsck.specs.declared.Verdict.{Verdict}
use Rattle.fsck.specs.declared.Verdict.TheVariants as verdicts

-- ---- whatever the call: X is what it is given, Y what it leaves, and its contract says what Y is at X

-- the port breaks the contract at some input
unfoldable pub Broken : {X Y : Type 0} → (X → Y → Type 0) → (X → Y) → Type 0
Broken {X} Holds port = (x : X) × (Holds x (port x) → ⊥)

-- so does each that "stores nothing": the arena afterwards is the arena before, whatever is answered and whatever becomes of the table
unfoldable pub StoresNothing : {X Y : Type 0} → (X → List ℕ) → (Y → List ℕ) → (X → Y → Type 0) → Type 0
StoresNothing {X} {Y} before after Holds = (port : X → Y) → ((x : X) → after (port x) ≡ before x) → Broken Holds port

-- what a call leaves that makes no hold: the arena, and the answer with its table
pub record Result : Type 0 where
  pub arena : List ℕ
  pub after : Reply Reason

-- ---- create

-- what create is given
pub record CreateInput : Type 0 where
  pub arena : List ℕ
  pub table : Table
  pub who : ℕ
  pub handle : Handle
  pub name : List ℕ
  pub kind : ℕ
  pub mode : ℕ
  pub time : Timespec
  pub file : List ℕ

-- the arena afterwards, and the answer with its table
pub record CreateResult : Type 0 where
  pub arena : List ℕ
  pub given : HeldReply

-- its contract
unfoldable pub CreateHolds : CreateInput → CreateResult → Type 0
CreateHolds x y =
    ReturnedHeld x.table (call_create x.arena x.table x.who x.handle x.name x.kind x.mode x.time x.file) x.arena
    y.arena
    y.given

-- a create that always refuses
unfoldable pub CreateRefuses : Type 0
CreateRefuses = (port : CreateInput → CreateResult) → ((x : CreateInput) → (e : Reason) × ((port x).given.answer ≡ Err e)) → Broken CreateHolds port

-- a create with one constant answer
unfoldable pub CreateConstant : Type 0
CreateConstant = (port : CreateInput → CreateResult) (r : std.Result Handle Reason) → ((x : CreateInput) → (port x).given.answer ≡ r) → Broken CreateHolds port

-- a create that stores nothing
unfoldable pub CreateStoresNothing : Type 0
CreateStoresNothing = StoresNothing (λ x. x.arena) (λ y. y.arena) CreateHolds

-- ---- remove-file

-- what remove-file is given
pub record RemoveInput : Type 0 where
  pub arena : List ℕ
  pub table : Table
  pub who : ℕ
  pub handle : Handle
  pub name : List ℕ

-- its contract
unfoldable pub RemoveHolds : RemoveInput → Result → Type 0
RemoveHolds x y = Returned x.table (call_remove_file x.arena x.table x.who x.handle x.name) x.arena y.arena y.after

-- a remove-file that always refuses
unfoldable pub RemoveRefuses : Type 0
RemoveRefuses = (port : RemoveInput → Result) → ((x : RemoveInput) → (e : Reason) × ((port x).after.answer ≡ Err e)) → Broken RemoveHolds port

-- a remove-file with one constant answer
unfoldable pub RemoveConstant : Type 0
RemoveConstant = (port : RemoveInput → Result) (r : std.Result Unit Reason) → ((x : RemoveInput) → (port x).after.answer ≡ r) → Broken RemoveHolds port

-- a remove-file that stores nothing
unfoldable pub RemoveStoresNothing : Type 0
RemoveStoresNothing = StoresNothing (λ x. x.arena) (λ y. y.arena) RemoveHolds

-- ---- write

-- what write is given
pub record WriteInput : Type 0 where
  pub arena : List ℕ
  pub table : Table
  pub who : ℕ
  pub handle : Handle
  pub place : ℕ
  pub bytes : List ℕ

-- its contract
unfoldable pub WriteHolds : WriteInput → Result → Type 0
WriteHolds x y = Returned x.table (call_write x.arena x.table x.who x.handle x.place x.bytes) x.arena y.arena y.after

-- a write that stores nothing
unfoldable pub WriteStoresNothing : Type 0
WriteStoresNothing = StoresNothing (λ x. x.arena) (λ y. y.arena) WriteHolds

-- ---- resize

-- what resize is given
pub record ResizeInput : Type 0 where
  pub arena : List ℕ
  pub table : Table
  pub who : ℕ
  pub handle : Handle
  pub size : ℕ

-- its contract
unfoldable pub ResizeHolds : ResizeInput → Result → Type 0
ResizeHolds x y = Returned x.table (call_resize x.arena x.table x.who x.handle x.size) x.arena y.arena y.after

-- a resize that stores nothing
unfoldable pub ResizeStoresNothing : Type 0
ResizeStoresNothing = StoresNothing (λ x. x.arena) (λ y. y.arena) ResizeHolds

-- ---- link

-- what link is given
pub record LinkInput : Type 0 where
  pub arena : List ℕ
  pub table : Table
  pub who : ℕ
  pub handle : Handle
  pub name : List ℕ
  pub child : Handle

-- its contract
unfoldable pub LinkHolds : LinkInput → Result → Type 0
LinkHolds x y = Returned x.table (call_link x.arena x.table x.who x.handle x.name x.child) x.arena y.arena y.after

-- a link that stores nothing
unfoldable pub LinkStoresNothing : Type 0
LinkStoresNothing = StoresNothing (λ x. x.arena) (λ y. y.arena) LinkHolds

-- ---- move

-- what move is given
pub record MoveInput : Type 0 where
  pub arena : List ℕ
  pub table : Table
  pub who : ℕ
  pub handle : Handle
  pub old : List ℕ
  pub target : Handle
  pub name : List ℕ

-- its contract
unfoldable pub MoveHolds : MoveInput → Result → Type 0
MoveHolds x y =
    Returned x.table (call_move x.arena x.table x.who x.handle x.old x.target x.name) x.arena y.arena y.after

-- a move that stores nothing
unfoldable pub MoveStoresNothing : Type 0
MoveStoresNothing = StoresNothing (λ x. x.arena) (λ y. y.arena) MoveHolds

-- ---- sync

-- what sync is given
pub record SyncInput : Type 0 where
  pub arena : List ℕ
  pub table : Table

-- its contract
unfoldable pub SyncHolds : SyncInput → Result → Type 0
SyncHolds x y = Returned x.table (call_sync x.arena x.table) x.arena y.arena y.after

-- a sync that stores nothing
unfoldable pub SyncStoresNothing : Type 0
SyncStoresNothing = StoresNothing (λ x. x.arena) (λ y. y.arena) SyncHolds

-- ---- find, which leaves the arena

-- its contract: the answer and the table
unfoldable pub FindHolds : List ℕ → Table → ℕ → Handle → List ℕ → HeldReply → Type 0
FindHolds a t w h name r = Gives t (call_find a t w h name) r

-- the port breaks the contract at some input
unfoldable pub FindBroken : (List ℕ → Table → ℕ → Handle → List ℕ → HeldReply) → Type 0
FindBroken port = (a : List ℕ) × (t : Table) × (w : ℕ) × (h : Handle) × (name : List ℕ) × (FindHolds a t w h name (port a t w h name) → ⊥)

-- a find that always refuses
unfoldable pub FindRefuses : Type 0
FindRefuses = (port : List ℕ → Table → ℕ → Handle → List ℕ → HeldReply)
    → ((a : List ℕ) (t : Table) (w : ℕ) (h : Handle) (name : List ℕ) → (e : Reason) × ((port a t w h name).answer ≡ Err e))
    → FindBroken port

-- a find with one constant answer
unfoldable pub FindConstant : Type 0
FindConstant = (port : List ℕ → Table → ℕ → Handle → List ℕ → HeldReply) (r : std.Result Handle Reason)
    → ((a : List ℕ) (t : Table) (w : ℕ) (h : Handle) (name : List ℕ) → (port a t w h name).answer ≡ r)
    → FindBroken port

-- ---- a sequence of two calls: a second call starts from what the first left

-- a second create, of another name with another file
unfoldable pub onward : CreateInput → CreateResult → List ℕ → List ℕ → CreateInput
onward x y name file = record {
  arena = y.arena;
  table = y.given.table;
  who = x.who;
  handle = x.handle;
  name = name;
  kind = x.kind;
  mode = x.mode;
  time = x.time;
  file = file;
}

-- what the two calls leave
pub record TwoResults : Type 0 where
  pub first : CreateResult
  pub second : CreateResult

-- both contracts
unfoldable pub TwoHold : CreateInput → List ℕ → List ℕ → TwoResults → Type 0
TwoHold x name file r = CreateHolds x r.first × CreateHolds (onward x r.first name file) r.second

-- a port that performs only the first: after the second the arena is what the first left
unfoldable pub OnlyFirst : Type 0
OnlyFirst = (port : CreateInput → List ℕ → List ℕ → TwoResults)
    → ((x : CreateInput) (name file : List ℕ) → (port x name file).second.arena ≡ (port x name file).first.arena)
    → (x : CreateInput) × (name : List ℕ) × (file : List ℕ) × (TwoHold x name file (port x name file) → ⊥)

-- a create, and then a find of the same name
pub record CreateFind : Type 0 where
  pub created : CreateResult
  pub found : HeldReply

-- both contracts: the find starts from what the create left
unfoldable pub CreateFindHolds : CreateInput → CreateFind → Type 0
CreateFindHolds x r =
    CreateHolds x r.created × FindHolds r.created.arena r.created.given.table x.who x.handle x.name r.found

-- a port whose find answers as if the create had not been
unfoldable pub BlindFind : Type 0
BlindFind = (port : CreateInput → CreateFind)
    → ((x : CreateInput) → FindHolds x.arena x.table x.who x.handle x.name (port x).found)
    → (x : CreateInput) × (CreateFindHolds x (port x) → ⊥)

-- ---- the checker, whose contract is an equation

-- the port breaks the contract at some image
unfoldable pub CheckBroken : (List ℕ → Table → Verdict) → Type 0
CheckBroken port = (a : List ℕ) × (t : Table) × (port a t ≡ verdict_of a t → ⊥)

-- a checker that passes everything, with whatever counts
unfoldable pub PassesAll : Type 0
PassesAll = (port : List ℕ → Table → Verdict)
    → ((a : List ℕ) (t : Table) → (n : ℕ) × (u : ℕ) × (f : ℕ) × (port a t ≡ verdicts.Pass n u f))
    → CheckBroken port

-- one that fails everything, by whatever rules
unfoldable pub FailsAll : Type 0
FailsAll = (port : List ℕ → Table → Verdict) → ((a : List ℕ) (t : Table) → (r : ℕ) × (port a t ≡ verdicts.Fail r)) → CheckBroken port

-- one that invents the number of nodes: all its passes report the same one
unfoldable pub InventsNodes : Type 0
InventsNodes = (port : List ℕ → Table → Verdict) (m : ℕ)
    → ((a : List ℕ) (t : Table) (n u f : ℕ) → port a t ≡ verdicts.Pass n u f → n ≡ m)
    → CheckBroken port

-- one that invents the number of unused ids
unfoldable pub InventsUnused : Type 0
InventsUnused = (port : List ℕ → Table → Verdict) (m : ℕ)
    → ((a : List ℕ) (t : Table) (n u f : ℕ) → port a t ≡ verdicts.Pass n u f → u ≡ m)
    → CheckBroken port

-- one that invents the number of free blocks
unfoldable pub InventsFree : Type 0
InventsFree = (port : List ℕ → Table → Verdict) (m : ℕ)
    → ((a : List ℕ) (t : Table) (n u f : ℕ) → port a t ≡ verdicts.Pass n u f → f ≡ m)
    → CheckBroken port
