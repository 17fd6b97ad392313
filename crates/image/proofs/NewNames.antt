-- A name that is good, short and not found by a lookup may be a new slot's.
use mathlib.Core.Path.{refl, ◌≡◌, sym, ap, ◌∙◌, subst}
use Rattle.sefs_laws.proofs.Clear.{Clear, clear}
use mathlib.Core.Bool.{true, false}
use mathlib.Core.List.{List, [], ◌∷◌}
use mathlib.Core.Logic.{◌≢◌}
use Prim.Native.Nat.{ℕ, ◌-◌, ◌≤◌, ◌<◌}
use native.Mathlib.Omega.{arith}
use lib.Dec.{eqb}
use lib.ListN.{length, replicate}
use borrow.Author.Tests.{eqb-true}
use Rattle.base.specs.Out.{Ok, went, said}
use Rattle.base.proofs.Bools.{true-false}
use Rattle.base.proofs.Finds.{search-nothing}
use Rattle.base.proofs.Parts.{get_or-zero-list}
use Rattle.base.proofs.Sames.{decided-yes}
use Rattle.base.specs.Search.{lowest, found_below}
use Rattle.std.specs.Prelude.{Option, Some, None}
use Rattle.le.specs.Le.{Bytes}
use Rattle.structs.specs.Fits.{EntryFits}
use Rattle.structs.proofs.Joins.{bytes-append}
use Rattle.structs.specs.declared.DiskINode.{DiskINode}
use Rattle.utf8.specs.Names.{name_of, zero_at, EndedAt, GoodName, asked, is_named, name_bytes, name_verdict, new_reason, has_slash}
use Rattle.utf8.proofs.Names.{new-good, zero_at-name_bytes, name_of-name_bytes, stored-name_bytes, stored-says, length-name_bytes, named-decides}
use Rattle.table.specs.declared.Table.{Table}
use Rattle.sefs.specs.Folders.{entry}
use Rattle.sefs.specs.Ask.{or_exists}
use Rattle.rules.specs.Image.{rec_of, slot_in}
use Rattle.rules.specs.Rules.{Folder}

-- what reason 5 leaves of a new name
abbrev pub NewGood : List ℕ → Type 0
NewGood name = GoodName name × (has_slash name ≡ false)

pub good-name : (name : List ℕ) → eqb (new_reason (name_verdict name)) 0 ≡ true → NewGood name
good-name name e = new-good name (eqb-true (new_reason (name_verdict name)) 0 e)

pub record NewName (a : List ℕ) (r : DiskINode) (name : List ℕ) : Type 0 where
  pub ended : EndedAt (name_bytes name) (zero_at (name_bytes name))
  pub some : name_of (name_bytes name) ≢ []
  pub no-dot : name_of (name_bytes name) ≢ 46 ∷ []
  pub no-dots : name_of (name_bytes name) ≢ 46 ∷ 46 ∷ []
  pub no_slash : has_slash (name_of (name_bytes name)) ≡ false
  pub fresh : (k : ℕ) → 2 ≤ k → k < r.blocks → name_of (slot_in a r k).name ≢ name_of (name_bytes name)

asked-empty : (name : List ℕ) → name ≡ [] → asked name ≡ 46 ∷ []
asked-empty name e = ap asked e

asked-full : (name : List ℕ) → name ≢ [] → asked name ≡ name
asked-full [] n = absurd (n refl)
asked-full (x ∷ l) n = refl

module _ (a : List ℕ) (t : Table) (id : ℕ) (F : Folder a t id) (name : List ℕ) (g : NewGood name) (short : length name ≤ 255)
    (none : found_below (lowest (λ k. is_named (slot_in a (rec_of a t id) k).name name) (rec_of a t id).blocks) (rec_of a t id).blocks ≡ None) where
  abbrev r : DiskINode
  r = rec_of a t id

  not-asked : (k : ℕ) → k < r.blocks → name_of (slot_in a r k).name ≢ asked name
  not-asked k l e =
      true-false (decided-yes (named-decides (slot_in a r k).name name) e) (search-nothing (λ k. is_named (slot_in a r k).name name) r.blocks none k l)

  is : name_of (name_bytes name) ≡ name
  is = name_of-name_bytes name g.0 short

  name-some : name ≢ []
  name-some e = not-asked 0 (omega (arith, F.blocks)) (F.dot ∙ sym (asked-empty name e))

  same : asked name ≡ name
  same = asked-full name name-some

  pub new-name : NewName a (rec_of a t id) name
  new-name = record {
    ended = subst (EndedAt (name_bytes name)) (sym (zero_at-name_bytes name g.0 short)) (stored-says (name_bytes name) (length name) (stored-name_bytes name g.0 short));
    some = λ e. name-some (sym is ∙ e);
    no-dot = λ e. not-asked 0 (omega (arith, F.blocks)) (F.dot ∙ sym e ∙ is ∙ sym same);
    no-dots = λ e. not-asked 1 (omega (arith, F.blocks)) (F.dots ∙ sym e ∙ is ∙ sym same);
    no_slash = ap has_slash is ∙ g.1;
    fresh = λ k x y e. not-asked k y (e ∙ is ∙ sym same);
  }

-- a new slot fits its bytes
pub entry-fits : (id : ℕ) (name : List ℕ) (kind : ℕ) → id < 4294967296 → kind ≤ 4 → length name ≤ 255 → Bytes name → EntryFits (entry id name kind)
unfolding name_bytes
entry-fits id name kind i k s b = record {
  id = i;
  kind = omega arith;
  name = length-name_bytes name (omega arith);
  name_bytes = bytes-append name (replicate (256 - length name) 0) b (λ j. omega (arith, get_or-zero-list (256 - length name) j));
}

-- none was found, or 12
pub exists-law : (f : Option ℕ) → Ok (λ _. f ≡ None) Clear (or_exists f)
exists-law (Some k) = said (clear 12 refl)
exists-law None = went refl
