-- Order 10, of the lent output: "Bytes after the text stay." And a refusal writes nothing.
use Rattle.std.specs.Prelude.{◌≡◌, List, ℕ, ◌≤◌, ◌<◌, length, get_or, Result}
use Rattle.base.specs.Out.{Out, done, refused}
use Rattle.calls.specs.Answers.{taken_of, Lays}
use Rattle.base.specs.declared.reasons.Reason.{Reason}
use Rattle.inventory.specs.Inventory.{call_inventory}

-- the text stands at the output's start, and the rest is as it was
pub record TextLaid (out t now : List ℕ) : Type 0 where
  pub fits : length t ≤ length out
  pub long : length now ≡ length out
  pub text : (i : ℕ) → i < length t → get_or now i 0 ≡ get_or t i 0
  pub rest : (i : ℕ) → length t ≤ i → get_or now i 0 ≡ get_or out i 0

-- what an outcome leaves of an output
pub record OutputAfter (out : List ℕ) (o : Out (List ℕ)) (now : List ℕ) : Type 0 where
  pub given : (t : List ℕ) → o ≡ done t → TextLaid out t now
  pub refusal : (n : ℕ) → o ≡ refused n → now ≡ out

-- of any result that the call's contract allows
unfoldable pub Stays : Type 0
Stays = (a out now : List ℕ) (r : Result ℕ Reason) → Lays taken_of (call_inventory a (length out)) out now r → OutputAfter out (call_inventory a (length out)) now
