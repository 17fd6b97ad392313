-- A text is entered, or refused: the state that the walk has then.
use mathlib.Core.Path.{refl}
use mathlib.Core.Bool.{true, false}
use Prim.Native.Nat.{ℕ}
use Rattle.std.specs.Prelude.{Ok, Err}
use Rattle.base.specs.Out.{Out, Went}
use Rattle.base.specs.Told.{number}
use Rattle.base.specs.declared.reasons.Reason.{Reason}
use Rattle.base.proofs.Bools.{true-false}
use Rattle.base.proofs.Outs.{went-is, went-not}
use Rattle.base.proofs.Tells.{number-ne, number-pos}
use Rattle.structs.specs.declared.DiskINode.{DiskINode}
use Rattle.walk.specs.Walk.{Spot, spot}
use Rattle.walk_parts.specs.States.{Entered}

pub entered : {o : Out Spot} {id : ℕ} {rec : DiskINode} → Went o (spot id rec) Unit 0 → (k u d f e : ℕ)
    → Entered (record { over = false; ended = Ok tt; id = id; rec = rec; left = k; used = u; depth = d; from = f; to = e }) o k u d f e
entered w k u d f e = record { goes = λ _. went-is w refl; ends = λ t. absurd (true-false t refl); left = refl; used = refl; depth = refl; from = refl; to = refl }

pub not-entered : {o : Out Spot} {at : Spot} (r : Reason) → Went o at Unit (number r) → (id : ℕ) (rec : DiskINode) (k u d f e : ℕ)
    → Entered (record { over = true; ended = Err r; id = id; rec = rec; left = k; used = u; depth = d; from = f; to = e }) o k u d f e
not-entered r w id rec k u d f e =
    record {
      goes = λ t. absurd (true-false refl t);
      ends = λ _. (went-not w (number-ne r), number-pos r);
      left = refl;
      used = refl;
      depth = refl;
      from = refl;
      to = refl;
    }
