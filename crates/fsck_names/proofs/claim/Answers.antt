-- `fsck_names::claim`: the head that the chain leads to, and its byte.
use mathlib.Core.Path.{sym}
use mathlib.Core.Bool.{true≢false}
use native.Mathlib.Omega.{arith}
use Rattle.fsck_names.proofs.Names.{claim-missing, claim-twice, claim-first, claim-set}
use Rattle.fsck_names.proofs.claim.Goals as goal
use Rattle.fsck_names.proofs.claim.Goals.{then-c-eq0-via-then-c-eq0, then-c-eq0-via-else-c-eq0+then-claimed-c-ne0}

pub returns-then-c-eq0 : goal.returns-then-c-eq0
returns-then-c-eq0 c = record {
  value = elim c.then-c-eq0.branch [
    | then-c-eq0-via-then-c-eq0 w ↦ claim-missing c.args.arena.now c.args.claimed.now c.requires.led.fine c.args.rec c.find-c.result c.find-c.ensures.0 w.if-c-eq0.true
    | then-c-eq0-via-else-c-eq0+then-claimed-c-ne0 w ↦ claim-twice c.args.arena.now c.args.claimed.now c.requires.led.fine c.args.rec c.find-c.result c.find-c.ensures.0 (omega (arith, w.if-c-eq0.false)) w.if-claimed-c-ne0.true
  ];
  claimed_after = λ e. absurd (true≢false (sym e));
}

pub returns : goal.returns
returns c = record { value = claim-first c.args.arena.now c.args.claimed.now c.requires.led.fine c.args.rec c.find-c.result c.find-c.ensures.0 (omega (arith, c.if-c-eq0.false)) c.if-claimed-c-ne0.false; claimed_after = λ _. claim-set c.args.arena.now c.args.claimed.now c.requires.led.fine c.args.rec c.find-c.result c.find-c.ensures.0 (omega (arith, c.if-c-eq0.false)) }
