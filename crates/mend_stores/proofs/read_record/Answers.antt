-- `mend_stores::read_record`: the first part, and the second where there is one.
use mathlib.Core.Path.{◌≡◌, ◌∙◌}
use Prim.Native.Nat.{◌+◌, ◌*◌, ◌-◌, ◌/◌, ◌%◌, ◌≤◌}
use native.Mathlib.Omega.{arith}
use lib.ListN.{length}
use Rattle.base.specs.Parts.{part, back}
use Rattle.base.proofs.Lists.{length_part}
use Rattle.files.specs.Read.{byte_at}
use Rattle.sefs.specs.Meta.{meta_file}
use Rattle.plans.proofs.Payloads.{begun, in_one, in_two}
use Rattle.rules.specs.Image.{run, stored_bytes}
use Rattle.mend_stores.proofs.read_record.Goals as goal
use Rattle.mend_stores.proofs.read_record.Goals.{After-read_place}

-- what the first part is
first : (c : After-read_place) → c.read_place.new.out ≡ run c.args.arena.now meta_file (128 * c.args.id) c.min-m.result
first c =
    let m = c.min-m.result in
    let p : 480 * (128 * c.args.id / 480) + 128 * c.args.id % 480 ≡ 128 * c.args.id = omega arith in
    let k : length (part c.args.out.now 0 m) ≡ m = length_part c.args.out.now 0 m (omega arith) (omega (arith, c.min-m.ensures)) ∙ omega arith in
    c.read_place.ensures ∙ (λ x. run c.args.arena.now meta_file (p x) (k x))

pub returns-then-m-eq112 : goal.returns-then-m-eq112
unfolding stored_bytes
returns-then-m-eq112 c =
    in_one (byte_at c.args.arena.now meta_file) (128 * c.args.id) 112 c.min-m.result c.args.out.now _ c.requires.1.1 (omega (arith, c.min-m.ensures)) (first (goal.at.returns-then-m-eq112 c).After-read_place) c.if-m-eq112.true

-- the second part has what is left
rest : (c : After-read_place) → length (part (back c.args.out.now 0 c.min-m.result c.read_place.new.out) c.min-m.result 112) ≡ 112 - c.min-m.result
rest c =
    let m = c.min-m.result in
    let few : m ≤ 112 = omega (arith, c.min-m.ensures) in
    length_part (back c.args.out.now 0 m c.read_place.new.out) m 112 few (omega (arith, (begun (byte_at c.args.arena.now meta_file) (128 * c.args.id) 112 m c.args.out.now _ c.requires.1.1 few (first c)).size))

pub read_place-requires-2 : goal.read_place-requires-2
read_place-requires-2 c = record { placed = (c.requires.0, omega (arith, c.min-m.ensures, c.if-m-eq112.false, c.requires.1.0)); out_bound = omega (arith, rest (goal.at.read_place-requires-2 c).After-read_place) }

pub returns : goal.returns
unfolding stored_bytes
returns c =
    let m = c.min-m.result in
    let p : 480 * (128 * c.args.id / 480 + 1) + 0 ≡ 128 * c.args.id + m = omega (arith, c.min-m.ensures, c.if-m-eq112.false) in
    in_two (byte_at c.args.arena.now meta_file) (128 * c.args.id) 112 m c.args.out.now _ c.requires.1.1 (omega (arith, c.min-m.ensures)) (first (goal.at.returns c).After-read_place) _ (c.read_place-2.ensures ∙ (λ x. run c.args.arena.now meta_file (p x) (rest (goal.at.returns c).After-read_place x)))
