-- `mend_stores::store_record`: the bytes read, renewed, and put where they were.
use mathlib.Core.Path.{◌≡◌, sym, ap, ◌∙◌, subst}
use mathlib.Core.List.{List}
use Prim.Native.Nat.{ℕ, ◌*◌}
use native.Mathlib.Omega.{arith}
use lib.ListN.{length}
use Rattle.base.proofs.Lists.{length-tab}
use Rattle.base.proofs.Parts.{part-whole}
use Rattle.structs.specs.Layout.{record_of, record_bytes}
use Rattle.structs.specs.declared.DiskINode.{DiskINode}
use Rattle.arena.specs.Blocks.{blk}
use Rattle.arena.specs.Fields.{number_of}
use Rattle.files.specs.Read.{byte_at}
use Rattle.sefs.specs.Meta.{meta_file}
use Rattle.rules.specs.Image.{stored_bytes}
use Rattle.mend_stores.specs.Stores.{Storable, PutInMeta, renewed_by}
use Rattle.mend_stores.proofs.Bytes.{record-new}
use Rattle.mend_stores.proofs.store_record.Goals as goal
use Rattle.mend_stores.proofs.store_record.Goals.{After-put_disk_inode, After-read_record}

-- what was read, and what was made of it
read-long : (c : After-read_record) → length c.read_record.new.out ≡ 112
unfolding stored_bytes
read-long c = ap length c.read_record.ensures ∙ length-tab (byte_at c.args.arena.now meta_file) (128 * c.args.id) 112

made : (c : After-put_disk_inode) → c.put_disk_inode.new.s ≡ record_bytes (renewed_by (record_of (stored_bytes c.args.arena.now c.args.id)) c.args.links (number_of (blk c.args.arena.now c.args.k)))
made c =
    let b = c.read_record.new.out in
    let n = number_of (blk c.args.arena.now c.args.k) in
    record-new b c.put_disk_inode.new.s c.renewed-rec.result c.args.links n (read-long c.before.before.before.before.before.before) (c.renewed-rec.ensures ∙ ap (λ (x : DiskINode). renewed_by x c.args.links n) (c.disk_inode_at.ensures ∙ ap record_of (part-whole b 112 (read-long c.before.before.before.before.before.before)))) c.put_disk_inode.ensures
    ∙ ap (λ (x : List ℕ). record_bytes (renewed_by (record_of x) c.args.links n)) c.read_record.ensures

pub overflow_mul-id : goal.overflow_mul-id
overflow_mul-id c = omega (arith, c.requires.1.0)

pub put_meta-requires : goal.put_meta-requires
put_meta-requires c =
    subst (λ (n : ℕ). Storable c.args.arena.now c.args.places.now (128 * c.args.id) n c.args.from) (sym (c.put_disk_inode.auto.s ∙ read-long (goal.at.put_meta-requires c).After-read_record)) c.requires.0

pub returns : goal.returns
returns c =
    subst (λ (b : List ℕ). PutInMeta c.args.arena.now c.put_meta.new.arena c.put_meta.new.places (128 * c.args.id) b c.put_meta.result) (made (goal.at.returns c).After-put_disk_inode) c.put_meta.ensures
