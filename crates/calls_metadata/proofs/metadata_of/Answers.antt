-- `calls_metadata::metadata_of`: field by field.
use Rattle.calls_metadata.proofs.metadata_of.Goals as goal

pub returns : goal.returns
returns c =
    let s = c.args in
    λ x. record { inode = s.id; size = c.size_of.ensures x; mode = s.rec.mode; kind = s.rec.kind; blocks = s.rec.blocks; atime = s.rec.atime; mtime = s.rec.mtime; ctime = s.rec.ctime; nlinks = s.rec.nlinks; uid = s.rec.uid; gid = s.rec.gid }
