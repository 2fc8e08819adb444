use Rattle.cfb_sectors.proofs.Appending.{appended_5}
use Rattle.cfb_tree.proofs.entry.DirEntry.append_tail.Goals as goal

pub returns-clause-ok : goal.returns-clause-ok
returns-clause-ok c =
    appended_5 c.args.out.now.items c.extend_from_slice.new.self.items c.write_to.new.writer.items c.write_to-2.new.writer.items c.extend_from_slice-2.new.self.items c.extend_from_slice-3.new.self.items
    _ _ _ _ _ (rw c.to_le_bytes.ensures at c.in_ok-extend_from_slice.ensures.items) c.in_ok-write_to.ensures.ok c.in_ok-write_to-2.ensures.ok
    (rw c.to_le_bytes-2.ensures at c.in_ok-extend_from_slice-2.ensures.items) (rw c.to_le_bytes-3.ensures at c.in_ok-extend_from_slice-3.ensures.items)
