use Rattle.std.proofs.Common.{rules}
use Rattle.cfb_mini.proofs.Entries.{enters_one}
use Rattle.cfb_mini.proofs.number_writes.set_number.Goals as goal

pub returns-clause-enters : goal.returns-clause-enters
returns-clause-enters g c = λ chain.
    enters_one c.args.allocator.now c.overwrite_chain.new.allocator c.args.mini_fat.now _ c.args.mini_sector_id c.args.number c.to_le_bytes-bytes.result (search rules) (search rules) (search rules) c.set.ensures chain (c.in_default.ensures.written chain)
