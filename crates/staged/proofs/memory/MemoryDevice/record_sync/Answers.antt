use Rattle.std.proofs.Common.{rules, ◌≡◌, [], ◌∷◌, ◌++◌, map}
use Rattle.std.proofs.lemmas.List.{map-append}
use Rattle.staged.specs.Standing.{made, synced}
use Rattle.staged.specs.declared.device.Which.TheVariants.{Home, Log}
use Rattle.staged.specs.Memory.{memory_calls, memory_files, first_files}
use Rattle.staged.proofs.Histories.{are_synced, are_moved, more_calls}
use Rattle.staged.specs.First.{first_of, contents_of}
use Rattle.staged.proofs.Steps.{same_files}
use Rattle.staged.proofs.memory.MemoryDevice.record_sync.Goals as goal

pub invariant_of-self-2 : goal.invariant_of-self-2
invariant_of-self-2 c =
    let old = c.args.self.now in
    let calls : map made c.push.new.self.items ≡ memory_calls old ++ synced c.args.which ∷ [] = search (rules, map-append) in
    let first = same_files (record { home = first_of c.sync_file.new.home; log = first_of c.sync_file.new.log }) _ _ c.sync_file.ensures.first_home c.sync_file.ensures.first_log in
    let both = are_moved _ (first_files old) (map made c.push.new.self.items) _ (contents_of c.sync_file.new.home c.sync_file.new.log) (memory_files old) first calls c.sync_file.ensures.files
    (are_synced c.args.which (first_files old) (memory_calls old) (memory_files old) (old.home_stands, old.log_stands)) in
    record {
      home_stands = both.0;
      log_stands = both.1;
      home_calls = more_calls Home _ _ _ _ _ _ _ c.sync_file.ensures.first_home calls old.home_calls c.sync_file.ensures.home;
      log_calls = more_calls Log _ _ _ _ _ _ _ c.sync_file.ensures.first_log calls old.log_calls c.sync_file.ensures.log;
    }
