use Rattle.std.proofs.Common.{rules, ◌≡◌, List, [], ◌∷◌, ◌++◌, map, ℕ, ◌∙◌, ap}
use Rattle.std.proofs.lemmas.List.{map-append}
use Rattle.cfb_medium.specs.Bytes.{overwritten}
use Rattle.staged.specs.Files.{Files, file_of, with_file}
use Rattle.staged.specs.declared.file.MemoryFile.{MemoryFile}
use Rattle.staged.specs.First.{first_of, contents_of, standing_of}
use Rattle.staged.specs.Standing.{made, wrote, after_call}
use Rattle.staged.specs.declared.device.Which.TheVariants.{Home, Log}
use Rattle.staged.specs.Memory.{memory_calls, memory_files, first_files}
use Rattle.staged.proofs.Histories.{are_written, are_moved, more_calls}
use Rattle.staged.proofs.Steps.{same_files}
use Rattle.staged.proofs.memory.MemoryDevice.write_recorded.Goals as goal

abbrev contents : List ℕ → List ℕ → Files
contents home log = record { home = home; log = log }

pub invariant_of-self-2 : goal.invariant_of-self-2
invariant_of-self-2 c =
    let old = c.args.self.now in
    let calls : map made c.push.new.self.items ≡ memory_calls old ++ wrote c.args.which c.args.at c.args.bytes.now ∷ [] = search (rules, map-append) in
    let home : first_of c.write_file.new.home ≡ first_of old.home = c.write_file.ensures.first_home ∙ ap first_of c.count.ensures.home in
    let log : first_of c.write_file.new.log ≡ first_of old.log = c.write_file.ensures.first_log ∙ ap first_of c.count.ensures.log in
    let first : contents (first_of c.write_file.new.home) (first_of c.write_file.new.log) ≡ first_files old = same_files _ _ _ home log in
    let before : contents_of c.count.new.home c.count.new.log ≡ memory_files old = same_files _ _ _ (ap (λ (f : MemoryFile). f.contents.items) c.count.ensures.home) (ap (λ (f : MemoryFile). f.contents.items) c.count.ensures.log) in
    let wrote_over = λ (files : Files). with_file files c.args.which (overwritten (file_of files c.args.which) c.args.at c.args.bytes.now) in
    let both = are_moved (contents (first_of c.write_file.new.home) (first_of c.write_file.new.log)) (first_files old) (map made c.push.new.self.items) _ (contents_of c.write_file.new.home c.write_file.new.log) (wrote_over (memory_files old)) first calls (c.in_ok-write_file.ensures.ok ∙ ap wrote_over before)
    (are_written c.args.which (first_files old) (memory_calls old) (memory_files old) c.args.at c.args.bytes.now c.requires (old.home_stands, old.log_stands)) in
    let call = wrote c.args.which c.args.at c.args.bytes.now in
    record {
      home_stands = both.0;
      log_stands = both.1;
      home_calls = more_calls Home _ _ _ _ _ _ _ home calls old.home_calls (c.in_ok-write_file.ensures.home ∙ ap (λ (f : MemoryFile). after_call Home (standing_of f) call) c.count.ensures.home);
      log_calls = more_calls Log _ _ _ _ _ _ _ log calls old.log_calls (c.in_ok-write_file.ensures.log ∙ ap (λ (f : MemoryFile). after_call Log (standing_of f) call) c.count.ensures.log);
    }
