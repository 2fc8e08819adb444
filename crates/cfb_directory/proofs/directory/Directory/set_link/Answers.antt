use Rattle.std.proofs.Common.{inl, rules, ◌≡◌, ap, sym, ◌∙◌}
use Rattle.cfb_fat.specs.Keeping.{fails_cause}
use Rattle.cfb_siblings.specs.Links.{holder, linked_to, relinked, with_entry}
use Rattle.cfb_directory.specs.Views.{allocator_of, entries_held}
use Rattle.cfb_directory.proofs.Turned.{sets_one}
use Rattle.cfb_directory.proofs.directory.Directory.set_link.Goals as goal

pub returns-clause-links : goal.returns-clause-links
returns-clause-links g c =
    let link = c.args.it.link in
    let target = c.args.it.target in
    let old = c.args.self.now in
    let new = c.write_link.new.self in
    let set = c.in_default.ensures.set in
    let is : entries_held new ≡ relinked link target (entries_held old) =
    set.2.entries ∙ sym (ap (with_entry (entries_held old) (holder link) (linked_to link target)) set.1) in
    sets_one old new link target set.0 set.2 c.write_link.ensures.noted is

pub returns-in-Err-clause-error_contract : goal.returns-in-Err-clause-error_contract
returns-in-Err-clause-error_contract g c =
    let told = c.in-Err.ensures.error_contract in
    record {
      live = tt;
      failed = search rules;
      after = inl c.fail.ensures.sectors.failed;
      cause = fails_cause (allocator_of c.args.self.now) (allocator_of c.write_link.new.self) c.fail.new.self c.in-Err.error told.cause c.fail.ensures;
      fault = told.fault;
    }
