use Rattle.std.proofs.Common.{rules, ◌≡◌, ◌<◌, ◌≤◌, Bool, [], refl, arith}
use Rattle.std.specs.Prelude.{slice_get, Err, IfOk, Ok, Result, Some}
use Rattle.cfb_medium.specs.declared.error.Error.{Error}
use Rattle.cfb_tree.specs.Directory.{kind_stream}
use Rattle.cfb_tree.specs.EntryViews.{entry_in}
use Rattle.cfb_directory.specs.Views.{entries_held}
use Rattle.cfb_mini.specs.Views.{directory_of}
use Rattle.cfb_soundness.specs.Views.{marks_of}
use Rattle.cfb_soundness.proofs.Taking.{takes_none}
use Rattle.cfb_soundness.proofs.streams.Taken.take_entry.Goals as goal

if_ok : (r : Result Bool Error) (P Q : Bool → Type 0) → ((b : Bool) → P b → Q b) → IfOk r P → IfOk r Q
if_ok (Ok b) P Q so h = so b h
if_ok (Err e) P Q so h = h

pub returns-then-not-is_stream-clause-took : goal.returns-then-not-is_stream-clause-took
returns-then-not-is_stream-clause-took g c = λ yes.
    let found : slice_get (entries_held (directory_of c.args.file.now)) c.args.id ≡ Some (entry_in c.dir_entry-entry.result.now) = search rules in (
      [],
      [],
      record {
        entry = entry_in c.dir_entry-entry.result.now;
        found = found;
        short = λ is _. let wrong = c.if-not-is_stream.ensures.1 is in absurd (cc);
        long = λ is _. let wrong = c.if-not-is_stream.ensures.1 is in absurd (cc);
        other = λ _. (refl, refl);
      },
      record { of_sectors = takes_none (marks_of c.args.self.now.sectors); of_minis = takes_none (marks_of c.args.self.now.minis) },
    )

pub returns-then-entry-clause-took : goal.returns-then-entry-clause-took
returns-then-entry-clause-took g c =
    let found : slice_get (entries_held (directory_of c.args.file.now)) c.args.id ≡ Some (entry_in c.dir_entry-entry.result.now) = search rules in
    let is : (entry_in c.dir_entry-entry.result.now).kind ≡ kind_stream = c.if-not-is_stream.ensures.0 refl in
    let below : (entry_in c.dir_entry-entry.result.now).size < 4096 = c.if-entry.true in
    if_ok c.take_short.result _ _
    (λ ok took yes. let (ids, has, takes) = took yes in (
      [],
      ids,
      record {
        entry = entry_in c.dir_entry-entry.result.now;
        found = found;
        short = λ _ _. (refl, has);
        long = λ _ up. absurd (omega (arith, below, up));
        other = λ other. absurd (other is);
      },
      record { of_sectors = takes_none (marks_of c.args.self.now.sectors); of_minis = takes },
    ))
    c.take_short.ensures.took

pub returns-clause-took : goal.returns-clause-took
returns-clause-took g c =
    let found : slice_get (entries_held (directory_of c.args.file.now)) c.args.id ≡ Some (entry_in c.dir_entry-entry.result.now) = search rules in
    let is : (entry_in c.dir_entry-entry.result.now).kind ≡ kind_stream = c.if-not-is_stream.ensures.0 refl in
    let up : 4096 ≤ (entry_in c.dir_entry-entry.result.now).size = c.if-entry.false in
    if_ok c.take_long.result _ _
    (λ ok took yes. let (ids, has, takes) = took yes in (
      ids,
      [],
      record {
        entry = entry_in c.dir_entry-entry.result.now;
        found = found;
        short = λ _ below. absurd (omega (arith, below, up));
        long = λ _ _. (refl, has);
        other = λ other. absurd (other is);
      },
      record { of_sectors = takes; of_minis = takes_none (marks_of c.args.self.now.minis) },
    ))
    c.take_long.ensures.took
