use Rattle.std.proofs.Common.{rules, ◌≡◌, refl}
use Rattle.std.specs.Prelude.{slice_get, Some}
use Rattle.cfb_mini.specs.Views.{directory_of}
use Rattle.cfb_tree.specs.EntryViews.{entry_in}
use Rattle.cfb_findings.specs.Seen.{tables_seen}
use Rattle.cfb_findings.proofs.Wholes.{long_whole, neither_stream, other_whole, short_whole, whole_there}
use Rattle.cfb_findings.proofs.streams.is_whole.Goals as goal

pub returns-then-not-has_dir_entry : goal.returns-then-not-has_dir_entry
returns-then-not-has_dir_entry g c = λ file_len tells.
    let t = tables_seen c.args.file.now file_len in
    let same : c.directory.result.now ≡ directory_of c.args.file.now = search rules in (
      (λ wrong. absurd (cc)),
      (λ whole. let below = whole_there t c.args.id whole in let wrong = c.if-not-has_dir_entry.ensures.1 (search (rules, below, same)) in absurd (cc)),
    )

pub returns-then-is_long : goal.returns-then-is_long
returns-then-is_long g c = λ file_len tells.
    let t = tables_seen c.args.file.now file_len in
    let e = entry_in c.dir_entry-entry.result.now in
    let found : slice_get t.entries c.args.id ≡ Some e = search rules in
    let both = long_whole t c.args.id e found (search rules) in
    let holds = c.holds.ensures t.fat _ _ file_len tells.of_fat in (
      (λ yes_so. both.0 (holds.0 yes_so)),
      (λ whole. holds.1 (both.1 whole)),
    )

pub returns-then-is_short : goal.returns-then-is_short
returns-then-is_short g c = λ file_len tells.
    let t = tables_seen c.args.file.now file_len in
    let e = entry_in c.dir_entry-entry.result.now in
    let found : slice_get t.entries c.args.id ≡ Some e = search rules in
    let both = short_whole t c.args.id e found (search rules) in
    let holds = c.holds-then-is_short.ensures _ 64 _ file_len tells.of_minis in (
      (λ yes_so. both.0 (holds.0 yes_so)),
      (λ whole. holds.1 (both.1 whole)),
    )

pub returns : goal.returns
returns g c = λ file_len tells.
    let t = tables_seen c.args.file.now file_len in
    let e = entry_in c.dir_entry-entry.result.now in
    let found : slice_get t.entries c.args.id ≡ Some e = search rules in (
      (λ _. other_whole t c.args.id e found (neither_stream e (search rules) (search rules))),
      (λ whole. refl),
    )
