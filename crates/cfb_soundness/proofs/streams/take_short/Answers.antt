use Rattle.std.proofs.Common.{◌≡◌, map, ap, sym, subst, ◌∙◌}
use Rattle.cfb_tree.specs.EntryViews.{entry_in}
use Rattle.cfb_mini.specs.LinkViews.{minis_of}
use Rattle.cfb_soundness.specs.Marks.{CanTake}
use Rattle.cfb_soundness.specs.Uses.{mini_start}
use Rattle.cfb_soundness.specs.Views.{marks_of, tables_in}
use Rattle.cfb_soundness.proofs.UsesFound.{short_is, short_not_held}
use Rattle.cfb_soundness.proofs.streams.take_short.Goals as goal

pub returns-then-not-hold_bytes-clause-refused_only_if : goal.returns-then-not-hold_bytes-clause-refused_only_if
returns-then-not-hold_bytes-clause-refused_only_if g c = λ no ids has can.
    let t = tables_in c.args.file.now c.args.file_len in
    let links = minis_of c.in-Some.links in
    let found = rw c.in-Some.is at c.in_ok-links.ensures.some in
    let starts : c.deref.result.now ≡ map (mini_start t) links =
    c.deref.ensures.value ∙ c.in_ok-starts.ensures.starts c.args.file_len ∙ ap (map (mini_start t)) c.mini_sector_ids.ensures in
    short_not_held t (entry_in c.args.entry.now) links c.deref.result.now 64 ids found.0 starts
    (λ held. let wrong = c.if-not-hold_bytes.ensures.1 held in absurd (cc)) has

pub returns-clause-refused_only_if : goal.returns-clause-refused_only_if
returns-clause-refused_only_if g c = λ no ids has can.
    let t = tables_in c.args.file.now c.args.file_len in
    let links = minis_of c.in-Some.links in
    let found = rw c.in-Some.is at c.in_ok-links.ensures.some in
    let same = short_is t (entry_in c.args.entry.now) links links 64 ids found.0 has in
    c.take_all.ensures.refused_only_if no (subst (λ xs. CanTake xs (marks_of c.args.minis.now)) (same ∙ sym c.mini_sector_ids-2.ensures) can)
