use Rattle.std.proofs.Common.{map, sym, ◌∙◌, subst}
use Rattle.std.specs.Prelude.{chars}
use Rattle.cfb_siblings.proofs.Entries.{found_in, lost_in}
use Rattle.cfb_siblings.specs.Places.{IsPlace}
use Rattle.cfb_siblings.specs.Reading.{ReadBy}
use Rattle.cfb_tree.specs.Directory.{kind_stream}
use Rattle.cfb_tree.specs.EntryViews.{entry_in}
use Rattle.cfb_tree.specs.CaseTableViews.{case_table_of}
use Rattle.cfb_entries.proofs.Following.{storage_at, stream_has_none, not_kind}
use Rattle.cfb_entries.proofs.Found.{entry_there, has_size, sizes_read}
use Rattle.cfb_entries.proofs.StreamsHeld.{is_kind}
use Rattle.cfb_entries.proofs.kinds.child_of.Goals as goal

pub returns-in_default : goal.returns-in_default
returns-in_default c = λ tree h path leads.
    absurd (entry_there (case_table_of c.args.letters.now) (map entry_in c.args.entries.now) tree h path c.args.parent leads
    (lost_in c.args.entries.now c.args.parent c.in_default.ensures.lookup.3))

pub returns-then-is_stream : goal.returns-then-is_stream
returns-then-is_stream c = λ tree h path leads.
    let e = entry_in c.in-Some.entry.now in
    let got = c.in-Some.ensures.lookup in
    stream_has_none (case_table_of c.args.letters.now) (map entry_in c.args.entries.now) tree h path c.args.parent leads e
    (found_in c.args.entries.now c.args.parent c.in-Some.entry.now got.3.0 got.1) (chars c.args.name.now)
    (is_kind e.kind kind_stream (sym c.is_stream.ensures ∙ c.if-is_stream.true))

pub returns-in-Some-Taken : goal.returns-in-Some-Taken
returns-in-Some-Taken c = λ tree h path leads.
    let letters = case_table_of c.args.letters.now in
    let directory = map entry_in c.args.entries.now in
    let e = entry_in c.in-Some.entry.now in
    let got = c.in-Some.ensures.lookup in
    let storage = storage_at letters directory tree h path c.args.parent leads e (found_in c.args.entries.now c.args.parent c.in-Some.entry.now got.3.0 got.1)
    (not_kind e.kind (sym c.is_stream.ensures ∙ c.if-is_stream.false)) in
    let place = c.in-Some-Taken.ensures has_size tree path (sizes_read letters directory tree h) storage in
    (subst (IsPlace (ReadBy has_size) letters directory tree path c.args.parent (chars c.args.name.now)) c.in-Some-Taken.field-0-is place).1

pub returns-in-Some-Free : goal.returns-in-Some-Free
returns-in-Some-Free c = λ tree h path leads.
    let letters = case_table_of c.args.letters.now in
    let directory = map entry_in c.args.entries.now in
    let e = entry_in c.in-Some.entry.now in
    let got = c.in-Some.ensures.lookup in
    let storage = storage_at letters directory tree h path c.args.parent leads e (found_in c.args.entries.now c.args.parent c.in-Some.entry.now got.3.0 got.1)
    (not_kind e.kind (sym c.is_stream.ensures ∙ c.if-is_stream.false)) in
    let place = c.in-Some-Free.ensures has_size tree path (sizes_read letters directory tree h) storage in
    (subst (IsPlace (ReadBy has_size) letters directory tree path c.args.parent (chars c.args.name.now)) c.in-Some-Free.field-0-is place).2

pub returns-in-None : goal.returns-in-None
returns-in-None c = λ tree h path leads.
    let letters = case_table_of c.args.letters.now in
    let directory = map entry_in c.args.entries.now in
    let e = entry_in c.in-Some.entry.now in
    let got = c.in-Some.ensures.lookup in
    let storage = storage_at letters directory tree h path c.args.parent leads e (found_in c.args.entries.now c.args.parent c.in-Some.entry.now got.3.0 got.1)
    (not_kind e.kind (sym c.is_stream.ensures ∙ c.if-is_stream.false)) in
    absurd (c.in-None.ensures has_size tree path (sizes_read letters directory tree h) storage)
