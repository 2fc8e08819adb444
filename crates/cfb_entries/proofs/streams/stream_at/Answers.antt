use Rattle.std.proofs.Common.{◌∙◌, ap, inr, map, sym}
use Rattle.cfb_spec.specs.TreeRules.{open_read_stream}
use Rattle.cfb_siblings.specs.Places.{path_of}
use Rattle.cfb_tree.specs.Directory.{kind_stream}
use Rattle.cfb_tree.specs.EntryViews.{entry_in}
use Rattle.cfb_tree.specs.CaseTableViews.{case_table_of}
use Rattle.cfb_tree.specs.Entries.{HasSize}
use Rattle.cfb_entries.specs.Rules.{answer_at}
use Rattle.cfb_entries.proofs.Found.{found}
use Rattle.cfb_entries.proofs.StreamsHeld.{is_kind, stream_held}
use Rattle.cfb_entries.proofs.Telling.{refusal, stream_lost, stream_refused}
use Rattle.cfb_entries.proofs.streams.stream_at.Goals as goal

pub returns-in-Err-clause-refused_only_if : goal.returns-in-Err-clause-refused_only_if
returns-in-Err-clause-refused_only_if c = λ tree h.
    let letters = case_table_of c.args.letters.now in
    refusal letters tree (λ p. open_read_stream p) (stream_lost letters tree) c.args.path.now c.in-Err.error (c.in-Err.ensures.refused_only_if tree h)

pub returns-then-not-is_stream-clause-refused_only_if : goal.returns-then-not-is_stream-clause-refused_only_if
returns-then-not-is_stream-clause-refused_only_if c = λ tree h.
    let letters = case_table_of c.args.letters.now in
    let directory = map entry_in c.args.entries.now in
    let names = c.in-Ok.found.0.items in
    let e = entry_in c.in-Ok.found.1.now in
    let (named, id, leads, at) = c.in-Ok.ensures.found tree h in
    let it = found letters directory tree h (path_of names) id e leads at in
    inr (ap (answer_at letters tree (λ p. open_read_stream p)) named ∙ stream_refused letters tree directory (path_of names) id e at it (sym c.is_stream.ensures ∙ c.if-not-is_stream.true))

pub returns-clause-found : goal.returns-clause-found
returns-clause-found c = λ tree h. (path_of c.in-Ok.found.0.items, c.in-Ok.ensures.found tree h, is_kind c.in-Ok.found.1.now.kind kind_stream (sym c.is_stream.ensures ∙ c.if-not-is_stream.false))

pub returns-clause-answer : goal.returns-clause-answer
returns-clause-answer c = λ tree h.
    let letters = case_table_of c.args.letters.now in
    let directory = map entry_in c.args.entries.now in
    let e = entry_in c.in-Ok.found.1.now in
    let (named, id, leads, at) = c.in-Ok.ensures.found tree h in
    let is = is_kind e.kind kind_stream (sym c.is_stream.ensures ∙ c.if-not-is_stream.false) in
    let it = stream_held letters HasSize directory tree e is h (path_of c.in-Ok.found.0.items) id leads at in
    (it.bytes, ap (answer_at letters tree (λ p. open_read_stream p)) named ∙ it.answer, it.reads)
