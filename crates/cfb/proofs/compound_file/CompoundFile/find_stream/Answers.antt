use Rattle.std.proofs.Common.{Err, ap, refl, sym}
use Rattle.cfb_tree.specs.EntryViews.{entry_in}
use Rattle.cfb.specs.Views.{mini_of}
use Rattle.cfb.proofs.Holding.{holds_shown}
use Rattle.cfb.proofs.StreamBytes.{sectors_found}
use Rattle.cfb.proofs.Wants.{entry_cause}
use Rattle.cfb.proofs.StreamsFound.{broken_so, bytes_found, found_so, never_broken, none_ahead, refused_first, refused_so, shown_in}
use Rattle.cfb.proofs.compound_file.CompoundFile.find_stream.Goals as goal

pub returns-in-Err-stream_at-clause-answer : goal.returns-in-Err-stream_at-clause-answer
returns-in-Err-stream_at-clause-answer g c = λ tree h.
    (tt, refused_first c.args.self.now c.args.path.now tree c.in-Err-stream_at.error (c.in-Err-stream_at.ensures.refused_only_if tree (shown_in c.args.self.now c.args.path.now tree _ c.entries.ensures h)))

pub returns-in-Err-stream_at-clause-bytes : goal.returns-in-Err-stream_at-clause-bytes
returns-in-Err-stream_at-clause-bytes g c = λ tree h.
    (tt, refused_so c.args.self.now c.args.path.now tree c.in-Err-stream_at.error (c.in-Err-stream_at.ensures.refused_only_if tree (shown_in c.args.self.now c.args.path.now tree _ c.entries.ensures (holds_shown c.args.self.now tree h))))

pub returns-in-Err-open_stream-clause-answer : goal.returns-in-Err-open_stream-clause-answer
returns-in-Err-open_stream-clause-answer g c = λ tree h.
    let it = c.args.self.now in
    let shown = shown_in it c.args.path.now tree _ c.entries.ensures h in
    let (names, found, kind) = c.in-Ok-stream_at.ensures.found tree shown in
    let e = entry_in c.in-Ok-stream_at.entry.now in
    let at = found_so it c.args.path.now tree _ e c.entries.ensures names found kind in (
      tt,
      broken_so it c.args.path.now tree e at c.in-Err-open_stream.error
          (λ wrong sectors lies. c.in-Err-open_stream.ensures.none (ap Err wrong) sectors lies)
          c.in-Err-open_stream.ensures.errors,
    )

pub returns-in-Err-open_stream-clause-bytes : goal.returns-in-Err-open_stream-clause-bytes
returns-in-Err-open_stream-clause-bytes g c = λ tree h.
    let it = c.args.self.now in
    let shown = shown_in it c.args.path.now tree _ c.entries.ensures (holds_shown it tree h) in
    let (names, found, kind) = c.in-Ok-stream_at.ensures.found tree shown in
    let e = entry_in c.in-Ok-stream_at.entry.now in
    let at = found_so it c.args.path.now tree _ e c.entries.ensures names found kind in (
      tt,
      never_broken it c.args.path.now tree e at c.in-Err-open_stream.error
          (λ wrong sectors lies. c.in-Err-open_stream.ensures.none (ap Err wrong) sectors lies)
          c.in-Err-open_stream.ensures.errors h,
    )

pub returns-clause-answer : goal.returns-clause-answer
returns-clause-answer g c = λ tree h.
    let it = c.args.self.now in
    let links = c.in-Ok-open_stream.links in
    let shown = shown_in it c.args.path.now tree _ c.entries.ensures h in
    let (names, found, kind) = c.in-Ok-stream_at.ensures.found tree shown in
    let e = entry_in c.in-Ok-stream_at.entry.now in
    let at = found_so it c.args.path.now tree _ e c.entries.ensures names found kind in
    let (bytes, answer, len) = c.in-Ok-stream_at.ensures.answer tree shown in (
      (
        record {
          entry = e;
          at_path = at;
          lies = c.in-Ok-open_stream.ensures.sectors;
          level = c.in-Ok-open_stream.ensures.level;
          has_size = refl;
        },
        bytes,
        answer,
        sym len,
      ),
      tt,
    )

pub returns-clause-bytes : goal.returns-clause-bytes
returns-clause-bytes g c = λ tree h.
    let it = c.args.self.now in
    let links = c.in-Ok-open_stream.links in
    let shown = shown_in it c.args.path.now tree _ c.entries.ensures (holds_shown it tree h) in
    let (names, found, kind) = c.in-Ok-stream_at.ensures.found tree shown in
    let e = entry_in c.in-Ok-stream_at.entry.now in
    let at = found_so it c.args.path.now tree _ e c.entries.ensures names found kind in
    let (bytes, answer, has) = bytes_found it c.args.path.now tree e at h links
    c.in-Ok-open_stream.ensures.sectors c.in-Ok-open_stream.ensures.level in
    ((bytes, answer, record { lies = has; ahead = none_ahead c.clear.new.self bytes c.clear.ensures.none }), tt)

pub returns-in-Err-stream_at-clause-cause : goal.returns-in-Err-stream_at-clause-cause
returns-in-Err-stream_at-clause-cause g c = entry_cause c.args.self.now c.in-Err-stream_at.error c.in-Err-stream_at.ensures.errors

pub returns-clause-found : goal.returns-clause-found
returns-clause-found g c = λ (honest, memory).
    let links = c.in-Ok-open_stream.links in
    let told = c.in-Ok-open_stream.ensures in
    let there = sectors_found (mini_of c.args.self.now) memory _ _ links told.sectors told.level honest in
    record { lies = record { honest = honest; sectors = there.0; room = there.1; bytes = refl }; ahead = none_ahead c.clear.new.self _ c.clear.ensures.none }
