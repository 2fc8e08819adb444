use Rattle.std.proofs.Common.{◌∙◌, ap, inl, inr, sym, ⊎_elim}
use Rattle.cfb_spec.specs.TreeRules.{has_bytes}
use Rattle.cfb_mini.specs.Views.{allocator_of}
use Rattle.cfb.specs.Streams.{bytes_found}
use Rattle.cfb.specs.Views.{mini_of}
use Rattle.cfb.proofs.StreamsFound.{cause_since}
use Rattle.cfb.proofs.Wants.{want_cause, want_fault}
use Rattle.cfb.proofs.WholeStreams.{all_read, bytes_yet, found_yet, keeps_by, place_is, read_by, rests_twice, unfound, unfound_held, unread}
use Rattle.cfb.proofs.compound_file.CompoundFile.read_stream.Goals as goal

pub returns-in-Err-clause-answer : goal.returns-in-Err-clause-answer
returns-in-Err-clause-answer g c = λ tree h. (tt, unfound c.args.self.now c.args.path.now _ c.in-Err.error (c.in-Err.ensures.answer tree h).1)

pub returns-in-Err-clause-refused_only_if : goal.returns-in-Err-clause-refused_only_if
returns-in-Err-clause-refused_only_if g c = λ tree h. unfound_held c.args.self.now c.args.path.now _ c.in-Err.error (c.in-Err.ensures.bytes tree h).1

pub returns-in-Err-clause-cause : goal.returns-in-Err-clause-cause
returns-in-Err-clause-cause g c =
    let it = c.args.self.now in
    (want_cause it c.in-Err.error (allocator_of (mini_of c.find_stream.new.self)) c.in-Err.ensures.cause, want_fault it c.in-Err.error c.in-Err.ensures.cause)

pub returns-in-Err-read_whole-clause-only_reads : goal.returns-in-Err-read_whole-clause-only_reads
returns-in-Err-read_whole-clause-only_reads g c = rests_twice c.args.self.now c.find_stream.new.self (read_by c.find_stream.new.self c.read_whole.new.mini c.read_whole.new.ahead) c.find_stream.ensures.only_reads (keeps_by c.find_stream.new.self c.read_whole.new.mini c.read_whole.new.ahead c.in-Ok.len c.read_whole.ensures.only_reads c.read_whole.ensures.most c.read_whole.ensures.kept c.read_whole.ensures.ahead).rests

pub returns-in-Err-read_whole-clause-answer : goal.returns-in-Err-read_whole-clause-answer
returns-in-Err-read_whole-clause-answer g c = λ tree h.
    let read = c.in-Err-read_whole.ensures in
    (tt, unread c.args.self.now c.args.path.now _ c.in-Err-read_whole.error read.errors (λ true. let has = c.in-Ok.ensures.found true in read.lost _ has.lies has.ahead))

pub returns-in-Err-read_whole-clause-refused_only_if : goal.returns-in-Err-read_whole-clause-refused_only_if
returns-in-Err-read_whole-clause-refused_only_if g c = λ tree h.
    let ((bytes, answer, has), done) = c.in-Ok.ensures.bytes tree h in
    inl (c.in-Err-read_whole.ensures.lost bytes has.lies has.ahead)

pub returns-in-Err-read_whole-clause-cause : goal.returns-in-Err-read_whole-clause-cause
returns-in-Err-read_whole-clause-cause g c =
    let e = c.in-Err-read_whole.error in
    let read = c.in-Err-read_whole.ensures in (
      cause_since (mini_of c.args.self.now) (mini_of c.find_stream.new.self) (mini_of (read_by c.find_stream.new.self c.read_whole.new.mini c.read_whole.new.ahead)) e c.find_stream.ensures.only_reads.mini read.cause,
      ⊎_elim (λ fault. inl fault) (λ place. inr (place_is e place)) read.errors,
    )

pub returns-in-Ok-read_whole-clause-only_reads : goal.returns-in-Ok-read_whole-clause-only_reads
returns-in-Ok-read_whole-clause-only_reads g c = rests_twice c.args.self.now c.find_stream.new.self (read_by c.find_stream.new.self c.read_whole.new.mini c.read_whole.new.ahead) c.find_stream.ensures.only_reads (keeps_by c.find_stream.new.self c.read_whole.new.mini c.read_whole.new.ahead c.in-Ok.len c.read_whole.ensures.only_reads c.read_whole.ensures.most c.read_whole.ensures.kept c.read_whole.ensures.ahead).rests

pub returns-in-Ok-read_whole-clause-answer : goal.returns-in-Ok-read_whole-clause-answer
returns-in-Ok-read_whole-clause-answer g c = λ tree h.
    let ((finds, bytes, answer, size), done) = c.in-Ok.ensures.answer tree h in
    let read = c.in-Ok-read_whole.ensures in
    let now = c.in-Ok-read_whole.bytes.items in
    ((found_yet c.args.self.now c.find_stream.new.self (read_by c.find_stream.new.self c.read_whole.new.mini c.read_whole.new.ahead) c.args.path.now c.in-Ok.len (keeps_by c.find_stream.new.self c.read_whole.new.mini c.read_whole.new.ahead c.in-Ok.len c.read_whole.ensures.only_reads c.read_whole.ensures.most c.read_whole.ensures.kept c.read_whole.ensures.ahead) now read.size finds, bytes, answer, read.size ∙ size), tt)

pub returns-in-Ok-read_whole-clause-bytes : goal.returns-in-Ok-read_whole-clause-bytes
returns-in-Ok-read_whole-clause-bytes g c = λ tree h.
    let ((bytes, answer, has), done) = c.in-Ok.ensures.bytes tree h in
    let now = c.in-Ok-read_whole.bytes.items in
    answer ∙ ap (λ b. has_bytes b) (sym (all_read c.find_stream.new.self c.in-Ok.len bytes now has (c.in-Ok-read_whole.ensures.read bytes has.lies has.ahead)))

pub returns-in-Ok-read_whole-clause-found : goal.returns-in-Ok-read_whole-clause-found
returns-in-Ok-read_whole-clause-found g c = λ true.
    let mid = c.find_stream.new.self in
    let has = c.in-Ok.ensures.found true in
    let read = c.in-Ok-read_whole.ensures in
    let now = c.in-Ok-read_whole.bytes.items in
    bytes_yet c.args.self.now mid (read_by c.find_stream.new.self c.read_whole.new.mini c.read_whole.new.ahead) c.args.path.now c.in-Ok.len (keeps_by c.find_stream.new.self c.read_whole.new.mini c.read_whole.new.ahead c.in-Ok.len c.read_whole.ensures.only_reads c.read_whole.ensures.most c.read_whole.ensures.kept c.read_whole.ensures.ahead) now read.size has (all_read mid c.in-Ok.len (bytes_found mid c.in-Ok.len) now has (read.read _ has.lies has.ahead))
