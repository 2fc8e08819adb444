use Rattle.std.proofs.Common.{◌≡◌, ◌∙◌, ◌+◌, ◌-◌, ◌++◌, ap, drop, length, refl, replicate, sym, take, length-drop, rules}
use Rattle.std.specs.Prelude.{vec_len}
use Rattle.cfb.specs.Writing.{place_of, stream_len}
use Rattle.cfb.proofs.Appending.{appended}
use Rattle.cfb.proofs.Standing.{gone_as, rests_as, rests_so, stands_as}
use Rattle.cfb.proofs.written_stream.Stream.read_to_end.Goals as goal

pub returns-in-Ok-clause-read : goal.returns-in-Ok-clause-read
returns-in-Ok-clause-read g c = λ path tree content s.
    let it = c.args.self.now in
    let wanted = drop (place_of it) content in
    let wanted_len : length wanted ≡ stream_len it - place_of it = length-drop (place_of it) content ∙ ap (λ n. n - place_of it) (sym s.len) in
    let end : c.in-Some.end ≡ c.len-front.result + (stream_len it - place_of it) = c.in-Some.ensures.1 in
    let items = c.in_ok-resize.ensures.items ∙ ap (λ n. take n c.args.bytes.now.items ++ replicate (n - vec_len c.args.bytes.now) 0) end
    ∙ ap (λ n. take (c.len-front.result + (stream_len it - place_of it)) c.args.bytes.now.items ++ replicate (c.len-front.result + (stream_len it - place_of it) - n) 0) (sym c.len-front.ensures) in
    appended c.resize.new.self.len c.len-front.result (stream_len it - place_of it) c.in-Ok.count c.args.bytes.now.items c.deref_mut.result.now c.resize.new.self.items _ c.read.new.buffer wanted
    (c.len-front.ensures ∙ c.args.bytes.now.ok.0) (c.in_ok-resize.ensures.len ∙ end) c.deref_mut.ensures.value items refl c.read.auto.buffer c.in-Ok.ensures.count (c.in-Ok.ensures.read path tree content (stands_as it _ refl refl refl path tree content s)) wanted_len

pub returns-in-Ok-clause-only_reads : goal.returns-in-Ok-clause-only_reads
returns-in-Ok-clause-only_reads g c = rests_as c.args.self.now _ c.read.new.self refl refl refl refl c.in-Ok.ensures.only_reads

pub returns-in-Err-clause-only_reads : goal.returns-in-Err-clause-only_reads
returns-in-Err-clause-only_reads g c = rests_as c.args.self.now _ c.read.new.self refl refl refl refl c.in-Err.ensures.only_reads

pub returns-in-Err-clause-errors : goal.returns-in-Err-clause-errors
returns-in-Err-clause-errors g c = gone_as c.args.self.now _ c.in-Err.error refl refl refl c.in-Err.ensures.errors

pub returns-in_err-resize-clause-only_reads : goal.returns-in_err-resize-clause-only_reads
returns-in_err-resize-clause-only_reads g c = rests_so c.args.self.now _ refl refl refl (search rules)
