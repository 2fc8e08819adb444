use Rattle.std.proofs.Common.{◌≡◌, ◌∙◌, ◌+◌, ◌-◌, ◌++◌, ap, drop, length, refl, replicate, sym, take, length-drop}
use Rattle.std.specs.Prelude.{vec_len}
use Rattle.cfb.specs.Streams.{file_of, len_of, position_of}
use Rattle.cfb.specs.Views.{links_held, mini_of}
use Rattle.cfb.proofs.Appending.{appended}
use Rattle.cfb.proofs.StreamBytes.{content_len}
use Rattle.cfb.proofs.stream.ReadStream.read_to_end.Goals as goal

pub returns-in-Ok-clause-read : goal.returns-in-Ok-clause-read
returns-in-Ok-clause-read g c = λ content has.
    let it = c.args.self.now in
    let wanted = drop (position_of it) content in
    let size = content_len (mini_of (file_of it)) (links_held (file_of it)) (len_of it) content has.lies in
    let wanted_len : length wanted ≡ len_of it - position_of it = length-drop (position_of it) content ∙ ap (λ n. n - position_of it) size in
    let end : c.in-Some.end ≡ c.len-front.result + (len_of it - position_of it) = c.in-Some.ensures.1 in
    let items = c.in_ok-resize.ensures.items ∙ ap (λ n. take n c.args.bytes.now.items ++ replicate (n - vec_len c.args.bytes.now) 0) end
    ∙ ap (λ n. take (c.len-front.result + (len_of it - position_of it)) c.args.bytes.now.items ++ replicate (c.len-front.result + (len_of it - position_of it) - n) 0) (sym c.len-front.ensures) in
    appended c.resize.new.self.len c.len-front.result (len_of it - position_of it) c.in-Ok.count c.args.bytes.now.items c.deref_mut.result.now c.resize.new.self.items _ c.read.new.buffer wanted
    (c.len-front.ensures ∙ c.args.bytes.now.ok.0) (c.in_ok-resize.ensures.len ∙ end) c.deref_mut.ensures.value items refl c.read.auto.buffer c.in-Ok.ensures.count (c.in-Ok.ensures.read content has) wanted_len
