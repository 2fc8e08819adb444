use Rattle.std.proofs.Common.{◌<◌, ◌≡◌, ◌∙◌, ap, arith, refl, inl, inr, ⊎_elim}
use Rattle.cfb_fat.specs.Tables.{version_of}
use Rattle.cfb_medium.specs.Versions.{stream_len_mask}
use Rattle.cfb_stream_writes.specs.Streams.{resized}
use Rattle.cfb.specs.Writing.{allocator_under}
use Rattle.cfb.proofs.Standing.{keeps_as, kept_as, on_err, on_ok, rewrites_as, stands_as}
use Rattle.cfb.proofs.written_stream.Stream.set_len.Goals as goal

pub returns-then-len-stream_len_mask-clause-kept : goal.returns-then-len-stream_len_mask-clause-kept
returns-then-len-stream_len_mask-clause-kept g c = inr (keeps_as c.args.self.now _ refl refl refl)

pub returns-then-len-ge-TOO_MANY-clause-kept : goal.returns-then-len-ge-TOO_MANY-clause-kept
returns-then-len-ge-TOO_MANY-clause-kept g c = inr (keeps_as c.args.self.now _ refl refl refl)

pub returns-clause-resized : goal.returns-clause-resized
returns-clause-resized g c = on_ok c.resize.result (rewrites_as (resized c.args.len) c.args.self.now _ _ refl refl refl) c.resize.ensures.resized

pub returns-clause-refused_only_if : goal.returns-clause-refused_only_if
returns-clause-refused_only_if g c = λ wrong path tree content s. c.resize.ensures.refused_only_if wrong path tree content (stands_as c.args.self.now _ refl refl refl path tree content s)

pub returns-clause-kept : goal.returns-clause-kept
returns-clause-kept g c = on_err c.resize.result (⊎_elim (λ failed. inl failed) (λ k. inr (kept_as c.args.self.now _ _ refl refl refl k))) c.resize.ensures.kept

pub returns-then-len-stream_len_mask-clause-unchanged : goal.returns-then-len-stream_len_mask-clause-unchanged
returns-then-len-stream_len_mask-clause-unchanged g c = λ wrong. keeps_as c.args.self.now _ refl refl refl

pub returns-clause-unchanged : goal.returns-clause-unchanged
returns-clause-unchanged g c = λ wrong path tree content s. let past : stream_len_mask (version_of (allocator_under c.args.self.now)) < c.args.len = c.resize.ensures.large wrong in
    let most : c.stream_len_mask.result ≡ stream_len_mask (version_of (allocator_under c.args.self.now)) = c.stream_len_mask.ensures ∙ ap stream_len_mask c.version.ensures in
    absurd (omega (arith, past, most))

pub returns-clause-full_only_if : goal.returns-clause-full_only_if
returns-clause-full_only_if g c = λ wrong live.
    ⊎_elim (λ many. inl many) (λ lacks. inr (λ path tree content s. lacks path tree content (stands_as c.args.self.now _ refl refl refl path tree content s))) (c.resize.ensures.full_only_if wrong live)

pub returns-then-is_failed-clause-spared : goal.returns-then-is_failed-clause-spared
returns-then-is_failed-clause-spared g c = λ past. (tt, keeps_as c.args.self.now _ refl refl refl)

pub returns-then-len-stream_len_mask-clause-spared : goal.returns-then-len-stream_len_mask-clause-spared
returns-then-len-stream_len_mask-clause-spared g c = λ past. (tt, keeps_as c.args.self.now _ refl refl refl)

pub returns-then-len-ge-TOO_MANY-clause-spared : goal.returns-then-len-ge-TOO_MANY-clause-spared
returns-then-len-ge-TOO_MANY-clause-spared g c = λ past. (tt, keeps_as c.args.self.now _ refl refl refl)

pub returns-clause-spared : goal.returns-clause-spared
returns-clause-spared g c = λ past.
    let spared = c.resize.ensures.spared past in
    (spared.0, kept_as c.args.self.now _ _ refl refl refl spared.1)
