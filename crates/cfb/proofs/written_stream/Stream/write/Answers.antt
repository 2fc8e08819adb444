use Rattle.std.proofs.Common.{◌<◌, ◌≤◌, ◌^◌, arith, inl, inr, refl, subst, ⊎_elim}
use Rattle.cfb_fat.specs.Tables.{version_of}
use Rattle.cfb_medium.specs.Bytes.{overwritten}
use Rattle.cfb_medium.specs.Versions.{stream_len_mask}
use Rattle.cfb_medium.specs.declared.error.Error.TheVariants.{Full}
use Rattle.cfb_stream_writes.specs.Streams.{LacksRoom}
use Rattle.cfb.specs.Views.{mini_of}
use Rattle.cfb.specs.Writing.{allocator_under, file_under, place_of, stream_len}
use Rattle.cfb.proofs.Standing.{err_as, keeps_as, kept_as, on_err, on_ok, rewrites_as, stands_as}
use Rattle.cfb.proofs.written_stream.Stream.write.Goals as goal

pub returns-then-end-self-clause-written : goal.returns-then-end-self-clause-written
returns-then-end-self-clause-written g c = on_ok c.extend.result (rewrites_as (λ content. overwritten content (place_of c.args.self.now) c.args.bytes.now) c.args.self.now _ _ refl refl refl) c.extend.ensures.written

pub returns-then-end-self-clause-large : goal.returns-then-end-self-clause-large
returns-then-end-self-clause-large g c = λ wrong path tree content s.
    subst (λ n. stream_len_mask (version_of (allocator_under c.args.self.now)) < n) c.in-Ok.ensures.end.0 (c.extend.ensures.large wrong path tree content (stands_as c.args.self.now _ refl refl refl path tree content s))

pub returns-then-end-self-clause-refused_only_if : goal.returns-then-end-self-clause-refused_only_if
returns-then-end-self-clause-refused_only_if g c = λ wrong path tree content s. c.extend.ensures.refused_only_if wrong path tree content (stands_as c.args.self.now _ refl refl refl path tree content s)

pub returns-then-end-self-clause-kept : goal.returns-then-end-self-clause-kept
returns-then-end-self-clause-kept g c = on_err c.extend.result (⊎_elim (λ failed. inl failed) (λ k. inr (kept_as c.args.self.now _ _ refl refl refl k))) c.extend.ensures.kept

pub returns-clause-written : goal.returns-clause-written
returns-clause-written g c = on_ok c.overwrite.result (rewrites_as (λ content. overwritten content (place_of c.args.self.now) c.args.bytes.now) c.args.self.now _ _ refl refl refl) c.overwrite.ensures.written

pub returns-clause-large : goal.returns-clause-large
returns-clause-large g c = λ wrong path tree content s. absurd (c.overwrite.ensures.large wrong path tree content (stands_as c.args.self.now _ refl refl refl path tree content s))

pub returns-clause-refused_only_if : goal.returns-clause-refused_only_if
returns-clause-refused_only_if g c = λ wrong path tree content s. c.overwrite.ensures.refused_only_if wrong path tree content (stands_as c.args.self.now _ refl refl refl path tree content s)

pub returns-clause-kept : goal.returns-clause-kept
returns-clause-kept g c = on_err c.overwrite.result (⊎_elim (λ failed. inl failed) (λ k. inr (kept_as c.args.self.now _ _ refl refl refl k))) c.overwrite.ensures.kept

pub returns-in-Err-clause-unchanged : goal.returns-in-Err-clause-unchanged
returns-in-Err-clause-unchanged g c = λ wrong. keeps_as c.args.self.now _ refl refl refl

pub returns-then-end-self-clause-unchanged : goal.returns-then-end-self-clause-unchanged
returns-then-end-self-clause-unchanged g c = λ wrong path tree content s.
    let past = c.extend.ensures.large wrong path tree content (stands_as c.args.self.now _ refl refl refl path tree content s) in
    let within = c.in-Ok.ensures.end.2 in absurd (omega (arith, past, within))

pub returns-clause-unchanged : goal.returns-clause-unchanged
returns-clause-unchanged g c = λ wrong path tree content s. absurd (c.overwrite.ensures.large wrong path tree content (stands_as c.args.self.now _ refl refl refl path tree content s))

pub returns-in-Err-clause-full_only_if : goal.returns-in-Err-clause-full_only_if
returns-in-Err-clause-full_only_if g c = λ wrong live. inl (c.in-Err.ensures.many (err_as c.in-Err.error Full wrong))

pub returns-then-end-self-clause-full_only_if : goal.returns-then-end-self-clause-full_only_if
returns-then-end-self-clause-full_only_if g c = λ wrong live.
    ⊎_elim
    (λ many. inl (subst (λ n. 2 ^ 63 ≤ n) c.in-Ok.ensures.end.0 many))
    (λ lacks. inr (λ path tree content s.
    subst (λ n. LacksRoom (mini_of (file_under c.args.self.now)) (stream_len c.args.self.now) n) c.in-Ok.ensures.end.0 (lacks path tree content (stands_as c.args.self.now _ refl refl refl path tree content s))))
    (c.extend.ensures.full_only_if wrong live)

pub returns-clause-full_only_if : goal.returns-clause-full_only_if
returns-clause-full_only_if g c = λ wrong live. absurd (c.overwrite.ensures.room wrong)

pub returns-in-Err-clause-kept : goal.returns-in-Err-clause-kept
returns-in-Err-clause-kept g c = inr (keeps_as c.args.self.now _ refl refl refl)
