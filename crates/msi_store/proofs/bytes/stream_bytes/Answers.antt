use Rattle.std.proofs.Common.{inl, inr}
use Rattle.std.specs.Prelude.{chars}
use Rattle.cfb.proofs.Holding.{holds_shown}
use Rattle.cfb.specs.Views.{file_case_table, mini_of}
use Rattle.cfb_mini.specs.Views.{allocator_of}
use Rattle.msi_stored.proofs.Children.{none_of, refused_of, some_of}
use Rattle.msi_store.proofs.ShownTrees.{breaks_at, bytes_shown, shown_sizes}
use Rattle.msi_store.proofs.Faults.{cause_as, fault_as, kind_as}
use Rattle.msi_store.proofs.bytes.stream_bytes.Goals as goal

pub returns-then-not-is_stream-clause-answer : goal.returns-then-not-is_stream-clause-answer
returns-then-not-is_stream-clause-answer g c tree held =
    none_of (file_case_table c.args.file.now) tree c.args.name.now (chars c.args.name.now) c.requires c.is_stream.result c.if-not-is_stream.true
    (c.is_stream.ensures tree (holds_shown c.args.file.now tree held))

pub returns-in-Ok-clause-answer : goal.returns-in-Ok-clause-answer
returns-in-Ok-clause-answer g c tree held =
    some_of (file_case_table c.args.file.now) tree c.args.name.now (chars c.args.name.now) c.requires c.in-Ok.bytes.items (c.in-Ok.ensures.bytes tree held)

pub returns-in-Err-clause-answer : goal.returns-in-Err-clause-answer
returns-in-Err-clause-answer g c tree held = fault_as c.in-Err.error c.as_broken.result c.as_broken.ensures (elim (c.in-Err.ensures.refused_only_if tree held) [
  | inl fault ↦ fault
  | inr answer ↦ absurd (refused_of (file_case_table c.args.file.now) tree c.args.name.now (chars c.args.name.now) c.requires c.is_stream.result c.in-Err.error c.if-not-is_stream.false
      (c.is_stream.ensures tree (holds_shown c.args.file.now tree held)) answer)
])

pub returns-in-Err-clause-cause : goal.returns-in-Err-clause-cause
returns-in-Err-clause-cause g c =
    cause_as c.in-Err.error c.as_broken.result c.as_broken.ensures (allocator_of (mini_of c.args.file.now)) (allocator_of (mini_of c.read_stream.new.self)) c.in-Err.ensures.cause.0

pub returns-in-Err-clause-errors : goal.returns-in-Err-clause-errors
returns-in-Err-clause-errors g c = kind_as c.in-Err.error c.as_broken.result c.as_broken.ensures

pub returns-then-not-is_stream-clause-shown : goal.returns-then-not-is_stream-clause-shown
returns-then-not-is_stream-clause-shown g c tree shown =
    none_of (file_case_table c.args.file.now) tree c.args.name.now (chars c.args.name.now) c.requires c.is_stream.result c.if-not-is_stream.true
    (c.is_stream.ensures tree (shown_sizes c.args.file.now tree shown))

pub returns-in-Ok-clause-shown : goal.returns-in-Ok-clause-shown
returns-in-Ok-clause-shown g c tree shown =
    let it = c.args.file.now in
    bytes_shown it c.read_stream.new.self tree shown c.args.name.now (chars c.args.name.now) c.requires c.in-Ok.bytes.items c.in-Ok.ensures.only_reads
    (c.in-Ok.ensures.answer tree (shown_sizes it tree shown)).0.0 (c.in-Ok.ensures.found (shown.honest, shown.memory))

pub returns-in-Err-clause-shown : goal.returns-in-Err-clause-shown
returns-in-Err-clause-shown g c tree shown =
    let it = c.args.file.now in
    let name = chars c.args.name.now in
    let sizes = shown_sizes it tree shown in
    elim (c.in-Err.ensures.answer tree sizes).1 [
      | inl fault ↦ inl (fault_as c.in-Err.error c.as_broken.result c.as_broken.ensures fault)
      | inr other ↦ elim other [
        | inl answer ↦ absurd (refused_of (file_case_table it) tree c.args.name.now name c.requires c.is_stream.result c.in-Err.error c.if-not-is_stream.false (c.is_stream.ensures tree sizes) answer)
        | inr unread ↦ elim unread [
          | inl broken ↦ elim (kind_as c.in-Err.error c.as_broken.result c.as_broken.ensures) [
            | inl fault ↦ inl fault
            | inr is ↦ inr (is, breaks_at it c.read_stream.new.self tree shown c.args.name.now name c.requires broken.1)
          ]
          | inr place ↦ absurd (place.1 (shown.honest, shown.memory))
        ]
      ]
    ]
