use Rattle.std.proofs.Common.{refl, sym}
use Rattle.installer.proofs.Following.{follows_quietly}
use Rattle.installer.proofs.session.SessionOver+Staged+D.answer.Goals as goal

pub returns-in-CreateTable : goal.returns-in-CreateTable
returns-in-CreateTable g c =
    let d = g.met.D.Device in
    rw c.in-CreateTable.is (rw (sym c.deref.ensures, sym c.deref-in-CreateTable.ensures.value) (follows_quietly d.counts_now d.rests_keeps d.rests_leaves (λ m. record { device = d.rests_refl _; failed = refl }) (λ a b k. k.device) (λ a b k. k.failed) _ _ c.args.self.now _ refl refl c.create_table.ensures))

pub returns-in-DropTable : goal.returns-in-DropTable
returns-in-DropTable g c =
    let d = g.met.D.Device in
    rw c.in-DropTable.is (rw (sym c.deref-in-DropTable.ensures) (follows_quietly d.counts_now d.rests_keeps d.rests_leaves (λ m. record { device = d.rests_refl _; failed = refl }) (λ a b k. k.device) (λ a b k. k.failed) _ _ c.args.self.now _ refl refl c.drop_table.ensures))

pub returns-in-Insert : goal.returns-in-Insert
returns-in-Insert g c =
    let d = g.met.D.Device in
    rw c.in-Insert.is (follows_quietly d.counts_now d.rests_keeps d.rests_leaves (λ m. record { device = d.rests_refl _; failed = refl }) (λ a b k. k.device) (λ a b k. k.failed) _ _ c.args.self.now _ refl refl c.insert.ensures)

pub returns-in-Update : goal.returns-in-Update
returns-in-Update g c =
    let d = g.met.D.Device in
    rw c.in-Update.is (follows_quietly d.counts_now d.rests_keeps d.rests_leaves (λ m. record { device = d.rests_refl _; failed = refl }) (λ a b k. k.device) (λ a b k. k.failed) _ _ c.args.self.now _ refl refl c.update.ensures)

pub returns-in-Delete : goal.returns-in-Delete
returns-in-Delete g c =
    let d = g.met.D.Device in
    rw c.in-Delete.is (follows_quietly d.counts_now d.rests_keeps d.rests_leaves (λ m. record { device = d.rests_refl _; failed = refl }) (λ a b k. k.device) (λ a b k. k.failed) _ _ c.args.self.now _ refl refl c.delete.ensures)

pub returns-in-Select : goal.returns-in-Select
returns-in-Select g c =
    let d = g.met.D.Device in
    rw c.in-Select.is (follows_quietly d.counts_now d.rests_keeps d.rests_leaves (λ m. record { device = d.rests_refl _; failed = refl }) (λ a b k. k.device) (λ a b k. k.failed) _ _ c.args.self.now _ refl refl c.select.ensures)

pub returns-in-Tables : goal.returns-in-Tables
returns-in-Tables g c =
    let d = g.met.D.Device in
    rw c.in-Tables.is (follows_quietly d.counts_now d.rests_keeps d.rests_leaves (λ m. record { device = d.rests_refl _; failed = refl }) (λ a b k. k.device) (λ a b k. k.failed) _ _ c.args.self.now _ refl refl c.tables.ensures)

pub returns-in-Columns : goal.returns-in-Columns
returns-in-Columns g c =
    let d = g.met.D.Device in
    rw c.in-Columns.is (rw (sym c.deref-in-Columns.ensures) (follows_quietly d.counts_now d.rests_keeps d.rests_leaves (λ m. record { device = d.rests_refl _; failed = refl }) (λ a b k. k.device) (λ a b k. k.failed) _ _ c.args.self.now _ refl refl c.columns.ensures))

pub returns-in-Streams : goal.returns-in-Streams
returns-in-Streams g c =
    let d = g.met.D.Device in
    rw c.in-Streams.is (follows_quietly d.counts_now d.rests_keeps d.rests_leaves (λ m. record { device = d.rests_refl _; failed = refl }) (λ a b k. k.device) (λ a b k. k.failed) _ _ c.args.self.now _ refl refl c.streams.ensures)

pub returns-in-ReadStream : goal.returns-in-ReadStream
returns-in-ReadStream g c =
    let d = g.met.D.Device in
    rw c.in-ReadStream.is (rw (sym c.deref-in-ReadStream.ensures) (follows_quietly d.counts_now d.rests_keeps d.rests_leaves (λ m. record { device = d.rests_refl _; failed = refl }) (λ a b k. k.device) (λ a b k. k.failed) _ _ c.args.self.now _ refl refl c.read_stream.ensures))

pub returns-in-WriteStream : goal.returns-in-WriteStream
returns-in-WriteStream g c =
    let d = g.met.D.Device in
    rw c.in-WriteStream.is (rw (sym c.deref-in-WriteStream.ensures, sym c.deref-in-WriteStream-2.ensures.value) (follows_quietly d.counts_now d.rests_keeps d.rests_leaves (λ m. record { device = d.rests_refl _; failed = refl }) (λ a b k. k.device) (λ a b k. k.failed) _ _ c.args.self.now _ refl refl c.write_stream.ensures))

pub returns-in-RemoveStream : goal.returns-in-RemoveStream
returns-in-RemoveStream g c =
    let d = g.met.D.Device in
    rw c.in-RemoveStream.is (rw (sym c.deref-in-RemoveStream.ensures) (follows_quietly d.counts_now d.rests_keeps d.rests_leaves (λ m. record { device = d.rests_refl _; failed = refl }) (λ a b k. k.device) (λ a b k. k.failed) _ _ c.args.self.now _ refl refl c.remove_stream.ensures))

pub returns-in-HasSignature : goal.returns-in-HasSignature
returns-in-HasSignature g c =
    let d = g.met.D.Device in
    rw c.in-HasSignature.is (follows_quietly d.counts_now d.rests_keeps d.rests_leaves (λ m. record { device = d.rests_refl _; failed = refl }) (λ a b k. k.device) (λ a b k. k.failed) _ _ c.args.self.now _ refl refl c.has_signature.ensures)

pub returns-in-RemoveSignature : goal.returns-in-RemoveSignature
returns-in-RemoveSignature g c =
    let d = g.met.D.Device in
    rw c.in-RemoveSignature.is (follows_quietly d.counts_now d.rests_keeps d.rests_leaves (λ m. record { device = d.rests_refl _; failed = refl }) (λ a b k. k.device) (λ a b k. k.failed) _ _ c.args.self.now _ refl refl c.remove_signature.ensures)

pub returns-in-Summary : goal.returns-in-Summary
returns-in-Summary g c =
    let d = g.met.D.Device in
    rw c.in-Summary.is (follows_quietly d.counts_now d.rests_keeps d.rests_leaves (λ m. record { device = d.rests_refl _; failed = refl }) (λ a b k. k.device) (λ a b k. k.failed) _ _ c.args.self.now _ refl refl c.summary.ensures)

pub returns-in-SetSummary : goal.returns-in-SetSummary
returns-in-SetSummary g c =
    let d = g.met.D.Device in
    rw c.in-SetSummary.is (follows_quietly d.counts_now d.rests_keeps d.rests_leaves (λ m. record { device = d.rests_refl _; failed = refl }) (λ a b k. k.device) (λ a b k. k.failed) _ _ c.args.self.now _ refl refl c.set_summary.ensures)

pub returns-in-Codepage : goal.returns-in-Codepage
returns-in-Codepage g c =
    let d = g.met.D.Device in
    rw c.in-Codepage.is (follows_quietly d.counts_now d.rests_keeps d.rests_leaves (λ m. record { device = d.rests_refl _; failed = refl }) (λ a b k. k.device) (λ a b k. k.failed) _ _ c.args.self.now _ refl refl c.codepage.ensures)

pub returns-in-SetCodepage : goal.returns-in-SetCodepage
returns-in-SetCodepage g c =
    let d = g.met.D.Device in
    rw c.in-SetCodepage.is (follows_quietly d.counts_now d.rests_keeps d.rests_leaves (λ m. record { device = d.rests_refl _; failed = refl }) (λ a b k. k.device) (λ a b k. k.failed) _ _ c.args.self.now _ refl refl c.set_codepage.ensures)

pub returns-in-Flush : goal.returns-in-Flush
returns-in-Flush g c =
    let d = g.met.D.Device in
    rw c.in-Flush.is (follows_quietly d.counts_now d.rests_keeps d.rests_leaves (λ m. record { device = d.rests_refl _; failed = refl }) (λ a b k. k.device) (λ a b k. k.failed) _ _ c.args.self.now _ refl refl c.flush.ensures)

pub returns-in-Commit : goal.returns-in-Commit
returns-in-Commit g c = rw c.in-Commit.is (rw c.answer_of.ensures c.commit.ensures.follows)

pub returns-in-RollBack : goal.returns-in-RollBack
returns-in-RollBack g c = rw c.in-RollBack.is (rw c.answer_of-in-RollBack.ensures c.roll_back.ensures)
