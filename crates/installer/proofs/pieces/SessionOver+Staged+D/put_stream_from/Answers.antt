use Rattle.std.proofs.Common.{refl}
use Rattle.std.specs.Prelude.{Err, Ok, OnOk, Result}
use Rattle.cfb.specs.Publishing.{medium_in}
use Rattle.cfb_medium.specs.declared.error.Error.{Error}
use Rattle.installer.proofs.Following.{follows_quietly, still}
use Rattle.installer.specs.Pieces.{PutsQuietly, RunsPut}
use Rattle.installer.specs.Sessions.{device_below, package_in, session_case_table}
use Rattle.msi.specs.Opened.{file_in}
use Rattle.installer.proofs.pieces.SessionOver+Staged+D.put_stream_from.Goals as goal

pub returns-clause-done : goal.returns-clause-done
returns-clause-done g c = by c.put_pieces.result c.put_pieces.ensures.done
  where
    by : (result : Result (Unit {0}) Error) → OnOk result (PutsQuietly g.S.ReadMedium c.args.source.now c.args.name.now c.args.self.now c.put_pieces.new.self) → OnOk result (RunsPut g.S.ReadMedium c.args.source.now c.args.name.now c.args.self.now c.put_pieces.new.self)
    by (Err e) puts = tt
    by (Ok x) puts =
        let d = g.met.D.Device in
        record {
          content = puts.content;
          whole = puts.whole;
          follows = follows_quietly d.counts_now d.rests_keeps d.rests_leaves (λ m. record { device = d.rests_refl _; failed = refl }) (λ a b k. k.device) (λ a b k. k.failed) _ _ c.args.self.now c.put_pieces.new.self refl refl puts.runs;
        }

pub returns-clause-survives : goal.returns-clause-survives
returns-clause-survives g c =
    let d = g.met.D.Device in
    let start = medium_in (file_in (package_in c.args.self.now)) in
    still d.counts_now d.rests_keeps d.rests_leaves (session_case_table c.args.self.now) (device_below c.args.self.now) (device_below c.put_pieces.new.self)
    (c.put_pieces.ensures.invariants.continues start (record { device = d.rests_refl _; failed = refl })).device
