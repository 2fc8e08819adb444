use Rattle.std.proofs.Common.{◌∙◌, ap, inl, inr, refl, sym, ⊎_elim}
use Rattle.cfb.specs.Publishing.{medium_in}
use Rattle.installer.proofs.Answering.{behaves_live, told_error, told_kind}
use Rattle.installer.proofs.Commits.{publish_goes, unpublished}
use Rattle.installer.proofs.Following.{commit_survives, left_found, not_failed_error, published_at, published_found, published_of}
use Rattle.installer.proofs.Going.{by_sound}
use Rattle.installer.proofs.Stopping.{survives_stay}
use Rattle.installer.specs.Step.{told_of}
use Rattle.installer.specs.Sessions.{device_below, is_failed, session_case_table, package_in, phase_of}
use Rattle.msi.specs.Opened.{file_in}
use Rattle.staged.specs.Staged.{device_of}
use Rattle.command_file.specs.Request as asked
use Rattle.installer.proofs.session.SessionOver+Staged+D.publish.Goals as goal

pub returns-clause-follows : goal.returns-clause-follows
returns-clause-follows g c =
    let d = g.met.D.Device in
    let old = package_in c.args.self.now in
    let new = c.commit-published.new.self in
    let told = c.commit-published.ensures in
    let stay = survives_stay (session_case_table c.args.self.now) g.D.Device d.counts_now d.only_now (device_below c.args.self.now) in
    let next = record c.args.self.now { «package» = new; has_base = c.has_base_after-has_base.result } in
    record {
      goes = publish_goes d.counts_now d.rests_keeps d.rests_leaves (λ m. record { device = d.rests_refl _; failed = refl }) (λ a b k. k.device) (λ a b k. k.failed) (λ m. refl) c.args.self.now next c.requires
          c.commit-published.result (rw c.is_ok-is_done.ensures.value at c.has_base_after-has_base.ensures) told.commits told.counted told.cause;
      letters = told.commits.seen.0;
      sound = told.commits.seen.1;
      behaves = behaves_live (λ m. record { device = d.rests_refl _; failed = refl }) c.args.self.now next c.requires asked.commit (told_of c.commit-published.result) told.counted told.commits.seen.1
          (λ e is. told_error c.commit-published.result (told_of c.commit-published.result) _ e refl told.cause is) (λ e is. refl) (λ reads. absurd (cc)) (λ unsound changes. absurd (cc))
          (λ unsound _. ap told_of (told.commits.unsound c.requires unsound).0) (told_kind asked.commit refl c.commit-published.result (told_of c.commit-published.result) refl);
      still = λ unsound. rw (told.commits.unsound c.requires unsound).1 stay;
      survives = λ start at.
          let held = at.place.held (at.place.phase ∙ ap phase_of c.requires) in
          ⊎_elim
          (λ sound. rw sound (
          commit_survives d.counts_now (session_case_table c.args.self.now) (device_below c.args.self.now) (device_of (medium_in (file_in new))) start.held c.commit-published.result told.honest told.counted
          (λ honest.
          let left = told.crash honest in record {
            later = left.later;
            each = λ given since. left_found old start.held held (sym at.place.sound ∙ sound) given (left.each given since);
            before = λ t given le since. ⊎_elim (λ past. inl past) (λ now. inr (left_found old start.held held (sym at.place.sound ∙ sound) given now)) (left.before t given le since);
          })
          (published_at g.D.Device c.commit-published.result (device_of (medium_in (file_in new))) _ (published_of _ old new c.commit-published.result told.commits start.held held (sym at.place.sound ∙ sound)))
          (not_failed_error (λ m. record { device = d.rests_refl _; failed = refl }) old new c.commit-published.result c.requires told.cause)
          (phase_of (is_failed next)) (unpublished d.counts_now d.rests_keeps d.rests_leaves (λ m. record { device = d.rests_refl _; failed = refl }) (λ a b k. k.device) (λ a b k. k.failed) (λ m. refl) c.args.self.now next c.requires
          c.commit-published.result told.commits)
          ))
          (λ unsound. rw unsound (rw (told.commits.unsound c.requires (sym at.place.sound ∙ unsound)).1 stay)) (by_sound start.sound);
    }

pub returns-clause-published : goal.returns-clause-published
returns-clause-published g c = published_found _ (package_in c.args.self.now) c.commit-published.new.self c.commit-published.result c.commit-published.ensures.commits
