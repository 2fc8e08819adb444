use Rattle.std.proofs.Common.{◌≡◌, ℕ, suc, ◌+◌, ◌-◌, ◌*◌, ◌/◌, ◌%◌, ◌<◌, ◌≤◌, ◌++◌, min, List, [], Bool, Option, Some, None, true, IsTrue, length, drop, refl, sym, subst, ap, ◌∙◌, arith, length-append}
use Rattle.std.specs.Prelude.{IfSome}
use Rattle.staged.specs.Files.{Files}
use Rattle.staged.specs.Log.{pages_for, numbered, pages_of_runs, has_runs}
use Rattle.staged.specs.declared.pages.Page.{Page}
use Rattle.staged.specs.declared.walk.Run.{Run}
use Rattle.staged.specs.Walk.{IsWithin, FindsRun}
use Rattle.staged.proofs.Numbered.{length-numbered}
use Rattle.staged.proofs.Checked.{Checked, covers_all, checked_none}
use Rattle.staged.proofs.Walked.{OnWay, way_begins, way_next, way_ends, none_found, low_found, missing_found, passes, checked_run}
use Rattle.staged.proofs.Leads.{leads_from}
use Rattle.staged.proofs.recovery.check_runs.Goals as goal
use Rattle.staged.proofs.recovery.check_runs.Goals.{else-head-home_len-2-via-then-head-home_len-2+else-next-end, else-head-home_len-2-via-else-head-home_len-2}

pub loop-index-init : goal.loop-index-init
loop-index-init g c = record {
  within = c.requires;
  few = omega arith;
  as_honest = c.len.ensures.honest;
  counted = c.len.ensures.failures;
  rests = c.len.ensures.only_reads;
  same = c.len.ensures.same;
  so_far = λ honest whole.
      let head = c.args.head.now in
      let files = g.D.Device.content c.args.device.now in
      let all = pages_of_runs head.counted head.count (drop 25 files.log) in
      let fits = has_runs head.counted head.count (drop 25 files.log) in
      let left : head.count ≡ head.count - 0 = omega arith in
      let home : length files.home ≡ c.in_ok-home_len.home_len = sym (c.in_ok-home_len.ensures.length honest) in (
        [],
        subst (λ (n : ℕ). OnWay head.counted n 25 files.log all fits []) left (way_begins head.counted head.count 25 files.log),
        refl,
        subst (λ (n : ℕ). Checked [] (length files.home) head.len (n / 512) 0) home (checked_none (length files.home) head.len),
      );
}

pub returns-in_default-clause-malformed : goal.returns-in_default-clause-malformed
returns-in_default-clause-malformed g c = λ honest whole _.
    let inv = c.loop-index.invariant in
    let head = c.args.head.now in
    let files = g.D.Device.content c.args.device.now in
    let n = head.count - (c.loop-index.index + 1) in
    let all = pages_of_runs head.counted head.count (drop 25 files.log) in
    let fits = has_runs head.counted head.count (drop 25 files.log) in
    let far = inv.so_far honest whole in
    let left : head.count - c.loop-index.index ≡ suc n = omega (arith, c.loop-index-test.true) in
    let way = subst (λ (m : ℕ). OnWay head.counted m c.loop-index.place files.log all fits far.0) left far.1 in
    let was = subst (λ (b : Bool). IsTrue b) (sym inv.as_honest) honest in
    let long = whole ∙ ap (λ (f : Files). length f.log) (sym (inv.same honest)) in
    let found = subst (λ (o : Option Run). FindsRun head (g.D.Device.content c.loop-index.device).log c.loop-index.place o) c.in_default.is (c.in_ok-here.ensures.found was long) in
    let stands = subst (λ (f : Files). FindsRun head f.log c.loop-index.place None) (inv.same honest) found in
    none_found head.counted n c.loop-index.place files.log all fits far.0 (length files.home) head.len way stands

pub returns-then-here-least-clause-malformed : goal.returns-then-here-least-clause-malformed
returns-then-here-least-clause-malformed g c = λ honest whole _.
    let inv = c.loop-index.invariant in
    let head = c.args.head.now in
    let run = c.in-Some.here in
    let files = g.D.Device.content c.args.device.now in
    let n = head.count - (c.loop-index.index + 1) in
    let all = pages_of_runs head.counted head.count (drop 25 files.log) in
    let fits = has_runs head.counted head.count (drop 25 files.log) in
    let far = inv.so_far honest whole in
    let left : head.count - c.loop-index.index ≡ suc n = omega (arith, c.loop-index-test.true) in
    let way = subst (λ (m : ℕ). OnWay head.counted m c.loop-index.place files.log all fits far.0) left far.1 in
    let was = subst (λ (b : Bool). IsTrue b) (sym inv.as_honest) honest in
    let long = whole ∙ ap (λ (f : Files). length f.log) (sym (inv.same honest)) in
    let found = subst (λ (o : Option Run). FindsRun head (g.D.Device.content c.loop-index.device).log c.loop-index.place o) c.in-Some.is (c.in_ok-here.ensures.found was long) in
    let stands = subst (λ (f : Files). FindsRun head f.log c.loop-index.place (Some run)) (inv.same honest) found in
    let bounds : IsWithin head run = subst (λ (o : Option Run). IfSome o (IsWithin head)) c.in-Some.is c.in_ok-here.ensures.within in
    low_found head.counted n c.loop-index.place files.log all fits far.0 (length files.home) head.len c.loop-index.next c.loop-index.least run way stands bounds.some far.3 c.if-here-least.true

pub loop-index-preserved : goal.loop-index-preserved
loop-index-preserved g c =
    let inv = c.loop-index.invariant in
    let done = c.in_ok-here.ensures in
    let head = c.args.head.now in
    let run = c.in-Some.here in
    let files = g.D.Device.content c.args.device.now in
    let bounds : IsWithin head run = subst (λ (o : Option Run). IfSome o (IsWithin head)) c.in-Some.is done.within in
    let behind : c.loop-index.place ≤ run.place = subst (λ (o : Option Run). IfSome o (λ r. c.loop-index.place ≤ r.place)) c.in-Some.is done.behind in
    let was = λ (honest : IsTrue (g.D.Device.honest c.args.device.now)). subst (λ (b : Bool). IsTrue b) (sym inv.as_honest) honest in
    record {
      within = bounds.room;
      few = omega (arith, inv.few);
      as_honest = done.reads.honest ∙ inv.as_honest;
      counted = let e = done.reads.failures in let f = inv.counted in omega arith;
      rests = λ start from. done.reads.rests start (inv.rests start from);
      same = λ honest. done.reads.same (was honest) ∙ inv.same honest;
      so_far = λ honest whole.
          let n = head.count - (c.loop-index.index + 1) in
          let all = pages_of_runs head.counted head.count (drop 25 files.log) in
          let fits = has_runs head.counted head.count (drop 25 files.log) in
          let far = inv.so_far honest whole in
          let left : head.count - c.loop-index.index ≡ suc n = omega (arith, c.loop-index-test.true) in
          let way = subst (λ (m : ℕ). OnWay head.counted m c.loop-index.place files.log all fits far.0) left far.1 in
          let long = whole ∙ ap (λ (f : Files). length f.log) (sym (inv.same honest)) in
          let found = subst (λ (o : Option Run). FindsRun head (g.D.Device.content c.loop-index.device).log c.loop-index.place o) c.in-Some.is (done.found (was honest) long) in
          let stands = subst (λ (f : Files). FindsRun head f.log c.loop-index.place (Some run)) (inv.same honest) found in
          let bytes = drop run.place files.log in
          let total : c.loop-index.pages ≡ length far.0 = far.2 in (
            far.0 ++ numbered run.first run.count bytes,
            way_next head.counted n c.loop-index.place files.log all fits far.0 way run stands,
            omega (arith, total, length-append far.0 (numbered run.first run.count bytes), length-numbered run.count run.first bytes),
            checked_run run.count run.first bytes far.0 (length files.home) head.len c.loop-index.next c.loop-index.least _ bounds.some far.3 c.if-here-least.false bounds.ends (passes c.loop-index.next run.first run.count _ c.past-next.ensures),
          );
    }

pub returns-then-next-end-clause-malformed : goal.returns-then-next-end-clause-malformed
returns-then-next-end-clause-malformed g c = λ honest whole _.
    let inv = c.loop-index.invariant in
    let head = c.args.head.now in
    let files = g.D.Device.content c.args.device.now in
    let all = pages_of_runs head.counted head.count (drop 25 files.log) in
    let fits = has_runs head.counted head.count (drop 25 files.log) in
    let far = inv.so_far honest whole in
    let none : head.count - c.loop-index.index ≡ 0 = omega (arith, c.loop-index-test.false) in
    let ends = way_ends head.counted _ c.loop-index.place files.log all fits far.0 far.1 none in
    let end : c.div_ceil-end.result ≡ head.len / 512 + min 1 (head.len % 512) = c.div_ceil-end.ensures in
    let home : c.in_ok-home_len.home_len ≡ length files.home = c.in_ok-home_len.ensures.length honest in
    missing_found fits all (length files.home) head.len c.loop-index.next c.loop-index.least (subst (λ (ps : List Page). Checked ps (length files.home) head.len c.loop-index.next c.loop-index.least) ends.0 far.3) (omega arith) (omega arith)

pub returns-clause-leads : goal.returns-clause-leads
returns-clause-leads g c = λ honest whole.
    let inv = c.loop-index.invariant in
    let head = c.args.head.now in
    let files = g.D.Device.content c.args.device.now in
    let all = pages_of_runs head.counted head.count (drop 25 files.log) in
    let fits = has_runs head.counted head.count (drop 25 files.log) in
    let far = inv.so_far honest whole in
    let none : head.count - c.loop-index.index ≡ 0 = omega (arith, c.loop-index-test.false) in
    let ends = way_ends head.counted _ c.loop-index.place files.log all fits far.0 far.1 none in
    let end : c.div_ceil-end.result ≡ head.len / 512 + min 1 (head.len % 512) = c.div_ceil-end.ensures in
    let home : c.in_ok-home_len.home_len ≡ length files.home = c.in_ok-home_len.ensures.length honest in
    let checked : Checked all (length files.home) head.len c.loop-index.next c.loop-index.least = subst (λ (ps : List Page). Checked ps (length files.home) head.len c.loop-index.next c.loop-index.least) ends.0 far.3 in
    let lead : length files.home < head.len → pages_for head.len ≤ c.loop-index.next = λ grows. elim c.else-head-home_len-2.branch [
      | else-head-home_len-2-via-then-head-home_len-2+else-next-end w ↦ let e : c.div_ceil-end.result ≤ c.loop-index.next = w.if-next-end.false in omega arith
      | else-head-home_len-2-via-else-head-home_len-2 w ↦ let e : head.len ≤ c.in_ok-home_len.home_len = w.if-head-home_len-2.false in omega arith
    ] in
    (ends.1, leads_from all (length files.home) head.len checked.rising (covers_all all (length files.home) head.len _ _ checked (omega arith) lead))
