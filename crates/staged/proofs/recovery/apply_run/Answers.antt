use Rattle.std.proofs.Common.{◌≡◌, ◌≤◌, ◌<◌, ◌+◌, ◌*◌, ◌-◌, ◌∷◌, ◌++◌, [], ℕ, List, Bool, IsTrue, length, take, drop, refl, sym, subst, ap, ◌∙◌, arith}
use Rattle.staged.specs.Files.{Files}
use Rattle.staged.specs.Log.{numbered}
use Rattle.staged.specs.Pages.{written_page, written_pages}
use Rattle.staged.specs.Steps.{MakesOnlyWrites, AtPage}
use Rattle.staged.specs.declared.device.Device.{Ghosts}
use Rattle.staged.specs.declared.device.Which.TheVariants.{Home}
use Rattle.staged.proofs.Applied.{one_more}
use Rattle.staged.proofs.Numbered.{page, numbered_holds}
use Rattle.staged.proofs.Reaching.{steps_then, steps_where, stay_steps, page_among}
use Rattle.staged.proofs.Steps.{same_files}
use Rattle.staged.proofs.recovery.apply_run.Goals as goal

pub apply_page-requires-clause-no_gap : goal.apply_page-requires-clause-no_gap
apply_page-requires-clause-no_gap g c = λ honest.
    let inv = c.loop-index.invariant in
    let start = subst (λ (b : Bool). IsTrue b) inv.as_honest honest in
    subst (λ (l : List ℕ). 512 * (c.args.run.now.first + c.loop-index.index) ≤ length l) (sym (inv.so_far start)) (c.requires.no_gap start c.loop-index.index c.loop-index-test.true)

pub loop-index-init : goal.loop-index-init
loop-index-init g c = record {
  as_honest = refl;
  counted = omega arith;
  log = λ _. refl;
  so_far = λ _. refl;
  steps = stay_steps Home _ g.D.Device g.met.D.Device.counts_now g.met.D.Device.only_now c.args.device.now;
}

-- the page is one of the run
among : {D : Type 0} (g : Ghosts D) (a b : D) (bytes block : List ℕ) (first count k len : ℕ) → k < count → MakesOnlyWrites g Home (AtPage (page (first + k) block ∷ []) len) a b → MakesOnlyWrites g Home (AtPage (numbered first count bytes) len) a b
among g a b bytes block first count k len within steps =
    steps_where g Home _ _ a b (λ honest at n one. page_among (page (first + k) block) (numbered first count bytes) len at n (numbered_holds count first (first + k) bytes (omega arith) (omega arith)) one) steps

pub loop-index-preserved : goal.loop-index-preserved
loop-index-preserved g c =
    let inv = c.loop-index.invariant in
    let k = c.loop-index.index in
    let done = c.in_ok-apply_page.ensures in
    let run = c.args.run.now in
    let len = c.args.len in
    let files = g.D.Device.content c.args.device.now in
    let was = λ (honest : IsTrue (g.D.Device.honest c.args.device.now)). subst (λ (b : Bool). IsTrue b) (sym inv.as_honest) honest in
    let room = λ (honest : IsTrue (g.D.Device.honest c.args.device.now)).
    let whole : run.place + 512 * run.count ≤ length files.log = c.requires.whole honest in
    let same : length (g.D.Device.content c.loop-index.device).log ≡ length files.log = ap (λ (l : List ℕ). length l) (inv.log honest) in
    let e : run.place + 512 * k + 512 ≤ length (g.D.Device.content c.loop-index.device).log = omega (arith, c.loop-index-test.true) in e in
    record {
      as_honest = done.honest ∙ inv.as_honest;
      counted = let e = done.failures in let f = inv.counted in omega arith;
      log = λ honest. ap (λ (f : Files). f.log) (done.written (was honest) (room honest)) ∙ inv.log honest;
      so_far = λ honest.
          ap (λ (f : Files). f.home) (done.written (was honest) (room honest))
          ∙ ap (λ (l : List ℕ). written_page (g.D.Device.content c.loop-index.device).home (page (run.first + k) (take 512 (drop (run.place + 512 * k) l))) len) (inv.log honest)
          ∙ ap (λ (l : List ℕ). written_page l (page (run.first + k) (take 512 (drop (run.place + 512 * k) files.log))) len) (inv.so_far honest)
          ∙ one_more files.home k run.first run.place files.log len;
      steps = steps_then Home _ g.D.Device g.met.D.Device.counts_now _ _ _ inv.steps (among g.D.Device c.loop-index.device c.apply_page.new.device (drop run.place files.log) _ run.first run.count k len c.loop-index-test.true done.steps);
    }

pub returns-in_err-apply_page-clause-steps : goal.returns-in_err-apply_page-clause-steps
returns-in_err-apply_page-clause-steps g c =
    let inv = c.loop-index.invariant in
    steps_then Home _ g.D.Device g.met.D.Device.counts_now _ _ _ inv.steps
    (among g.D.Device c.loop-index.device c.apply_page.new.device (drop c.args.run.now.place (g.D.Device.content c.args.device.now).log) _ c.args.run.now.first c.args.run.now.count c.loop-index.index c.args.len c.loop-index-test.true c.apply_page.ensures.steps)

pub returns-clause-applied : goal.returns-clause-applied
returns-clause-applied g c = λ honest.
    let inv = c.loop-index.invariant in
    let run = c.args.run.now in
    let files = g.D.Device.content c.args.device.now in
    let all : c.loop-index.index ≡ run.count = omega (arith, c.loop-index-test.false, c.loop-index.auto.index-end) in
    same_files (g.D.Device.content c.loop-index.device) _ _ (inv.so_far honest ∙ ap (λ (k : ℕ). written_pages files.home (numbered run.first k (drop run.place files.log)) c.args.len) all) (inv.log honest)
