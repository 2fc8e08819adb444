use Rattle.std.proofs.Common.{rules, Err, ◌≡◌, ◌&&◌, Bool, true, false, IsTrue, length, drop, sym, subst, ap, ◌∙◌}
use Rattle.staged.specs.Files.{Files}
use Rattle.staged.specs.Log.{leads, pages_of_runs, has_runs, has_head, has_open_gate}
use Rattle.staged.specs.Walk.{IsWholeHead}
use Rattle.staged.proofs.Leads.{open_head, malformed_head, malformed_runs}
use Rattle.std.specs.Prelude.{Result, IsErrOf}
use Rattle.cfb_medium.specs.declared.error.Error.{Error}
use Rattle.staged.proofs.recovery.read_log.Goals as goal

-- an error that is passed on
passed : {A B : Type 0} (result : Result A Error) (error kind : Error) → result ≡ Err error → IsErrOf result kind → IsErrOf {T = B} {E = Error} (Err error) kind
passed {A} {B} result error kind is told =
    let first : Result A Error = Err error in
    let second : Result A Error = Err kind in
    let one : first ≡ second = sym is ∙ told in
    let same : error ≡ kind = cc in
    ap (λ (e : Error). let r : Result B Error = Err e in r) same

pub returns-in_err-head-clause-malformed : goal.returns-in_err-head-clause-malformed
returns-in_err-head-clause-malformed g c =
    let same : c.from_residual-in_err-head.result ≡ Err c.in_err-head.field-0.0 = search (rules, c.from_residual-in_err-head.ensures) in λ honest is.
    let files = g.D.Device.content c.args.device.now in
    let h1 = subst (λ (b : Bool). IsTrue b) (sym c.len.ensures.honest) honest in
    let h2 = subst (λ (b : Bool). IsTrue b) (sym c.read_gate.ensures.reads.honest) h1 in
    let first : g.D.Device.content c.len.new.self ≡ files = c.len.ensures.same honest in
    let second : g.D.Device.content c.read_gate.new.device ≡ files = c.read_gate.ensures.reads.same h1 ∙ first in
    let gate : has_open_gate files.log ≡ true = sym (c.in_ok-read_gate.ensures.gate h1 ∙ ap (λ (f : Files). has_open_gate f.log) first) ∙ c.if-not-branch.false in
    malformed_head files gate (subst (λ (f : Files). has_head f.log ≡ false) second (c.in_err-head.ensures.malformed h2 (passed _ _ _ same is)))

pub returns-in_err-pages-clause-malformed : goal.returns-in_err-pages-clause-malformed
returns-in_err-pages-clause-malformed g c =
    let same : c.from_residual-in_err-pages.result ≡ Err c.in_err-pages.field-0.0 = search (rules, c.from_residual-in_err-pages.ensures) in λ honest is.
    let files = g.D.Device.content c.args.device.now in
    let head = c.in_ok-head.head in
    let h1 = subst (λ (b : Bool). IsTrue b) (sym c.len.ensures.honest) honest in
    let h2 = subst (λ (b : Bool). IsTrue b) (sym c.read_gate.ensures.reads.honest) h1 in
    let h3 = subst (λ (b : Bool). IsTrue b) (sym c.read_head.ensures.reads.honest) h2 in
    let first : g.D.Device.content c.len.new.self ≡ files = c.len.ensures.same honest in
    let second : g.D.Device.content c.read_gate.new.device ≡ files = c.read_gate.ensures.reads.same h1 ∙ first in
    let third : g.D.Device.content c.read_head.new.device ≡ files = c.read_head.ensures.reads.same h2 ∙ second in
    let gate : has_open_gate files.log ≡ true = sym (c.in_ok-read_gate.ensures.gate h1 ∙ ap (λ (f : Files). has_open_gate f.log) first) ∙ c.if-not-branch.false in
    let whole : IsWholeHead files.log head = subst (λ (f : Files). IsWholeHead f.log head) second (c.in_ok-head.ensures.head h2) in
    let long : head.log_len ≡ length (g.D.Device.content c.read_head.new.device).log = whole.log_len ∙ ap (λ (f : Files). length f.log) (sym third) in
    malformed_runs files head gate whole
    (subst (λ (f : Files). (has_runs head.counted head.count (drop 25 f.log) && leads (pages_of_runs head.counted head.count (drop 25 f.log)) (length f.home) head.len) ≡ false) third (c.in_err-pages.ensures.malformed h3 long (passed _ _ _ same is)))

pub returns-clause-head : goal.returns-clause-head
returns-clause-head g c = λ honest.
    let files = g.D.Device.content c.args.device.now in
    let head = c.in_ok-head.head in
    let h1 = subst (λ (b : Bool). IsTrue b) (sym c.len.ensures.honest) honest in
    let h2 = subst (λ (b : Bool). IsTrue b) (sym c.read_gate.ensures.reads.honest) h1 in
    let h3 = subst (λ (b : Bool). IsTrue b) (sym c.read_head.ensures.reads.honest) h2 in
    let first : g.D.Device.content c.len.new.self ≡ files = c.len.ensures.same honest in
    let second : g.D.Device.content c.read_gate.new.device ≡ files = c.read_gate.ensures.reads.same h1 ∙ first in
    let third : g.D.Device.content c.read_head.new.device ≡ files = c.read_head.ensures.reads.same h2 ∙ second in
    let gate : has_open_gate files.log ≡ true = sym (c.in_ok-read_gate.ensures.gate h1 ∙ ap (λ (f : Files). has_open_gate f.log) first) ∙ c.if-not-branch.false in
    let whole : IsWholeHead files.log head = subst (λ (f : Files). IsWholeHead f.log head) second (c.in_ok-head.ensures.head h2) in
    let long : head.log_len ≡ length (g.D.Device.content c.read_head.new.device).log = whole.log_len ∙ ap (λ (f : Files). length f.log) (sym third) in
    let fits = c.in_ok-pages.ensures.leads h3 long in
    open_head files (record { head = head; pages = c.in_ok-pages.pages }) gate whole
    (subst (λ (f : Files). has_runs head.counted head.count (drop 25 f.log) ≡ true) third fits.0)
    (subst (λ (f : Files). leads (pages_of_runs head.counted head.count (drop 25 f.log)) (length f.home) head.len ≡ true) third fits.1)
    (c.in_ok-pages.ensures.pages h3 long ∙ ap (λ (f : Files). length (pages_of_runs head.counted head.count (drop 25 f.log))) third)
